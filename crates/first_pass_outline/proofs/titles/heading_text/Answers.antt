use Rattle.std.proofs.Common.{◌≡◌, IfOk, true, rules, sym, subst}
use Rattle.std.proofs.lemmas.Result.{IfOk-weaker}
use Rattle.std.specs.List.{All}
use Rattle.first_pass_lines.specs.Lines.{is_content}
use Rattle.first_pass_outline.specs.Titles.{heading_text}
use Rattle.first_pass_outline.proofs.HeadingTexts.{one_line}
use Rattle.first_pass_outline.proofs.titles.heading_text.Goals as goal

pub returns-clause-one_line : goal.returns-clause-one_line
returns-clause-one_line c =
    let text = c.args.text.now in
    let tokens = c.args.tokens.now in
    let is : IfOk c.to_vec.result (λ bytes. bytes.items ≡ heading_text text tokens) = search rules in
    IfOk-weaker c.to_vec.result (λ bytes. bytes.items ≡ heading_text text tokens) (λ bytes. All (λ byte. is_content byte ≡ true) bytes.items)
    (λ bytes same. subst (λ items. All (λ byte. is_content byte ≡ true) items) (sym same) (one_line text tokens)) is
