use Rattle.std.proofs.Common.{ℕ, List, ◌++◌, ap, ◌∙◌}
use Rattle.first_pass_outline.specs.Titles.{spanned, texts_after, token_text}
use Rattle.first_pass_outline.proofs.HeadingTexts.{token_added, all_added}
use Rattle.first_pass_outline.proofs.titles.spanned.Goals as goal

pub loop-token-preserved : goal.loop-token-preserved
loop-token-preserved c =
    let text : List ℕ = c.args.text.now in
    let whole : List ℕ = spanned text c.args.tokens.now in
    let token = c.in-Some.token.now in
    let others = c.in-Some.others.now in
    let added = token_added text c.loop-token.line.items whole c.loop-token.last token others c.loop-token.rest.now
    c.in-Some.ensures.cases.0 c.loop-token.invariant in
    ap (λ l. l ++ texts_after text c.in_ok-last.last others) c.in_ok-last.ensures.items
    ∙ ap (λ last. (c.loop-token.line.items ++ token_text text c.loop-token.last token.1) ++ texts_after text last others) c.in_ok-last.ensures.last ∙ added

pub returns : goal.returns
returns c =
    all_added c.args.text.now c.loop-token.line.items (spanned c.args.text.now c.args.tokens.now) c.loop-token.last c.loop-token.rest.now
    c.in_default.ensures.cases c.loop-token.invariant
