use Rattle.std.proofs.Common.{◌++◌, ap, codes, decimal, append_assoc, sym, ◌∙◌}
use Rattle.std.proofs.lemmas.Result.{on_ok_weaker}
use Rattle.first_pass_linked_json.specs.LinkObjects.{text_members}
use Rattle.first_pass_linked_json.proofs.links.append_text_range.Goals as goal

pub returns : goal.returns
unfolding text_members
returns c =
    let line = c.args.line.now.items in
    let first = codes ",\"text_start\":" in
    let start = decimal c.args.shown.start in
    let second = codes ",\"text_end\":" in
    let last = decimal c.args.shown.«end» in
    on_ok_weaker c.append_number_after-2.result
    (λ e. e ∙ ap (λ l. (l ++ second) ++ last) c.in_ok-append_number_after.ensures ∙ append_assoc ((line ++ first) ++ start) second last
    ∙ append_assoc (line ++ first) start (second ++ last) ∙ append_assoc line first (start ++ (second ++ last))
    ∙ ap (λ l. line ++ l) (sym (append_assoc (first ++ start) second last ∙ append_assoc first start (second ++ last))))
    c.append_number_after-2.ensures
