use Rattle.std.proofs.Common.{◌++◌, ap, codes, append_assoc, sym, ◌∙◌}
use Rattle.std.proofs.lemmas.Result.{on_ok_weaker}
use Rattle.first_pass_json.specs.JsonValues.{json_string, word}
use Rattle.first_pass_linked.specs.Targets.{address_of, bytes_in, form_word}
use Rattle.first_pass_linked.proofs.MarkLines.{three_parts}
use Rattle.first_pass_linked_json.specs.LinkObjects.{autolink_members}
use Rattle.first_pass_linked_json.proofs.links.append_address.Goals as goal

pub returns : goal.returns
unfolding autolink_members
returns c =
    let line = c.args.line.now.items in
    let first = codes "{\"autolink\":" in
    let form = word (form_word c.args.form) in
    let second = codes ",\"destination\":" in
    let address = json_string (bytes_in c.args.content.now (address_of c.args.part)) in
    on_ok_weaker c.append_quoted.result
    (λ e. three_parts line first _ _ _ _ _ _ _ c.in_ok-extend_from_slice.ensures.items c.in_ok-append_word.ensures
    (e ∙ ap (λ l. l ++ json_string c.bytes_in.result.now) c.in_ok-extend_from_slice-2.ensures.items ∙ append_assoc _ second _)
    (ap word c.form_word.ensures)
    (ap (λ bytes. second ++ json_string bytes) (c.bytes_in.ensures ∙ ap (bytes_in c.args.content.now) c.address_of.ensures))
    ∙ ap (λ l. line ++ (first ++ l)) (sym (append_assoc form second address)))
    c.append_quoted.ensures
