use Rattle.std.proofs.Common.{ap, ◌∙◌, of_calls, flat_map}
use Rattle.first_pass_host.proofs.HeldLines.{written_as}
use Rattle.first_pass_host.proofs.ItemLines.{element_lines}
use Rattle.first_pass_json.specs.Scripts.{html_byte, html_text}
use Rattle.first_pass_json.proofs.page.write_html.Goals as goal

pub returns : goal.returns
unfolding html_text
returns g c =
    let bytes = c.write_each.ensures _ _ (element_lines _ html_byte (λ old new x call. search of_calls)) in
    written_as _ _ _ _ (ap (flat_map html_byte) (c.iter.ensures.rest ∙ c.as_bytes.ensures.value)) bytes
