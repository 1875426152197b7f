use Rattle.std.proofs.Common.{◌≡◌, arith}
use Rattle.std.proofs.lemmas.Grind.{common_steps}
use Rattle.json.specs.Print.{quoted}
use Rattle.serde_json.proofs.FreeTexts.{text_of_str}
use Rattle.first_pass_json.specs.JsonValues.{json_string}
use Rattle.first_pass_json.proofs.values.append_string.Goals as goal

pub returns-in-Ok : goal.returns-in-Ok
unfolding json_string
returns-in-Ok c =
    let told = c.in-Ok.ensures.events in
    let escaped : c.in-Ok.string.items ≡ quoted c.args.text.now = text_of_str c.args.text.now told.0 c.in-Ok.string.items told.1 told.2 in
    grind (arith, common_steps, escaped)
