use Rattle.std.proofs.Common.{◌++◌, ap, ◌∙◌}
use Rattle.first_pass_grammar.proofs.Common.{on_ok_weaker}
use Rattle.first_pass_json.specs.JsonValues.{json_string}
use Rattle.first_pass_json.proofs.Arrays.{array_seen}
use Rattle.first_pass_json.proofs.heading.append_classes.Goals as goal

pub returns : goal.returns
returns c =
    on_ok_weaker c.append_array.result (λ is. is ∙ ap (λ l. c.args.line.now.items ++ l) (array_seen json_string (λ class. class.now) c.args.classes.now))
    c.append_array.ensures
