use Rattle.std.proofs.Common.{◌≡◌, ◌++◌, take}
use Rattle.first_pass_json.specs.JsonValues.{after_commas}
use Rattle.first_pass_json.proofs.array.append_further.Given as goal

-- the values so far are written
abbrev pub invariant-loop-value : goal.invariant-loop-value
invariant-loop-value g l = l.line.items ≡ l.initial.line.items ++ after_commas g.V.ArrayValue.form (take l.value-index l.values)
