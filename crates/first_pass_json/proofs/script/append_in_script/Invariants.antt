use Rattle.std.proofs.Common.{◌≡◌, ◌++◌, take}
use Rattle.first_pass_json.specs.Scripts.{in_script}
use Rattle.first_pass_json.proofs.script.append_in_script.Given as goal

-- the bytes so far are written
abbrev pub invariant-loop-byte : goal.invariant-loop-byte
invariant-loop-byte l = l.held.items ≡ l.initial.held.items ++ in_script (take l.byte-index l.json)
