use Rattle.std.proofs.Common.{◌≡◌, ◌++◌, true, length}
use Rattle.first_pass_command.specs.Named.{with_member}
use Rattle.first_pass_command.proofs.reports.append_with_member.Given as goal

-- with the rest, all lines are appended
abbrev pub invariant-loop-rest : goal.invariant-loop-rest
invariant-loop-rest l = l.lines.items ++ with_member l.starts l.member l.rest ≡ l.initial.lines.items ++ with_member true l.member l.fn.json

abbrev pub decreases-loop-rest : goal.decreases-loop-rest
decreases-loop-rest l = length l.rest
