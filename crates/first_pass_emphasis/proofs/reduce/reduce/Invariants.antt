use Rattle.std.proofs.Common.{List, drop}
use Rattle.first_pass_emphasis.specs.declared.role.Role.{Role}
use Rattle.first_pass_emphasis.specs.Parts.{Part}
use Rattle.first_pass_emphasis.specs.Pieces.{Begin, Plain, followed_by}
use Rattle.first_pass_emphasis.specs.Stacks.{IsLevel, IsBefore}
use Rattle.first_pass_emphasis.proofs.reduce.reduce.Given as goal

abbrev pub invariant-loop-i : goal.invariant-loop-i
invariant-loop-i l =
    (outside : List Role) (ts : List Part) → IsLevel outside ts l.fn.pass.roles.items l.runs
    → IsBefore (followed_by (Plain Begin outside) ts) (drop l.i l.runs) l.pass
