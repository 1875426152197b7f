use Rattle.std.proofs.Common.{length}
use Rattle.first_pass_emphasis.specs.Levels.{IsNestingOf, Nested, chain_roles}
use Rattle.first_pass_emphasis.specs.Walks.{IsWalkBefore}
use Rattle.first_pass_emphasis.proofs.levels.roles_of.Given as goal

-- the marks that are left lead to the roles of the chain
abbrev pub invariant-loop-mark : goal.invariant-loop-mark
invariant-loop-mark l = (n : Nested) → IsNestingOf l.fn.marks n → IsWalkBefore l.content l.options (chain_roles l.content l.options n) l.rest l.walk

abbrev pub decreases-loop-mark : goal.decreases-loop-mark
decreases-loop-mark l = length l.rest
