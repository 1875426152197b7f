use Rattle.std.proofs.Common.{◌++◌, List, false, length}
use Rattle.first_pass_emphasis.specs.declared.role.Role.{Role}
use Rattle.first_pass_emphasis.specs.Parts.{Part, raw}
use Rattle.first_pass_emphasis.specs.Quotes.{quoted}
use Rattle.first_pass_emphasis.specs.Stacks.{IsQuotedLevel}
use Rattle.first_pass_emphasis.proofs.Pairs.{IsQuoting}
use Rattle.first_pass_emphasis.proofs.quotes.pair_quotes.Given as goal

-- the quotation marks so far have their roles
abbrev pub invariant-loop-placed : goal.invariant-loop-placed
invariant-loop-placed l = (outside : List Role) (ts : List Part) → IsQuotedLevel outside ts l.fn.roles.items l.quotes
    → IsQuoting (outside ++ raw (quoted false false ts)) l.double l.single l.rest l.roles.items

abbrev pub decreases-loop-placed : goal.decreases-loop-placed
decreases-loop-placed l = length l.rest
