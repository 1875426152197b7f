use Rattle.std.proofs.Common.{subst, sym, arith, IfSome}
use Rattle.first_pass_targets.specs.Parts.{IsPartFrom}
use Rattle.first_pass_targets.proofs.DestinationFacts.{left_out, written, destination_place}
use Rattle.first_pass_targets.proofs.destination.scan_inline_destination.Goals as goal

pub returns-then-ends_here-clause-value : goal.returns-then-ends_here-clause-value
returns-then-ends_here-clause-value c = grind (arith, left_out)

pub returns-in_err-len-clause-value : goal.returns-in_err-len-clause-value
returns-in_err-len-clause-value c = grind (arith, written)

pub returns-clause-value : goal.returns-clause-value
returns-clause-value c = grind (arith, written)

pub returns-clause-from : goal.returns-clause-from
returns-clause-from c =
    subst (λ o. IfSome o (IsPartFrom c.args.content.now c.args.place)) (sym (returns-clause-value c))
    (destination_place c.args.content.now c.args.place c.utf8.content c.requires)
