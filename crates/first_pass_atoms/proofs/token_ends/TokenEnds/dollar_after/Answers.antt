use Rattle.std.proofs.Common.{Some, nat_eq, sym, ap, ◌∙◌}
use Rattle.std.specs.Option.{option_eq}
use Rattle.first_pass_atoms.proofs.NextFacts.{later_skips}
use Rattle.first_pass_atoms.proofs.token_ends.TokenEnds.dollar_after.Goals as goal

pub returns-clause-value : goal.returns-clause-value
returns-clause-value c =
    let other = ap (λ o. option_eq nat_eq o (Some c.args.context)) (sym c.sought_at.ensures.value) ∙ sym c.if-eq.ensures in
    c.next_dollar-2.ensures.value ∙ later_skips c.args.tokens.now c.args.at c.args.context c.requires.second other
