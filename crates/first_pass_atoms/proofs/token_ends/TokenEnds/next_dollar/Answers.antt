use Rattle.std.proofs.Common.{length, ap, ◌∙◌, arith}
use Rattle.first_pass_atoms.specs.TokenEnds.{has_math}
use Rattle.first_pass_atoms.proofs.NextFacts.{entry_in, entry_within}
use Rattle.first_pass_atoms.proofs.token_ends.TokenEnds.next_dollar.Goals as goal

pub in_chain-requires : goal.in_chain-requires
in_chain-requires c =
    let entry = c.requires.ends.for_math c.args.at c.args.context (omega arith) c.requires.here in
    omega (arith, entry.0, ap length c.deref.ensures.value)

pub returns-clause-value : goal.returns-clause-value
returns-clause-value c =
    let entry = c.requires.ends.for_math c.args.at c.args.context (omega arith) c.requires.here in
    c.in_chain.ensures.value ∙ entry_in c.args.tokens.now c.deref.result.now _ c.args.at (has_math c.args.context) c.deref.ensures.value entry.1

pub returns-clause-within : goal.returns-clause-within
returns-clause-within c =
    let entry = c.requires.ends.for_math c.args.at c.args.context (omega arith) c.requires.here in
    entry_within c.args.tokens.now c.deref.result.now _ c.args.at (has_math c.args.context) c.in_chain.result c.deref.ensures.value entry.1
    c.in_chain.ensures.within
