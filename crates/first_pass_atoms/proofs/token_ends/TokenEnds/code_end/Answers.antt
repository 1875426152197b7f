use Rattle.std.proofs.Common.{length, sym, ap, ◌∙◌, arith}
use Rattle.std.specs.Option.{option_and_then}
use Rattle.first_pass_atoms.specs.TokenEnds.{has_code, later, code_end}
use Rattle.first_pass_atoms.proofs.NextFacts.{entry_in, entry_within}
use Rattle.first_pass_atoms.proofs.token_ends.TokenEnds.code_end.Goals as goal

pub in_chain-requires : goal.in_chain-requires
in_chain-requires c =
    let entry = c.requires.for_code c.args.at c.in-Some.field-0 (omega arith) (sym c.sought_at.ensures.value ∙ c.in-Some.is) in
    omega (arith, entry.0, ap length c.deref.ensures.value)

pub returns-in-None-clause-value : goal.returns-in-None-clause-value
unfolding code_end
returns-in-None-clause-value c =
    sym (ap (option_and_then (λ n. later (has_code n) c.args.tokens.now c.args.at)) (sym c.sought_at.ensures.value ∙ c.in-None.is))

pub returns-in-Some-clause-value : goal.returns-in-Some-clause-value
unfolding code_end
returns-in-Some-clause-value c =
    let key = sym c.sought_at.ensures.value ∙ c.in-Some.is in
    let entry = c.requires.for_code c.args.at c.in-Some.field-0 (omega arith) key in
    c.in_chain.ensures.value ∙ entry_in c.args.tokens.now c.deref.result.now _ c.args.at (has_code c.in-Some.field-0) c.deref.ensures.value entry.1
    ∙ sym (ap (option_and_then (λ n. later (has_code n) c.args.tokens.now c.args.at)) key)

pub returns-in-Some-clause-within : goal.returns-in-Some-clause-within
returns-in-Some-clause-within c =
    let key = sym c.sought_at.ensures.value ∙ c.in-Some.is in
    let entry = c.requires.for_code c.args.at c.in-Some.field-0 (omega arith) key in
    entry_within c.args.tokens.now c.deref.result.now _ c.args.at (has_code c.in-Some.field-0) c.in_chain.result c.deref.ensures.value entry.1
    c.in_chain.ensures.within
