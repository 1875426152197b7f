use Rattle.std.proofs.Common.{sym, ◌∙◌}
use Rattle.first_pass_atoms.proofs.NextFacts.{last_set, last_none, some_token}
use Rattle.first_pass_atoms.proofs.token_ends.write_last.Goals as goal

pub returns-in-Some-clause-last : goal.returns-in-Some-clause-last
returns-in-Some-clause-last c =
    let key = sym c.key_at.ensures.value ∙ c.in-Some.is in
    last_set c.args.mark c.args.tokens.now c.args.at c.in-Some.n c.args.last.now.items c.requires.last key (c.requires.keys c.args.at c.in-Some.n key)

pub returns-in_default-clause-last : goal.returns-in_default-clause-last
returns-in_default-clause-last c =
    let t = some_token c.args.tokens.now c.args.at c.requires.size in
    last_none c.args.mark c.args.tokens.now c.args.at t.0 c.args.last.now.items c.requires.last t.1 (sym c.key_at.ensures.value ∙ c.in_default.is)
