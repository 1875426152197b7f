use Rattle.std.proofs.Common.{ℕ, sym, ◌∙◌, length}
use Rattle.first_pass_atoms.proofs.NextFacts.{next_set, next_none, sought_below}
use Rattle.first_pass_atoms.proofs.token_ends.write_next.Goals as goal

pub bounds-last-n : goal.bounds-last-n
bounds-last-n c =
    sought_below c.args.mark c.args.tokens.now (length c.args.last.now) c.args.at c.in-Some.n c.requires.keys (sym c.sought_at.ensures.value ∙ c.in-Some.is)

pub returns-in-Some-clause-next : goal.returns-in-Some-clause-next
returns-in-Some-clause-next c =
    let n : ℕ = c.in-Some.n in
    let key = sym c.sought_at.ensures.value ∙ c.in-Some.is in
    let below = sought_below c.args.mark c.args.tokens.now (length c.args.last.now) c.args.at n c.requires.keys key in
    next_set c.args.mark c.args.tokens.now c.args.at c.args.next.now.items n _ c.requires.next c.requires.size key (c.requires.last n below)

pub returns-in_default-clause-next : goal.returns-in_default-clause-next
returns-in_default-clause-next c =
    next_none c.args.mark c.args.tokens.now c.args.at c.args.next.now.items c.requires.next (sym c.sought_at.ensures.value ∙ c.in_default.is)
