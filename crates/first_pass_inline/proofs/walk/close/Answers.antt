use Rattle.std.proofs.Common.{◌≡◌, ◌∙◌, ap, refl, rules}
use Rattle.first_pass_inline.specs.Open.{pair_by}
use Rattle.first_pass_inline.specs.Sequences.{judged}
use Rattle.first_pass_inline.proofs.Steps.{pair_read, popped_whole, popped_within}
use Rattle.first_pass_inline.proofs.walk.close.Goals as goal

pub pair_of-pair-requires : goal.pair_of-pair-requires
pair_of-pair-requires c = popped_within c.args.chain.now c.args.walk.now c.args.bracket _ _ c.requires.before

pub judge-requires-clause-known : goal.judge-requires-clause-known
judge-requires-clause-known c = c.requires.before.known

pub judge-requires-clause-whole : goal.judge-requires-clause-whole
judge-requires-clause-whole c =
    rw c.pair_of-pair.ensures (popped_whole c.args.chain.now c.args.walk.now c.args.bracket _ _ c.requires.before c.requires.whole)

pub returns-clause-before : goal.returns-clause-before
returns-clause-before c =
    let v = c.in_ok-verdict.verdict in
    let walk = c.args.walk.now in
    let known : v ≡ judged c.args.chain.now (pair_by walk c.args.bracket c.args.closing.0 c.args.closing.1) =
    c.in_ok-verdict.ensures.value ∙ ap (judged c.args.chain.now) c.pair_of-pair.ensures in
    rw c.past.ensures
    (pair_read c.args.chain.now walk c.args.bracket c.args.closing.0 c.args.closing.1 c.requires.before c.requires.whole _ v known
    c.in_ok-write_pair.ensures refl (search rules) (search rules) c.waits-walk.ensures (search rules) c.in_ok-verdict.ensures.known)
