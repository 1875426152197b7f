use Rattle.std.proofs.Common.{refl}
use Rattle.std.proofs.lemmas.List.{nil_from_length}
use Rattle.first_pass_emphasis.specs.Levels.{chain_roles}
use Rattle.first_pass_emphasis.proofs.Walks.{walk_begins, walk_ends}
use Rattle.first_pass_emphasis.proofs.levels.roles_of.Goals as goal

pub loop-mark-init : goal.loop-mark-init
loop-mark-init c = λ n h.
    walk_begins c.args.content.now c.args.options c.args.marks.now n _ h c.new.ensures.items c.new-4.ensures.items c.new-5.ensures.items c.new-6.ensures.items refl

pub returns : goal.returns
returns c = λ n h.
    walk_ends c.args.content.now c.args.options (chain_roles c.args.content.now c.args.options n) c.loop-mark.rest.now c.loop-mark.walk _
    (c.loop-mark.invariant n h) (nil_from_length c.loop-mark.rest.now c.in_default.ensures.cases) c.in_ok-settle.ensures
