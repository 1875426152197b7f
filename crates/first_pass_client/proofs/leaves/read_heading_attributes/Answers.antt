use Rattle.first_pass_client.proofs.Moves.{may_add_here}
use Rattle.first_pass_client.proofs.leaves.read_heading_attributes.Goals as goal

pub returns : goal.returns
returns c =
    let h = c.requires in
    let e = c.in_ok-next.ensures in
    may_add_here c.args.pass.now c.parse_atx_heading.new.self c.in_ok-next.next e.leaf.kept.entries.source
    (e.leaf.may_add h.from h.low h.boundary h.order) (e.boundary h.boundary)
