use Rattle.first_pass_client.proofs.Moves.{may_add_here}
use Rattle.first_pass_client.proofs.tables.read_cell.Goals as goal

pub returns : goal.returns
returns c =
    let h = c.requires in
    let e = c.in_ok-end.ensures.tokens in
    may_add_here c.args.pass.now c.parse_line.new.self c.in_ok-end.end e.kept.source
    (e.may_add tt h.boundary h.from h.low h.order) (e.boundary tt h.boundary)
