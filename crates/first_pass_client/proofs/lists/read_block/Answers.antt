use Rattle.first_pass_client.proofs.Moves.{may_read}
use Rattle.first_pass_client.proofs.lists.read_block.Goals as goal

pub returns : goal.returns
returns c =
    let e = c.in_ok-next.ensures.block in
    may_read c.args.pass.now c.parse_block.new.self c.in_ok-next.next e.kept.source (e.order c.requires.order) e.boundary
