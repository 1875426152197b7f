use Rattle.std.proofs.Common.{inl}
use Rattle.first_pass_client.proofs.Moves.{may_read}
use Rattle.first_pass_client.proofs.lists.read_next_block.Goals as goal

pub returns : goal.returns
returns c =
    let h = c.requires in
    let e = c.in_ok-next.ensures.block in
    may_read c.args.pass.now c.parse_block.new.self c.in_ok-next.next e.kept.source
    (e.order (inl (c.reading_continues_later.ensures.to _ _ h.from c.args.at h.order h.low h.boundary.0))) e.boundary
