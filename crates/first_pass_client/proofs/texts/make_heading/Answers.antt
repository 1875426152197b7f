use Rattle.std.proofs.Common.{◌≡◌, arith}
use Rattle.first_pass_client.proofs.Common.{source_text}
use Rattle.first_pass_open.specs.Between.{line_end_at}
use Rattle.first_pass_client.proofs.Moves.{given, may_add}
use Rattle.first_pass_client.proofs.texts.make_heading.Goals as goal

pub returns-in_default : goal.returns-in_default
returns-in_default c =
    let h = c.requires.place in
    let e = c.in_ok-next.ensures in
    may_add c.args.pass.now c.parse_setext_heading.new.self h.from c.args.at e.kept.entries.source h.low
    (e.may_add h.from c.requires.to c.requires.chain h.order) h.boundary

pub returns : goal.returns
returns c =
    let h = c.requires.place in
    let e = c.in_ok-next.ensures in
    let next = c.in-Some.next in
    let ends : next ≡ line_end_at (source_text c.args.pass.now) c.args.at = given c.in_ok-next.field-0 next _ c.in-Some.is e.line_end in
    may_add c.args.pass.now c.parse_setext_heading.new.self h.from next e.kept.entries.source (omega arith)
    (e.may_add h.from c.requires.to c.requires.chain h.order) (given c.in_ok-next.field-0 next _ c.in-Some.is (e.boundary h.boundary))
