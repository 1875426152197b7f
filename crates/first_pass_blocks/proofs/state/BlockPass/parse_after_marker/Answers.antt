use Rattle.std.proofs.Common.{ℕ, refl, arith}
use Rattle.first_pass_grammar.proofs.Common.{line_end}
use Rattle.first_pass_blocks.proofs.Common.{place_end, LineAt, reads_none, BlockPass}
use Rattle.first_pass_blocks.proofs.BlockRead.{passes_state, line_ended}
use Rattle.first_pass_blocks.proofs.state.BlockPass.parse_after_marker.Goals as goal

pub parse_tagged-requires-clause-boundary : goal.parse_tagged-requires-clause-boundary
parse_tagged-requires-clause-boundary c =
    rw c.next_line_start-following.ensures (place_end c.args.self.now.source.text.now c.args.place c.requires.utf8 c.requires.place)

-- nothing follows the marker in its line
pub returns-in-LineEnds-clause-block : goal.returns-in-LineEnds-clause-block
returns-in-LineEnds-clause-block c =
    let self : BlockPass = c.args.self.now in
    let e : ℕ = line_end c.args.place in
    rw (c.in-LineEnds.is, c.next_line_start.ensures) (line_ended self.source self self e e e
    (passes_state self.source e self self (LineAt e) (LineAt e) refl refl (reads_none self.source e self.state (LineAt e)))
    (place_end self.source.text.now c.args.place c.requires.utf8 c.requires.place) (omega arith) (omega arith))
