use Rattle.first_pass_host.specs.Held.{AreItemLines, IsPartlyWritten}
use Rattle.first_pass_host.specs.Streams.{stream_between}
use Rattle.first_pass_host.proofs.output.write_each.Given as goal

-- further items may come, and the lines so far are written or held back
abbrev pub invariant-loop-item : goal.invariant-loop-item
invariant-loop-item g l =
    (goal.iterator-loop-item g).can_next l.item-iterator × (goal.iterator-loop-item g).is_finite l.item-iterator
    × ((line : _) (lines : _) → AreItemLines (goal.iterator-loop-item g).next_gives (goal.F-post g l.append) line lines
    → IsPartlyWritten (lines l.fn.items) l.held.items (lines l.item-iterator)
    (stream_between (g.W.Write.contents l.initial.output) (g.W.Write.contents l.output)))
