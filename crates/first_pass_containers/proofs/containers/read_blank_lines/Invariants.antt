use Rattle.std.proofs.Common.{◌≤◌, ◌-◌, length, IsCharBoundary}
use Rattle.first_pass_containers.proofs.Common.{LineAt, ReadsTo}
use Rattle.first_pass_containers.proofs.containers.read_blank_lines.Given as goal

-- the lines are read up to here
abbrev pub invariant-loop-next : goal.invariant-loop-next
invariant-loop-next l = record {
  later : l.start ≤ l.next;
  boundary : IsCharBoundary l.source.text.now l.next;
  read : ReadsTo l.source l.start l.state l.state (LineAt l.start) (LineAt l.next);
}

abbrev pub decreases-loop-next : goal.decreases-loop-next
decreases-loop-next l = length l.source.text.now - l.next
