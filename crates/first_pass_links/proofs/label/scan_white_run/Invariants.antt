use Rattle.std.proofs.Common.{◌≡◌, ◌≤◌, ◌-◌, ◌+◌, length, slice_index, IsCharBoundary}
use Rattle.first_pass_items.specs.Bytes.{space}
use Rattle.first_pass_links.specs.Units.{IsWhiteRun, UnderAnswers}
use Rattle.first_pass_links.proofs.label.scan_white_run.Given as goal

-- the bytes up to here are a run of white space
abbrev pub invariant-loop-next : goal.invariant-loop-next
invariant-loop-next g l = record {
  from : l.at ≤ l.next;
  within : l.next ≤ length l.bytes;
  boundary : IsCharBoundary l.bytes l.next;
  bound : l.characters ≤ l.next - l.at;
  lone : (l.characters ≡ 1) → (slice_index l.bytes l.at ≡ space) → (l.next ≡ l.at + 1);
  started : (l.characters ≡ 0) → (l.next ≡ l.at);
  run : UnderAnswers l.bytes (goal.F-post g l.linebreak_handler) l.at l.next (λ prefix. IsWhiteRun prefix l.bytes l.at l.next l.characters);
}

abbrev pub decreases-loop-next : goal.decreases-loop-next
decreases-loop-next g l = length l.bytes - l.next
