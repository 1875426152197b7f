use Rattle.std.proofs.Common.{◌≡◌, ◌-◌, ◌++◌, length, drop, string_bytes, IsCharBoundary}
use Rattle.first_pass_links.specs.Labels.{single_spaced}
use Rattle.first_pass_targets.proofs.key.spelled_label.Given as goal

-- the label is spelled up to this offset
abbrev pub invariant-loop-at : goal.invariant-loop-at
invariant-loop-at l = record {
  boundary : IsCharBoundary l.label l.at;
  so_far : string_bytes l.spelled ++ single_spaced (drop l.at l.label) ≡ single_spaced l.label;
}

abbrev pub decreases-loop-at : goal.decreases-loop-at
decreases-loop-at l = length l.bytes - l.at
