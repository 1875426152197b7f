use Rattle.std.proofs.Common.{◌≡◌, ◌≤◌, ◌-◌, ◌++◌, length, string_bytes}
use Rattle.first_pass_links.specs.Units.{part, IsLighter, UnderAnswers}
use Rattle.first_pass_links.proofs.Labels.{known_as}
use Rattle.first_pass_links.proofs.Rewritten.{IsTracked}
use Rattle.first_pass_links.proofs.label.scan_units.Given as goal

-- the label is read up to here
abbrev pub invariant-loop-at : goal.invariant-loop-at
invariant-loop-at g l = record {
  read : IsLighter l.text (string_bytes l.written) l.from l.at;
  bound : l.characters ≤ 999;
  tracked : UnderAnswers l.text (goal.F-post g l.linebreak_handler) 0 l.at (λ prefix.
      IsTracked prefix l.in_table l.text l.at (known_as l.characters l.solid (string_bytes l.written ++ part l.text l.from l.at)) (l.from ≡ 0));
}

abbrev pub decreases-loop-at : goal.decreases-loop-at
decreases-loop-at g l = length l.text - l.at
