use Rattle.std.proofs.Common.{◌≡◌, drop}
use Rattle.std.specs.Map.{lookup}
use Rattle.std.specs.BTreeMap.{is_at}
use Rattle.first_pass_labels.specs.Foldings.{label_cmp}
use Rattle.first_pass_labels.proofs.search.find_first.Given as goal

-- no label before `at` is that of the key
abbrev pub invariant-loop-at : goal.invariant-loop-at
invariant-loop-at g l = lookup (is_at (label_cmp l.key)) l.entries ≡ lookup (is_at (label_cmp l.key)) (drop l.at l.entries)
