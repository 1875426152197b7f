use Rattle.std.proofs.Common.{◌-◌, ◌≡◌, ℕ, ◌<◌, ◌≤◌, Some, length, slice_get, Less, Greater}
use Rattle.first_pass_items.specs.declared.cow_str.CowStr.{CowStr}
use Rattle.first_pass_labels.specs.Foldings.{label_cmp}
use Rattle.first_pass_labels.specs.LabelTables.{table_of}
use Rattle.first_pass_labels.proofs.search.find_sorted.Given as goal

-- the labels before `low` are below the key, and those from `high` on above it
abbrev pub invariant-loop-low : goal.invariant-loop-low
invariant-loop-low g l = record {
  within : l.high ≤ length l.order;
  below : (j : ℕ) (e : CowStr × g.row.T.Denot) → j < l.low → slice_get (table_of l.entries) j ≡ Some e → label_cmp l.key e.0 ≡ Greater;
  above : (j : ℕ) (e : CowStr × g.row.T.Denot) → l.high ≤ j → slice_get (table_of l.entries) j ≡ Some e → label_cmp l.key e.0 ≡ Less;
}

abbrev pub decreases-loop-low : goal.decreases-loop-low
decreases-loop-low g l = l.high - l.low
