use Rattle.std.proofs.Common.{◌≡◌, take, slice_get, option_copied}
use Rattle.first_pass_labels.specs.LabelTables.{table_of, after_label}
use Rattle.first_pass_labels.proofs.in_order.least_after.Given as goal

-- the least of the entries before `at`
abbrev pub invariant-loop-at : goal.invariant-loop-at
invariant-loop-at g l = option_copied l.least ≡ slice_get (table_of (after_label (option_copied l.last) (take l.at l.entries))) 0
