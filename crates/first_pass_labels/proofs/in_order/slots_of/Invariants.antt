use Rattle.std.proofs.Common.{◌≡◌, All, Some, map, take, slice_get}
use Rattle.first_pass_labels.proofs.in_order.slots_of.Given as goal

-- the slots of the entries before `at`
abbrev pub invariant-loop-at : goal.invariant-loop-at
invariant-loop-at g l = record {
  all : map (λ s. s.0) l.slots.items ≡ take l.at l.entries;
  placed : All (λ s. slice_get l.entries s.1 ≡ Some s.0) l.slots.items;
}
