use Rattle.std.proofs.Common.{◌≡◌, map, take}
use Rattle.first_pass_labels.proofs.in_order.order_of.Given as goal

-- the indices of the slots before `at`
abbrev pub invariant-loop-at : goal.invariant-loop-at
invariant-loop-at g l = l.order.items ≡ map (λ s. s.1) (take l.at l.slots.items)
