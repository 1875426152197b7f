use Rattle.std.proofs.Common.{sym, ap, length, ◌∙◌, arith, option_copied}
use Rattle.first_pass_labels.specs.LabelTables.{table_of, after_label}
use Rattle.first_pass_labels.proofs.PlaceLemmas.{named, no_first, order_left, order_step, table_step}
use Rattle.first_pass_labels.proofs.in_order.InOrderIterator.next.Goals as goal

pub offset_bounds-entries-order : goal.offset_bounds-entries-order
offset_bounds-entries-order g c =
    let i = c.self.inside in
    let n = named i.entries.now (table_of (after_label (option_copied i.last) i.entries.now)) i.order.now 0
    (c.self.invariant c.if-order-gt0.true) c.if-order-gt0.true in
    omega (arith, n.within)

pub bounds-entries-order : goal.bounds-entries-order
bounds-entries-order g c =
    let i = c.self.inside in
    let n = named i.entries.now (table_of (after_label (option_copied i.last) i.entries.now)) i.order.now 0
    (c.self.invariant c.if-order-gt0.true) c.if-order-gt0.true in
    n.within

pub invariant_of-self : goal.invariant_of-self
invariant_of-self g c =
    let i = c.self.inside in
    let left = c.entries_left-self-inside in
    λ any. order_left (option_copied i.last) i.entries.now left.result.now i.order.now (c.self.invariant c.if-order-gt0.true) c.if-order-gt0.true
    c.index-entries-order.result c.index-entries-order.is left.ensures.more left.ensures.none any

pub returns-then-order-gt0-clause-steps : goal.returns-then-order-gt0-clause-steps
returns-then-order-gt0-clause-steps g c =
    let i = c.self.inside in
    let left = c.entries_left-self-inside in
    sym c.self.view_is ∙ order_step (option_copied i.last) i.entries.now left.result.now i.order.now (c.self.invariant c.if-order-gt0.true) c.if-order-gt0.true
    c.index-entries-order.result c.index-entries-order.is left.ensures.more left.ensures.none

pub returns-then-order-gt0-clause-goes : goal.returns-then-order-gt0-clause-goes
returns-then-order-gt0-clause-goes g c =
    let i = c.self.inside in
    let left = c.entries_left-self-inside in
    let step = sym c.self.view_is ∙ order_step (option_copied i.last) i.entries.now left.result.now i.order.now
    (c.self.invariant c.if-order-gt0.true) c.if-order-gt0.true
    c.index-entries-order.result c.index-entries-order.is left.ensures.more left.ensures.none in
    record { on = λ _. (tt, tt, omega (arith, ap length step)); keeps = tt; rests = λ _. tt }

pub returns-in_err-entry-clause-steps : goal.returns-in_err-entry-clause-steps
returns-in_err-entry-clause-steps g c =
    let i = c.self.inside in
    let none = sym c.self.view_is ∙ no_first (table_of (after_label (option_copied i.last) i.entries.now)) (sym c.in_err-entry.ensures) in
    rw c.from_residual.ensures (none, none)

pub returns-clause-steps : goal.returns-clause-steps
returns-clause-steps g c =
    let i = c.self.inside in
    sym c.self.view_is ∙ table_step (option_copied i.last) i.entries.now c.in_ok-entry.entry.now c.in_ok-entry.ensures

pub returns-clause-goes : goal.returns-clause-goes
returns-clause-goes g c =
    let i = c.self.inside in
    let step = sym c.self.view_is ∙ table_step (option_copied i.last) i.entries.now c.in_ok-entry.entry.now c.in_ok-entry.ensures in
    record { on = λ _. (tt, tt, omega (arith, ap length step)); keeps = tt; rests = λ _. tt }
