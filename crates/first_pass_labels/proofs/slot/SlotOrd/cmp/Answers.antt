use Rattle.std.proofs.Common.{ap₂, sym, ◌∙◌}
use Rattle.first_pass_labels.specs.Slots.{slot_cmp}
use Rattle.first_pass_labels.proofs.FrontLemmas.{first_below, second_below, swapped}
use Rattle.first_pass_labels.proofs.slot.SlotOrd.cmp.Goals as goal

pub returns-then-self-other : goal.returns-then-self-other
returns-then-self-other g c =
    let s = c.self.inside in
    let o = c.other.inside in
    swapped s.entry.now.0 o.entry.now.0
    (first_below o.entry.now.0 s.entry.now.0 o.first o.second s.first s.second c.other.invariant c.self.invariant c.if-self-other.true)
    ∙ ap₂ slot_cmp c.self.view_is c.other.view_is

pub returns-then-self-other-2 : goal.returns-then-self-other-2
returns-then-self-other-2 g c =
    let s = c.self.inside in
    let o = c.other.inside in
    sym (first_below s.entry.now.0 o.entry.now.0 s.first s.second o.first o.second c.self.invariant c.other.invariant c.if-self-other-2.true)
    ∙ ap₂ slot_cmp c.self.view_is c.other.view_is

pub returns-then-self-other-3 : goal.returns-then-self-other-3
returns-then-self-other-3 g c =
    let s = c.self.inside in
    let o = c.other.inside in
    swapped s.entry.now.0 o.entry.now.0
    (second_below o.entry.now.0 s.entry.now.0 o.first o.second s.first s.second c.other.invariant c.self.invariant
    c.if-self-other.false c.if-self-other-2.false c.if-self-other-3.true)
    ∙ ap₂ slot_cmp c.self.view_is c.other.view_is

pub returns-then-self-other-4 : goal.returns-then-self-other-4
returns-then-self-other-4 g c =
    let s = c.self.inside in
    let o = c.other.inside in
    sym (second_below s.entry.now.0 o.entry.now.0 s.first s.second o.first o.second c.self.invariant c.other.invariant
    c.if-self-other-2.false c.if-self-other.false c.if-self-other-4.true)
    ∙ ap₂ slot_cmp c.self.view_is c.other.view_is
