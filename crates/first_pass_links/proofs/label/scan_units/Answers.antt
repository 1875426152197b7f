use Rattle.std.proofs.Common.{inl, inr, ◌≡◌, ◌⊎◌, ℕ, Bool, List, Option, Result, Some, None, [], ◌++◌, ◌+◌, ◌<◌, ◌≤◌, true, false, length, get_or, drop, refl}
use Rattle.std.proofs.Common.{sym, ap, subst, ◌∙◌, arith, Bor, string_bytes, IsCharBoundary}
use Rattle.std.specs.declared.alloc.AllocError.{AllocError}
use Rattle.std.proofs.lemmas.Bool.{cases_lt, and_left, and_right, cond-false}
use Rattle.std.proofs.lemmas.List.{drop_more}
use Rattle.std.proofs.lemmas.Str.{IsCharBoundary-start}
use Rattle.first_pass_items.specs.Bytes.{right_bracket}
use Rattle.first_pass_items.proofs.ResultFacts.{on_err}
use Rattle.first_pass_lines.specs.Lines.{begins}
use Rattle.first_pass_links.specs.Labels.{IsRewritten, is_bracket, label_at}
use Rattle.first_pass_links.specs.Plain.{IsPlainLabel}
use Rattle.first_pass_links.specs.Units.{part, left_at, IsLighter, Reads, ReadsUnits, UnderAnswers}
use Rattle.first_pass_links.proofs.Destinations.{first_byte}
use Rattle.first_pass_links.proofs.Handlers.{under_none, under_map, under_both, under_continuing}
use Rattle.first_pass_links.proofs.Parts.{of_text, part-none, part-start}
use Rattle.first_pass_links.proofs.PlainRuns.{plain_label}
use Rattle.first_pass_links.proofs.Labels.{too_long, blank_stops, end_stops, at_bracket, label_after, label_read, read_nothing, read_both, read_unit, Known}
use Rattle.first_pass_links.proofs.Rewritten.{track_unit, track_written, track_stop}
use Rattle.first_pass_links.proofs.label.scan_units.Goals as goal
use Rattle.first_pass_links.proofs.label.scan_units.Goals.{In-Some-2, then-loop-at-test+else-not-is_bracket, else-loop-at-test}
use Rattle.first_pass_links.proofs.label.scan_units.Goals.{else-solid-via-then-solid+else-begins, else-solid-via-else-solid}

pub scan_unit-requires-clause-places : goal.scan_unit-requires-clause-places
scan_unit-requires-clause-places g c =
    λ following n at b e. c.requires.places following n at (subst (λ xs. IsCharBoundary xs at) c.as_bytes-bytes.ensures.value b)
    (e ∙ ap (drop at) c.as_bytes-bytes.ensures.value)

pub loop-at-init : goal.loop-at-init
loop-at-init g c =
    let text = c.args.text.now in
    let start = IsCharBoundary-start text c.utf8.text in
    let e : string_bytes c.args.written.now ++ part text 0 0 ≡ [] = ap (λ bs. bs ++ part text 0 0) c.requires.empty ∙ part-none text 0 in
    record {
      read = record { order = omega arith; within = omega arith; boundary = start; lighter = inl (refl, c.requires.empty) };
      bound = omega arith;
      tracked = under_none (λ h. rw e (record { read = read_nothing h c.args.in_table text 0; lighter = inl refl }));
    }

-- a unit is read
reads : (g : _) (c : In-Some-2 g) → UnderAnswers c.args.text.now (λ b r. g.F.Fn.post c.args.linebreak_handler.now (b, tt) r) c.loop-at.at
    c.in-Some-2.unit.next (λ h. Reads h c.args.in_table c.args.text.now c.loop-at.at c.in-Some-2.unit)
reads g c = rw c.as_bytes-bytes.ensures.value at (rw c.in-Some-2.is at c.in_ok-unit.ensures.reads)

later : (g : _) (c : In-Some-2 g) → (c.loop-at.at < c.in-Some-2.unit.next) × (c.in-Some-2.unit.next ≤ length c.args.text.now)
later g c =
    let unit = rw c.as_bytes-bytes.ensures.value at (rw c.in-Some-2.is at c.in_ok-unit.ensures.some) in
    (unit.later, unit.within)

pub loop-at-preserved : goal.loop-at-preserved
loop-at-preserved g c =
    let unit = later g (goal.at.loop-at-preserved g c).In-Some-2 in
    record {
      read = c.in_ok-from.ensures.read;
      bound = c.if-characters-gt-MOST_CHARACTERS.false;
      tracked = under_both c.loop-at.invariant.tracked (reads g (goal.at.loop-at-preserved g c).In-Some-2) (omega arith, omega arith) (λ h k r.
          rw c.in_ok-from.ensures.bytes (track_unit h c.args.in_table c.args.text.now c.loop-at.at _ c.in-Some-2.unit (c.loop-at.from ≡ 0)
          (c.in_ok-from.from ≡ 0) k r (λ e z. c.in_ok-from.ensures.same e ∙ z)));
    }

-- there is no label
none_read : (text written : List ℕ) (in_table : Bool) (post : Bor (List ℕ) → Result (Option ℕ) AllocError → Type 0)
    → UnderAnswers text post 0 (length text) (λ prefix. label_at prefix in_table text ≡ None) → ReadsUnits text in_table post written None
none_read text written in_table post none = record {
  value = under_map none (omega arith) (omega arith) (λ h e. rw e refl);
  closes = tt;
  lighter = tt;
  changes = tt;
}

-- the label is known up to its `]`
some_read : (text written : List ℕ) (in_table : Bool) (post : Bor (List ℕ) → Result (Option ℕ) AllocError → Type 0) (from at : ℕ)
    → UnderAnswers text post 0 (length text) (λ prefix. label_at prefix in_table text ≡ Some (at + 1, written ++ part text from at))
    → (at < length text) × (get_or text at 0 ≡ right_bracket) → IsLighter text written from at
    → (0 < from → UnderAnswers text post 0 (length text) (λ prefix. IsRewritten prefix in_table text))
    → ReadsUnits text in_table post written (Some (from, at))
some_read text written in_table post from at some closes lighter changes = record {
  value = under_map some (omega arith) (omega arith) (λ h e. rw e (refl, refl));
  closes = closes;
  lighter = lighter;
  changes = changes;
}

-- a plain label
pub returns-in-Some-clause-ok : goal.returns-in-Some-clause-ok
returns-in-Some-clause-ok g c =
    let text = c.args.text.now in
    let len = c.in-Some.len in
    let plain : IsPlainLabel text len = rw c.as_bytes-bytes.ensures.value at (rw c.in-Some.is at c.scan_plain_label.ensures) in
    let there = first_byte right_bracket text len plain.closes in
    let written : string_bytes c.args.written.now ++ part text 0 len ≡ part text 0 len = ap (λ bs. bs ++ part text 0 len) c.requires.empty in
    some_read text (string_bytes c.args.written.now) c.args.in_table _ 0 len
    (under_none (λ h. plain_label h c.args.in_table text len plain ∙ ap (λ bs. Some (len + 1, bs)) (sym (written ∙ part-start text len))))
    there
    (record {
      order = omega arith;
      within = omega (arith, there.0);
      boundary = IsCharBoundary-start text c.utf8.text;
      lighter = inl (refl, c.requires.empty);
    })
    (λ some. absurd (omega (arith, some)))

pub returns-in_default-2-clause-ok : goal.returns-in_default-2-clause-ok
returns-in_default-2-clause-ok g c =
    let r = rw c.as_bytes-bytes.ensures.value at (c.in_ok-unit.ensures.none c.in_default-2.is) in
    none_read c.args.text.now _ c.args.in_table _ (under_both c.loop-at.invariant.tracked r (omega arith, c.loop-at.invariant.read.within)
    (λ h k blank. label_read h c.args.in_table c.args.text.now c.loop-at.at _ k.read ∙ blank_stops h c.args.in_table c.args.text.now c.loop-at.at blank _))

pub returns-then-characters-gt-MOST_CHARACTERS-clause-ok : goal.returns-then-characters-gt-MOST_CHARACTERS-clause-ok
returns-then-characters-gt-MOST_CHARACTERS-clause-ok g c =
    let text = c.args.text.now in
    let unit = c.in-Some-2.unit in
    let here = (goal.at.returns-then-characters-gt-MOST_CHARACTERS-clause-ok g c).In-Some-2 in
    let order = later g here in
    let read = under_both c.loop-at.invariant.tracked (reads g here) (omega arith, omega arith) (λ h k r.
    label_read h c.args.in_table text unit.next _ (read_both h c.args.in_table text 0 c.loop-at.at unit.next _ _ k.read
    (read_unit h c.args.in_table text c.loop-at.at unit r))
    ∙ too_long c.args.in_table _ (left_at h text unit.next) c.if-characters-gt-MOST_CHARACTERS.true) in
    none_read text _ c.args.in_table _ (under_map read (omega arith) order.1 (λ h e. e))

-- at a place that is not the `]` of a label there is none
not_closed : (h : List ℕ → Option ℕ) (t : Bool) (text : List ℕ) (at : ℕ) (known : Known) → known.characters ≤ 999
    → (at < length text → is_bracket (get_or text at 0) ≡ true) → (known.solid ≡ false) ⊎ (begins right_bracket (drop at text) ≡ false)
    → label_after t known (left_at h text at) ≡ None
not_closed h t text at known few bracket why = grind (arith, cases_lt, at_bracket, cond-false, and_right, and_left, drop_more, end_stops)

pub returns-then-begins-clause-ok : goal.returns-then-begins-clause-ok
returns-then-begins-clause-ok g c =
    let text = c.args.text.now in
    let closes = sym (of_text (begins right_bracket) _ c.begins.ensures.value c.rest_of.ensures.value c.as_bytes-bytes.ensures.value) ∙ c.if-begins.true in
    let there = first_byte right_bracket text c.loop-at.at closes in
    some_read text _ c.args.in_table _ c.loop-at.from c.loop-at.at
    (under_map c.loop-at.invariant.tracked (omega arith) c.loop-at.invariant.read.within (λ h k. label_read h c.args.in_table text c.loop-at.at _ k.read
    ∙ at_bracket h c.args.in_table text c.loop-at.at _ there.0 (rw there.1) c.loop-at.invariant.bound ∙ rw (there.1, c.if-solid.true)))
    there c.loop-at.invariant.read (λ some. under_map c.loop-at.invariant.tracked (omega arith) c.loop-at.invariant.read.within
    (λ h k. track_written h c.args.in_table text c.loop-at.at _ (c.loop-at.from ≡ 0) k (λ z. omega (arith, some, z))))

pub returns-clause-ok : goal.returns-clause-ok
returns-clause-ok g c =
    let text = c.args.text.now in
    let b = c.as_bytes-bytes.ensures.value in
    let l = ap length b in
    let bracket : c.loop-at.at < length text → is_bracket (get_or text c.loop-at.at 0) ≡ true = λ within. elim c.loop-at-test.branch [
      | then-loop-at-test+else-not-is_bracket w ↦
          ap (λ xs. is_bracket (get_or xs c.loop-at.at 0)) (sym b) ∙ sym w.is_bracket.ensures ∙ w.if-not-is_bracket.false
      | else-loop-at-test w ↦ absurd (omega (arith, within, l, w.loop-at-test.false))
    ] in
    let why : (c.loop-at.solid ≡ false) ⊎ (begins right_bracket (drop c.loop-at.at text) ≡ false) = elim c.else-solid.branch [
      | else-solid-via-then-solid+else-begins w ↦
          inr (sym (of_text (begins right_bracket) _ w.begins.ensures.value w.rest_of.ensures.value b) ∙ w.if-begins.false)
      | else-solid-via-else-solid w ↦ inl w.if-solid.false
    ] in
    none_read text _ c.args.in_table _
    (under_map c.loop-at.invariant.tracked (omega arith) c.loop-at.invariant.read.within (λ h k. label_read h c.args.in_table text c.loop-at.at _ k.read
    ∙ not_closed h c.args.in_table text c.loop-at.at _ c.loop-at.invariant.bound bracket why))

-- the handler fails
pub returns-in_err-unit-clause-err : goal.returns-in_err-unit-clause-err
returns-in_err-unit-clause-err g c =
    let text = c.args.text.now in
    let stop = rw c.as_bytes-bytes.ensures.value at c.in_err-unit.ensures.err in
    let order = stop.order in
    let within = stop.stops.1.within in
    let both = under_both (under_continuing stop.next c.loop-at.invariant.tracked order within) (under_continuing stop.next stop.run (omega arith) within)
    (omega arith, order)
    (λ h k r. track_stop h c.args.in_table text c.loop-at.at _ _ stop (k.0.read, k.1.read) r) in
    on_err c.from_residual.result (under_map both (omega arith) (omega arith) (λ h z. z))

-- a unit is written
pub returns-in_err-from-clause-err : goal.returns-in_err-from-clause-err
returns-in_err-from-clause-err g c =
    let text = c.args.text.now in
    let unit = c.in-Some-2.unit in
    let here = (goal.at.returns-in_err-from-clause-err g c).In-Some-2 in
    let order = later g here in
    let written = under_both c.loop-at.invariant.tracked (reads g here) (omega arith, omega arith) (λ h k r.
    track_written h c.args.in_table text unit.next _ ⊥ (track_unit h c.args.in_table text c.loop-at.at _ unit (c.loop-at.from ≡ 0) ⊥ k r
    (λ e z. c.in_err-from.ensures.err e)) (λ z. z)) in
    on_err c.from_residual-in_err-from.result (under_map written (omega arith) order.1 (λ h z. inl z))
