-- The text written of a label is lighter than its source; so the label as it is read differs from its source.
use Rattle.std.proofs.Common.{◌≡◌, ◌≢◌, ◌⊎◌, inl, inr, ℕ, suc, ◌+◌, ◌<◌, ◌≤◌, ◌==◌, Bool, true, false, List, [], ◌∷◌, ◌++◌, length, take, drop, get_or}
use Rattle.std.proofs.Common.{Option, Some, None, Result, refl, sym, ap, ◌∙◌, arith, append_assoc, length-append, Bor, append-nil}
use Rattle.std.specs.declared.alloc.AllocError.{AllocError}
use Rattle.std.proofs.lemmas.Bool.{cond_both}
use Rattle.std.proofs.lemmas.List.{map-append}
use Rattle.std.proofs.Math.Seq.{take-append-add}
use Rattle.first_pass_items.specs.Bytes.{space, backslash}
use Rattle.first_pass_lines.specs.Lines.{ends_line, is_white_or_line_end}
use Rattle.first_pass_links.specs.Escapes.{without_pipe_escapes}
use Rattle.first_pass_links.specs.declared.label.Unit.{Unit}
use Rattle.first_pass_links.specs.Labels.{is_bracket, CanErr, ErrsInLabel, IsRewritten, continuing_at, before_bracket, bytes_of, label_len, single_spaced, as_read}
use Rattle.first_pass_links.specs.Units.{read_of, left_at, Reads, IsWhiteRun, StopsByError, weight}
use Rattle.first_pass_links.proofs.Parts.{weight-append, weight-length, weight-nil, weight-space, weight-other}
use Rattle.std.proofs.lemmas.Bool.Decides.{nat_tests}
use Rattle.first_pass_links.proofs.Destinations.{upto-nil, upto-byte}
use Rattle.first_pass_links.proofs.PipeEscapes.{cell-nil, cell_cases}
use Rattle.first_pass_links.proofs.Labels.{IsRead, Known, known_as, known_both, read_whole, read_unit, read_both, bytes-length, run_facts, as_read-nil}
use Rattle.first_pass_links.proofs.Labels.{left-end, left-stop}

weight-solid : (b : ℕ) → is_white_or_line_end b ≡ false → weight (b ∷ []) ≡ 1
unfolding weight
weight-solid b h = rw h

line_end_facts : (b : ℕ) (bs : List ℕ) → ends_line b bs ≡ true → (is_white_or_line_end b ≡ true) × ((b == space) ≡ false) × ((b == backslash) ≡ false)
    × (is_bracket b ≡ false)
line_end_facts b bs h = (grind (arith, nat_tests, h), grind (arith, nat_tests, h), grind (arith, nat_tests, h), grind (arith, nat_tests, h))

-- one more byte
weight-more : (b : ℕ) (bs : List ℕ) → weight (b ∷ bs) ≡ weight (b ∷ []) + weight bs
weight-more b bs = weight-append (b ∷ []) bs

-- a text that is read is no longer than its source, and has no white space other than spaces
single_weighs : (bs : List ℕ) → (weight (single_spaced bs) ≡ length (single_spaced bs)) × (length (single_spaced bs) ≤ length bs)
unfolding single_spaced
single_weighs [] = (weight-nil, omega arith)
single_weighs (b ∷ bs) = grind (arith, cond_both, weight-more, weight-space, weight-solid, single_weighs bs)

cell_shorter : (bs : List ℕ) → length (without_pipe_escapes bs) ≤ length bs
cell_shorter [] = let e = ap length cell-nil in omega arith
cell_shorter (b ∷ bs) =
    let i = cell_shorter bs in
    cell_cases (λ xs. length xs ≤ length (b ∷ bs)) b bs (λ h. omega arith) (omega arith)

as_read_weighs : (t : Bool) (bs : List ℕ) → (weight (as_read t bs) ≡ length (as_read t bs)) × (length (as_read t bs) ≤ length bs)
as_read_weighs false bs = single_weighs bs
as_read_weighs true bs = let i = single_weighs (without_pipe_escapes bs) in let l = cell_shorter bs in (i.0, omega arith)

as_read_lighter : (t : Bool) (bs : List ℕ) → weight (as_read t bs) ≤ weight bs
as_read_lighter t bs = let i = as_read_weighs t bs in let l = weight-length bs in omega arith

-- bytes with white space other than a space are read differently
heavy_differs : (t : Bool) (xs ys : List ℕ) (b : ℕ) → is_white_or_line_end b ≡ true → (b == space) ≡ false → as_read t (xs ++ b ∷ ys) ≢ xs ++ b ∷ ys
heavy_differs t xs ys b h k = λ e.
    let w = (as_read_weighs t (xs ++ b ∷ ys)).0 in
    let same = ap weight e in
    let long = ap length e in
    let a = weight-append xs (b ∷ ys) in
    let c = weight-more b ys in
    let two = weight-other b h k in
    let p = weight-length xs in
    let q = weight-length ys in
    let n = length-append xs (b ∷ ys) in
    omega arith

-- the joined text from an offset on: all bytes, and those before the first bracket
abbrev all_from : (List ℕ → Option ℕ) → List ℕ → ℕ → List ℕ
all_from h text at = bytes_of (left_at h text at)

abbrev before_from : (List ℕ → Option ℕ) → List ℕ → ℕ → List ℕ
before_from h text at = take (label_len (all_from h text at)) (all_from h text at)

-- the label is read up to an offset, and the text read is lighter than its source if something is written
pub record IsTracked (h : List ℕ → Option ℕ) (t : Bool) (text : List ℕ) (at : ℕ) (known : Known) (same : Type 0) : Type 0 where
  pub read : IsRead h t text 0 at known
  pub lighter : same ⊎ (weight known.bytes < weight (bytes_of read.run))

-- text that is read is no heavier than its source
read_light : (h : List ℕ → Option ℕ) (t : Bool) (text : List ℕ) (at next : ℕ) (k : Known) (r : IsRead h t text at next k)
    → weight k.bytes ≤ weight (bytes_of r.run)
read_light h t text at next k r =
    let us = bytes_of r.run in
    let e = ap (as_read t) (sym (append-nil us)) ∙ r.reads 0 ∙ ap (λ xs. k.bytes ++ xs) (as_read-nil t) ∙ append-nil k.bytes in
    let w = as_read_lighter t us in
    let z = ap weight e in
    omega arith

pub track_unit : (h : List ℕ → Option ℕ) (t : Bool) (text : List ℕ) (at : ℕ) (k : Known) (unit : Unit) (old new : Type 0)
    → IsTracked h t text at k old → Reads h t text at unit → (unit.paused ≡ unit.resumed → old → new)
    → IsTracked h t text unit.next (known_both k (known_as unit.characters unit.solid (read_of text at unit))) new
unfolding read_both read_unit
track_unit h t text at k unit old new tracked r f =
    let w = read_of text at unit in
    let done = bytes_of tracked.read.run in
    let a = weight-append k.bytes w in
    let b = ap weight (map-append (λ (c : ℕ × ℕ). c.1) tracked.read.run r.run) ∙ weight-append done (bytes_of r.run) in
    let light = read_light h t text at unit.next (known_as unit.characters unit.solid w) (read_unit h t text at unit r) in
    let before = read_light h t text 0 at k tracked.read in
    record {
      read = read_both h t text 0 at unit.next k (known_as unit.characters unit.solid w) tracked.read (read_unit h t text at unit r);
      lighter = elim r.changes [
        | inl e ↦ elim tracked.lighter [ inl s ↦ inl (f e s) | inr less ↦ inr (omega arith) ]
        | inr less ↦ inr (omega arith)
      ];
    }

tracked_before : (h : List ℕ → Option ℕ) (t : Bool) (text : List ℕ) (at : ℕ) (k : Known) (r : IsRead h t text 0 at k)
    → before_bracket h text ≡ bytes_of r.run ++ before_from h text at
tracked_before h t text at k r =
    let n = label_len (all_from h text at) in
    let whole = read_whole h t text 0 at k r in
    ap (λ xs. take (label_len xs) xs) whole
    ∙ ap (λ m. take m (bytes_of r.run ++ all_from h text at)) (r.passed ∙ ap (λ m. m + n) (bytes-length r.run))
    ∙ take-append-add (bytes_of r.run) (all_from h text at) n

-- if something is written, the label as it is read differs from its source
pub track_written : (h : List ℕ → Option ℕ) (t : Bool) (text : List ℕ) (at : ℕ) (k : Known) (same : Type 0)
    → IsTracked h t text at k same → (same → ⊥) → IsRewritten h t text
track_written h t text at k same tracked n = λ e.
    let B = before_from h text at in
    let is = tracked_before h t text at k tracked.read in
    let r = tracked.read.reads (label_len (all_from h text at)) in
    let a = weight-append (bytes_of tracked.read.run) B in
    let b = weight-append k.bytes (as_read t B) in
    let w = as_read_lighter t B in
    let z = ap weight (sym r) ∙ ap (λ xs. weight (as_read t xs)) (sym is) ∙ ap weight e ∙ ap weight is in
    elim tracked.lighter [ inl s ↦ n s | inr less ↦ omega arith ]

-- the handler fails: no bracket comes before, or the line ending is part of the label
stop_by : (o : Option ℕ) (h : List ℕ → Option ℕ) (t : Bool) (text : List ℕ) (at : ℕ) (k : Known) (post : Bor (List ℕ) → Result (Option ℕ) AllocError → Type 0)
    → IsRead h t text 0 at k → (w : StopsByError text at post) → IsWhiteRun h text at w.next w.characters → h (drop (w.next + 1) text) ≡ o
    → ErrsInLabel h text post → CanErr h t text post
stop_by None h t text at k post read w r f errs =
    let R = bytes_of r.run in
    let X : all_from h text at ≡ R =
    ap bytes_of (r.joins ∙ ap (λ cs. r.run ++ cs) (left-stop h text w.next w.stops.1.within w.stops.1.line_end f) ∙ append-nil r.run) in
    let u = ap label_len (X ∙ sym (append-nil R)) ∙ (run_facts R [] r.white).0 in
    let none : label_len [] ≡ 0 = upto-nil is_bracket in
    let whole = read_whole h t text 0 at k read in
    let p = ap label_len whole ∙ read.passed in
    let q = ap length whole ∙ length-append (bytes_of read.run) (all_from h text at) in
    let l = bytes-length read.run in
    let m = ap length X in
    inr (omega arith, errs)
stop_by (Some m) h t text at k post read w r f errs =
    let next = w.next in
    let done = bytes_of read.run in
    let b = get_or text next 0 in
    let R = bytes_of r.run in
    let Y = all_from h text (next + 1 + m) in
    let X : all_from h text at ≡ R ++ b ∷ Y = ap bytes_of (r.joins ∙ ap (λ cs. r.run ++ cs) (left-end h text next m w.stops.1.within w.stops.1.line_end f))
    ∙ map-append (λ (c : ℕ × ℕ). c.1) r.run ((next, b) ∷ left_at h text (next + 1 + m)) in
    let s = line_end_facts b (drop (next + 1) text) w.stops.1.line_end in
    let one : 1 + label_len Y ≡ suc (label_len Y) = omega arith in
    let len : label_len (R ++ b ∷ Y) ≡ length R + suc (label_len Y) =
    (run_facts R (b ∷ Y) r.white).0 ∙ ap (λ j. length R + j) (upto-byte is_bracket b Y (rw s.2) s.3 ∙ one) in
    let B : before_from h text at ≡ R ++ b ∷ take (label_len Y) Y =
    ap (λ xs. take (label_len xs) xs) X ∙ ap (λ j. take j (R ++ b ∷ Y)) len ∙ take-append-add R (b ∷ Y) (suc (label_len Y))
    in
    let is : before_bracket h text ≡ (done ++ R) ++ b ∷ take (label_len Y) Y =
    tracked_before h t text at k read ∙ ap (λ xs. done ++ xs) B ∙ sym (append_assoc done R (b ∷ take (label_len Y) Y)) in
    inl (λ z. heavy_differs t (done ++ R) (take (label_len Y) Y) b s.0 s.1 (ap (as_read t) (sym is) ∙ z ∙ is))

-- the label extends up to the line ending after which the handler fails
reaches_stop : (h : List ℕ → Option ℕ) (t : Bool) (text : List ℕ) (at : ℕ) (k : Known) (post : Bor (List ℕ) → Result (Option ℕ) AllocError → Type 0)
    (w : StopsByError text at post) → IsRead (continuing_at text w.next h) t text 0 at k
    → IsWhiteRun (continuing_at text w.next h) text at w.next w.characters → ErrsInLabel h text post
reaches_stop h t text at k post w read r = record {
  at = w.next;
  before = read.run ++ r.run;
  joins = read.joins ∙ ap (λ cs. read.run ++ cs) r.joins
      ∙ sym (append_assoc read.run r.run (left_at (continuing_at text w.next h) text w.next));
  errs = w.stops;
}

-- the label is read up to a run of white space in which the handler fails, also if it continues after that line ending
pub track_stop : (h : List ℕ → Option ℕ) (t : Bool) (text : List ℕ) (at : ℕ) (k : Known) (post : Bor (List ℕ) → Result (Option ℕ) AllocError → Type 0)
    (s : StopsByError text at post) → IsRead h t text 0 at k × IsRead (continuing_at text s.next h) t text 0 at k
    → IsWhiteRun h text at s.next s.characters × IsWhiteRun (continuing_at text s.next h) text at s.next s.characters → CanErr h t text post
track_stop h t text at k post s (read, also) (run, on) = stop_by _ h t text at k post read s run refl (reaches_stop h t text at k post s also on)
