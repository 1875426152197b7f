-- The line and the column of an offset, and of the next one.
use Rattle.std.proofs.Common.{◌≡◌, ℕ, zero, suc, ◌+◌, ◌-◌, ◌*◌, ◌<◌, ◌≤◌, ◌⊎◌, List, [], ◌∷◌, ◌++◌, length, get_or, take, drop, cond, Bool, true}
use Rattle.std.proofs.Common.{false, refl, sym, ap, ap₂, ◌∙◌, arith, min}
use Rattle.std.proofs.Common.{append-nil, add-one, inl, inr, subst, length-drop, length-take, take_all, get_or-drop}
use Rattle.std.proofs.lemmas.Bool.{le-leb, lt-leb, cases_lt}
use Rattle.std.proofs.lemmas.Bool.Decides.{nat_tests}
use Rattle.std.proofs.lemmas.List.{length_push, get_or_push}
use Rattle.std.proofs.lemmas.List.Sums.{sum_by_more, sum_by-le}
use Rattle.std.specs.Prelude.{nat_le, slice_index, slice_range}
use Rattle.std.specs.List.{filter}
use Rattle.first_pass_lines.specs.Lines.{ends_line}
use Rattle.first_pass_places.specs.LineColumns.{line_ends, ends_by, line_start, line_column, utf16_len, units_of}
use Rattle.first_pass_places.specs.declared.line_column.LineColumn.{LineColumn}

-- the ends of line endings in these bytes that are at most an offset
abbrev up_to : ℕ → ℕ → List ℕ → List ℕ
up_to o at bs = filter (λ e. nat_le e o) (line_ends at bs)

none_up_to : (o at : ℕ) (bs : List ℕ) → o ≤ at → up_to o at bs ≡ []
unfolding line_ends
none_up_to o at [] before = refl
none_up_to o at (b ∷ bs) before =
    let rest = none_up_to o (at + 1) bs (omega arith) in
    elim (ends_line b bs) as (λ t. filter (λ e. nat_le e o) (cond t ((at + 1) ∷ line_ends (at + 1) bs) (line_ends (at + 1) bs)) ≡ []) [
      | true ↦ rw (lt-leb (at + 1) o (omega arith)) rest
      | false ↦ rest
    ]

all_up_to : (o at : ℕ) (bs : List ℕ) → at + length bs ≤ o → up_to o at bs ≡ line_ends at bs
unfolding line_ends
all_up_to o at [] after = refl
all_up_to o at (b ∷ bs) after =
    let rest = all_up_to o (at + 1) bs (omega arith) in
    elim (ends_line b bs) as (λ t. let ends = cond t ((at + 1) ∷ line_ends (at + 1) bs) (line_ends (at + 1) bs) in filter (λ e. nat_le e o) ends ≡ ends) [
      | true ↦ rw (le-leb (at + 1) o (omega arith)) (ap (λ l. (at + 1) ∷ l) rest)
      | false ↦ rest
    ]

-- the end of a line ending directly after an offset, if one ends there
abbrev end_after : List ℕ → ℕ → ℕ → List ℕ
end_after bs i o = cond (ends_line (slice_index bs i) (drop (suc i) bs)) ((o + 1) ∷ []) []

one_more : (o at i : ℕ) (bs : List ℕ) → o ≡ at + i → i < length bs → up_to (o + 1) at bs ≡ up_to o at bs ++ end_after bs i o
unfolding line_ends
one_more o at i [] is within = absurd (omega arith)
one_more o at zero (b ∷ bs) is within =
    let more = line_ends (at + 1) bs in
    let next = none_up_to (o + 1) (at + 1) bs (omega arith) in
    let here = none_up_to o (at + 1) bs (omega arith) in
    let same : at ≡ o = omega arith in
    elim (ends_line b bs) as (λ t. filter (λ e. nat_le e (o + 1)) (cond t ((at + 1) ∷ more) more)
    ≡ filter (λ e. nat_le e o) (cond t ((at + 1) ∷ more) more) ++ cond t ((o + 1) ∷ []) []) [
      | true ↦ rw (le-leb (at + 1) (o + 1) (omega arith), lt-leb (at + 1) o (omega arith), next, here) (ap (λ n. (n + 1) ∷ []) same)
      | false ↦ rw (next, here) refl
    ]
one_more o at (suc i) (b ∷ bs) is within =
    let more = line_ends (at + 1) bs in
    let rest = one_more o (at + 1) i bs (omega arith) (omega arith) in
    elim (ends_line b bs) as (λ t. filter (λ e. nat_le e (o + 1)) (cond t ((at + 1) ∷ more) more)
    ≡ filter (λ e. nat_le e o) (cond t ((at + 1) ∷ more) more) ++ end_after bs i o) [
      | true ↦ rw (le-leb (at + 1) (o + 1) (omega arith), le-leb (at + 1) o (omega arith)) (ap (λ l. (at + 1) ∷ l) rest)
      | false ↦ rest
    ]

-- the last of 0 and some numbers is the last that was added
last_of_more : (ends : List ℕ) (e : ℕ) → slice_index (0 ∷ (ends ++ e ∷ [])) (length (ends ++ e ∷ [])) ≡ e
last_of_more ends e = rw (length_push ends e, add-one) (get_or_push ends e 0 (length ends) refl)

pub at_most_two : (b : ℕ) → units_of b ≤ 2
at_most_two b = grind (arith, nat_tests)

units_bound : (bytes : List ℕ) → utf16_len bytes ≤ length bytes * 2
units_bound bytes = sum_by-le units_of 2 bytes (λ k d within. at_most_two (get_or bytes k d))

module _ (text : List ℕ) where
  ends_at_start : ends_by text 0 ≡ []
  unfolding ends_by
  ends_at_start = none_up_to 0 0 text (omega arith)

  -- from the end of the text on nothing more ends
  ends_past : (o : ℕ) → length text ≤ o → ends_by text o ≡ line_ends 0 text
  unfolding ends_by
  ends_past o after = all_up_to o 0 text (omega arith)

  ends_more : (o : ℕ) → o < length text → ends_by text (o + 1) ≡ ends_by text o ++ cond (ends_line (slice_index text o) (drop (o + 1) text)) ((o + 1) ∷ []) []
  unfolding ends_by
  ends_more o within = one_more o 0 o text (omega arith) within
      ∙ ap (λ n. ends_by text o ++ cond (ends_line (slice_index text o) (drop n text)) ((o + 1) ∷ []) []) (sym (add-one o))

  after_line : (o : ℕ) → o < length text → ends_line (slice_index text o) (drop (o + 1) text) ≡ true → ends_by text (o + 1) ≡ ends_by text o ++ (o + 1) ∷ []
  after_line o within ends = ends_more o within ∙ ap (λ t. ends_by text o ++ cond t ((o + 1) ∷ []) []) ends

  in_line : (o : ℕ) → o < length text → ends_line (slice_index text o) (drop (o + 1) text) ≡ false → ends_by text (o + 1) ≡ ends_by text o
  in_line o within more = ends_more o within ∙ ap (λ t. ends_by text o ++ cond t ((o + 1) ∷ []) []) more ∙ append-nil (ends_by text o)

  start_after_line : (o : ℕ) → o < length text → ends_line (slice_index text o) (drop (o + 1) text) ≡ true → line_start text (o + 1) ≡ o + 1
  start_after_line o within ends = ap (λ l. slice_index (0 ∷ l) (length l)) (after_line o within ends) ∙ last_of_more (ends_by text o) (o + 1)

  -- no more line endings end than there are bytes before the offset, and the last ends there or before
  record IsBounded (o : ℕ) : Type 0 where
    count : length (ends_by text o) ≤ o
    start : line_start text o ≤ o

  same_bounds : (o : ℕ) → ends_by text (o + 1) ≡ ends_by text o → IsBounded o → IsBounded (o + 1)
  same_bounds o same bounded = record {
    count = omega (arith, ap length same, bounded.count);
    start = omega (arith, ap (λ l. slice_index (0 ∷ l) (length l)) same, bounded.start);
  }

  bounded_in : (o : ℕ) (t : Bool) → o < length text → ends_line (slice_index text o) (drop (o + 1) text) ≡ t → IsBounded o → IsBounded (o + 1)
  bounded_in o true within ends bounded = record {
    count = omega (arith, ap length (after_line o within ends), length_push (ends_by text o) (o + 1), bounded.count);
    start = omega (arith, start_after_line o within ends);
  }
  bounded_in o false within more bounded = same_bounds o (in_line o within more) bounded

  bounded_next : (o : ℕ) → (o < length text) ⊎ (length text ≤ o) → IsBounded o → IsBounded (o + 1)
  bounded_next o (inl within) bounded = bounded_in o (ends_line (slice_index text o) (drop (o + 1) text)) within refl bounded
  bounded_next o (inr past) bounded = same_bounds o (ends_past (o + 1) (omega arith) ∙ sym (ends_past o past)) bounded

  bounded_at : (o : ℕ) → IsBounded o
  bounded_at zero = record { count = rw ends_at_start (omega arith); start = rw ends_at_start (omega arith) }
  bounded_at (suc o) = subst IsBounded (add-one o) (bounded_next o (cases_lt o (length text)) (bounded_at o))

  units_more : (s o : ℕ) → s ≤ o → o < length text → utf16_len (slice_range text s (o + 1)) ≡ utf16_len (slice_range text s o) + units_of (slice_index text o)
  units_more s o before within =
      let size : (o + 1) - s ≡ (o - s) + 1 = omega arith in
      let same : s + (o - s) ≡ o = omega arith in
      ap (λ n. utf16_len (take n (drop s text))) size
      ∙ sum_by_more units_of (drop s text) (o - s) 0 (omega (arith, length-drop s text))
      ∙ ap (λ b. utf16_len (slice_range text s o) + units_of b) (get_or-drop s text (o - s) 0 ∙ ap (slice_index text) same)

  pub at_start : record { line = 1; column = 1 } ≡ line_column text 0
  unfolding line_column
  at_start = sym (ap (λ l. record { line = length l + 1; column = utf16_len (slice_range text (slice_index (0 ∷ l) (length l)) 0) + 1 }) ends_at_start)

  module _ (o : ℕ) (place : LineColumn) (known : place ≡ line_column text o) where
    pub line_bound : place.line ≤ o + 1
    unfolding line_column
    line_bound = omega (arith, ap (λ (p : LineColumn). p.line) known, (bounded_at o).count)

    pub column_bound : place.column ≤ o * 2 + 1
    unfolding line_column
    column_bound =
        let part : List ℕ = slice_range text (line_start text o) o in
        omega (arith, ap (λ (p : LineColumn). p.column) known, units_bound part, length-take (o - line_start text o) (drop (line_start text o) text))

    pub next_line : o < length text → ends_line (slice_index text o) (drop (o + 1) text) ≡ true
        → record { line = place.line + 1; column = 1 } ≡ line_column text (o + 1)
    unfolding line_column
    next_line within ends =
        let line : place.line + 1 ≡ length (ends_by text (o + 1)) + 1
        = omega (arith, ap (λ (p : LineColumn). p.line) known, ap length (after_line o within ends), length_push (ends_by text o) (o + 1)) in
        let none : (o + 1) - (o + 1) ≡ 0 = omega arith in
        let column : 1 ≡ utf16_len (slice_range text (line_start text (o + 1)) (o + 1)) + 1
        = sym (ap (λ s. utf16_len (slice_range text s (o + 1)) + 1) (start_after_line o within ends)
        ∙ ap (λ n. utf16_len (take n (drop (o + 1) text)) + 1) none) in
        ap₂ (λ l c. record { line = l; column = c }) line column

    pub next_column : o < length text → ends_line (slice_index text o) (drop (o + 1) text) ≡ false
        → record { line = place.line; column = place.column + units_of (slice_index text o) } ≡ line_column text (o + 1)
    unfolding line_column
    next_column within more =
        let s = line_start text o in
        let line : place.line ≡ length (ends_by text (o + 1)) + 1
        = omega (arith, ap (λ (p : LineColumn). p.line) known, ap length (in_line o within more)) in
        let start = ap (λ l. slice_index (0 ∷ l) (length l)) (in_line o within more) in
        let column : place.column + units_of (slice_index text o) ≡ utf16_len (slice_range text (line_start text (o + 1)) (o + 1)) + 1
        = omega (
          arith,
          ap (λ (p : LineColumn). p.column) known,
          ap (λ l. utf16_len (slice_range text l (o + 1))) start,
          units_more s o (bounded_at o).start within,
        ) in
        ap₂ (λ l c. record { line = l; column = c }) line column

  -- an offset after the text has the place of the end
  pub past_end : (o : ℕ) → length text ≤ o → line_column text (length text) ≡ line_column text o
  unfolding line_column
  past_end o past =
      let same = ends_past (length text) (omega arith) ∙ sym (ends_past o past) in
      let s = line_start text (length text) in
      let start = ap (λ l. slice_index (0 ∷ l) (length l)) same in
      let whole = take_all (length text - s) (drop s text) (omega (arith, length-drop s text)) in
      let more = take_all (o - s) (drop s text) (omega (arith, length-drop s text)) in
      let column = ap utf16_len (whole ∙ sym more) ∙ ap (λ l. utf16_len (slice_range text l o)) start in
      ap₂ (λ l c. record { line = length l + 1; column = c + 1 }) same column

  -- the place at the smaller of an offset and the end is that of the offset
  at_smaller : (o at : ℕ) → at ≡ min o (length text) → (o < length text) ⊎ (length text ≤ o) → line_column text at ≡ line_column text o
  at_smaller o at least (inl within) = let same : at ≡ o = omega arith in ap (line_column text) same
  at_smaller o at least (inr past) = let same : at ≡ length text = omega arith in ap (line_column text) same ∙ past_end o past

  pub at_least : (o at : ℕ) → at ≡ min o (length text) → line_column text at ≡ line_column text o
  at_least o at least = at_smaller o at least (cases_lt o (length text))
