-- Facts on places in the text, and on the columns of a rest.
use Rattle.std.proofs.Common.{◌≡◌, ◌⊎◌, inl, inr, ℕ, zero, suc, ◌+◌, ◌-◌, ◌<◌, ◌≤◌, Bool, true, false, ◌==◌, List, ◌∷◌, length, drop, get_or, slice_index, []}
use Rattle.std.proofs.Common.{Option, Some, None, IsUtf8, IsCharBoundary, if◌then◌else◌, refl, sym, ap, subst, ◌∙◌, arith, length-drop, get_or-drop, drop-drop}
use Rattle.std.proofs.Common.{eqb-true}
use Rattle.first_pass_lines.proofs.Common.{prefix_len, prefix_len_passes, prefix_len-le-length, cases_lt, tab, space, greater_than, ascii_end, nat_tests}
use Rattle.first_pass_lines.proofs.Common.{begins, ends_line, line_len, is_line_end, is_content, is_white, is_number_sign}
use Rattle.std.proofs.lemmas.Option.{none-some}
use Rattle.std.proofs.lemmas.Str.{IsCharBoundary-after_ascii, IsCharBoundary-end}
use Rattle.first_pass_lines.specs.Rest.{Rest, past_byte, past_bytes, past_quote_byte, past_quote, column_of_byte, column_of, next_column, after_columns, indent}
use Rattle.first_pass_lines.specs.Places.{Place, place_at, offset, line_place, IsPlaceOf, moved_columns, moved_bytes, line_end, start_of, lines_at}
use Rattle.first_pass_lines.proofs.LineFacts.{line_len-none, line_len-step, line_len-some, line_len-within, line_len-content_first, lines_at-line}
use Rattle.first_pass_lines.proofs.LineFacts.{line_len-parts, line_len-inside, lines_at-end}
use Rattle.first_pass_lines.proofs.Columns.{after-more, after-none, indent-some, all-more, all-none}

-- after all columns are taken: no column is owed, and the next byte is neither a space nor a tab
byte_none : (r : Rest) (bs : List ℕ) → column_of_byte r bs ≡ None → (begins space bs ≡ false) × (begins tab bs ≡ false)
byte_none r [] h = (refl, refl)
byte_none r (b ∷ bs) h = (grind (arith, h), grind (arith, h))

owed_none : (o : ℕ) (r : Rest) → column_of o r ≡ None → (o ≡ 0) × (begins space r.left ≡ false) × (begins tab r.left ≡ false)
owed_none zero r h = let n = byte_none r r.left h in (refl, n.0, n.1)
owed_none (suc o) r h = cc

pub none_left : (r : Rest) → next_column r ≡ None → (r.owed ≡ 0) × (begins space r.left ≡ false) × (begins tab r.left ≡ false)
none_left r h = owed_none r.owed r h

no_more_step : (k : ℕ) (r : Rest) (o : Option Rest)
    → next_column r ≡ o → indent r ≤ suc k → ((s : Rest) → indent s ≤ k → next_column (after_columns k s) ≡ None) → next_column (after_columns (suc k) r) ≡ None
no_more_step k r None e h f = ap next_column (after-none (suc k) r e) ∙ e
no_more_step k r (Some s) e h f = ap next_column (after-more (suc k) k r s refl e) ∙ f s (omega (arith, indent-some r s e))

no_more_zero : (r : Rest) (o : Option Rest) → next_column r ≡ o → indent r ≤ 0 → next_column r ≡ None
no_more_zero r None e h = e
no_more_zero r (Some s) e h = absurd (omega (arith, indent-some r s e))

pub no_more : (k : ℕ) (r : Rest) → indent r ≤ k → next_column (after_columns k r) ≡ None
no_more zero r h = no_more_zero r (next_column r) refl h
no_more (suc k) r h = no_more_step k r (next_column r) refl h (no_more k)

pub all_columns : (r : Rest) → let s : Rest = after_columns (indent r) r in (s.owed ≡ 0) × (begins space s.left ≡ false) × (begins tab s.left ≡ false)
all_columns r = none_left (after_columns (indent r) r) (no_more (indent r) r (omega arith))

-- as many columns as there are, up to a limit that is no less than their number
up_to_step : (k : ℕ) (r : Rest) (o : Option Rest) → next_column r ≡ o → indent r ≤ suc k
    → ((s : Rest) → indent s ≤ k → after_columns k s ≡ after_columns (indent s) s) → after_columns (suc k) r ≡ after_columns (indent r) r
up_to_step k r None e h f = after-none (suc k) r e ∙ sym (all-none r e)
up_to_step k r (Some s) e h f = after-more (suc k) k r s refl e ∙ f s (omega (arith, indent-some r s e)) ∙ all-more r s e

pub all_columns_up_to : (k : ℕ) (r : Rest) → indent r ≤ k → after_columns k r ≡ after_columns (indent r) r
all_columns_up_to zero r h = let e : indent r ≡ 0 = omega arith in rw e
all_columns_up_to (suc k) r h = up_to_step k r (next_column r) refl h (all_columns_up_to k)

-- the columns that remain after some are taken

-- a byte of the rest after an offset
byte_at : (text : List ℕ) (o k : ℕ) (bs : List ℕ) → bs ≡ drop o text → get_or text (o + k) 0 ≡ get_or bs k 0
byte_at text o k bs h = sym (get_or-drop o text k 0) ∙ ap (λ xs. get_or xs k 0) (sym h)

-- the start of a line is a place of the text
pub line_is_place : (text : List ℕ) (s : ℕ) → IsCharBoundary text s → IsPlaceOf text (line_place s (drop s text))
line_is_place text s h = grind arith

-- after bytes that end on a character boundary, a place is still a place of the text
pub bytes_keep : (text : List ℕ) (p : Place) (n : ℕ) → IsPlaceOf text p → IsCharBoundary text (offset p + n) → IsPlaceOf text (moved_bytes n p)
bytes_keep text p n i h = grind (arith, drop-drop)

-- so it is after bytes whose last is ASCII
pub ascii_boundary : (text : List ℕ) (p : Place) (n : ℕ)
    → IsUtf8 text → IsPlaceOf text p → n < length p.rest.left → slice_index p.rest.left n < ascii_end → IsCharBoundary text (offset p + (n + 1))
ascii_boundary text p n u i l h =
    let d : length p.rest.left ≡ length text - offset p = ap length i.left ∙ length-drop (offset p) text in
    let b = byte_at text (offset p) n p.rest.left i.left in
    let e : offset p + (n + 1) ≡ offset p + n + 1 = omega arith in
    rw e (IsCharBoundary-after_ascii text (offset p + n) u (omega arith) (omega arith))

pub ascii_keeps : (text : List ℕ) (p : Place) (n : ℕ)
    → IsUtf8 text → IsPlaceOf text p → n < length p.rest.left → slice_index p.rest.left n < ascii_end → IsPlaceOf text (moved_bytes (n + 1) p)
ascii_keeps text p n u i l h = bytes_keep text p (n + 1) i (ascii_boundary text p n u i l h)

prefix_by : (test : ℕ → Bool) → ((b : ℕ) → test b ≡ true → b < ascii_end) → (text : List ℕ) (p : Place) (n : ℕ) → IsUtf8 text → IsPlaceOf text p
    → n ≡ prefix_len test p.rest.left → IsPlaceOf text (moved_bytes n p)
prefix_by test ascii text p zero u i e = let o : offset p + 0 ≡ offset p = omega arith in bytes_keep text p 0 i (rw o i.boundary)
prefix_by test ascii text p (suc n) u i e =
    let fits = prefix_len-le-length test p.rest.left in
    let s : suc n ≡ n + 1 = omega arith in
    rw s (ascii_keeps text p n u i (omega arith) (ascii _ (prefix_len_passes test p.rest.left n 0 (omega arith))))

-- and after the longest prefix of bytes that pass a test that only ASCII bytes pass
pub prefix_keeps : (test : ℕ → Bool) → ((b : ℕ) → test b ≡ true → b < ascii_end) → (text : List ℕ) (p : Place) → IsUtf8 text → IsPlaceOf text p
    → IsPlaceOf text (moved_bytes (prefix_len test p.rest.left) p)
prefix_keeps test ascii text p u i = prefix_by test ascii text p (prefix_len test p.rest.left) u i refl

pub white_keeps : (text : List ℕ) (p : Place) → IsUtf8 text → IsPlaceOf text p → IsPlaceOf text (moved_bytes (prefix_len is_white p.rest.left) p)
white_keeps text p u i = prefix_keeps is_white (λ b h. grind (arith, nat_tests, h)) text p u i

-- White space after a character boundary ends at one.
pub white_boundary : (text : List ℕ) (at : ℕ) → IsUtf8 text → IsCharBoundary text at → IsCharBoundary text (at + prefix_len is_white (drop at text))
white_boundary text at u b = subst (IsCharBoundary text) (omega arith) (white_keeps text (line_place at (drop at text)) u (line_is_place text at b)).boundary

pub signs_keep : (text : List ℕ) (p : Place) → IsUtf8 text → IsPlaceOf text p → IsPlaceOf text (moved_bytes (prefix_len is_number_sign p.rest.left) p)
signs_keep text p u i = prefix_keeps is_number_sign (λ b h. grind (arith, nat_tests, h)) text p u i

-- and after columns
byte_by : (t u : Bool) (r s : Rest) (b : ℕ) (bs : List ℕ)
    → (b == space) ≡ t → (b == tab) ≡ u → column_of_byte r (b ∷ bs) ≡ Some s → (b < ascii_end) × (s.left ≡ bs) × (s.taken ≡ r.taken + 1) × (is_content b ≡ true)
byte_by true u r s b bs h h' e = grind (arith, nat_tests)
byte_by false true r s b bs h h' e = grind (arith, nat_tests)
byte_by false false r s b bs h h' e = absurd (grind (arith, h, h', e))

-- What an owed column keeps, and what the column of a space or a tab keeps, all columns keep.
module _ (P : Rest → Type 0) (owes : (o : ℕ) (r : Rest) → P r → P (record r { owed = o }))
    (byte : (b : ℕ) (r s : Rest) → b < ascii_end → is_content b ≡ true → b ∷ s.left ≡ r.left → s.taken ≡ r.taken + 1 → P r → P s) where
  byte_holds : (r s : Rest) (bs : List ℕ) → bs ≡ r.left → column_of_byte r bs ≡ Some s → P r → P s
  byte_holds r s [] e h = absurd (none-some s h)
  byte_holds r s (b ∷ bs) e h = grind (arith, byte_by)

  column_holds : (o : ℕ) (r s : Rest) → column_of o r ≡ Some s → P r → P s
  column_holds zero r s h p = byte_holds r s r.left refl h p
  column_holds (suc o) r s h p = let e : record r { owed = o } ≡ s = cc in subst P e (owes o r p)

  hold_by : (k : ℕ) (r : Rest) (o : Option Rest) → next_column r ≡ o → ((s : Rest) → P s → P (after_columns k s)) → P r → P (after_columns (suc k) r)
  hold_by k r None e f p = subst P (sym (after-none (suc k) r e)) p
  hold_by k r (Some s) e f p = subst P (sym (after-more (suc k) k r s refl e)) (f s (column_holds r.owed r s e p))

  pub columns_hold : (k : ℕ) (r : Rest) → P r → P (after_columns k r)
  columns_hold zero r p = p
  columns_hold (suc k) r p = hold_by k r (next_column r) refl (columns_hold k) p

byte_moves : (text : List ℕ) (line b : ℕ) (r s : Rest) → IsUtf8 text → b < ascii_end → b ∷ s.left ≡ r.left → s.taken ≡ r.taken + 1
    → IsPlaceOf text (place_at line r) → IsPlaceOf text (place_at line s)
byte_moves text line b r s u small left taken i =
    let p : Place = place_at line r in
    let o : line + s.taken ≡ offset p + 1 = omega (arith, taken) in
    let some : length r.left ≡ suc (length s.left) = ap length (sym left) in
    let first : slice_index r.left 0 ≡ b = ap (λ l. slice_index l 0) (sym left) in
    let c : IsCharBoundary text (line + s.taken) = rw o (ascii_boundary text p 0 u i (omega arith) (omega arith)) in
    record { left = ap (drop 1) (left ∙ i.left) ∙ drop-drop 1 (offset p) text ∙ ap (λ k. drop k text) (sym o); within = c.0; boundary = c }

pub columns_keep : (text : List ℕ) (k : ℕ) (p : Place) → IsUtf8 text → IsPlaceOf text p → IsPlaceOf text (moved_columns k p)
columns_keep text k p u i =
    columns_hold (λ r. IsPlaceOf text (place_at p.line r)) (λ o r j. record { left = j.left; within = j.within; boundary = j.boundary })
    (λ b r s small plain left taken j. byte_moves text p.line b r s u small left taken j) k p.rest i

-- the same for a rest that a call has changed

pub taken_columns : (text : List ℕ) (k line : ℕ) (r s : Rest)
    → IsUtf8 text → s ≡ after_columns k r → IsPlaceOf text (place_at line r) → IsPlaceOf text (place_at line s)
taken_columns text k line r s u e i = subst (λ q. IsPlaceOf text (place_at line q)) (sym e) (columns_keep text k (place_at line r) u i)

-- a line ends after a byte of a line ending, or with the text
last_step : (t : Bool) (b : ℕ) (bs : List ℕ)
    → ends_line b bs ≡ t → (0 < length bs → (is_line_end (slice_index bs (line_len bs - 1)) ≡ true) ⊎ (line_len bs ≡ length bs))
    → (is_line_end (slice_index (b ∷ bs) (line_len (b ∷ bs) - 1)) ≡ true) ⊎ (line_len (b ∷ bs) ≡ length (b ∷ bs))
last_step true b bs h f = grind (arith, line_len-step, nat_tests)
last_step false b [] h f = grind (arith, line_len-step, line_len-none)
last_step false b (c ∷ cs) h f =
    let e : line_len (b ∷ c ∷ cs) ≡ line_len (c ∷ cs) + 1 = line_len-step b (c ∷ cs) ∙ rw h in
    let some = line_len-some (c ∷ cs) (omega arith) in
    let k : line_len (b ∷ c ∷ cs) - 1 ≡ suc (line_len (c ∷ cs) - 1) = omega arith in
    elim (f (omega arith)) [ inl line ↦ inl (rw k line) | inr all ↦ inr (omega arith) ]

pub last_of_line : (bs : List ℕ) → 0 < length bs → (is_line_end (slice_index bs (line_len bs - 1)) ≡ true) ⊎ (line_len bs ≡ length bs)
last_of_line [] h = absurd (omega arith)
last_of_line (b ∷ bs) h = last_step (ends_line b bs) b bs refl (last_of_line bs)

end_by : (text : List ℕ) (s : ℕ) (bs : List ℕ) → bs ≡ drop s text → IsUtf8 text → s < length text → 0 < line_len bs → s + line_len bs ≤ length text
    → length bs ≡ length text - s → (is_line_end (slice_index bs (line_len bs - 1)) ≡ true) ⊎ (line_len bs ≡ length bs)
    → IsCharBoundary text (s + line_len bs)
end_by text s bs e u l some fits d (inl line) =
    let small : slice_index bs (line_len bs - 1) < ascii_end = grind (arith, nat_tests, line) in
    let b = byte_at text s (line_len bs - 1) bs e in
    let k : s + line_len bs ≡ s + (line_len bs - 1) + 1 = omega arith in
    rw k (IsCharBoundary-after_ascii text (s + (line_len bs - 1)) u (omega arith) (omega arith))
end_by text s bs e u l some fits d (inr all) = grind (arith, IsCharBoundary-end)

pub line_end_boundary : (text : List ℕ) (s : ℕ) → IsUtf8 text → IsCharBoundary text s → s < length text → IsCharBoundary text (s + line_len (drop s text))
line_end_boundary text s u h l = grind (arith, line_len-within, length-drop, end_by, last_of_line)

-- the content of a line ends before an ASCII byte, or with the text

-- the same from a later place in the line
pub place_line_end : (text : List ℕ) (p : Place)
    → IsUtf8 text → IsPlaceOf text p → 0 < length p.rest.left → IsCharBoundary text (offset p + line_len p.rest.left)
place_line_end text p u i h = grind (arith, length-drop, line_end_boundary)

-- the number of bytes from a place to the end of the text
pub place_length : (text : List ℕ) (p : Place) → IsPlaceOf text p → offset p + length p.rest.left ≡ length text
place_length text p i = grind (arith, length-drop)

-- the end of a line is the same before and after columns or content bytes are taken
content_first : (b : ℕ) (bs : List ℕ) → is_content b ≡ true → prefix_len is_content (b ∷ bs) ≡ prefix_len is_content bs + 1
content_first b bs h = rw h (omega arith)

pub columns_line_end : (k : ℕ) (p : Place) → line_end (moved_columns k p) ≡ line_end p
columns_line_end k p =
    columns_hold (λ r. line_end (place_at p.line r) ≡ line_end p) (λ o r e. e)
    (λ b r s small plain left taken e. omega (arith, taken, e, line_len-content_first b s.left plain, ap line_len left)) k p.rest refl

pub bytes_line_end : (n : ℕ) (p : Place) → n ≤ prefix_len is_content p.rest.left → line_end (moved_bytes n p) ≡ line_end p
bytes_line_end n p w = grind (arith, line_len-parts, cases_lt, line_len-inside)

-- the starts of the lines from an offset on, each on a character boundary
start_by : (text : List ℕ) (s : ℕ) → s ≤ length text → (s < length text) ⊎ (length text ≤ s) → start_of (length text) (lines_at s (drop s text)) ≡ s
start_by text s h (inl l) = ap (start_of (length text)) (lines_at-line text s l)
start_by text s h (inr l) = ap (start_of (length text)) (lines_at-end text s l) ∙ omega arith

pub start_of-lines : (text : List ℕ) (s : ℕ) → s ≤ length text → start_of (length text) (lines_at s (drop s text)) ≡ s
start_of-lines text s h = start_by text s h (cases_lt s (length text))

quote_byte_by : (t : Bool) (r s : Rest) (b : ℕ) (bs : List ℕ) → (b == greater_than) ≡ t → b ∷ bs ≡ r.left → (if t then Some (past_byte r bs) else None) ≡ Some s
    → (s ≡ past_bytes 1 r) × (0 < length r.left) × (slice_index r.left 0 < ascii_end) × (1 ≤ prefix_len is_content r.left)
quote_byte_by true r s b bs h e q = grind (arith, content_first)
quote_byte_by false r s b bs h e q = absurd (none-some s q)

quote_byte : (r s : Rest) (bs : List ℕ) → bs ≡ r.left → past_quote_byte r bs ≡ Some s
    → (s ≡ past_bytes 1 r) × (0 < length r.left) × (slice_index r.left 0 < ascii_end) × (1 ≤ prefix_len is_content r.left)
quote_byte r s [] e q = absurd (none-some s q)
quote_byte r s (b ∷ bs) e q = quote_byte_by (b == greater_than) r s b bs refl e q

quote_by : (t : Bool) (r s : Rest) → (if t then past_quote_byte r r.left else None) ≡ Some s
    → (s ≡ past_bytes 1 r) × (0 < length r.left) × (slice_index r.left 0 < ascii_end) × (1 ≤ prefix_len is_content r.left)
quote_by true r s q = quote_byte r s r.left refl q
quote_by false r s q = absurd (none-some s q)

-- after a block quote marker
pub quote_keeps : (text : List ℕ) (line : ℕ) (r s : Rest)
    → IsUtf8 text → past_quote r ≡ Some s → IsPlaceOf text (place_at line r) → IsPlaceOf text (place_at line s)
quote_keeps text line r s u q i =
    let f = quote_by (r.owed == 0) r s q in
    subst (λ z. IsPlaceOf text (place_at line z)) (sym f.0) (ascii_keeps text (place_at line r) 0 u i f.1 f.2)

pub quote_line_end : (line : ℕ) (r s : Rest) → past_quote r ≡ Some s → line_end (place_at line s) ≡ line_end (place_at line r)
quote_line_end line r s q =
    let f = quote_by (r.owed == 0) r s q in
    ap (λ z. line_end (place_at line z)) f.0 ∙ bytes_line_end 1 (place_at line r) f.3

-- Taking columns adds no bytes to the rest.
pub columns_shorter : (k : ℕ) (r : Rest) → length (after_columns k r).left ≤ length r.left
columns_shorter k r =
    columns_hold (λ s. length s.left ≤ length r.left) (λ o s h. h) (λ b q s small plain left taken h. omega (arith, h, ap length left)) k r (omega arith)

-- A block quote marker takes at least one byte.
pub quote_shorter : (r s : Rest) → past_quote r ≡ Some s → length s.left < length r.left
quote_shorter r s q = grind (arith, quote_by, length-drop)
