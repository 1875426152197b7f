-- In a text in UTF-8, both ends of the range of an info string, a label or attributes are on character boundaries.
use Rattle.std.proofs.Common.{◌≡◌, ℕ, zero, suc, ◌+◌, ◌-◌, ◌<◌, ◌≤◌, ◌==◌, not, Bool, true, List, [], ◌∷◌, All, length, take, drop, min, reverse, get_or}
use Rattle.std.proofs.Common.{slice_index, Option, Some, IfSome, IsUtf8, IsCharBoundary, refl, sym, ap, subst, ◌∙◌, arith, inl, inr, eqb-true}
use Rattle.std.proofs.Common.{drop-drop, get_or-drop, get_or-take, length-drop, length-take, length-take-le}
use Rattle.first_pass_grammar.proofs.Common.{prefix_len, suffix_len, Range, cond_both, and_parts, cases_lt, nat_tests, get_or-reverse, length-reverse}
use Rattle.first_pass_grammar.proofs.Common.{All-nil, prefix_len_stops, suffix_len-le-length, IsCharBoundary-after_ascii}
use Rattle.first_pass_grammar.proofs.Common.{IsCharBoundary-before_ascii, IsCharBoundary-end, left_bracket, circumflex, left_brace, right_brace, ascii_end}
use Rattle.first_pass_grammar.proofs.Common.{CowIndex, Item, ItemBody, FencedCodeBlock, FootnoteDefinition, is_white, is_white_or_line_end, begins, line_len}
use Rattle.first_pass_grammar.proofs.Common.{line_place, line_len-fits, line_is_place, run_len, code_fence, begins_footnote_mark, first_byte}
use Rattle.first_pass_grammar.proofs.Common.{is_bracket, label_len, trimmed, info_string}
use Rattle.std.proofs.lemmas.Bool.{not-false}
use Rattle.first_pass_lines.proofs.PlaceFacts.{prefix_keeps, white_boundary}
use Rattle.first_pass_links.proofs.Destinations.{StopsAt, first-drop, upto_stops}
use Rattle.first_pass_places.specs.AttributeBlockPlaces.{attribute_block_range, block_range, upto_last}
use Rattle.first_pass_places.specs.FootnoteLabels.{label_range}
use Rattle.first_pass_places.specs.InfoStrings.{fence_end, info_range}
use Rattle.first_pass_places.specs.NamePlaces.{HasWholeStart, HasNameOnBoundaries, HaveWholeStarts, name_range, name_range_by}
use Rattle.first_pass_places.specs.RangeEnds.{IsAsciiAt, EndsAreBoundaries}
use Rattle.first_pass_tokens.proofs.OrderLemmas.{trimmed_boundary}
use Rattle.first_pass_places.proofs.BlockPlaces.{part_at}
use Rattle.first_pass_places.proofs.InfoFacts.{fence_is, trimmed_length}

-- a code fence begins with ASCII
pub ascii_fence : (text : List ℕ) (start : ℕ) (fence : ℕ × ℕ) → code_fence (drop start text) ≡ Some fence → IsAsciiAt text start
ascii_fence text start fence h =
    let here = first-drop start text in
    let small = (fence_is (drop start text) fence h).ascii in
    omega (arith, small, here)

-- before and after an ASCII byte in a part of a text
pub around_ascii : (text : List ℕ) (start n k : ℕ) → IsUtf8 text → k < length (take n (drop start text)) → slice_index (take n (drop start text)) k < ascii_end
    → IsCharBoundary text (start + k) × IsCharBoundary text (start + k + 1)
around_ascii text start n k u less small =
    let cut = length-take n (drop start text) in
    let rest = length-drop start text in
    let read = part_at text start n k (omega (arith, less, cut)) in
    let within : start + k < length text = omega (arith, less, cut, rest) in
    let ascii : slice_index text (start + k) < ascii_end = omega (arith, read, small) in
    (IsCharBoundary-before_ascii text (start + k) within ascii, IsCharBoundary-after_ascii text (start + k) u within ascii)

-- the second byte of the `[^` of a footnote definition is ASCII
pub ascii_footnote : (text : List ℕ) (start : ℕ) → begins_footnote_mark (drop start text) ≡ true → IsAsciiAt text (start + 1)
ascii_footnote text start h =
    let rest : List ℕ = drop 1 (drop start text) in
    let byte = (first_byte circumflex rest 0 (and_parts (begins left_bracket (drop start text)) (begins circumflex rest) h).1).1 in
    let here : slice_index rest 0 ≡ slice_index text (start + 1) = ap (λ l. slice_index l 0) (drop-drop 1 start text) ∙ first-drop (start + 1) text in
    omega (arith, byte, here)

-- the end of a code fence whose byte is ASCII
fence_between : (text : List ℕ) (start : ℕ) → IsUtf8 text → start ≤ length text → IsAsciiAt text start → IsCharBoundary text (fence_end text start)
fence_between text start u within small =
    let c : ℕ = slice_index (drop start text) 0 in
    let here : c ≡ slice_index text start = first-drop start text in
    let ascii : (k : ℕ) → (k == c) ≡ true → k < ascii_end = λ k h. let e = eqb-true k c h in omega (arith, e, here, small) in
    let e : start + (0 + run_len c (drop start text)) ≡ fence_end text start = omega arith in
    let b : IsCharBoundary text start = (within, λ less big. omega (arith, small, big)) in
    subst (IsCharBoundary text) e (prefix_keeps (λ k. k == c) ascii text (line_place start (drop start text)) u (line_is_place text start b)).boundary

-- the end of a line without the white space there
trimmed_between : (text : List ℕ) (at : ℕ) → IsUtf8 text → IsCharBoundary text at
    → IsCharBoundary text (at + length (trimmed (take (line_len (drop at text)) (drop at text))))
trimmed_between text at u b =
    let m : ℕ = line_len (drop at text) in
    let line : List ℕ = take m (drop at text) in
    let whole = length-take-le m (drop at text) (line_len-fits (drop at text)) in
    let short = suffix_len-le-length is_white_or_line_end line in
    let e : at + m - suffix_len is_white_or_line_end line ≡ at + length (trimmed line) = omega (arith, trimmed_length (drop at text), whole, short) in
    subst (IsCharBoundary text) e (trimmed_boundary text at u b)

-- an info string
pub info_between : (text : List ℕ) (start : ℕ) → IsUtf8 text → start ≤ length text → IsAsciiAt text start
    → EndsAreBoundaries text (info_range text start)
unfolding info_range info_string
info_between text start u within small =
    let at : ℕ = fence_end text start in
    let white : ℕ = prefix_len is_white (drop at text) in
    let first : IsCharBoundary text (at + white) = white_boundary text at u (fence_between text start u within small) in
    let same : drop (at + white) text ≡ drop white (drop at text) = sym (drop-drop white at text) in
    let last = trimmed_between text (at + white) u first in
    (first, subst (λ (bs : List ℕ). IsCharBoundary text (at + white + length (trimmed (take (line_len bs) bs)))) same last)

-- the label of a footnote
label_start : (text : List ℕ) (start : ℕ) → IsUtf8 text → IsAsciiAt text (start + 1) → IsCharBoundary text (min (length text) (start + 2))
label_start text start u small = elim (cases_lt (start + 1) (length text)) as (λ _. IsCharBoundary text (min (length text) (start + 2))) [
  | inl less ↦ (
      let e : start + 1 + 1 ≡ min (length text) (start + 2) = omega (arith, less) in
      subst (IsCharBoundary text) e (IsCharBoundary-after_ascii text (start + 1) u less small))
  | inr past ↦ (let e : length text ≡ min (length text) (start + 2) = omega (arith, past) in subst (IsCharBoundary text) e (IsCharBoundary-end text))
]

label_end : (text : List ℕ) (at : ℕ) → at ≤ length text → IsCharBoundary text (at + label_len (drop at text))
label_end text at within =
    let bs : List ℕ = drop at text in
    let k : ℕ = label_len bs in
    let size : length bs ≡ length text - at = length-drop at text in
    let stop : StopsAt is_bracket bs k = upto_stops is_bracket 0 bs in
    let fits = stop.0 in
    elim (cases_lt k (length bs)) as (λ _. IsCharBoundary text (at + label_len (drop at text))) [
      | inl less ↦ (
          let met = stop.1 less in
          let small : slice_index bs k < ascii_end = grind (arith, nat_tests, met) in
          let read : slice_index bs k ≡ slice_index text (at + k) = get_or-drop at text k 0 in
          IsCharBoundary-before_ascii text (at + k) (omega (arith, less, size)) (omega (arith, small, read)))
      | inr past ↦ (let e : length text ≡ at + k = omega (arith, past, fits, size, within) in subst (IsCharBoundary text) e (IsCharBoundary-end text))
    ]

pub label_between : (text : List ℕ) (start : ℕ) → IsUtf8 text → IsAsciiAt text (start + 1) → EndsAreBoundaries text (label_range text start)
unfolding label_range
label_between text start u small = grind (arith, label_start, label_end)

-- if `upto_last` is not 0, the byte before it is in the list, and equals `c`
last_at : (c : ℕ) (bs : List ℕ) (n : ℕ) → upto_last c bs ≡ suc n → (n < length bs) × (slice_index bs n ≡ c)
last_at c bs n e =
    let other : ℕ → Bool = λ b. not (b == c) in
    let m : ℕ = suffix_len other bs in
    let fits : m ≤ length bs = suffix_len-le-length other bs in
    let turned : length (reverse bs) ≡ length bs = length-reverse bs in
    let size : length bs - m ≡ suc n = e in
    let place : length bs - 1 - m ≡ n = omega (arith, size) in
    let read : get_or (reverse bs) m 0 ≡ slice_index bs n = get_or-reverse bs m 0 (omega (arith, size)) ∙ ap (slice_index bs) place in
    let stop = prefix_len_stops other (reverse bs) 0 (omega (arith, size, turned)) in
    (omega (arith, size), eqb-true (slice_index bs n) c (not-false (slice_index bs n == c) (ap other (sym read) ∙ stop)))

-- before the last `}` of a part of a text
before_brace : (text : List ℕ) (start n : ℕ) → IsUtf8 text → IsCharBoundary text start → (m : ℕ) → upto_last right_brace (take n (drop start text)) ≡ m
    → IsCharBoundary text (start + (m - 1))
before_brace text start n u b zero e = let same : start ≡ start + (0 - 1) = omega arith in subst (IsCharBoundary text) same b
before_brace text start n u b (suc k) e =
    let last = last_at right_brace (take n (drop start text)) k e in
    let byte = last.1 in
    let same : start + k ≡ start + (suc k - 1) = omega arith in
    subst (IsCharBoundary text) same (around_ascii text start n k u last.0 (omega (arith, byte))).0

-- after the last `{` in the first bytes of a part of a text
after_brace : (text : List ℕ) (start n j : ℕ) → IsUtf8 text → IsCharBoundary text start → (m : ℕ)
    → upto_last left_brace (take j (take n (drop start text))) ≡ m → IsCharBoundary text (start + m)
after_brace text start n j u b zero e = let same : start ≡ start + 0 = omega arith in subst (IsCharBoundary text) same b
after_brace text start n j u b (suc k) e =
    let part : List ℕ = take n (drop start text) in
    let last = last_at left_brace (take j part) k e in
    let less = last.0 in
    let byte = last.1 in
    let cut = length-take j part in
    let read : slice_index (take j part) k ≡ slice_index part k = get_or-take j part k 0 (omega (arith, less, cut)) in
    let same : start + k + 1 ≡ start + suc k = omega arith in
    subst (IsCharBoundary text) same (around_ascii text start n k u (omega (arith, less, cut)) (omega (arith, read, byte))).1

-- the block of a heading
block_between : (text : List ℕ) (start e : ℕ) → IsUtf8 text → IsCharBoundary text start → EndsAreBoundaries text (block_range text start e)
unfolding block_range
block_between text start e u b =
    let n : ℕ = e - start in
    let part : List ℕ = take n (drop start text) in
    let closing : ℕ = upto_last right_brace part - 1 in
    (after_brace text start n closing u b (upto_last left_brace (take closing part)) refl, before_brace text start n u b (upto_last right_brace part) refl)

pub attributes_between : (text : List ℕ) (x : Item) → IsUtf8 text → IsCharBoundary text x.start
    → IfSome (attribute_block_range text x) (λ range. EndsAreBoundaries text range)
attributes_between text x u b = grind (arith, cond_both, block_between)

-- what a node names
name_by : (body : ItemBody) (text : List ℕ) (x : Item) → IsUtf8 text → x.start ≤ length text → HasWholeStart body text x.start
    → IfSome (name_range_by body text x) (λ range. EndsAreBoundaries text range)
name_by (FencedCodeBlock ix) text x u within mark = info_between text x.start u within mark
name_by (FootnoteDefinition ix) text x u within mark = label_between text x.start u mark
name_by _ text x u within mark = attributes_between text x u mark

pub name_between : (text : List ℕ) (x : Item) (found : Option (Range ℕ)) → found ≡ name_range text x → x.start ≤ x.«end» → x.«end» ≤ length text
    → IsUtf8 text → HasWholeStart x.body text x.start → IfSome found (λ range. EndsAreBoundaries text range)
name_between text x found is order within u mark = grind (arith, name_by)

-- what each of these nodes names
pub names_between : (text : List ℕ) (nodes : List (ℕ × Item)) → IsUtf8 text → HaveWholeStarts text nodes
    → All (λ n. HasNameOnBoundaries text n.1) nodes
names_between text [] u h = All-nil (λ (n : ℕ × Item). HasNameOnBoundaries text n.1)
names_between text (n ∷ nodes) u h = grind (arith, name_between, names_between text nodes u h.1)

-- a node of another kind
pub other_name : (body : ItemBody) (text : List ℕ) (x : Item) → ((ix : CowIndex) → body ≡ FencedCodeBlock ix → ⊥)
    → ((ix : CowIndex) → body ≡ FootnoteDefinition ix → ⊥) → name_range_by body text x ≡ attribute_block_range text x
other_name (FencedCodeBlock ix) text x no_code no_footnote = absurd (no_code ix refl)
other_name (FootnoteDefinition ix) text x no_code no_footnote = absurd (no_footnote ix refl)
other_name _ text x no_code no_footnote = refl
