-- Tokens, one after the other: a chain in order stays in order if a token is appended, and the tokens of a line or a
-- cell are in order.
use Rattle.std.proofs.Common.{ℕ, zero, suc, ◌≡◌, ◌⊎◌, ◌+◌, ◌-◌, ◌≤◌, ◌<◌, ◌==◌, min, Bool, true, false, List, ◌∷◌, ◌++◌, length, take, get_or, slice_index}
use Rattle.std.proofs.Common.{nat_lt, Option, Some, None, IfSome, IsUtf8, IsCharBoundary, refl, sym, ap, subst, inl, inr, arith, drop, slice_range, length-drop}
use Rattle.std.proofs.Common.{length-take, get_or-take, eqb-true, []}
use Rattle.first_pass_tokens.proofs.Common.{CowStr, Item, cases_lt, cases_Bool, cond_both, false≢true, backslash, ascii_end, Piece, MathBraces, braces_after}
use Rattle.first_pass_tokens.proofs.Common.{Left, Begins, Token, Run, nat_tests, Inline, found_at, size, Spot, spot, content_ends_at, ends_cell, ArePieces}
use Rattle.first_pass_tokens.proofs.Common.{AreLineTokens, IsCell, EndsLine, add_pieces, breaks_by_backslash, line_end_len, text_token, token, run_tokens}
use Rattle.first_pass_tokens.proofs.Common.{add_token, add_tokens, add_text, is_backslash_break, close_break, is_line_end, is_white_or_line_end, line_len}
use Rattle.first_pass_tokens.proofs.Common.{IsCharBoundary-after_ascii, IsCharBoundary-before_ascii, IsCharBoundary-end, suffix_len, suffix_len-le-length}
use Rattle.first_pass_tokens.proofs.Common.{line_len-fits, line_end_boundary, HeldText}
use Rattle.first_pass_tokens.specs.HeldText.{held_after}
use Rattle.first_pass_tokens.specs.LineTokens.{text_end, backslashes_at_end, blanks_at_end, line_break}
use Rattle.first_pass_tokens.proofs.InOrder.{AreInOrder}
use Rattle.first_pass_tokens.proofs.ChainLemmas.{add_text-none, add_token-by}
use Rattle.first_pass_tokens.proofs.PieceFacts.{IsVisible, IsMark, Each, IsPieceAt, mark_facts, piece_byte, at_byte}
use Rattle.first_pass_tokens.proofs.LineLemmas.{piece_of, pieces_reach, ended_by, content_of, ends_line, last_passes, content_passes, end_bounded, break_some}
use Rattle.first_pass_tokens.proofs.SoFar.{IsHeld, chain_after, held_start, held_piece, shown_piece, begins_on, IsTextEnd, line_text_end, cell_text_end}

-- the first of two offsets is not after the other
pub order_bound : (text : List ℕ) (from to : ℕ) (chain : List Item) → AreInOrder text from to chain → from ≤ to
order_bound text from to [] h = h
order_bound text from to (x ∷ xs) h = omega (arith, h.0, h.1, order_bound text x.«end» to xs h.4)

-- a later end
pub order_to : (text : List ℕ) (from mid to : ℕ) (chain : List Item) → AreInOrder text from mid chain → mid ≤ to → AreInOrder text from to chain
order_to text from mid to [] h more = omega arith
order_to text from mid to (x ∷ xs) h more = (h.0, h.1, h.2, h.3, order_to text x.«end» mid to xs h.4 more)

-- an earlier start
pub order_from : (text : List ℕ) (low from to : ℕ) (chain : List Item) → AreInOrder text from to chain → low ≤ from → AreInOrder text low to chain
order_from text low from to [] h less = omega arith
order_from text low from to (x ∷ xs) h less = (omega (arith, h.0), h.1, h.2, h.3, h.4)

-- another list in order is appended
pub order_append : (text : List ℕ) (from mid to : ℕ) (xs ys : List Item)
    → AreInOrder text from mid xs → AreInOrder text mid to ys → AreInOrder text from to (xs ++ ys)
order_append text from mid to [] ys h k = order_from text from mid to ys k h
order_append text from mid to (x ∷ xs) ys h k = (h.0, h.1, h.2, h.3, order_append text x.«end» mid to xs ys h.4 k)

-- a token is appended
pub order_add : (text : List ℕ) (from mid : ℕ) (chain : List Item) (y : Item) → AreInOrder text from mid chain → mid ≤ y.start → y.start ≤ y.«end»
    → IsCharBoundary text y.start → IsCharBoundary text y.«end» → AreInOrder text from y.«end» (add_token chain y)
order_add text from mid chain y h following order starts ends =
    add_token-by (λ xs ys. (low : ℕ) → AreInOrder text low mid xs → AreInOrder text low y.«end» ys) y
    (λ low h. (omega arith, order, starts, ends, omega arith)) (λ x t first second place low h. (h.0, omega (arith, h.1, h.4), h.2, ends, omega arith))
    (λ x xs ys add low h. (h.0, h.1, h.2, h.3, add x.«end» h.4)) chain from h

-- tokens in order are appended
pub order_adds : (text : List ℕ) (from mid to : ℕ) (chain tokens : List Item)
    → AreInOrder text from mid chain → AreInOrder text mid to tokens → AreInOrder text from to (add_tokens chain tokens)
order_adds text from mid to chain [] h k = order_to text from mid to chain h k
order_adds text from mid to chain (x ∷ xs) h k = order_adds text from x.«end» to (add_token chain x) xs (order_add text from mid chain x h k.0 k.1 k.2 k.3) k.4

-- a text is appended, or nothing
pub order_text : (text : List ℕ) (from mid a b : ℕ) (escaped : Bool) (chain : List Item)
    → AreInOrder text from mid chain → mid ≤ a → a ≤ b → IsCharBoundary text a → IsCharBoundary text b → AreInOrder text from b (add_text a b escaped chain)
order_text text from mid a b escaped chain h following order starts ends =
    cond_both (nat_lt a b) (add_token chain (text_token a b escaped)) chain (AreInOrder text from b)
    (λ some. order_add text from mid chain (text_token a b escaped) h following order starts ends)
    (λ none. order_to text from mid b chain h (omega arith))

-- A chain is in order from the start of a content up to the pending text, which begins between two characters.
record IsOrdered (s : Inline) (p : HeldText) (chain : List Item) : Type 0 where
  starts : IsCharBoundary s.text p.begin
  order : AreInOrder s.text s.start p.begin chain

module _ (s : Inline) (utf8 : IsUtf8 s.text) where
  -- there is a place between two characters before a visible byte
  place_before : (at : ℕ) → IsVisible (slice_index s.text at) → IsCharBoundary s.text at
  place_before at h = IsCharBoundary-before_ascii s.text at (at_byte s.text at (omega (arith, h.0))) (omega (arith, h.1))

  place_past : (at : ℕ) → 0 < at → IsVisible (slice_index s.text (at - 1)) → IsCharBoundary s.text at
  place_past at some h = grind (arith, IsCharBoundary-after_ascii, at_byte)

  -- the tokens of a run
  run_in_order : (at n : ℕ) (opens closes : Bool) → Each IsMark s.text at n → AreInOrder s.text at (at + n) (run_tokens at n opens closes)
  run_in_order at zero opens closes marks = omega arith
  run_in_order at (suc n) opens closes marks =
      let here : IsVisible (slice_index s.text at) = (mark_facts _ (marks at (omega arith) (omega arith))).visible in
      let back : at + 1 - 1 ≡ at = omega arith in
      let past : at + 1 + n ≡ at + suc n = omega arith in (
        omega arith,
        omega arith,
        place_before at here,
        place_past (at + 1) (omega arith) (subst (λ (k : ℕ). IsVisible (slice_index s.text k)) (sym back) here),
        subst (λ (e : ℕ). AreInOrder s.text (at + 1) e (run_tokens (at + 1) n opens closes)) past
            (run_in_order (at + 1) n opens closes (λ k low high. marks k (omega arith) (omega arith))),
      )

  -- the pending text and the tokens of a piece are appended, and another text is pending
  order_next : (at to : ℕ) (escaped : Bool) (p : HeldText) (chain tokens : List Item) → IsHeld s.text s.start p at → IsOrdered s p chain
      → IsVisible (slice_index s.text at) → IsCharBoundary s.text to → AreInOrder s.text at to tokens
      → IsOrdered s (record { begin = to; escaped = escaped }) (add_tokens (add_text p.begin at p.escaped chain) tokens)
  order_next at to escaped p chain tokens h o byte ends order =
      let held = order_text s.text s.start p.begin p.begin at p.escaped chain o.order (omega arith) h.upto o.starts (place_before at byte) in
      record { starts = ends; order = order_adds s.text s.start at to (add_text p.begin at p.escaped chain) tokens held order }

  -- one more piece
  order_piece : (at : ℕ) (q : Piece) (p : HeldText) (chain : List Item) → IsPieceAt s.text at q → IsHeld s.text s.start p at → IsOrdered s p chain
      → IsOrdered s (held_after at q p) (chain_after at q p chain)
  order_piece at (Left n) p chain facts h o = o
  order_piece at (Begins dropped escaped) p chain facts h o =
      let byte = piece_byte s.text at (Begins dropped escaped) facts in
      order_next at (at + dropped) escaped p chain [] h o (byte at (omega arith) (omega arith))
      (place_before (at + dropped) (byte (at + dropped) (omega arith) (omega arith))) (omega arith)
  order_piece at (Token dropped n body) p chain facts h o =
      let some = facts.some in
      let byte = piece_byte s.text at (Token dropped n body) facts in
      let last = place_past (at + dropped + n) (omega arith) (byte (at + dropped + n - 1) (omega arith) (omega arith)) in
      order_next at (at + dropped + n) false p chain (token (at + dropped) n body ∷ []) h o (byte at (omega arith) (omega arith)) last
      (omega arith, omega arith, place_before (at + dropped) (byte (at + dropped) (omega arith) (omega arith)), last, omega arith)
  order_piece at (Run n opens closes) p chain facts h o =
      let some = facts.some in
      let byte = piece_byte s.text at (Run n opens closes) facts in
      order_next at (at + n) false p chain (run_tokens at n opens closes) h o (byte at (omega arith) (omega arith))
      (place_past (at + n) (omega arith) (byte (at + n - 1) (omega arith) (omega arith))) (run_in_order at n opens closes facts.marks)

  -- the texts stop at an offset, between two characters
  module _ (texts : List CowStr) (to : Spot) (stop : ℕ) (stops : IsCharBoundary s.text stop) (last_text : IsTextEnd s to.at stop) where
    -- the pending text grows and is appended, piece by piece
    pieces_in_order : (at : ℕ) (b : MathBraces) (ps : List Piece) (p : HeldText) (chain : List Item)
        → ArePieces texts s at b ps to → IsHeld s.text s.start p at → IsOrdered s p chain
        → AreInOrder s.text s.start stop (add_pieces stop at ps (add_text p.begin (min at stop) p.escaped chain))
    pieces_in_order at b [] p chain is h o =
        let same : at ≡ to.at = ap (λ (z : Spot). z.at) is in
        let short : stop ≤ to.at = last_text.short in
        let here : min at stop ≡ stop = omega arith in
        let ahead = last_text.following p.begin h.from (omega (arith, h.upto)) (begins_on s.text s.start p.begin at to.at (omega arith) h.begins) in
        rw here (order_text s.text s.start p.begin p.begin stop p.escaped chain o.order (omega arith) ahead o.starts stops)
    pieces_in_order at b (q ∷ ps) p chain pieces h o =
        let facts = piece_of texts b s at q pieces.0 pieces.1 in
        let next = held_after at q p in
        let now : IsHeld s.text s.start next (at + size q) = held_piece s.text s.start at q p facts h in
        let reach = pieces_reach texts s (at + size q) (braces_after (found_at s at) b) ps to pieces.2 in
        let ahead : next.begin ≤ stop = last_text.following next.begin now.from (omega (arith, now.upto))
        (begins_on s.text s.start next.begin (at + size q) to.at reach now.begins) in
        subst (λ c. AreInOrder s.text s.start stop (add_pieces stop (at + size q) ps c)) (sym (shown_piece s.text s.start stop at q p chain h ahead))
        (pieces_in_order (at + size q) (braces_after (found_at s at) b) ps next (chain_after at q p chain) pieces.2 now
        (order_piece at q p chain facts h o))

-- the first of the bytes that pass a test at the end of the first bytes of a list
pub suffix_first : (p : ℕ → Bool) (xs : List ℕ) (n : ℕ)
    → n ≤ length xs → 0 < suffix_len p (take n xs) → (suffix_len p (take n xs) ≤ n) × (p (get_or xs (n - suffix_len p (take n xs)) 0) ≡ true)
suffix_first p xs n within some = grind (arith, length-take, suffix_len-le-length, get_or-take, last_passes)

-- a place between two characters, in the content from an offset on
abbrev IsPlaceFrom : List ℕ → ℕ → ℕ → Type 0
IsPlaceFrom text start at = (start ≤ at) × IsCharBoundary text at

-- if only ASCII bytes pass a test, a content ends between two characters also without the bytes at its end that pass
suffix_place : (p : ℕ → Bool) → ((b : ℕ) → p b ≡ true → b < ascii_end) → (text : List ℕ) (start end : ℕ) → start ≤ end → end ≤ length text
    → IsCharBoundary text end → IsPlaceFrom text start (end - suffix_len p (slice_range text start end))
suffix_place p small text start end order within boundary = grind (arith, end_bounded, cases_lt, content_passes, IsCharBoundary-before_ascii)

-- The end of a line without the white space there is between characters.
pub trimmed_boundary : (text : List ℕ) (from : ℕ) → IsUtf8 text → IsCharBoundary text from
    → let m : ℕ = line_len (drop from text) in IsCharBoundary text (from + m - suffix_len is_white_or_line_end (take m (drop from text)))
trimmed_boundary text from u b =
    let m : ℕ = line_len (drop from text) in
    let fits : m ≤ length text - from = omega (arith, line_len-fits (drop from text), length-drop from text) in
    let size : from + m - from ≡ m = omega arith in
    let end : IsCharBoundary text (from + m) = elim (cases_lt from (length text)) [
      | inl inside ↦ line_end_boundary text from u b inside
      | inr past ↦ let e : from ≡ from + m = omega arith in subst (IsCharBoundary text) e b
    ] in
    let place = suffix_place is_white_or_line_end (λ k h. grind (arith, nat_tests, h)) text from (from + m) (omega arith) (omega (arith, b.0)) end in
    subst (λ (k : ℕ). IsCharBoundary text (from + m - suffix_len is_white_or_line_end (take k (drop from text)))) size place.1

-- a byte at which a content ends is in ASCII
end_byte : (s : Inline) (b : ℕ) → (is_line_end b ≡ true) ⊎ (ends_cell s b ≡ true) → (0 < b) × (b < ascii_end)
end_byte s b h = (grind (arith, nat_tests, h), grind (arith, nat_tests, h))

-- a content ends between two characters
pub content_boundary : (s : Inline) (end : ℕ) → end ≤ length s.text → content_ends_at s end ≡ true → IsCharBoundary s.text end
content_boundary s end within ended =
    elim (ended_by s end ended) [
      | inl past ↦ let e : end ≡ length s.text = omega arith in subst (IsCharBoundary s.text) (sym e) (IsCharBoundary-end s.text)
      | inr byte ↦ let small = end_byte s (slice_index s.text end) byte in IsCharBoundary-before_ascii s.text end (at_byte s.text end small.0) small.1
    ]

-- a content whose last backslash breaks the line ends between two characters without it
backslash_place : (s : Inline) (end : ℕ)
    → s.start ≤ end → end ≤ length s.text → breaks_by_backslash s end ≡ true → (0 < end) × IsPlaceFrom s.text s.start (end - 1)
unfolding backslashes_at_end
backslash_place s end order within breaks =
    let some = break_some s end breaks in
    let short = end_bounded (λ b. b == backslash) s.text s.start s.start end (omega arith) order within (inl refl) in
    let last = content_passes (λ b. b == backslash) s.text s.start end (end - 1) order (omega arith) (omega arith) (omega arith) in
    let is = eqb-true (slice_index s.text (end - 1)) backslash last in
    (omega arith, (omega arith, IsCharBoundary-before_ascii s.text (end - 1) (omega arith) (omega arith)))

-- a content ends between two characters also without the white space at its end
blanks_place : (s : Inline) (end : ℕ)
    → s.start ≤ end → end ≤ length s.text → IsCharBoundary s.text end → IsPlaceFrom s.text s.start (end - blanks_at_end s end)
unfolding blanks_at_end
blanks_place s end order within boundary = grind (arith, suffix_place, nat_tests)

-- the end of the last text of a content
text_end_place : (s : Inline) (end : ℕ) → s.start ≤ end → end ≤ length s.text → IsCharBoundary s.text end → IsPlaceFrom s.text s.start (text_end s end)
unfolding text_end
text_end_place s end order within boundary =
    cond_both (breaks_by_backslash s end) (end - 1) (end - blanks_at_end s end) (IsPlaceFrom s.text s.start)
    (λ breaks. (backslash_place s end order within breaks).1) (λ other. blanks_place s end order within boundary)

-- A break after a text that ends at an offset, up to the end of its line; if a backslash makes it, that is one byte.
pub record StandsAfter (text : List ℕ) (at next : ℕ) (x : Item) : Type 0 where
  pub from : at ≤ x.start
  pub order : x.start ≤ x.«end»
  pub to : x.«end» ≡ next
  pub starts : IsCharBoundary text x.start
  pub ends : IsCharBoundary text x.«end»
  pub by_backslash : is_backslash_break x.body ≡ true → (x.start + 1 ≤ next) × IsCharBoundary text (x.start + 1)

break_stands : (s : Inline) (end next : ℕ) → next ≡ end + line_end_len s end → s.start ≤ end → end ≤ length s.text → IsCharBoundary s.text end
    → IsCharBoundary s.text next → IfSome (line_break s end) (StandsAfter s.text (text_end s end) next)
unfolding line_break text_end
break_stands s end next is order within boundary ends = grind (arith, cond_both, cases_Bool, backslash_place, blanks_place, false≢true)

-- a line ends between two characters
pub line_end_place : {s : Inline} {answer : ℕ × Option Item}
    → IsUtf8 s.text → IsCharBoundary s.text s.start → EndsLine s answer → IsCharBoundary s.text answer.0
line_end_place {s} {answer} utf8 boundary ends = grind (arith, cases_lt, line_end_boundary)

-- The tokens of a line are in order from its start up to an offset, its break is after that, and the line ends
-- between two characters.
pub record LineInOrder (s : Inline) (stop : ℕ) (tokens : List Item) (answer : ℕ × Option Item) : Type 0 where
  pub tokens_fit : AreInOrder s.text s.start stop tokens
  pub before : stop ≤ answer.0
  pub ends : IsCharBoundary s.text answer.0
  pub break_fits : IfSome answer.1 (StandsAfter s.text stop answer.0)

-- the tokens of a content whose texts stop at an offset
content_in_order : (texts : List CowStr) (s : Inline) (pieces : List Piece) (to : Spot) (stop : ℕ)
    → IsUtf8 s.text → IsCharBoundary s.text s.start → ArePieces texts s s.start s.braces pieces to
    → IsTextEnd s to.at stop → IsPlaceFrom s.text s.start stop → AreInOrder s.text s.start stop (add_pieces stop s.start pieces [])
content_in_order texts s pieces to stop utf8 boundary are last_text place =
    let empty : add_text s.start (min s.start stop) false [] ≡ [] = add_text-none s.start (min s.start stop) false [] (omega arith) in
    subst (AreInOrder s.text s.start stop) (ap (add_pieces stop s.start pieces) empty)
    (pieces_in_order s utf8 texts to stop place.1 last_text s.start s.braces pieces
    (record { begin = s.start; escaped = false }) [] are (held_start s.text s.start) (record { starts = boundary; order = omega arith }))

-- The tokens of a cell are in order from its start up to its end, which is between two characters.
pub cell_in_order : {texts : List CowStr} {s : Inline} {tokens : List Item} {end : ℕ} {after : MathBraces}
    → IsUtf8 s.text → IsCharBoundary s.text s.start → s.start ≤ length s.text → IsCell texts s tokens end after
    → AreInOrder s.text s.start end tokens
cell_in_order {texts} {s} {tokens} {end} {after} utf8 boundary within cell =
    let c = content_of within cell.division in
    let stop = end - blanks_at_end s end in
    let finish = content_boundary s end c.within cell.division.ended in
    subst (AreInOrder s.text s.start end) (sym cell.tokens_are)
    (order_to s.text s.start stop end (add_pieces stop s.start cell.pieces [])
    (content_in_order texts s cell.pieces (spot end after) stop utf8 boundary cell.division.divided (cell_text_end s end c.within)
    (blanks_place s end c.order c.within finish)) (omega arith))

pub cell_end_place : {texts : List CowStr} {s : Inline} {tokens : List Item} {end : ℕ} {after : MathBraces}
    → s.start ≤ length s.text → IsCell texts s tokens end after → IsCharBoundary s.text end
cell_end_place {texts} {s} {tokens} {end} {after} within cell = content_boundary s end (content_of within cell.division).within cell.division.ended

-- the tokens and the break of a line
pub line_in_order : {texts : List CowStr} {s : Inline} {tokens : List Item} {answer : ℕ × Option Item} {after : MathBraces}
    → IsUtf8 s.text → IsCharBoundary s.text s.start → s.start ≤ length s.text → (line : AreLineTokens texts s tokens answer after)
    → LineInOrder s (text_end s line.content_end) tokens answer
line_in_order {texts} {s} {tokens} {answer} {after} utf8 boundary within line =
    let end = line.content_end in
    let c = content_of within line.division in
    let finish = content_boundary s end c.within line.division.ended in
    let place = text_end_place s end c.order c.within finish in
    let last_text = line_text_end s end c.within in
    let short = last_text.short in
    let next = line_end_place utf8 boundary (ends_line within line) in
    let answer_is : answer.0 ≡ end + line_end_len s end = ap (λ (a : ℕ × Option Item). a.0) line.answer_is in
    let break_is : answer.1 ≡ line_break s end = ap (λ (a : ℕ × Option Item). a.1) line.answer_is in
    record {
      tokens_fit = subst (AreInOrder s.text s.start (text_end s end)) (sym line.tokens_are)
          (content_in_order texts s line.pieces (spot end after) (text_end s end) utf8 boundary line.division.divided last_text place);
      before = omega arith;
      ends = next;
      break_fits = subst (λ (o : Option Item). IfSome o (StandsAfter s.text (text_end s end) answer.0)) (sym break_is)
          (break_stands s end answer.0 answer_is c.order c.within finish next);
    }

-- a chain before the break of the last line, closed
pub order_closed : (text : List ℕ) (from at next : ℕ) (break : Option Item) (chain : List Item)
    → AreInOrder text from at chain → at ≤ next → IfSome break (StandsAfter text at next) → AreInOrder text from next (close_break break chain)
order_closed text from at next None chain h later following = order_to text from at next chain h later
order_closed text from at next (Some x) chain h later following =
    cond_both (is_backslash_break x.body) (add_text x.start (x.start + 1) false chain) chain (AreInOrder text from next)
    (λ b. let shown = following.by_backslash b in
    order_to text from (x.start + 1) next (add_text x.start (x.start + 1) false chain)
    (order_text text from at x.start (x.start + 1) false chain h following.from (omega arith) following.starts shown.1) shown.0)
    (λ b. order_to text from at next chain h later)

-- the chain of a single line
pub closed_line_in_order : {texts : List CowStr} {s : Inline} {tokens : List Item} {next : ℕ} {break : Option Item} {after : MathBraces}
    → IsUtf8 s.text → IsCharBoundary s.text s.start → s.start ≤ length s.text → AreLineTokens texts s tokens (next, break) after
    → AreInOrder s.text s.start next (close_break break (add_tokens [] tokens))
closed_line_in_order {texts} {s} {tokens} {next} {break} utf8 boundary within line =
    let l = line_in_order utf8 boundary within line in
    order_closed s.text s.start (text_end s line.content_end) next break (add_tokens [] tokens)
    (order_adds s.text s.start s.start (text_end s line.content_end) [] tokens (omega arith) l.tokens_fit) l.before l.break_fits
