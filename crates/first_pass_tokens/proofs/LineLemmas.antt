-- The division of a content: one more piece, its uniqueness, that it has no line ending, and the end of the line.
use Rattle.std.proofs.Common.{ℕ, min, zero, suc, ◌≡◌, ◌⊎◌, ◌+◌, ◌-◌, ◌≤◌, ◌<◌, ◌==◌, ◌&&◌, ◌%◌, if◌then◌else◌, Bool, true, false, List, ◌∷◌, ◌++◌, length}
use Rattle.std.proofs.Common.{reverse, drop, get_or, slice_index, nat_lt, nat_le, Option, None, IfSome, Result, Ok, Err, IfOk, unwrap_or, refl, sym, ap, subst}
use Rattle.std.proofs.Common.{◌∙◌, inl, inr, arith, length-drop, length-take, slice_range, get_or-drop, get_or-take, drop-drop, eqb-true, le-leb, leb-false}
use Rattle.std.proofs.Common.{leb-true, ltb-true, []}
use Rattle.first_pass_tokens.proofs.Common.{CowStr, Item, false≢true, cases_lt, cond_both, cond-true, cond-false, or_cases, and_parts, lt-leb, not_from_true}
use Rattle.first_pass_tokens.proofs.Common.{not_from_false, line_feed, carriage_return, backslash, backquote, pipe, Piece, MathBraces, braces_after, Left}
use Rattle.first_pass_tokens.proofs.Common.{Begins, Token, Run, nat_tests, Inline, found_at, size, is_delimiter, run_at, MakesPiece, Spot, spot, text_end}
use Rattle.first_pass_tokens.proofs.Common.{ends_cell, ArePieces, IsInPieces, AreLineTokens, IsCell, IsBreak, EndsLine, EndsCell, add_piece, add_pieces, Forest}
use Rattle.first_pass_tokens.proofs.Common.{is_text, is_escaped, text_token, token, run_tokens, add_token, add_tokens, add_text, AreApart, AppendsLine}
use Rattle.first_pass_tokens.proofs.Common.{AppendsCell, chained, JoinsNone, is_line_end, is_content, is_white, begins, eol_len, MaybeEmphasis, get_or-reverse}
use Rattle.first_pass_tokens.proofs.Common.{get_or_past, at_drop_all, at_drop_more, StandsOver, HasNoBackquote, has, tables, suffix_len, prefix_len, AllocError}
use Rattle.first_pass_tokens.proofs.Common.{suffix_len-le-length, prefix_len_passes, prefix_len_is, prefix_len_stops, or-false, line_len-fits, line_len-within}
use Rattle.first_pass_lines.specs.Lines.{line_len}
use Rattle.first_pass_tokens.specs.LineTokens.{content_ends_at, line_end_len, line_break, breaks_by_backslash, backslashes_at_end, blanks_at_end}
use Rattle.first_pass_tokens.proofs.PieceFacts.{IsPieceAt, found_facts, becomes_facts, piece_byte, piece_fits, visible_plain, run_next, markup_plain}
use Rattle.first_pass_tokens.proofs.PieceFacts.{markup_unescaped}
use Rattle.first_pass_tokens.proofs.ChainLemmas.{add_token-apart, add_tokens-none, with_tokens-chained}

-- one more piece
pub are_more : (texts : List CowStr) (s : Inline) (at : ℕ) (b : MathBraces) (ps : List Piece) (mid : Spot) (q : Piece) → ArePieces texts s at b ps mid
    → content_ends_at s mid.at ≡ false → MakesPiece texts mid.braces (found_at s mid.at) q
    → ArePieces texts s at b (ps ++ q ∷ []) (spot (mid.at + size q) (braces_after (found_at s mid.at) mid.braces))
are_more texts s at b [] mid q same on is = grind arith
are_more texts s at b (p ∷ ps) mid q h on is = grind (arith, are_more texts s (at + size p) (braces_after (found_at s at) b) ps mid q h.2 on is)

pub add_pieces_more : (texts : List CowStr) (s : Inline) (stop at : ℕ) (b : MathBraces) (ps : List Piece) (mid : Spot) (chain : List Item) (p : Piece)
    → ArePieces texts s at b ps mid → add_pieces stop at (ps ++ p ∷ []) chain ≡ add_piece stop mid.at p (add_pieces stop at ps chain)
add_pieces_more texts s stop at b [] mid chain p same = ap (λ (t : Spot). add_piece stop t.at p chain) same
add_pieces_more texts s stop at b (q ∷ ps) mid chain p h =
    add_pieces_more texts s stop (at + size q) (braces_after (found_at s at) b) ps mid (add_piece stop at q chain) p h.2

-- pieces end at or after their start
pub pieces_reach : (texts : List CowStr) (s : Inline) (at : ℕ) (b : MathBraces) (ps : List Piece) (to : Spot) → ArePieces texts s at b ps to → at ≤ to.at
pieces_reach texts s at b [] to is = (let same : at ≡ to.at = ap (λ (t : Spot). t.at) is in omega arith)
pieces_reach texts s at b (p ∷ ps) to h = (let more = pieces_reach texts s (at + size p) (braces_after (found_at s at) b) ps to h.2 in omega arith)

-- places at which no content ends
pub not_ended : (s : Inline) (at : ℕ) → content_ends_at s at ≡ false → (at < length s.text) × (is_line_end (slice_index s.text at) ≡ false)
unfolding content_ends_at
not_ended s at on = (grind (arith, nat_tests, on), grind (arith, nat_tests, on))

-- with tables, there is no pipe at such a place in a row
pub not_ended_pipe : (s : Inline) (at : ℕ) → s.row ≡ true → has s.options tables ≡ true → content_ends_at s at ≡ false → (slice_index s.text at == pipe) ≡ false
unfolding content_ends_at
not_ended_pipe s at row on runs = grind (arith, nat_tests, row, on, runs)

-- the piece at a place of a content
pub piece_of : (texts : List CowStr) (b : MathBraces) (s : Inline) (at : ℕ) (p : Piece) → content_ends_at s at ≡ false → MakesPiece texts b (found_at s at) p
    → IsPieceAt s.text at p
piece_of texts b s at p on is = becomes_facts texts b s.text at (found_at s at) p (found_facts s at (not_ended s at on).0) is

-- a piece has no line ending
piece_plain : (s : Inline) (at : ℕ) (p : Piece) → content_ends_at s at ≡ false → IsPieceAt s.text at p → (k : ℕ) → at ≤ k → k < at + size p
    → is_line_end (slice_index s.text k) ≡ false
piece_plain s at (Left n) on facts k low high = ap is_line_end (facts.same k low high) ∙ (not_ended s at on).1
piece_plain s at p on facts k low high = visible_plain (slice_index s.text k) (piece_byte s.text at p facts k low high)

-- a content is within the text, and has no line ending
pub record IsContent (text : List ℕ) (start end : ℕ) : Type 0 where
  pub order : start ≤ end
  pub within : end ≤ length text
  pub plain : (k : ℕ) → start ≤ k → k < end → is_line_end (slice_index text k) ≡ false

content_from : (texts : List CowStr) (s : Inline) (at : ℕ) (b : MathBraces) (ps : List Piece) (to : Spot)
    → at ≤ length s.text → ArePieces texts s at b ps to → IsContent s.text at to.at
content_from texts s at b [] to within is = grind arith
content_from texts s at b (p ∷ ps) to within h =
    let facts = piece_of texts b s at p h.0 h.1 in
    let rest = content_from texts s (at + size p) (braces_after (found_at s at) b) ps to (piece_fits s.text at p facts) h.2 in
    record {
      order = omega (arith, rest.order);
      within = rest.within;
      plain = λ k low high. elim (cases_lt k (at + size p)) [
        | inl inside ↦ piece_plain s at p h.0 facts k low inside
        | inr following ↦ rest.plain k following high
      ];
    }

pub content_of : {texts : List CowStr} {s : Inline} {ps : List Piece} {to : Spot} → s.start ≤ length s.text → IsInPieces texts s ps to
    → IsContent s.text s.start to.at
content_of {texts} {s} {ps} {to} within d = content_from texts s s.start s.braces ps to within d.divided

-- the end of a content
pub ended_by : (s : Inline) (end : ℕ) → content_ends_at s end ≡ true
    → (length s.text ≤ end) ⊎ ((is_line_end (slice_index s.text end) ≡ true) ⊎ (ends_cell s (slice_index s.text end) ≡ true))
unfolding content_ends_at
ended_by s end h = grind (arith, nat_tests, h)

-- a line that ends before the end of the text ends at a line ending
line_ended_by : (s : Inline) (end : ℕ) → s.row ≡ false → content_ends_at s end ≡ true → end < length s.text → is_line_end (slice_index s.text end) ≡ true
unfolding content_ends_at
line_ended_by s end plain h within = sym (or-false (is_line_end (slice_index s.text end))) ∙ rw (lt-leb (length s.text) end within, plain) at h

-- the line ending in the rest of a text
end_here : (b : ℕ) (bs : List ℕ) → is_line_end b ≡ true → unwrap_or (eol_len (b ∷ bs)) 0 ≡ (if b == carriage_return && begins line_feed bs then 2 else 1)
end_here b bs line = grind (arith, or_cases)

begins_drop : (text : List ℕ) (at : ℕ) → begins line_feed (drop at text) ≡ (slice_index text at == line_feed)
begins_drop text at =
    elim (cases_lt at (length text)) [
      | inl within ↦ at_drop_more (begins line_feed) text at 0 within
      | inr past ↦ at_drop_all (begins line_feed) text at past ∙ ap (λ (b : ℕ). b == line_feed) (sym (get_or_past text at 0 past))
    ]

line_end_at : (s : Inline) (end : ℕ) → s.row ≡ false → content_ends_at s end ≡ true → unwrap_or (eol_len (drop end s.text)) 0 ≡ line_end_len s end
unfolding line_end_len
line_end_at s end plain h =
    elim (cases_lt end (length s.text)) [
      | inl within ↦
          let b = slice_index s.text end in
          at_drop_more (λ (bs : List ℕ). unwrap_or (eol_len bs) 0) s.text end 0 within
          ∙ end_here b (drop (end + 1) s.text) (line_ended_by s end plain h within)
          ∙ ap (λ (next : Bool). if b == carriage_return && next then 2 else 1) (begins_drop s.text (end + 1))
          ∙ sym (cond-false _ _ _ (lt-leb (length s.text) end within))
      | inr past ↦ at_drop_all (λ (bs : List ℕ). unwrap_or (eol_len bs) 0) s.text end past ∙ sym (cond-true _ _ _ (le-leb (length s.text) end past))
    ]

content_len : (s : Inline) (end : ℕ) → s.row ≡ false → IsContent s.text s.start end → content_ends_at s end ≡ true
    → prefix_len is_content (drop s.start s.text) ≡ end - s.start
content_len s end plain c ended =
    let order = c.order in
    let within = c.within in
    let len = length-drop s.start s.text in
    prefix_len_is is_content (drop s.start s.text) (end - s.start) 0 (omega arith)
    (λ k below. ap is_content (get_or-drop s.start s.text k 0) ∙ not_from_false _ (c.plain (s.start + k) (omega arith) (omega arith)))
    (λ below.
    let place : s.start + (end - s.start) ≡ end = omega arith in
    ap is_content (get_or-drop s.start s.text (end - s.start) 0 ∙ ap (slice_index s.text) place)
    ∙ not_from_true _ (line_ended_by s end plain ended (omega arith)))

-- a line ends after the line ending after its content
line_place : (s : Inline) (end : ℕ) → s.row ≡ false → IsContent s.text s.start end → content_ends_at s end ≡ true
    → end + line_end_len s end ≡ s.start + line_len (drop s.start s.text)
unfolding line_len
line_place s end plain c ended =
    let order = c.order in
    let place : s.start + (end - s.start) ≡ end = omega arith in
    let rest : drop (end - s.start) (drop s.start s.text) ≡ drop end s.text =
    drop-drop (end - s.start) s.start s.text ∙ ap (λ (k : ℕ). drop k s.text) place in
    rw (content_len s end plain c ended, rest, line_end_at s end plain ended) (omega arith)

-- a line ending is not empty
line_end_some : (s : Inline) (end : ℕ) → end < length s.text → 0 < line_end_len s end
unfolding line_end_len
line_end_some s end within = grind (arith, nat_tests, within)

-- the bytes at the end of a list that pass a test
pub last_passes : (p : ℕ → Bool) (xs : List ℕ) (k : ℕ) → length xs - suffix_len p xs ≤ k → k < length xs → p (get_or xs k 0) ≡ true
last_passes p xs k low high =
    let j : ℕ = length xs - 1 - k in
    let back : length xs - 1 - j ≡ k = omega arith in
    ap p (sym (get_or-reverse xs j 0 (omega arith) ∙ ap (λ (i : ℕ). get_or xs i 0) back)) ∙ prefix_len_passes p (reverse xs) j 0 (omega arith)

-- the same at the end of a content
pub content_passes : (p : ℕ → Bool) (text : List ℕ) (start end k : ℕ) → start ≤ end → k < length text → end - suffix_len p (slice_range text start end) ≤ k
    → k < end → p (slice_index text k) ≡ true
content_passes p text start end k order inside low high =
    let rest = length-drop start text in
    let size = length-take (end - start) (drop start text) in
    let short = suffix_len-le-length p (slice_range text start end) in
    let there : start + (k - start) ≡ k = omega arith in
    ap p (sym (get_or-take (end - start) (drop start text) (k - start) 0 (omega arith) ∙ get_or-drop start text (k - start) 0 ∙ ap (slice_index text) there))
    ∙ last_passes p (slice_range text start end) (k - start) (omega arith) (omega arith)

-- none of them is before a place if the content begins there, or the byte before it fails the test
pub end_bounded : (p : ℕ → Bool) (text : List ℕ) (start begin end : ℕ) → start ≤ begin → begin ≤ end → end ≤ length text
    → (begin ≡ start) ⊎ ((0 < begin) × (p (slice_index text (begin - 1)) ≡ false)) → suffix_len p (slice_range text start end) ≤ end - begin
end_bounded p text start begin end low high within (inl same) =
    let rest = length-drop start text in
    let size = length-take (end - start) (drop start text) in
    omega (arith, suffix_len-le-length p (slice_range text start end))
end_bounded p text start begin end low high within (inr fails) =
    elim (cases_lt (end - begin) (suffix_len p (slice_range text start end))) [
      | inl more ↦
          let before : begin - 1 < begin = omega (arith, fails.0) in
          absurd (false≢true (sym fails.1 ∙ content_passes p text start end (begin - 1) (omega arith) (omega arith) (omega arith) (omega arith)))
      | inr most ↦ most
    ]

-- a backslash that breaks a line is at the end of its content
pub break_some : (s : Inline) (end : ℕ) → breaks_by_backslash s end ≡ true → 0 < backslashes_at_end s end
unfolding breaks_by_backslash
break_some s end breaks = (let odd = eqb-true (backslashes_at_end s end % 2) 1 (and_parts (backslashes_at_end s end % 2 == 1) _ breaks).0 in omega arith)

-- a break is within its line, and ends with it
break_in_line : (s : Inline) (end : ℕ) → s.start ≤ end → end ≤ length s.text → IfSome (line_break s end) (λ x. IsBreak s.start (end + line_end_len s end) x)
unfolding line_break backslashes_at_end blanks_at_end
break_in_line s end order within =
    let next = end + line_end_len s end in
    let white : suffix_len is_white (slice_range s.text s.start end) ≤ end - s.start =
    end_bounded is_white s.text s.start s.start end (omega arith) order within (inl refl) in
    let slashes : suffix_len (λ b. b == backslash) (slice_range s.text s.start end) ≤ end - s.start =
    end_bounded (λ b. b == backslash) s.text s.start s.start end (omega arith) order within (inl refl) in
    cond_both (nat_le (length s.text) end) None _ (λ (o : Option Item). IfSome o (λ x. IsBreak s.start next x)) (λ b. tt)
    (λ b. let some = line_end_some s end (leb-false (length s.text) end b) in
    cond_both (breaks_by_backslash s end) _ _ (λ (x : Item). IsBreak s.start next x)
    (λ breaks. let one = break_some s end breaks in record { from = omega arith; before = omega arith; to = refl; kind = refl })
    (λ other. cond_both (nat_le 2 (blanks_at_end s end)) _ _ (λ (x : Item). IsBreak s.start next x)
    (λ hard. let two = leb-true 2 (blanks_at_end s end) hard in record { from = omega arith; before = omega arith; to = refl; kind = refl })
    (λ soft. record { from = order; before = omega arith; to = refl; kind = refl })))

-- the end of a line
pub ends_line : {texts : List CowStr} {s : Inline} {tokens : List Item} {answer : ℕ × Option Item} {after : MathBraces}
    → s.start ≤ length s.text → AreLineTokens texts s tokens answer after → EndsLine s answer
ends_line {texts} {s} {tokens} {answer} {after} within line = grind (arith, content_of, line_place, line_len-fits, length-drop, line_len-within, break_in_line)

-- the same for the result of a call
pub ends_line-if : (texts : List CowStr) (after : MathBraces) (s : Inline) (old new : Forest Item) (r : Result (ℕ × Option Item) AllocError)
    → s.start ≤ length s.text → IfOk r (λ a. AppendsLine texts s old new a after) → IfOk r (λ a. EndsLine s a)
ends_line-if texts after s old new (Ok a) within h = ends_line within h.line
ends_line-if texts after s old new (Err e) within h = tt

-- the end of a cell
content_reach : (s : Inline) (end : ℕ) → IsContent s.text s.start end → end ≤ s.start + prefix_len is_content (drop s.start s.text)
content_reach s end c =
    let order = c.order in
    let within = c.within in
    let len = length-drop s.start s.text in
    elim (cases_lt (prefix_len is_content (drop s.start s.text)) (end - s.start)) [
      | inl short ↦
          let n = prefix_len is_content (drop s.start s.text) in
          let stops = prefix_len_stops is_content (drop s.start s.text) 0 (omega arith) in
          let here = ap is_content (get_or-drop s.start s.text n 0) ∙ not_from_false _ (c.plain (s.start + n) (omega arith) (omega arith)) in
          absurd (false≢true (sym stops ∙ here))
      | inr whole ↦ omega arith
    ]

pub cell_ends : {texts : List CowStr} {s : Inline} {tokens : List Item} {end : ℕ} {after : MathBraces}
    → s.start ≤ length s.text → IsCell texts s tokens end after → EndsCell s end
cell_ends {texts} {s} {tokens} {end} {after} within cell = grind (arith, content_of, content_reach, cases_lt, false≢true)

-- A token from an offset on: it has at least one byte, and the bytes of its kind. If it is a text, it has no backquote,
-- and if it is escaped, it is directly after a backslash.
pub record IsTokenAt (text : List ℕ) (at : ℕ) (x : Item) : Type 0 where
  pub from : at ≤ x.start
  pub some : x.start < x.«end»
  pub over : StandsOver text x.start x.«end» x.body
  pub spares : is_text x.body ≡ true → HasNoBackquote text x.start x.«end»
  pub escape : is_escaped x.body ≡ true → (at < x.start) × (slice_index text (x.start - 1) ≡ backslash)

-- a property of a chain up to an offset; each token that is added keeps it, and so does a later offset
module _ (s : Inline) (P : ℕ → List Item → Type 0) (later : (at to : ℕ) (chain : List Item) → at ≤ to → P at chain → P to chain)
    (more : (at : ℕ) (chain : List Item) (x : Item) → IsTokenAt s.text at x → P at chain → P x.«end» (add_token chain x)) where
  text_keeps : (at from to next : ℕ) (escaped : Bool) (chain : List Item) → at ≤ next → to ≤ next
      → (from < to → IsTokenAt s.text at (text_token from to escaped)) → P at chain → P next (add_text from to escaped chain)
  text_keeps at from to next escaped chain order within is h =
      cond_both (nat_lt from to) (add_token chain (text_token from to escaped)) chain (P next)
      (λ some. later to next _ within (more at chain (text_token from to escaped) (is (ltb-true from to some)) h)) (λ none. later at next chain order h)

  run_keeps : (at n : ℕ) (opens closes : Bool) (chain : List Item) → (0 < n → (n ≡ run_at s.text at) × (is_delimiter (slice_index s.text at) ≡ true))
      → P at chain → P (at + n) (add_tokens chain (run_tokens at n opens closes))
  run_keeps at zero opens closes chain is h = later at (at + 0) chain (omega arith) h
  run_keeps at (suc n) opens closes chain is h =
      let here = is (omega arith) in
      let x = token at 1 (MaybeEmphasis (suc n) opens closes) in
      let first = more at chain x (record {
        from = omega arith;
        some = omega arith;
        over = (refl, here.1, here.0);
        spares = λ e. absurd (false≢true e);
        escape = λ e. absurd (false≢true e);
      }) h in
      later (at + 1 + n) (at + suc n) _ (omega arith) (run_keeps (at + 1) n opens closes (add_token chain x)
      (λ some. let next = run_next s.text at n here.0 some in (next.0, ap is_delimiter next.1 ∙ here.1)) first)

  piece_keeps : (stop at : ℕ) (p : Piece) (chain : List Item) → IsPieceAt s.text at p → P at chain → P (at + size p) (add_piece stop at p chain)
  piece_keeps stop at (Left n) chain facts h = grind (arith, text_keeps, false≢true)
  piece_keeps stop at (Begins dropped escaped) chain facts h =
      text_keeps at (at + dropped) (min (at + (dropped + 1)) stop) (at + (dropped + 1)) escaped chain (omega arith) (omega arith) (λ some. record {
        from = omega arith;
        some = some;
        over = tt;
        spares = λ e k low high. let here : k ≡ at + dropped = omega arith in ap (λ (i : ℕ). slice_index s.text i == backquote) here ∙ facts.other;
        escape = λ e. (omega (arith, facts.some), facts.backslashes (at + dropped - 1) (omega (arith, facts.some)) (omega (arith, facts.some)));
      }) h
  piece_keeps stop at (Token dropped n body) chain facts h =
      later (at + dropped + n) (at + (dropped + n)) _ (omega arith) (more at chain (token (at + dropped) n body) (record {
        from = omega arith;
        some = omega (arith, facts.some);
        over = facts.over;
        spares = λ e. absurd (false≢true (sym (markup_plain body facts.kind) ∙ e));
        escape = λ e. absurd (false≢true (sym (markup_unescaped body facts.kind) ∙ e));
      }) h)
  piece_keeps stop at (Run n opens closes) chain facts h = run_keeps at n opens closes chain (λ some. (facts.all, facts.delimiter)) h

  pieces_keep : (texts : List CowStr) (stop at : ℕ) (b : MathBraces) (ps : List Piece) (to : Spot) (chain : List Item)
      → ArePieces texts s at b ps to → P at chain → P to.at (add_pieces stop at ps chain)
  pieces_keep texts stop at b [] to chain are h = subst (λ (t : Spot). P t.at chain) are h
  pieces_keep texts stop at b (p ∷ ps) to chain are h =
      pieces_keep texts stop (at + size p) (braces_after (found_at s at) b) ps to (add_piece stop at p chain) are.2
      (piece_keeps stop at p chain (piece_of texts b s at p are.0 are.1) h)

  -- the tokens of a cell and of a line have it
  pub cell_keeps : {texts : List CowStr} {tokens : List Item} {end : ℕ} {after : MathBraces} → IsCell texts s tokens end after → P s.start [] → P end tokens
  cell_keeps {texts} {tokens} {end} {after} cell none =
      subst (P end) (sym cell.tokens_are)
      (pieces_keep texts (end - blanks_at_end s end) s.start s.braces cell.pieces (spot end after) [] cell.division.divided none)

  pub line_keeps : {texts : List CowStr} {tokens : List Item} {answer : ℕ × Option Item} {after : MathBraces}
      → (line : AreLineTokens texts s tokens answer after) → P s.start [] → P line.content_end tokens
  line_keeps {texts} {tokens} {answer} {after} line none =
      subst (P line.content_end) (sym line.tokens_are)
      (pieces_keep texts (text_end s line.content_end) s.start s.braces line.pieces (spot line.content_end after) [] line.division.divided none)

-- a cell appended to a tree to which no text can be joined; none of its tokens touches the one before it
pub only_appended_cell : {texts : List CowStr} {s : Inline} {old new : Forest Item} {end : ℕ} {after : MathBraces} (h : AppendsCell texts s old new end after)
    → JoinsNone old → new ≡ chained old h.tokens
only_appended_cell {texts} {s} {old} h none =
    let apart = cell_keeps s (λ at. AreApart) (λ at to chain order k. k) (λ at chain x is. add_token-apart chain x) h.cell tt in
    h.tree_is ∙ with_tokens-chained old [] h.tokens none ∙ ap (chained old) (add_tokens-none h.tokens apart)
