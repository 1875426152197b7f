-- The tokens of a paragraph or of a setext heading are in order.
use Rattle.std.proofs.Common.{◌≡◌, inl, inr, ℕ, ◌≤◌, true, false, List, [], ◌∷◌, length, drop, Option, Some, None, IfSome, IsUtf8, IsCharBoundary, refl, sym}
use Rattle.std.proofs.Common.{ap, subst, ◌∙◌, arith}
use Rattle.first_pass_grammar.proofs.Common.{cases_lt, false≢true, Item, is_escaped, Place, offset, line_rest, place_at, IsPlaceOf, start_of, lines_at-line}
use Rattle.first_pass_grammar.proofs.Common.{lines_at-end, line_len-within, start_of-lines, MathBraces, no_braces, spot, AreLineTokens, IsBreak, EndsLine}
use Rattle.first_pass_grammar.proofs.Common.{text_end, add_tokens, close_break, cut, AreInOrder, bytes_closed, EscapesStand, line_in_order, order_to}
use Rattle.first_pass_grammar.proofs.Common.{order_from, order_adds, at_rest, front, unindented, Document, content_at, add_break, TextLines, text_lines}
use Rattle.first_pass_grammar.proofs.Common.{AreTextLines, lines_from, chain_end, ItemBody, Text}
use Rattle.first_pass_leaves.proofs.Common.{line_end_at, Container, StandsAfter, LineInOrder, order_append, order_closed, text_place, bytes_adds, bytes_append}
use Rattle.first_pass_leaves.proofs.Common.{line_has_bytes, first_line, ends_line, HaveBytes}
use Rattle.first_pass_tokens.specs.LineTokens.{is_break}
use Rattle.first_pass_tokens.proofs.Escapes.{escapes_adds, escapes_append, line_escapes, cut_escaped, cut_has_bytes}
use Rattle.first_pass_leaves.proofs.ParagraphLemmas.{line_end-text}

-- A chain in order ends within its bounds, at a character boundary.
pub chain_end_place : (text : List ℕ) (from to : ℕ) (chain : List Item) → AreInOrder text from to chain → IsCharBoundary text from
    → (from ≤ chain_end from chain) × (chain_end from chain ≤ to) × IsCharBoundary text (chain_end from chain)
chain_end_place text from to [] h boundary = (omega arith, h, boundary)
chain_end_place text from to (x ∷ []) h boundary = (omega (arith, h.0, h.1), h.4, h.3)
chain_end_place text from to (x ∷ y ∷ ys) h boundary =
    let later : AreInOrder text from to (y ∷ ys) = order_from text from x.«end» to (y ∷ ys) h.4 (omega (arith, h.0, h.1)) in
    chain_end_place text from to (y ∷ ys) later boundary

-- a chain in order whose escaped texts are after their backslashes and whose tokens have bytes
abbrev ChainStands : List ℕ → ℕ → ℕ → List Item → Type 0
ChainStands text from to chain = AreInOrder text from to chain × EscapesStand text from chain × HaveBytes chain

-- a break is no escaped text
pub break_unescaped : (body : ItemBody) → is_break body ≡ true → is_escaped body ≡ false
break_unescaped (Text escaped) h = absurd (false≢true h)
break_unescaped _ h = refl

-- a chain with the break after it
chain_break : (text : List ℕ) (from at start next : ℕ) (break : Option Item) (chain : List Item)
    → ChainStands text from at chain → at ≤ next → IfSome break (StandsAfter text at next)
    → IfSome break (IsBreak start next) → ChainStands text from next (add_break break chain)
chain_break text from at start next None chain h later following is = (order_to text from at next chain h.0 later, h.1, h.2)
chain_break text from at start next (Some x) chain h later following is = grind (arith, order_append, escapes_append, break_unescaped, bytes_append)

-- a line, and its tokens after a chain
record OneLine (d : Document) (from ix : ℕ) (chain tokens : List Item) (answer : ℕ × Option Item) : Type 0 where
  stop : ℕ
  stands : ChainStands d.text from stop (add_tokens chain tokens)
  before : stop ≤ answer.0
  within : answer.0 ≤ length d.text
  place : answer.0 ≡ line_end_at d.text ix
  ends : IsCharBoundary d.text answer.0
  break_fits : IfSome answer.1 (StandsAfter d.text stop answer.0)
  broken : IfSome answer.1 (IsBreak ix answer.0)

one_line : (d : Document) (from ix : ℕ) (b after : MathBraces) (chain tokens : List Item) (answer : ℕ × Option Item)
    → IsUtf8 d.text → IsCharBoundary d.text ix → ChainStands d.text from ix chain → AreLineTokens d.names.texts (content_at d (spot ix b)) tokens answer after
    → OneLine d from ix chain tokens answer
one_line d from ix b after chain tokens answer utf8 boundary h line =
    let stop : ℕ = text_end (content_at d (spot ix b)) line.content_end in
    let l : LineInOrder (content_at d (spot ix b)) stop tokens answer = line_in_order utf8 boundary boundary.0 line in
    let e : EndsLine (content_at d (spot ix b)) answer = ends_line boundary.0 line in
    let escapes = escapes_adds d.text from ix stop chain tokens h.0 h.1 l.tokens_fit (line_escapes line) in
    record {
      stop = stop;
      stands = (order_adds d.text from ix stop chain tokens h.0 l.tokens_fit, escapes, bytes_adds chain tokens (line_has_bytes line) h.2);
      before = l.before;
      within = e.within;
      place = e.place;
      ends = l.ends;
      break_fits = l.break_fits;
      broken = e.broken;
    }

-- The chain of a text's lines is in order up to an offset, and the break of the last line is after that. The
-- remaining lines begin after the break.
pub record TextInOrder (d : Document) (start : ℕ) (t : TextLines) : Type 0 where
  pub stop : ℕ
  pub order : AreInOrder d.text start stop t.chain
  pub escapes : EscapesStand d.text start t.chain
  pub bytes : HaveBytes t.chain
  pub before : stop ≤ start_of (length d.text) t.left
  pub break_fits : IfSome t.break (StandsAfter d.text stop (start_of (length d.text) t.left))
  pub left_at : ℕ
  pub left_is : t.left ≡ lines_from d.text left_at
  pub left_within : left_at ≤ length d.text

-- the last line of a text, and the lines after it
text_stops : (d : Document) (from ix : ℕ) (chain tokens : List Item) (answer : ℕ × Option Item) (left : List Place) (t : TextLines)
    → OneLine d from ix chain tokens answer
    → left ≡ lines_from d.text answer.0 → t ≡ text_lines (add_tokens chain tokens) answer.1 left → TextInOrder d from t
text_stops d from ix chain tokens answer left t l following e = grind (arith, start_of-lines)

module _ (d : Document) (path : List Container) (utf8 : IsUtf8 d.text) (from : ℕ) where
  lines_in_order : (lines : List Place) (ix : ℕ) (b : MathBraces) (chain : List Item) (t : TextLines)
      → lines ≡ lines_from d.text (line_end_at d.text ix) → IsCharBoundary d.text ix → ChainStands d.text from ix chain
      → AreTextLines d path (spot ix b) chain lines t → TextInOrder d from t
  unfolding AreTextLines
  lines_in_order [] ix b chain t is boundary h (tokens, answer, after, line, e) =
      let l = one_line d from ix b after chain tokens answer utf8 boundary h line in
      text_stops d from ix chain tokens answer [] t l (is ∙ ap (lines_from d.text) (sym l.place)) e
  lines_in_order (line ∷ lines) ix b chain t is boundary h (tokens, answer, after, line_is, inl (stops, e)) =
      let l = one_line d from ix b after chain tokens answer utf8 boundary h line_is in
      text_stops d from ix chain tokens answer (line ∷ lines) t l (is ∙ ap (lines_from d.text) (sym l.place)) e
  lines_in_order (line ∷ lines) ix b chain t is boundary h (tokens, answer, after, line_is, inr (goes, more)) =
      let l = one_line d from ix b after chain tokens answer utf8 boundary h line_is in
      let n : ℕ = answer.0 in
      let first = first_line d.text n line lines (is ∙ ap (lines_from d.text) (sym l.place)) in
      let at : ℕ = offset (unindented (place_at n (front path (line_rest (drop n d.text))))) in
      let at_is : offset (unindented (at_rest line (front path line.rest))) ≡ at =
      ap (λ (p : Place). offset (unindented (at_rest p (front path p.rest)))) first.1 in
      let place : IsPlaceOf d.text (unindented (place_at n (front path (line_rest (drop n d.text))))) = (text_place d.text n path utf8 l.ends).0 in
      let chain_next : List Item = add_break answer.1 (add_tokens chain tokens) in
      let next = chain_break d.text from l.stop ix n answer.1 (add_tokens chain tokens) l.stands l.before l.break_fits l.broken in
      lines_in_order lines at after chain_next t (first.2 ∙ ap (lines_from d.text) (sym (line_end-text path d.text n utf8 l.ends))) place.boundary
      (order_to d.text from n at chain_next next.0 (omega arith), next.1, next.2)
      (subst (λ z. AreTextLines d path (spot z after) chain_next lines t) at_is more)

-- the first of the remaining lines begins before the second does
pub text_later : (text : List ℕ) (left : List Place) (m : ℕ)
    → left ≡ lines_from text m → m ≤ length text → start_of (length text) left ≤ start_of (length text) (drop 1 left)
text_later text left m is within = grind (arith, cases_lt, line_len-within, lines_at-line, start_of-lines, lines_at-end)

-- The chain of the lines of a text is in order from the start of the text.
pub text_is_in_order : (d : Document) (path : List Container) (start : ℕ) (t : TextLines) → IsUtf8 d.text → IsCharBoundary d.text start
    → AreTextLines d path (spot start no_braces) [] (lines_from d.text (line_end_at d.text start)) t → TextInOrder d start t
text_is_in_order d path start t utf8 boundary lines =
    lines_in_order d path utf8 start (lines_from d.text (line_end_at d.text start)) start no_braces [] t refl boundary (omega arith, tt, tt) lines

-- The chain, cut at an offset in it, with the last line's break after it, is in order, and each of its tokens has a byte.
pub cut_text_in_order : (d : Document) (start e : ℕ) (t : TextLines) → (h : TextInOrder d start t) → start ≤ e → e ≤ h.stop → IsCharBoundary d.text e
    → AreInOrder d.text start (start_of (length d.text) t.left) (close_break t.break (cut e t.chain)) × HaveBytes (close_break t.break (cut e t.chain))
cut_text_in_order d start e t h low high boundary =
    let order = order_to d.text start e h.stop (cut e t.chain) (cut_escaped d.text start h.stop e t.chain h.order h.escapes boundary low) high in (
      order_closed d.text start h.stop (start_of (length d.text) t.left) t.break (cut e t.chain) order h.before h.break_fits,
      bytes_closed t.break (cut e t.chain) (cut_has_bytes d.text start e t.chain h.bytes h.escapes),
    )
