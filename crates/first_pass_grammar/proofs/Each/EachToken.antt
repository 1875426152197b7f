-- A property of each token holds for each item in the chain of a paragraph, a heading or a cell, and in raw lines.
use Rattle.std.proofs.Common.{◌≡◌, inl, inr, ℕ, zero, suc, ◌+◌, ◌<◌, ◌==◌, Bool, true, false, nat_lt, min, List, ◌∷◌, ◌++◌, length, Option, Some, None, IfSome}
use Rattle.std.proofs.Common.{sym, subst, refl, arith, []}
use Rattle.first_pass_grammar.proofs.Common.{cond_both, slice_get_within, CowStr, CowIndex, Item, ItemBody, Text, SoftBreak, HardBreak, MaybeEmphasis, Html}
use Rattle.first_pass_grammar.proofs.Common.{SynthesizeText, Place, offset, line_end, Piece, Token, Inline, found_at, MathBraces, Spot, spot, add_pieces}
use Rattle.first_pass_grammar.proofs.Common.{AreLineTokens, IsCell, touches, add_token, add_tokens, add_text, is_backslash_break, close_break, cut, is_markup}
use Rattle.first_pass_grammar.proofs.Common.{at_rest, front, unindented, Document, content_at, add_break, heading_content, heading_chain, IsHeading}
use Rattle.first_pass_grammar.proofs.Common.{marker_items, TextLines, AreTextLines, AreColumns, Ranges, range_text, range_html, raw_items, IsRawLine}
use Rattle.first_pass_grammar.proofs.Common.{AreRawLines, text_children, by_backslash, children_without, heading_children, Braces, HeadingIndex}
use Rattle.first_pass_tokens.specs.declared.pieces.Piece.TheVariants.{Left, Begins, Run}
use Rattle.first_pass_tokens.specs.Pieces.{size}
use Rattle.first_pass_tokens.specs.Braces.{braces_after}
use Rattle.first_pass_tokens.specs.LineTokens.{ArePieces, add_piece, break_of, line_break}
use Rattle.first_pass_tokens.specs.Chains.{run_tokens}
use Rattle.first_pass_tokens.proofs.PieceFacts.{IsPieceAt}
use Rattle.first_pass_tokens.proofs.LineLemmas.{piece_of}
use Rattle.first_pass_grammar.specs.declared.kind.Container.{Container}
use Rattle.first_pass_grammar.proofs.Names.TokensNamed.{NamesWithin, PieceWithin, piece_within}

-- each of these items has a property
abbrev pub AreEach : (ItemBody → Type 0) → List Item → Type 0
AreEach P [] = Unit {0}
AreEach P (x ∷ xs) = P x.body × AreEach P xs

-- each token of a text's lines has a property; the texts of the tokens are among these
pub record HoldsOfTokens (texts : List CowStr) (P : ItemBody → Type 0) : Type 0 where
  pub text : (escaped : Bool) → P (Text escaped)
  pub soft : P SoftBreak
  pub hard : (by_backslash : Bool) → P (HardBreak by_backslash)
  pub markup : (body : ItemBody) → is_markup body ≡ true → NamesWithin texts body → P body

-- the items of raw lines other than texts have a property
pub record HoldsOfRaw (texts : List CowStr) (P : ItemBody → Type 0) : Type 0 where
  pub html : P Html
  pub columns : (ix : CowIndex) → ix.0 < length texts → P (SynthesizeText ix)

module _ (P : ItemBody → Type 0) where
  -- more items
  pub both_each : (xs ys : List Item) → AreEach P xs → AreEach P ys → AreEach P (xs ++ ys)
  both_each [] ys h k = k
  both_each (x ∷ xs) ys h k = (h.0, both_each xs ys h.1 k)

  token_each : (chain : List Item) (y : Item) → AreEach P chain → P y.body → AreEach P (add_token chain y)
  token_each [] y h k = (k, tt)
  token_each (x ∷ []) y h k = cond_both (touches x y) _ _ (AreEach P) (λ b. (h.0, tt)) (λ b. (h.0, (k, tt)))
  token_each (x ∷ z ∷ zs) y h k = (h.0, token_each (z ∷ zs) y h.1 k)

  tokens_each : (chain tokens : List Item) → AreEach P chain → AreEach P tokens → AreEach P (add_tokens chain tokens)
  tokens_each chain [] h k = h
  tokens_each chain (x ∷ xs) h k = tokens_each (add_token chain x) xs (token_each chain x h k.0) k.1

  -- the bytes of a raw line
  pub raw_each : (range : Ranges) (text : List ℕ) (from to : ℕ) → ((a b : ℕ) → AreEach P (range a b)) → AreEach P (raw_items range text from to)
  unfolding raw_items
  raw_each range text from to each = grind (arith, cond_both, both_each)

module _ (P : ItemBody → Type 0) (text : (escaped : Bool) → P (Text escaped)) where
  pub range_text_each : (a b : ℕ) → AreEach P (range_text a b)
  range_text_each a b = cond_both (nat_lt a b) _ _ (AreEach P) (λ t. (text false, tt)) (λ t. tt)

  text_each : (from to : ℕ) (escaped : Bool) (chain : List Item) → AreEach P chain → AreEach P (add_text from to escaped chain)
  text_each from to escaped chain h = grind (arith, cond_both, token_each)

  closed_each : (o : Option Item) (chain : List Item) → AreEach P chain → AreEach P (close_break o chain)
  closed_each None chain h = h
  closed_each (Some x) chain h = cond_both (is_backslash_break x.body) _ _ (AreEach P) (λ b. text_each x.start (x.start + 1) false chain h) (λ b. h)

  pub marked_each : (marker : Option Item) (chain : List Item) → IfSome marker (λ x. P x.body) → AreEach P chain → AreEach P (marker_items marker ++ chain)
  marked_each marker chain h k = grind arith

  pub children_each : (marker : Option Item) (t : TextLines) → IfSome marker (λ x. P x.body) → AreEach P t.chain → AreEach P (text_children marker t)
  children_each marker t h k = marked_each marker (close_break t.break t.chain) h (closed_each t.break t.chain k)

  -- the chain of a heading
  cut_each : (e : ℕ) (chain : List Item) → AreEach P chain → AreEach P (cut e chain)
  cut_each e [] h = tt
  cut_each e (x ∷ xs) h = grind (arith, cond_both, Item, cut_each e xs h.1)

  heading_chain_each : (kept start : ℕ) (chain : List Item) → AreEach P chain → AreEach P (heading_chain kept start chain)
  unfolding heading_chain
  heading_chain_each kept start chain h = cond_both (kept == 0) _ _ (AreEach P) (λ b. tt) (λ b. cut_each (start + kept) chain h)

  -- the children of a setext heading
  cut_children_each : (d : Document) (start : ℕ) (marker : Option Item) (t : TextLines) (o : Option Braces) → AreEach P (marker_items marker ++ t.chain)
      → AreEach P (text_children marker t) → AreEach P (children_without d start marker t o)
  cut_children_each d start marker t None h k = k
  cut_children_each d start marker t (Some block) h k = grind (arith, closed_each, cut_each)

  pub heading_children_each : (d : Document) (start : ℕ) (marker : Option Item) (t : TextLines) → IfSome marker (λ x. P x.body) → AreEach P t.chain
      → AreEach P (heading_children d start marker t)
  unfolding heading_children
  heading_children_each d start marker t h k = grind (arith, cut_children_each, marked_each, children_each)

-- breaks
module _ (P : ItemBody → Type 0) (soft : P SoftBreak) (hard : (by_backslash : Bool) → P (HardBreak by_backslash)) where
  break_of_each : (end next : ℕ) (by_backslash : Bool) (blanks : ℕ) → P (break_of end next by_backslash blanks).body
  break_of_each end next by_backslash blanks = grind (arith, cond_both, Item)

  line_break_each : (s : Inline) (end : ℕ) → IfSome (line_break s end) (λ y. P y.body)
  unfolding line_break
  line_break_each s end = grind (arith, cond_both, break_of_each)

  pub break_each : {after : MathBraces} (texts : List CowStr) (s : Inline) (tokens : List Item) (answer : ℕ × Option Item)
      → AreLineTokens texts s tokens answer after → IfSome answer.1 (λ y. P y.body)
  break_each texts s tokens answer h = subst (λ (a : ℕ × Option Item). IfSome a.1 (λ y. P y.body)) (sym h.answer_is) (line_break_each s h.content_end)

module _ (texts : List CowStr) (P : ItemBody → Type 0) (holds : HoldsOfTokens texts P) where
  -- the tokens of a run
  run_each : (at n : ℕ) (opens closes : Bool) → AreEach P (run_tokens at n opens closes)
  run_each at zero opens closes = tt
  run_each at (suc n) opens closes = (holds.markup (MaybeEmphasis (suc n) opens closes) refl tt, run_each (at + 1) n opens closes)

  -- the tokens of pieces
  piece_each : (text : List ℕ) (stop at : ℕ) (p : Piece) (chain : List Item) → IsPieceAt text at p → PieceWithin texts p → AreEach P chain
      → AreEach P (add_piece stop at p chain)
  piece_each text stop at (Left n) chain facts within h = text_each P holds.text at (min (at + n) stop) false chain h
  piece_each text stop at (Begins dropped escaped) chain facts within h = grind (arith, text_each)
  piece_each text stop at (Token dropped n body) chain facts within h = grind (arith, token_each)
  piece_each text stop at (Run n opens closes) chain facts within h = tokens_each P chain (run_tokens at n opens closes) h (run_each at n opens closes)

  pub pieces_each : (s : Inline) (stop at : ℕ) (b : MathBraces) (ps : List Piece) (to : Spot) (chain : List Item) → ArePieces texts s at b ps to
      → AreEach P chain → AreEach P (add_pieces stop at ps chain)
  pieces_each s stop at b [] to chain are h = h
  pieces_each s stop at b (p ∷ ps) to chain are h =
      pieces_each s stop (at + size p) (braces_after (found_at s at) b) ps to (add_piece stop at p chain) are.2
      (piece_each s.text stop at p chain (piece_of texts b s at p are.0 are.1) (piece_within texts b s at p are.1) h)

  -- the tokens of a line, and of a cell
  pub line_each : {after : MathBraces} (s : Inline) (tokens : List Item) (answer : ℕ × Option Item) → AreLineTokens texts s tokens answer after
      → AreEach P tokens
  line_each {after} s tokens answer h = grind (arith, pieces_each)

  pub cell_each : {after : MathBraces} (s : Inline) (tokens : List Item) (stop : ℕ) → IsCell texts s tokens stop after → AreEach P tokens
  cell_each {after} s tokens stop h = grind (arith, pieces_each)

module _ (P : ItemBody → Type 0) (d : Document) (holds : HoldsOfTokens d.names.texts P) where
  broken_each : (o : Option Item) (chain : List Item) → IfSome o (λ y. P y.body) → AreEach P chain → AreEach P (add_break o chain)
  broken_each None chain k h = h
  broken_each (Some x) chain k h = both_each P chain (x ∷ []) h (k, tt)

  first_each : {after : MathBraces} (p : Spot) (chain tokens : List Item) (answer : ℕ × Option Item) → AreEach P chain
      → AreLineTokens d.names.texts (content_at d p) tokens answer after → AreEach P (add_tokens chain tokens)
  first_each p chain tokens answer h line = tokens_each P chain tokens h (line_each d.names.texts P holds (content_at d p) tokens answer line)

  -- the chain of a text's lines
  pub lines_each : (path : List Container) (p : Spot) (chain : List Item) (lines : List Place) (t : TextLines) → AreEach P chain
      → AreTextLines d path p chain lines t → AreEach P t.chain
  unfolding AreTextLines
  lines_each path p chain [] t h (k, a, after, i, e) = subst (λ (z : TextLines). AreEach P z.chain) (sym e) (first_each p chain k a h i)
  lines_each path p chain (line ∷ lines) t h (k, a, after, i, inl (ends, e)) =
      subst (λ (z : TextLines). AreEach P z.chain) (sym e) (first_each p chain k a h i)
  lines_each path p chain (line ∷ lines) t h (k, a, after, i, inr (goes, more)) =
      lines_each path (spot (offset (unindented (at_rest line (front path line.rest)))) after) (add_break a.1 (add_tokens chain k)) lines t
      (broken_each a.1 (add_tokens chain k) (break_each P holds.soft holds.hard d.names.texts (content_at d p) k a i) (first_each p chain k a h i)) more

  pub heading_each : (start : ℕ) (index : Option HeadingIndex) (chain : List Item) (e : ℕ) → IsHeading d start index chain e → AreEach P chain
  heading_each start index chain e h =
      subst (AreEach P) (sym h.chain_is)
      (heading_chain_each P holds.text _ start (close_break h.answer.1 (add_tokens [] h.tokens))
      (closed_each P holds.text h.answer.1 (add_tokens [] h.tokens)
      (tokens_each P [] h.tokens tt (line_each d.names.texts P holds (heading_content d start) h.tokens h.answer h.line))))

-- raw lines
module _ (P : ItemBody → Type 0) (d : Document) (raw : HoldsOfRaw d.names.texts P) where
  columns_each : (owed at : ℕ) (items : List Item) → AreColumns d.names owed at items → AreEach P items
  columns_each owed at items is = grind (arith, slice_get_within)

  pub range_html_each : (a b : ℕ) → AreEach P (range_html a b)
  range_html_each a b = (raw.html, tt)

  raw_line_each : (range : Ranges) (owed from to : ℕ) (items : List Item) → ((a b : ℕ) → AreEach P (range a b)) → IsRawLine range d owed from to items
      → AreEach P items
  raw_line_each range owed from to items each (columns, are, is) =
      subst (AreEach P) (sym is)
      (both_each P columns (raw_items range d.text from to) (columns_each owed from columns are) (raw_each P range d.text from to each))

  pub raw_lines_each : (range : Ranges) (chain : List Item) (places : List Place) (whole : List Item) → ((a b : ℕ) → AreEach P (range a b))
      → AreEach P chain → AreRawLines range d chain places whole → AreEach P whole
  unfolding AreRawLines
  raw_lines_each range chain [] whole each h is = subst (AreEach P) (sym is) h
  raw_lines_each range chain (p ∷ places) whole each h (line, is, more) =
      raw_lines_each range (add_tokens chain line) places whole each
      (tokens_each P chain line h (raw_line_each range p.rest.owed (offset p) (line_end p) line each is)) more
