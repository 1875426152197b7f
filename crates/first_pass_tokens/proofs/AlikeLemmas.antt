-- A line has only one list of tokens, except for the indices of the texts that they name, and so has a cell.
use Rattle.std.proofs.Common.{◌≡◌, ℕ, zero, suc, ◌+◌, Bool, true, false, List, ◌∷◌, length, Option, Some, refl, sym, ap, subst, ◌∙◌, inl, inr, option_map}
use Rattle.std.proofs.Common.{true≢false, arith, []}
use Rattle.first_pass_tokens.proofs.Common.{CowStr, Item, cases_lt, cases_Bool, cond_both, Piece, MathBraces, braces_after, Left, Token, Ready, Inline, size}
use Rattle.first_pass_tokens.proofs.Common.{NamesAmong, MakesPiece, Spot, content_ends_at, ArePieces, IsInPieces, AreLineTokens, IsCell, add_piece, add_pieces}
use Rattle.first_pass_tokens.proofs.Common.{is_text, token, run_tokens, add_token, add_tokens, add_text, CowIndex, TokenStart, MaybeEmphasis, get_or_past}
use Rattle.first_pass_tokens.proofs.Common.{ItemBody, is_special}
use Rattle.first_pass_items.specs.CowText.{text_of}
use Rattle.first_pass_tokens.specs.Alike.{text_among, BodiesAlike, ItemsAlike, AreAlike}
use Rattle.first_pass_tokens.specs.Pieces.{found_at, special_found, special_piece, bracket_piece}
use Rattle.first_pass_tokens.proofs.PieceFacts.{IsFoundAt, found_facts}
pub use Rattle.first_pass_tokens.proofs.PieceFacts.{names_text, NamesNone}

abbrev pub ReadyNamesNone : TokenStart → Type 0
ReadyNamesNone (Ready piece) = NamesNone piece
ReadyNamesNone _ = Unit {0}

ready_none : (text : List ℕ) (at : ℕ) (found : TokenStart) → IsFoundAt text at found → ReadyNamesNone found
ready_none text at found facts = grind arith

-- the piece found at a place names no text if it is ready; past the text it is plain text
pub found_none : (s : Inline) (at : ℕ) → ReadyNamesNone (found_at s at)
unfolding found_at special_found special_piece bracket_piece
found_none s at =
    elim (cases_lt at (length s.text)) [
      | inl within ↦ ready_none s.text at (found_at s at) (found_facts s at within)
      | inr past ↦ rw (get_or_past s.text at 0 past) (cond_both (is_special s.options 0) (Ready (Left 1)) (Ready (Left 1)) ReadyNamesNone (λ h. tt) (λ h. tt))
    ]

module _ (texts others : List CowStr) where
  -- of two kinds that are alike, both are texts or neither is
  bodies_text : (x y : ItemBody) → BodiesAlike texts others x y → is_text x ≡ is_text y
  bodies_text x y h = grind arith

  -- a kind that names no text is like itself
  bodies_same : (body : ItemBody) → names_text body ≡ false → BodiesAlike texts others body body
  bodies_same body h = grind (arith, true≢false)

  -- a token after each of two chains
  pub alike_add : (xs us : List Item) (y v : Item) → AreAlike texts others xs us → ItemsAlike texts others y v
      → AreAlike texts others (add_token xs y) (add_token us v)
  alike_add [] [] y v h k = (k, tt)
  alike_add [] (u ∷ us) y v h k = absurd h
  alike_add (x ∷ xs) [] y v h k = absurd h
  alike_add (x ∷ []) (u ∷ []) y v h k = grind (arith, bodies_text, cases_Bool)
  alike_add (x ∷ []) (u ∷ w ∷ ws) y v h k = absurd h.1
  alike_add (x ∷ z ∷ zs) (u ∷ []) y v h k = absurd h.1
  alike_add (x ∷ z ∷ zs) (u ∷ w ∷ ws) y v h k = (h.0, alike_add (z ∷ zs) (w ∷ ws) y v h.1 k)

  pub alike_text : (from to : ℕ) (escaped : Bool) (xs us : List Item) → AreAlike texts others xs us
      → AreAlike texts others (add_text from to escaped xs) (add_text from to escaped us)
  alike_text from to escaped xs us h = grind (arith, cases_Bool, alike_add)

  alike_run : (at n : ℕ) (opens closes : Bool) (xs us : List Item) → AreAlike texts others xs us
      → AreAlike texts others (add_tokens xs (run_tokens at n opens closes)) (add_tokens us (run_tokens at n opens closes))
  alike_run at zero opens closes xs us h = h
  alike_run at (suc n) opens closes xs us h =
      let x = token at 1 (MaybeEmphasis (suc n) opens closes) in
      alike_run (at + 1) n opens closes (add_token xs x) (add_token us x) (alike_add xs us x x h (record { starts = refl; ends = refl; bodies = refl }))

  -- two pieces are equal; or they are tokens of the same bytes, of kinds that are alike
  abbrev PiecesAlike : Piece → Piece → Type 0
  PiecesAlike (Token dropped n body) q = (other : ItemBody) × (q ≡ Token dropped n other) × BodiesAlike texts others body other
  PiecesAlike p q = q ≡ p

  alike_size : (p q : Piece) → PiecesAlike p q → size q ≡ size p
  alike_size p q h = grind arith

  alike_piece : (stop at : ℕ) (p q : Piece) (xs us : List Item) → PiecesAlike p q → AreAlike texts others xs us
      → AreAlike texts others (add_piece stop at p xs) (add_piece stop at q us)
  alike_piece stop at p q xs us h are = grind (arith, alike_text, alike_add, alike_run)

  piece_same : (p : Piece) → NamesNone p → PiecesAlike p p
  piece_same p none = grind (arith, bodies_same)

  among_same : (ix iy : CowIndex) (text : List ℕ) → NamesAmong texts ix text → NamesAmong others iy text → text_among texts ix ≡ text_among others iy
  among_same ix iy text h k = ap (option_map text_of) h.1 ∙ ap (λ (t : List ℕ). Some t) (h.2 ∙ sym k.2) ∙ sym (ap (option_map text_of) k.1)

  pieces_alike : (b : MathBraces) (found : TokenStart) (p q : Piece) → ReadyNamesNone found → MakesPiece texts b found p → MakesPiece others b found q
      → PiecesAlike p q
  pieces_alike b found p q none h k = grind (arith, piece_same, among_same)

  -- a content has only one division, except for the indices
  record OneWay (s : Inline) (at : ℕ) (ps qs : List Piece) (to stop : Spot) : Type 0 where
    ends : to ≡ stop
    gives : (cut : ℕ) (xs us : List Item) → AreAlike texts others xs us → AreAlike texts others (add_pieces cut at ps xs) (add_pieces cut at qs us)

  one_way : (s : Inline) (at : ℕ) (b : MathBraces) (ps : List Piece) (to : Spot) (qs : List Piece) (stop : Spot)
      → ArePieces texts s at b ps to → content_ends_at s to.at ≡ true
      → ArePieces others s at b qs stop → content_ends_at s stop.at ≡ true → OneWay s at ps qs to stop
  one_way s at b [] to [] stop h f k g = record { ends = sym h ∙ k; gives = λ cut xs us are. are }
  one_way s at b [] to (q ∷ qs) stop h f k g = absurd (true≢false (sym f ∙ ap (λ (t : Spot). content_ends_at s t.at) (sym h) ∙ k.0))
  one_way s at b (p ∷ ps) to [] stop h f k g = absurd (true≢false (sym g ∙ ap (λ (t : Spot). content_ends_at s t.at) (sym k) ∙ h.0))
  one_way s at b (p ∷ ps) to (q ∷ qs) stop h f k g =
      let first = pieces_alike b (found_at s at) p q (found_none s at) h.1 k.1 in
      let same = alike_size p q first in
      let next = braces_after (found_at s at) b in
      let rest = one_way s (at + size p) next ps to qs stop h.2 f (subst (λ (n : ℕ). ArePieces others s (at + n) next qs stop) same k.2) g in
      record {
        ends = rest.ends;
        gives = λ cut xs us are.
            rw same (rest.gives cut (add_piece cut at p xs) (add_piece cut at q us) (alike_piece cut at p q xs us first are));
      }

  one_division : (s : Inline) (ps qs : List Piece) (to stop : Spot) → IsInPieces texts s ps to → IsInPieces others s qs stop → OneWay s s.start ps qs to stop
  one_division s ps qs to stop h k = one_way s s.start s.braces ps to qs stop h.divided h.ended k.divided k.ended

  -- a line has only one list of tokens, except for the indices, and one end and break
  pub one_line : (s : Inline) (tokens more : List Item) (a b : ℕ × Option Item) (c d : MathBraces) → AreLineTokens texts s tokens a c
      → AreLineTokens others s more b d
      → AreAlike texts others tokens more × (a ≡ b) × (c ≡ d)
  one_line s tokens more a b c d h k = grind (arith, one_division)

  -- a cell has only one list of tokens, except for the indices, and one end
  pub one_cell : (s : Inline) (tokens more : List Item) (a b : ℕ) (c d : MathBraces) → IsCell texts s tokens a c → IsCell others s more b d
      → AreAlike texts others tokens more × (a ≡ b) × (c ≡ d)
  one_cell s tokens more a b c d h k = grind (arith, one_division)
