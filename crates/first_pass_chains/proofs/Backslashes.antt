-- The backslash that is dropped before a token of a line or a cell is directly before it, and in no earlier token.
use Rattle.std.proofs.Common.{◌≡◌, ℕ, zero, suc, ◌+◌, ◌-◌, ◌≤◌, ◌<◌, ◌==◌, ◌&&◌, min, nat_lt, Bool, true, false, List, [], ◌∷◌, ◌++◌, slice_index, Option, Some}
use Rattle.std.proofs.Common.{None, unwrap_or, sym, subst, ◌∙◌, inl, inr, arith, drop, take, length-take, get_or-take, ltb-true}
use Rattle.std.specs.Option.{option_map_or}
use Rattle.first_pass_tokens.proofs.Common.{CowStr, Item, ItemBody, cond_both, cases_lt, false≢true, backslash, Inline, size}
use Rattle.first_pass_tokens.specs.declared.pieces.Piece.{Piece}
use Rattle.first_pass_tokens.specs.declared.pieces.Piece.TheVariants.{Left, Begins, Token, Run}
use Rattle.first_pass_tokens.specs.declared.pieces.TokenStart.{TokenStart}
use Rattle.first_pass_tokens.specs.declared.pieces.TokenStart.TheVariants.{Ready, Reference, Dashes, Dollar, OpenBrace, CloseBrace}
use Rattle.first_pass_tokens.proofs.Common.{MakesPiece, MathBraces, braces_after}
use Rattle.first_pass_tokens.proofs.Common.{Spot, spot, ArePieces, AreLineTokens, IsCell, add_piece, add_pieces, text_end, blanks_at_end, text_token, token}
use Rattle.first_pass_tokens.proofs.Common.{run_tokens, add_token, add_tokens, add_text, close_break, cut, MaybeEmphasis}
use Rattle.first_pass_tokens.proofs.Common.{backslash_piece_in, backquote, pipe, full_stop, ampersand, hyphen, dollar_sign, left_brace, right_brace}
use Rattle.first_pass_tokens.proofs.Common.{is_special, get_or_past}
use Rattle.first_pass_tokens.specs.Pieces.{found_at, special_found, reference_found, dash_found, dollar_found, special_piece, backslash_piece, backquote_piece}
use Rattle.first_pass_tokens.specs.Pieces.{delimiter_piece, quote_piece, dot_piece, dash_piece, bracket_piece, run_at, is_delimiter, is_quote}
use Rattle.first_pass_entities.specs.Entities.{entity_at}
use Rattle.first_pass_tokens.proofs.ChainLemmas.{add_text-some, add_token-by}
use Rattle.first_pass_tokens.proofs.InOrder.{AreInOrder}
use Rattle.first_pass_tokens.proofs.LineLemmas.{piece_of}
use Rattle.first_pass_tokens.proofs.Escapes.{EscapesStand, EndsBy, ends_later, ends_in_order, ends_add}
use Rattle.first_pass_tree.specs.Forest.{is_escaped as is_text_escaped}
use Rattle.first_pass_tokens.proofs.PieceFacts.{IsPieceAt}
use Rattle.first_pass_reports.specs.Pairs.{is_escaped}
use Rattle.first_pass_content.specs.Chains.{FollowsBackslash}

-- only the token of escaped backquotes is marked, and one byte is dropped before it
abbrev pub DropsOne : Piece → Type 0
DropsOne (Token dropped n body) = is_escaped body ≡ true → dropped ≡ 1
DropsOne (Left n) = Unit {0}
DropsOne (Begins dropped escaped) = Unit {0}
DropsOne (Run n opens closes) = Unit {0}

abbrev FoundDrops : TokenStart → Type 0
FoundDrops (Ready piece) = DropsOne piece
FoundDrops (Reference n c) = Unit {0}
FoundDrops (Dashes n) = Unit {0}
FoundDrops (Dollar opens closes) = Unit {0}
FoundDrops OpenBrace = Unit {0}
FoundDrops CloseBrace = Unit {0}

backslash_drops : (text : List ℕ) (at : ℕ) → DropsOne (backslash_piece text at)
unfolding backslash_piece
backslash_drops text at = grind (arith, cond_both)

pipe_drops : (row : Bool) (text : List ℕ) (at : ℕ) → DropsOne (backslash_piece_in row text at)
pipe_drops false text at = backslash_drops text at
pipe_drops true text at =
    let Drops : Option Piece → Type 0 = λ o. DropsOne (unwrap_or o (backslash_piece text at)) in
    cond_both (slice_index text (at + 1) == pipe) _ _ Drops (λ b. tt)
    (λ b. cond_both (slice_index text (at + 1) == backslash && slice_index text (at + 2) == pipe) _ _ Drops (λ b. tt) (λ b. backslash_drops text at))

backquote_drops : (text : List ℕ) (at : ℕ) → DropsOne (backquote_piece text at)
unfolding backquote_piece
backquote_drops text at = λ e. absurd (false≢true e)

delimiter_drops : (s : Inline) (at : ℕ) → DropsOne (delimiter_piece s at)
unfolding delimiter_piece
delimiter_drops s at = grind (arith, cond_both)

quote_drops : (s : Inline) (at : ℕ) → DropsOne (quote_piece s at)
unfolding quote_piece
quote_drops s at = λ e. absurd (false≢true e)

dot_drops : (text : List ℕ) (at : ℕ) → DropsOne (dot_piece text at)
unfolding dot_piece
dot_drops text at = grind (arith, cond_both, false≢true)

bracket_drops : (text : List ℕ) (at : ℕ) → DropsOne (bracket_piece text at)
unfolding bracket_piece
bracket_drops text at = grind (arith, cond_both, false≢true)

special_drops : (s : Inline) (at : ℕ) → DropsOne (special_piece s at)
unfolding special_piece
special_drops s at =
    cond_both (slice_index s.text at == backslash) _ _ DropsOne (λ b. pipe_drops s.row s.text at)
    (λ b. cond_both (slice_index s.text at == backquote) _ _ DropsOne (λ b. backquote_drops s.text at)
    (λ b. cond_both (is_delimiter (slice_index s.text at)) _ _ DropsOne (λ b. delimiter_drops s at)
    (λ b. cond_both (is_quote (slice_index s.text at)) _ _ DropsOne (λ b. quote_drops s at)
    (λ b. cond_both (slice_index s.text at == full_stop) _ _ DropsOne (λ b. dot_drops s.text at) (λ b. bracket_drops s.text at)))))

dash_drops : (text : List ℕ) (at : ℕ) → DropsOne (dash_piece text at)
unfolding dash_piece
dash_drops text at = grind (arith, cond_both, false≢true)

reference_drops : (o : Option (ℕ × ℕ)) → FoundDrops (option_map_or (λ (e : ℕ × ℕ). Reference e.0 e.1) o (Ready (Left 1)))
reference_drops None = tt
reference_drops (Some e) = tt

found_drops : (s : Inline) (at : ℕ) → FoundDrops (found_at s at)
unfolding found_at special_found reference_found dash_found dollar_found
found_drops s at =
    let b : ℕ = slice_index s.text at in
    cond_both (is_special s.options b) (special_found s at) (Ready (Left 1)) FoundDrops
    (λ special. cond_both (b == ampersand) (reference_found s.text at) _ FoundDrops (λ h. reference_drops (entity_at (drop at s.text)))
    (λ h. cond_both (b == hyphen) (dash_found s.text at) _ FoundDrops
    (λ h. cond_both (nat_lt 3 (run_at s.text at)) (Dashes (run_at s.text at)) (Ready (dash_piece s.text at)) FoundDrops (λ many. tt)
    (λ few. dash_drops s.text at))
    (λ h. cond_both (b == dollar_sign) (dollar_found s at) _ FoundDrops (λ h. tt)
    (λ h. cond_both (b == left_brace) OpenBrace _ FoundDrops (λ h. tt)
    (λ h. cond_both (b == right_brace) CloseBrace _ FoundDrops (λ h. tt) (λ h. special_drops s at))))))
    (λ plain. tt)

made_drops : (texts : List CowStr) (b : MathBraces) (found : TokenStart) (p : Piece) → FoundDrops found → MakesPiece texts b found p → DropsOne p
made_drops texts b found p drops is = grind (arith, false≢true)

-- the backslash that was dropped before each of these tokens is directly before it, and in no earlier one
abbrev pub FollowBackslashes : List ℕ → ℕ → List Item → Type 0
FollowBackslashes text from [] = Unit {0}
FollowBackslashes text from (x ∷ xs) = FollowsBackslash text from x × FollowBackslashes text x.«end» xs

-- a token is appended
follow_add : (text : List ℕ) (from mid : ℕ) (chain : List Item) (y : Item) → EndsBy from mid chain → FollowBackslashes text from chain
    → FollowsBackslash text mid y → FollowBackslashes text from (add_token chain y)
follow_add text from mid chain y h k following =
    add_token-by (λ xs ys. (low : ℕ) → EndsBy low mid xs → FollowBackslashes text low xs → FollowBackslashes text low ys) y
    (λ low h k. ((λ e. (omega (arith, (following e).0), (following e).1)), tt)) (λ x t first second place low h k. (k.0, tt))
    (λ x xs ys add low h k. (k.0, add x.«end» h k.1)) chain from h k

-- so are the tokens of a text
pub follow_adds : (text : List ℕ) (from mid : ℕ) (chain tokens : List Item) → EndsBy from mid chain → FollowBackslashes text from chain
    → FollowBackslashes text mid tokens → FollowBackslashes text from (add_tokens chain tokens)
follow_adds text from mid chain [] h k stand = k
follow_adds text from mid chain (x ∷ xs) h k stand =
    follow_adds text from x.«end» (add_token chain x) xs (ends_add from x.«end» chain x (omega arith)) (follow_add text from mid chain x h k stand.0) stand.1

pub ends_adds : (text : List ℕ) (from mid to : ℕ) (chain tokens : List Item) → EndsBy from mid chain → AreInOrder text mid to tokens
    → EndsBy from to (add_tokens chain tokens)
ends_adds text from mid to chain [] h order = ends_later from mid to chain h order
ends_adds text from mid to chain (x ∷ xs) h order =
    ends_adds text from x.«end» to (add_token chain x) xs (ends_add from x.«end» chain x (omega arith)) order.4

-- an item is appended, and joined to none
pub ends_append : (from at : ℕ) (chain : List Item) (x : Item) → x.«end» ≤ at → EndsBy from at (chain ++ x ∷ [])
ends_append from at [] x low = low
ends_append from at (y ∷ chain) x low = ends_append y.«end» at chain x low

-- from an earlier offset on
pub follow_earlier : (text : List ℕ) (low from : ℕ) (chain : List Item) → low ≤ from → FollowBackslashes text from chain → FollowBackslashes text low chain
follow_earlier text low from [] less h = tt
follow_earlier text low from (x ∷ chain) less h = ((λ e. (omega (arith, (h.0 e).0), (h.0 e).1)), h.1)

-- a chain that is cut
pub follow_cut : (text : List ℕ) (from e : ℕ) (chain : List Item) → FollowBackslashes text from chain → FollowBackslashes text from (cut e chain)
follow_cut text from e [] h = tt
follow_cut text from e (x ∷ chain) h =
    let rest = follow_cut text x.«end» e chain h.1 in
    cond_both (nat_lt x.start e) _ _ (FollowBackslashes text from)
    (λ b. cond_both (nat_lt e x.«end») (record x { «end» = e }) x (λ (y : Item). FollowBackslashes text from (y ∷ cut e chain))
    (λ less. (h.0, follow_earlier text e x.«end» (cut e chain) (omega (arith, ltb-true e x.«end» less)) rest)) (λ more. (h.0, rest)))
    (λ b. cond_both (is_text_escaped x.body && (x.start == e)) (text_token (e - 1) e false ∷ []) [] (FollowBackslashes text from)
    (λ b. ((λ marked. absurd (false≢true marked)), tt)) (λ b. tt))

-- the escaped texts among these tokens follow their backslashes
pub escapes_of : (text : List ℕ) (from : ℕ) (chain : List Item) → FollowBackslashes text from chain → EscapesStand text from chain
escapes_of text from [] h = tt
escapes_of text from (x ∷ chain) h = ((λ e. h.0 (text_is_marked x.body e)), escapes_of text x.«end» chain h.1)
  where
    text_is_marked : (body : ItemBody) → is_text_escaped body ≡ true → is_escaped body ≡ true
    text_is_marked body e = grind (arith, false≢true)

-- in a text of which this is the front
pub follow_in_text : (text : List ℕ) (e from : ℕ) (chain : List Item) → FollowBackslashes (take e text) from chain → FollowBackslashes text from chain
follow_in_text text e from [] h = tt
follow_in_text text e from (x ∷ chain) h = ((λ marked. ((h.0 marked).0, byte (x.start - 1) (h.0 marked).1)), follow_in_text text e x.«end» chain h.1)
  where
    byte : (k : ℕ) → slice_index (take e text) k ≡ backslash → slice_index text k ≡ backslash
    byte k is = elim (cases_lt k e) [
      | inl less ↦ sym (get_or-take e text k 0 less) ∙ is
      | inr more ↦ (let size = length-take e text in let past = get_or_past (take e text) k 0 (omega arith) in absurd (omega arith))
    ]

-- the backslash at the end of the last line of a block
pub follow_closed : (text : List ℕ) (from to : ℕ) (break : Option Item) (chain : List Item) → AreInOrder text from to chain → FollowBackslashes text from chain
    → FollowBackslashes text from (close_break break chain)
follow_closed text from to break chain h k = grind (arith, cond_both, add_text-some, follow_add, ends_in_order, false≢true)

-- an item before which no backslash was dropped
pub follow_append : (text : List ℕ) (from : ℕ) (chain : List Item) (y : Item)
    → FollowBackslashes text from chain → is_escaped y.body ≡ false → FollowBackslashes text from (chain ++ y ∷ [])
follow_append text from [] y k plain = ((λ e. absurd (false≢true (sym plain ∙ e))), tt)
follow_append text from (x ∷ xs) y k plain = (k.0, follow_append text x.«end» xs y k.1 plain)

module _ (s : Inline) where
  text_follows : (from at begin to next : ℕ) (escaped : Bool) (chain : List Item) → at ≤ next → to ≤ next
      → (escaped ≡ true → (at < begin) × (slice_index s.text (begin - 1) ≡ backslash)) → EndsBy from at chain × FollowBackslashes s.text from chain
      → EndsBy from next (add_text begin to escaped chain) × FollowBackslashes s.text from (add_text begin to escaped chain)
  text_follows from at begin to next escaped chain order within is h =
      cond_both (nat_lt begin to) (add_token chain (text_token begin to escaped)) chain (λ c. EndsBy from next c × FollowBackslashes s.text from c)
      (λ b. (ends_add from next chain (text_token begin to escaped) within, follow_add s.text from at chain (text_token begin to escaped) h.0 h.1 is))
      (λ b. (ends_later from at next chain h.0 order, h.1))

  run_follows : (from at n : ℕ) (opens closes : Bool) (chain : List Item) → EndsBy from at chain × FollowBackslashes s.text from chain
      → EndsBy from (at + n) (add_tokens chain (run_tokens at n opens closes)) × FollowBackslashes s.text from (add_tokens chain (run_tokens at n opens closes))
  run_follows from at zero opens closes chain h = (ends_later from at (at + 0) chain h.0 (omega arith), h.1)
  run_follows from at (suc n) opens closes chain h =
      let x : Item = token at 1 (MaybeEmphasis (suc n) opens closes) in
      let past : at + 1 + n ≡ at + suc n = omega arith in
      subst (λ (e : ℕ). EndsBy from e (add_tokens chain (run_tokens at (suc n) opens closes))
      × FollowBackslashes s.text from (add_tokens chain (run_tokens at (suc n) opens closes))) past
      (run_follows from (at + 1) n opens closes (add_token chain x)
      (ends_add from (at + 1) chain x (omega arith), follow_add s.text from at chain x h.0 h.1 (λ e. absurd (false≢true e))))

  piece_follows : (from stop at : ℕ) (p : Piece) (chain : List Item) → IsPieceAt s.text at p → DropsOne p
      → EndsBy from at chain × FollowBackslashes s.text from chain
      → EndsBy from (at + size p) (add_piece stop at p chain) × FollowBackslashes s.text from (add_piece stop at p chain)
  piece_follows from stop at (Left n) chain facts drops h =
      text_follows from at at (min (at + n) stop) (at + n) false chain (omega arith) (omega arith) (λ e. absurd (false≢true e)) h
  piece_follows from stop at (Begins dropped escaped) chain facts drops h =
      text_follows from at (at + dropped) (min (at + (dropped + 1)) stop) (at + (dropped + 1)) escaped chain (omega arith) (omega arith)
      (λ e. (omega (arith, facts.some), facts.backslashes (at + dropped - 1) (omega (arith, facts.some)) (omega (arith, facts.some)))) h
  piece_follows from stop at (Token dropped n body) chain facts drops h =
      let x : Item = token (at + dropped) n body in
      let past : at + dropped + n ≡ at + (dropped + n) = omega arith in (
        ends_add from (at + (dropped + n)) chain x (omega arith),
        follow_add s.text from at chain x h.0 h.1 (λ e.
            let one : dropped ≡ 1 = drops e in
            (omega arith, facts.backslashes (at + dropped - 1) (omega arith) (omega arith))),
      )
  piece_follows from stop at (Run n opens closes) chain facts drops h = run_follows from at n opens closes chain h

  pieces_follow : (texts : List CowStr) (from stop at : ℕ) (b : MathBraces) (ps : List Piece) (to : Spot) (chain : List Item) → ArePieces texts s at b ps to
      → EndsBy from at chain × FollowBackslashes s.text from chain → FollowBackslashes s.text from (add_pieces stop at ps chain)
  pieces_follow texts from stop at b [] to chain are h = h.1
  pieces_follow texts from stop at b (p ∷ ps) to chain are h =
      pieces_follow texts from stop (at + size p) (braces_after (found_at s at) b) ps to (add_piece stop at p chain) are.2
      (piece_follows from stop at p chain (piece_of texts b s at p are.0 are.1) (made_drops texts b (found_at s at) p (found_drops s at) are.1) h)

-- the tokens of a line
pub line_follows : {texts : List CowStr} {s : Inline} {tokens : List Item} {answer : ℕ × Option Item} {after : MathBraces}
    → AreLineTokens texts s tokens answer after → FollowBackslashes s.text s.start tokens
line_follows {texts} {s} {tokens} {answer} {after} line =
    subst (FollowBackslashes s.text s.start) (sym line.tokens_are)
    (pieces_follow s texts s.start (text_end s line.content_end) s.start s.braces line.pieces (spot line.content_end after) [] line.division.divided
    (omega arith, tt))

-- the tokens of a cell
pub cell_follows : {texts : List CowStr} {s : Inline} {tokens : List Item} {end : ℕ} {after : MathBraces} → IsCell texts s tokens end after
    → FollowBackslashes s.text s.start tokens
cell_follows {texts} {s} {tokens} {end} {after} cell =
    subst (FollowBackslashes s.text s.start) (sym cell.tokens_are)
    (pieces_follow s texts s.start (end - blanks_at_end s end) s.start s.braces cell.pieces (spot end after) [] cell.division.divided (omega arith, tt))
