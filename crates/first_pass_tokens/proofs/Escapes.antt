-- Each escaped text of a chain is directly after a backslash that no token has, so a chain may be cut at any offset
-- between two characters.
use Rattle.std.proofs.Common.{◌≡◌, ℕ, ◌+◌, ◌-◌, ◌≤◌, ◌<◌, ◌==◌, ◌&&◌, true, false, List, ◌∷◌, ◌++◌, slice_index, Option, IsCharBoundary, nat_lt, if◌then◌else◌}
use Rattle.std.proofs.Common.{inl, inr, refl, sym, subst, ◌∙◌, arith, lt-ltb, le-ltb, eqb-true, []}
use Rattle.first_pass_tokens.proofs.Common.{CowStr, Item, cond-false, cond_both, cases_lt, and_parts, and_right, false≢true, backslash, MathBraces, Inline}
use Rattle.first_pass_tokens.proofs.Common.{AreLineTokens, is_escaped, text_token, add_token, add_tokens, close_break, cut}
use Rattle.first_pass_tokens.proofs.InOrder.{AreInOrder, HaveBytes}
use Rattle.first_pass_tokens.proofs.ChainLemmas.{add_text-some, add_token-by}
use Rattle.first_pass_tokens.proofs.LineLemmas.{line_keeps}
use Rattle.first_pass_tokens.proofs.OrderLemmas.{order_add}

-- an escaped text begins after an offset, and directly after a backslash
abbrev pub EscapeAfter : List ℕ → ℕ → Item → Type 0
EscapeAfter text from x = is_escaped x.body ≡ true → (from < x.start) × (slice_index text (x.start - 1) ≡ backslash)

-- each escaped text of a chain is directly after a backslash that no token has
abbrev pub EscapesStand : List ℕ → ℕ → List Item → Type 0
EscapesStand text from [] = Unit {0}
EscapesStand text from (x ∷ xs) = EscapeAfter text from x × EscapesStand text x.«end» xs

-- the last token of a chain from an offset on ends at another offset or before it
abbrev pub EndsBy : ℕ → ℕ → List Item → Type 0
EndsBy from at [] = from ≤ at
EndsBy from at (x ∷ xs) = EndsBy x.«end» at xs

pub ends_later : (from at later : ℕ) (chain : List Item) → EndsBy from at chain → at ≤ later → EndsBy from later chain
ends_later from at later [] h more = omega arith
ends_later from at later (x ∷ xs) h more = ends_later x.«end» at later xs h more

pub ends_in_order : (text : List ℕ) (from to : ℕ) (chain : List Item) → AreInOrder text from to chain → EndsBy from to chain
ends_in_order text from to [] h = h
ends_in_order text from to (x ∷ xs) h = ends_in_order text x.«end» to xs h.4

pub ends_add : (from at : ℕ) (chain : List Item) (y : Item) → y.«end» ≤ at → EndsBy from at (add_token chain y)
ends_add from at chain y within =
    add_token-by (λ xs ys. (low : ℕ) → EndsBy low at ys) y (λ low. within) (λ x t first second place low. within) (λ x xs ys add low. add x.«end») chain from

-- a token is appended
pub escapes_add : (text : List ℕ) (from mid : ℕ) (chain : List Item) (y : Item) → EndsBy from mid chain → EscapesStand text from chain → EscapeAfter text mid y
    → EscapesStand text from (add_token chain y)
escapes_add text from mid chain y h k following =
    add_token-by (λ xs ys. (low : ℕ) → EndsBy low mid xs → EscapesStand text low xs → EscapesStand text low ys) y
    (λ low h k. ((λ e. (omega (arith, (following e).0), (following e).1)), tt)) (λ x t first second place low h k. (k.0, tt))
    (λ x xs ys add low h k. (k.0, add x.«end» h k.1)) chain from h k

-- the tokens of a text are joined to a chain
pub escapes_adds : (text : List ℕ) (from mid to : ℕ) (chain tokens : List Item)
    → AreInOrder text from mid chain → EscapesStand text from chain → AreInOrder text mid to tokens
    → EscapesStand text mid tokens → EscapesStand text from (add_tokens chain tokens)
escapes_adds text from mid to chain [] h k order stand = k
escapes_adds text from mid to chain (x ∷ xs) h k order stand =
    escapes_adds text from x.«end» to (add_token chain x) xs (order_add text from mid chain x h order.0 order.1 order.2 order.3)
    (escapes_add text from mid chain x (ends_in_order text from mid chain h) k stand.0) order.4 stand.1

-- the backslash at the end of the last line of a block
pub escapes_closed : (text : List ℕ) (from to : ℕ) (break : Option Item) (chain : List Item) → AreInOrder text from to chain → EscapesStand text from chain
    → EscapesStand text from (close_break break chain)
escapes_closed text from to break chain h k = grind (arith, cond_both, add_text-some, escapes_add, ends_in_order, false≢true)

-- an item that is no escaped text is appended
pub escapes_append : (text : List ℕ) (from : ℕ) (chain : List Item) (y : Item)
    → EscapesStand text from chain → is_escaped y.body ≡ false → EscapesStand text from (chain ++ y ∷ [])
escapes_append text from [] y k plain = (λ e. absurd (false≢true (sym plain ∙ e)), tt)
escapes_append text from (x ∷ xs) y k plain = (k.0, escapes_append text x.«end» xs y k.1 plain)

-- The escaped texts of a line are directly after their backslashes.
pub line_escapes : {texts : List CowStr} {s : Inline} {tokens : List Item} {answer : ℕ × Option Item} {after : MathBraces}
    → AreLineTokens texts s tokens answer after → EscapesStand s.text s.start tokens
line_escapes {texts} {s} line =
    (line_keeps s (λ at chain. EndsBy s.start at chain × EscapesStand s.text s.start chain)
    (λ at to chain order h. (ends_later s.start at to chain h.0 order, h.1))
    (λ at chain x is h. (ends_add s.start x.«end» chain x (omega arith), escapes_add s.text s.start at chain x h.0 h.1 is.escape)) line (omega arith, tt)).1

-- a chain that begins after the cut becomes empty
cut_beyond : (text : List ℕ) (from to e : ℕ) (chain : List Item) → e < from → AreInOrder text from to chain → cut e chain ≡ []
cut_beyond text from to e [] past h = refl
cut_beyond text from to e (x ∷ xs) past h = grind (arith, cond-false, and_right)

-- the backslash of an escaped text that is cut off, or nothing
abbrev left_after : ℕ → Item → List Item
left_after e x = if is_escaped x.body && (x.start == e) then text_token (e - 1) e false ∷ [] else []

backslash_in_order : (text : List ℕ) (from e : ℕ) (x : Item)
    → EscapeAfter text from x → IsCharBoundary text e → from ≤ e → AreInOrder text from e (left_after e x)
backslash_in_order text from e x stands at order = grind (arith, cond_both, and_parts)

-- A chain in order is in order up to a cut, also if an escaped text begins at the cut.
pub cut_escaped : (text : List ℕ) (from to e : ℕ) (chain : List Item)
    → AreInOrder text from to chain → EscapesStand text from chain → IsCharBoundary text e → from ≤ e
    → AreInOrder text from e (cut e chain)
cut_escaped text from to e [] h k at order = order
cut_escaped text from to e (x ∷ xs) h k at order =
    elim (cases_lt x.start e) [
      | inl before ↦ rw (lt-ltb x.start e before) (elim (cases_lt e x.«end») [
        | inl over ↦ rw (lt-ltb e x.«end» over)
            (h.0, omega arith, h.2, at, subst (AreInOrder text e e) (sym (cut_beyond text x.«end» to e xs over h.4)) (omega arith))
        | inr whole ↦ rw (le-ltb e x.«end» whole) (h.0, h.1, h.2, h.3, cut_escaped text x.«end» to e xs h.4 k.1 at whole)
      ])
      | inr following ↦ rw (le-ltb x.start e following) (backslash_in_order text from e x k.0 at order)
    ]

-- Each token of a chain has a byte after a cut.
pub cut_has_bytes : (text : List ℕ) (from e : ℕ) (chain : List Item) → HaveBytes chain → EscapesStand text from chain → HaveBytes (cut e chain)
cut_has_bytes text from e [] h k = tt
cut_has_bytes text from e (x ∷ xs) h k =
    elim (cases_lt x.start e) [
      | inl before ↦
          let first = cond_both (nat_lt e x.«end») (record x { «end» = e }) x (λ (y : Item). y.start < y.«end») (λ b. before) (λ b. h.0) in
          rw (lt-ltb x.start e before) (first, cut_has_bytes text x.«end» e xs h.1 k.1)
      | inr following ↦ rw (le-ltb x.start e following) (cond_both (is_escaped x.body && (x.start == e)) (text_token (e - 1) e false ∷ []) [] HaveBytes
          (λ b.
          let both = and_parts (is_escaped x.body) (x.start == e) b in
          (omega (arith, eqb-true x.start e both.1, (k.0 both.0).0), tt))
          (λ b. tt))
    ]
