-- The first token that ends after an offset, and the ends of code and math: they are later tokens.
use Rattle.std.proofs.Common.{◌≡◌, ℕ, suc, ◌+◌, ◌<◌, ◌==◌, nat_lt, not, Bool, true, false, List, [], ◌∷◌, length, length-drop, drop, get_or, slice_get}
use Rattle.std.proofs.Common.{Option, Some, None, refl, ap, ◌∙◌, subst, if◌then◌else◌, arith}
use Rattle.std.specs.List.{position_or_len}
use Rattle.std.proofs.lemmas.Bool.Decides.{nat_tests}
use Rattle.std.proofs.lemmas.Option.{none-some, same_Some, get_or_from_slice_get, option_and_then_some}
use Rattle.std.proofs.lemmas.List.{get_or-drop}
use Rattle.std.proofs.lemmas.List.Sums.{prefix_len_stops}
use Rattle.first_pass_items.specs.declared.item.Item.{Item}
use Rattle.first_pass_lines.proofs.OptionFacts.{some_if}
use Rattle.first_pass_atoms.specs.TokenEnds.{closes_at, code_end, code_sought, display_end, ended_at, has_code, has_math, inline_end, is_dollar_at}
use Rattle.first_pass_atoms.specs.TokenEnds.{key_at, later, math_end, opening_context}
use Rattle.first_pass_atoms.specs.declared.token_ends.MathEnd.{MathEnd}
use Rattle.first_pass_atoms.proofs.NextFacts.{some_token}
use Rattle.first_pass_content.specs.declared.tokens.PlacedToken.{PlacedToken}
use Rattle.first_pass_inline.specs.Look.{index_at}

-- the first token that ends after an offset
pub index_found : (ts : List PlacedToken) (index offset : ℕ)
    → (k : ℕ) × (index_at ts index offset ≡ index + k) × ((t : PlacedToken) → slice_get ts k ≡ Some t → offset < t.«end»)
index_found [] index offset = (0, omega arith, λ t e. absurd (none-some t e))
index_found (u ∷ ts) index offset = by_test (nat_lt offset u.«end») refl (index_found ts (index + 1) offset)
  where
    by_test : (b : Bool) → nat_lt offset u.«end» ≡ b
        → (k : ℕ) × (index_at ts (index + 1) offset ≡ index + 1 + k) × ((t : PlacedToken) → slice_get ts k ≡ Some t → offset < t.«end»)
        → (k : ℕ) × ((if b then index else index_at ts (index + 1) offset) ≡ index + k)
        × ((t : PlacedToken) → slice_get (u ∷ ts) k ≡ Some t → offset < t.«end»)
    by_test true h r =
        let less : offset < u.«end» = grind (arith, nat_tests, h) in
        (0, omega arith, λ t e. subst (λ (x : PlacedToken). offset < x.«end») (same_Some u t e) less)
    by_test false h r = (suc r.0, omega (arith, r.1), r.2)

not_false : (b : Bool) → not b ≡ false → b ≡ true
not_false true h = refl
not_false false h = cc

-- the first later node that passes a test
later_is : (test : ℕ × Item → Bool) (ns : List (ℕ × Item)) (i j : ℕ) → later test ns i ≡ Some j
    → (i < j) × (x : ℕ × Item) × (slice_get ns j ≡ Some x) × (test x ≡ true)
later_is test ns i j h =
    let k : ℕ = position_or_len test (drop (i + 1) ns) in
    let s = some_if (nat_lt (i + 1 + k) (length ns)) (Some (i + 1 + k)) j h in
    let same : i + 1 + k ≡ j = same_Some (i + 1 + k) j s.1 in
    let within : i + 1 + k < length ns = grind (arith, nat_tests, s.0) in
    let there = some_token ns j (omega (arith, within, same)) in
    let found : get_or (drop (i + 1) ns) k there.0 ≡ there.0 =
    get_or-drop (i + 1) ns k there.0 ∙ ap (λ n. get_or ns n there.0) same ∙ get_or_from_slice_get ns j there.0 there.0 there.1 in
    let size : k < length (drop (i + 1) ns) = simp length-drop (omega (arith, within)) in
    let stops = prefix_len_stops (λ x. not (test x)) (drop (i + 1) ns) there.0 size in
    (omega (arith, same), there.0, there.1, not_false (test there.0) (subst (λ (x : ℕ × Item). not (test x) ≡ false) found stops))

-- the token that ends a code span is a later one
pub code_later : (ns : List (ℕ × Item)) (i last : ℕ) → code_end ns i ≡ Some last → i < last
unfolding code_end
code_later ns i last h =
    option_and_then_some (λ n. later (has_code n) ns i) (key_at code_sought ns i) last h (λ n key e. (later_is (has_code n) ns i last e).0)

-- the last token of math is a later one
display_later : (ns : List (ℕ × Item)) (i j : ℕ) (e : MathEnd) → (if is_dollar_at ns (j + 1) then Some (ended_at true (j + 1)) else None) ≡ Some e → i + 1 < j
    → i < e.last
display_later ns i j e h l =
    let s = some_if (is_dollar_at ns (j + 1)) (Some (ended_at true (j + 1))) e h in
    omega (arith, l, ap (λ (x : MathEnd). x.last) (same_Some (ended_at true (j + 1)) e s.1))

inline_later : (ns : List (ℕ × Item)) (i j : ℕ) (e : MathEnd) → (if closes_at ns j then Some (ended_at false j) else None) ≡ Some e → i < j → i < e.last
inline_later ns i j e h l =
    let s = some_if (closes_at ns j) (Some (ended_at false j)) e h in
    omega (arith, l, ap (λ (x : MathEnd). x.last) (same_Some (ended_at false j) e s.1))

either_later : (b : Bool) (l m : Option MathEnd) (i : ℕ) (e : MathEnd) → (l ≡ Some e → i < e.last) → (m ≡ Some e → i < e.last) → (if b then l else m) ≡ Some e
    → i < e.last
either_later true l m i e f g h = f h
either_later false l m i e f g h = g h

pub math_later : (ns : List (ℕ × Item)) (i : ℕ) (e : MathEnd) → math_end ns i ≡ Some e → i < e.last
unfolding math_end display_end inline_end
math_later ns i e h =
    option_and_then_some (λ context. if is_dollar_at ns (i + 1) then display_end ns i context else inline_end ns i context) (key_at opening_context ns i) e h
    (λ context key g. either_later (is_dollar_at ns (i + 1)) (display_end ns i context) (inline_end ns i context) i e
    (λ d. option_and_then_some (λ j. if is_dollar_at ns (j + 1) then Some (ended_at true (j + 1)) else None) (later (has_math context) ns (i + 1)) e d
    (λ j n f. display_later ns i j e f (later_is (has_math context) ns (i + 1) j n).0))
    (λ d. option_and_then_some (λ j. if closes_at ns j then Some (ended_at false j) else None) (later (has_math context) ns i) e d
    (λ j n f. inline_later ns i j e f (later_is (has_math context) ns i j n).0)) g)
