-- The front of a text that ends at a character boundary: order in it is order in the text.
use Rattle.std.proofs.Common.{◌≡◌, ℕ, ◌≤◌, List, [], ◌∷◌, length, take, IsUtf8, IsCharBoundary, sym, subst, arith, length-take-le, take-take}
use Rattle.first_pass_grammar.proofs.Common.{Item, AreInOrder}
use Rattle.std.proofs.lemmas.Str.{IsUtf8-take, IsCharBoundary-from_take}

module _ (text : List ℕ) (e : ℕ) (utf8 : IsUtf8 text) (ends : IsCharBoundary text e) where
  pub front_len : length (take e text) ≡ e
  front_len = length-take-le e text ends.0

  pub front_utf8 : IsUtf8 (take e text)
  front_utf8 = IsUtf8-take text e utf8 ends

  pub place_in_text : (i : ℕ) → IsCharBoundary (take e text) i → IsCharBoundary text i
  place_in_text i b =
      let n = front_len in
      let low = b.0 in
      let high = ends.0 in
      IsCharBoundary-from_take text i utf8 (omega arith) (subst IsUtf8 (take-take i e text (omega arith)) (IsUtf8-take (take e text) i front_utf8 b))

  pub place_in_front : (i : ℕ) → i ≤ e → IsCharBoundary text i → IsCharBoundary (take e text) i
  place_in_front i low b =
      let n = front_len in
      IsCharBoundary-from_take (take e text) i front_utf8 (omega arith) (subst IsUtf8 (sym (take-take i e text low)) (IsUtf8-take text i utf8 b))

  pub order_in_text : (from to : ℕ) (chain : List Item) → AreInOrder (take e text) from to chain → AreInOrder text from to chain
  order_in_text from to [] h = h
  order_in_text from to (x ∷ xs) h = (h.0, h.1, place_in_text x.start h.2, place_in_text x.«end» h.3, order_in_text x.«end» to xs h.4)
