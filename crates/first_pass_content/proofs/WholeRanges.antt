-- The range of a part of a content whose pieces are whole.
use Rattle.std.proofs.Common.{◌≡◌, ℕ, zero, suc, ◌-◌, ◌<◌, ◌≤◌, Bool, true, false, List, [], ◌∷◌, length}
use Rattle.std.proofs.Common.{IsUtf8, IsCharBoundary, refl, subst, arith, ltb-true, nat_lt}
use Rattle.std.proofs.Math.Nat.{le_refl}
use Rattle.std.proofs.lemmas.List.{length-map}
use Rattle.std.proofs.lemmas.Str.{IsCharBoundary-start}
use Rattle.std.specs.Prelude.{if◌then◌else◌}
use Rattle.std.specs.declared.ops.Range.{Range}
use Rattle.first_pass_content.specs.Chains.{AreRangesIn}
use Rattle.first_pass_content.specs.Content.{ContentByte, byte_at, bytes_of, edge, range_in}
use Rattle.first_pass_content.specs.Parts.{part}
use Rattle.first_pass_content.proofs.Pieces.{AreWhole, FirstBegins, IsPiece}

-- a range of the text on character boundaries
pub record IsWhole (text : List ℕ) (r : Range ℕ) : Type 0 where
  pub order : r.start ≤ r.«end»
  pub starts : IsCharBoundary text r.start
  pub ends : IsCharBoundary text r.«end»

boundary_after : (b : ℕ) (bs : List ℕ) (k : ℕ) → IsCharBoundary (b ∷ bs) (suc k) → IsCharBoundary bs k
boundary_after b bs k is = (omega (arith, is.0), λ under. is.1 (omega (arith, under)))

first_begins : (c : List ContentByte) → IsCharBoundary (bytes_of c) 0 → FirstBegins c
first_begins [] is = tt
first_begins (b ∷ c) is = is.1 (omega arith)

starts_whole : (text : List ℕ) (c : List ContentByte) (k : ℕ) → AreWhole text c → k < length c → IsCharBoundary (bytes_of c) k
    → IsCharBoundary text (byte_at c k).start
starts_whole text [] k are within is = absurd (omega arith)
starts_whole text (b ∷ c) zero are within is = are.0 (first_begins (b ∷ c) is)
starts_whole text (b ∷ c) (suc k) are within is = starts_whole text c k are.2 (omega arith) (boundary_after b.byte (bytes_of c) k is)

ends_whole : (text : List ℕ) (c : List ContentByte) (k : ℕ) → AreWhole text c → k < length c → IsCharBoundary (bytes_of c) (suc k)
    → IsCharBoundary text (byte_at c k).«end»
ends_whole text [] k are within is = absurd (omega arith)
ends_whole text (b ∷ c) zero are within is = are.1 (first_begins c (boundary_after b.byte (bytes_of c) 0 is))
ends_whole text (b ∷ c) (suc k) are within is = ends_whole text c k are.2 (omega arith) (boundary_after b.byte (bytes_of c) (suc k) is)

-- the ranges of later bytes are later
ends_later : (from to : ℕ) (c : List ContentByte) (k : ℕ) → AreRangesIn from to c → k < length c → from ≤ (byte_at c k).«end»
ends_later from to [] k are within = absurd (omega arith)
ends_later from to (b ∷ c) zero are within = omega (arith, are.0, are.1)
ends_later from to (b ∷ c) (suc k) are within = let more = ends_later b.«end» to c k are.2 (omega arith) in omega (arith, are.0, are.1, more)

in_order : (from to : ℕ) (c : List ContentByte) (j k : ℕ) → AreRangesIn from to c → j ≤ k → k < length c → (byte_at c j).start ≤ (byte_at c k).«end»
in_order from to [] j k are le within = absurd (omega arith)
in_order from to (b ∷ c) zero zero are le within = are.1
in_order from to (b ∷ c) zero (suc k) are le within = let more = ends_later b.«end» to c k are.2 (omega arith) in omega (arith, are.1, more)
in_order from to (b ∷ c) (suc j) zero are le within = absurd (omega arith)
in_order from to (b ∷ c) (suc j) (suc k) are le within = in_order b.«end» to c j k are.2 (omega arith) (omega arith)

edge_whole : (text : List ℕ) (c : List ContentByte) (place : ℕ) → IsUtf8 text → AreWhole text c → place ≤ length c → IsCharBoundary (bytes_of c) place
    → IsCharBoundary text (edge c place)
edge_whole text [] zero u are within is = IsCharBoundary-start text u
edge_whole text (b ∷ c) zero u are within is = starts_whole text (b ∷ c) 0 are (omega arith) is
edge_whole text c (suc place) u are within is = ends_whole text c place are (omega (arith, within)) is

module _ (text : List ℕ) (from to first past : ℕ) (c : List ContentByte) (u : IsUtf8 text) (is : IsPiece text from to c) (le : first ≤ past)
    (starts : IsCharBoundary (bytes_of c) first) (ends : IsCharBoundary (bytes_of c) past) where
  within : past ≤ length c
  within = let size : length (bytes_of c) ≡ length c = length-map c (λ (b : ContentByte). b.byte) in omega (arith, size, ends.0)

  range_by : (some : Bool) → (some ≡ true → first < past)
      → IsWhole text (if some then part (byte_at c first).start (byte_at c (past - 1)).«end» else part (edge c first) (edge c first))
  range_by true under =
      let less = under refl in
      let again : past ≡ suc (past - 1) = omega (arith, less) in
      record {
        order = in_order from to c first (past - 1) is.ranges (omega (arith, less)) (omega (arith, less, within));
        starts = starts_whole text c first is.whole (omega (arith, less, within)) starts;
        ends = ends_whole text c (past - 1) is.whole (omega (arith, less, within)) (subst (IsCharBoundary (bytes_of c)) again ends);
      }
  range_by false under =
      let at = edge_whole text c first u is.whole (omega (arith, le, within)) starts in
      record { order = le_refl (edge c first); starts = at; ends = at }

  pub range_whole : IsWhole text (range_in c first past)
  range_whole = range_by (nat_lt first past) (ltb-true first past)
