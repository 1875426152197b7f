-- A content in pieces: the ranges of each are in order, and lie on characters of the text as its bytes do.
use Rattle.std.proofs.Common.{◌≡◌, ℕ, zero, suc, ◌+◌, ◌-◌, ◌<◌, ◌≤◌, List, [], ◌∷◌, ◌++◌, length, take, drop}
use Rattle.std.proofs.Common.{IsUtf8, IsCharBoundary, refl, sym, ap, subst, arith}
use Rattle.std.proofs.Math.Nat.{le_refl}
use Rattle.std.proofs.lemmas.List.{drop_more, map-append}
use Rattle.std.proofs.lemmas.List.Edits.{length-between}
use Rattle.std.proofs.lemmas.Str.{IsUtf8-append, IsUtf8-between, IsUtf8-from_ascii, IsUtf8-nil}
use Rattle.std.specs.Str.{IsAscii}
use Rattle.std.specs.List.{slice_range}
use Rattle.std.specs.declared.ops.Range.{Range}
use Rattle.first_pass_content.specs.Chains.{AreRangesIn}
use Rattle.first_pass_content.specs.Content.{ContentByte, byte_in, bytes_of, copied, placed}

-- a character may begin with a byte
abbrev pub Begins : ℕ → Type 0
Begins b = 128 ≤ b → 192 ≤ b

abbrev pub FirstBegins : List ContentByte → Type 0
FirstBegins [] = Unit {0}
FirstBegins (b ∷ c) = Begins b.byte

-- where a character of the content begins or ends, one of the text does
abbrev pub AreWhole : List ℕ → List ContentByte → Type 0
AreWhole text [] = Unit {0}
AreWhole text (b ∷ c) = (Begins b.byte → IsCharBoundary text b.start) × (FirstBegins c → IsCharBoundary text b.«end») × AreWhole text c

pub record IsPiece (text : List ℕ) (from to : ℕ) (c : List ContentByte) : Type 0 where
  pub ranges : AreRangesIn from to c
  pub whole : AreWhole text c
  pub utf8 : IsUtf8 text → IsUtf8 (bytes_of c)

-- a part of the text on character boundaries, between two offsets
pub record IsPartIn (text : List ℕ) (from to : ℕ) (r : Range ℕ) : Type 0 where
  pub after : from ≤ r.start
  pub order : r.start ≤ r.«end»
  pub before : r.«end» ≤ to
  pub starts : IsCharBoundary text r.start
  pub ends : IsCharBoundary text r.«end»

ranges_from : (at from to : ℕ) (c : List ContentByte) → at ≤ from → AreRangesIn from to c → AreRangesIn at to c
ranges_from at from to [] low h = omega (arith, h)
ranges_from at from to (b ∷ c) low h = (omega (arith, h.0), h.1, h.2)

ranges_to : (from to at : ℕ) (c : List ContentByte) → to ≤ at → AreRangesIn from to c → AreRangesIn from at c
ranges_to from to at [] high h = omega (arith, h)
ranges_to from to at (b ∷ c) high h = (h.0, h.1, ranges_to b.«end» to at c high h.2)

ranges_both : (from mid to : ℕ) (c d : List ContentByte) → AreRangesIn from mid c → AreRangesIn mid to d → AreRangesIn from to (c ++ d)
ranges_both from mid to [] d h k = ranges_from from mid to d h k
ranges_both from mid to (b ∷ c) d h k = (h.0, h.1, ranges_both b.«end» mid to c d h.2 k)

whole_both : (text : List ℕ) (c d : List ContentByte) → AreWhole text c → AreWhole text d → AreWhole text (c ++ d)
whole_both text [] d p q = q
whole_both text (b ∷ []) d p q = (p.0, λ _. p.1 tt, q)
whole_both text (b ∷ x ∷ c) d p q = (p.0, p.1, whole_both text (x ∷ c) d p.2 q)

pub piece_both : (text : List ℕ) (from mid to : ℕ) (c d : List ContentByte) → IsPiece text from mid c → IsPiece text mid to d → IsPiece text from to (c ++ d)
piece_both text from mid to c d p q = record {
  ranges = ranges_both from mid to c d p.ranges q.ranges;
  whole = whole_both text c d p.whole q.whole;
  utf8 = λ u.
      subst IsUtf8 (sym (map-append (λ (b : ContentByte). b.byte) c d)) (IsUtf8-append (bytes_of c) (bytes_of d) (p.utf8 u) (q.utf8 u));
}

pub piece_none : (text : List ℕ) (from to : ℕ) → from ≤ to → IsPiece text from to []
piece_none text from to order = record { ranges = order; whole = tt; utf8 = λ _. IsUtf8-nil }

newline_ascii : IsAscii (10 ∷ [])
newline_ascii zero = omega arith
newline_ascii (suc i) = omega arith

-- a newline that stands for a part of the text
pub piece_newline : (text : List ℕ) (from to : ℕ) → from ≤ to → IsCharBoundary text from → IsCharBoundary text to
    → IsPiece text from to (byte_in 10 from to ∷ [])
piece_newline text from to order starts ends = record {
  ranges = (le_refl from, order, le_refl to);
  whole = (λ _. starts, λ _. ends, tt);
  utf8 = λ _. IsUtf8-from_ascii (10 ∷ []) newline_ascii;
}

placed_ranges : (at : ℕ) (bs : List ℕ) → AreRangesIn at (at + length bs) (placed at bs)
placed_ranges at [] = omega arith
placed_ranges at (b ∷ bs) =
    let sum : (at + 1) + length bs ≡ at + length (b ∷ bs) = omega arith in
    (omega arith, omega arith, subst (λ n. AreRangesIn (at + 1) n (placed (at + 1) bs)) sum (placed_ranges (at + 1) bs))

placed_bytes : (at : ℕ) (bs : List ℕ) → bytes_of (placed at bs) ≡ bs
placed_bytes at [] = refl
placed_bytes at (b ∷ bs) = ap (λ l. b ∷ l) (placed_bytes (at + 1) bs)

first_boundary : (text : List ℕ) (n at : ℕ) → IsCharBoundary text (at + n) → FirstBegins (placed at (take n (drop at text))) → IsCharBoundary text at
first_boundary text zero at stop begins = let e : at + 0 ≡ at = omega arith in subst (IsCharBoundary text) e stop
first_boundary text (suc n) at stop begins =
    let inside : at < length text = omega (arith, stop.0) in
    let is = subst (λ l. FirstBegins (placed at (take (suc n) l))) (drop_more text at 0 inside) begins in
    (omega (arith, inside), λ _. is)

placed_whole : (text : List ℕ) (n at : ℕ) → IsCharBoundary text (at + n) → AreWhole text (placed at (take n (drop at text)))
placed_whole text zero at stop = tt
placed_whole text (suc n) at stop =
    let inside : at < length text = omega (arith, stop.0) in
    let sum : at + suc n ≡ (at + 1) + n = omega arith in
    let next = subst (IsCharBoundary text) sum stop in
    subst (λ l. AreWhole text (placed at (take (suc n) l))) (sym (drop_more text at 0 inside))
    (λ begins. (omega (arith, inside), λ _. begins), first_boundary text n (at + 1) next, placed_whole text n (at + 1) next)

-- a part of the text
pub piece_copied : (text : List ℕ) (from to : ℕ) (r : Range ℕ) → IsPartIn text from to r → IsPiece text from to (copied text r)
piece_copied text from to r is =
    let bs : List ℕ = slice_range text r.start r.«end» in
    let size : length bs ≡ r.«end» - r.start = length-between text r.start r.«end» is.ends.0 in
    let stop : r.start + (r.«end» - r.start) ≡ r.«end» = omega (arith, is.order) in
    let past : r.start + length bs ≤ to = omega (arith, size, is.order, is.before) in
    record {
      ranges =
          ranges_from from r.start to (copied text r) is.after
          (ranges_to r.start (r.start + length bs) to (copied text r) past (placed_ranges r.start bs));
      whole = placed_whole text (r.«end» - r.start) r.start (subst (IsCharBoundary text) (sym stop) is.ends);
      utf8 = λ u. subst IsUtf8 (sym (placed_bytes r.start bs)) (IsUtf8-between text r.start r.«end» u is.order is.starts is.ends);
    }
