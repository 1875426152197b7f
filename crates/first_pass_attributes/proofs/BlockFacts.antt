-- The attribute block of a heading, by the parts of its bytes.
use Rattle.std.proofs.Common.{◌≡◌, ℕ, suc, ◌+◌, ◌-◌, ◌<◌, ◌≤◌, Bool, true, false, List, [], ◌∷◌, ◌++◌, length, take, drop, slice_index_or, Option, Some}
use Rattle.std.proofs.Common.{None, sym, ap, ap₂, ◌∙◌, append_assoc, arith, length-append, if◌then◌else◌, option_map, eqb-true, get_or-drop}
use Rattle.std.proofs.Common.{get_or-append-add, get_or-take, take-append-drop, length-take, length-drop}
use mathlib.Core.List.{reverse}
use Rattle.std.specs.List.{list_all, suffix_len}
use Rattle.std.proofs.lemmas.Option.{cond_some}
use Rattle.std.proofs.lemmas.Grind.{common_steps}
use Rattle.std.proofs.lemmas.List.{get_or-reverse, drop_more}
use Rattle.std.proofs.lemmas.List.Sums.{prefix_len_passes, suffix_len_is, suffix_len-le-length, AllPass-from_list_all, list_all-from_AllPass}
use Rattle.std.proofs.Math.Seq.{take-append_seam, drop-length, get_or-append_seam}
use Rattle.first_pass_items.specs.Bytes.{left_brace, right_brace}
use Rattle.first_pass_lines.specs.Lines.{ends}
use Rattle.first_pass_lines.proofs.LineFacts.{ends-last}
use Rattle.first_pass_attributes.specs.AttributeBlocks.{is_after_block, is_inside_block, Braces, braces, opening_brace, attribute_block, IsAttributeBlock}

-- bytes without the trailing ones that pass a test, and these trailing ones
abbrev left : (ℕ → Bool) → List ℕ → List ℕ
left p bs = take (length bs - suffix_len p bs) bs

abbrev following : (ℕ → Bool) → List ℕ → List ℕ
following p bs = drop (length bs - suffix_len p bs) bs

following-passes : (p : ℕ → Bool) (bs : List ℕ) → list_all p (following p bs) ≡ true
following-passes p bs =
    let n : ℕ = length bs - suffix_len p bs in
    list_all-from_AllPass p (drop n bs) (λ k d l.
    let short = suffix_len-le-length p bs in
    let long : length (drop n bs) ≡ length bs - n = length-drop n bs in
    let j : ℕ = length bs - 1 - (n + k) in
    let low : j < suffix_len p bs = omega arith in
    let back : length bs - 1 - j ≡ n + k = omega arith in
    let e : slice_index_or (reverse bs) j d ≡ slice_index_or bs (length bs - 1 - j) d = get_or-reverse bs j d (omega arith) in
    let f : slice_index_or (drop n bs) k d ≡ slice_index_or bs (n + k) d = get_or-drop n bs k d in
    ap p (f ∙ ap (λ i. slice_index_or bs i d) (sym back) ∙ sym e) ∙ prefix_len_passes p (reverse bs) j d low)

left-and-following : (p : ℕ → Bool) (bs : List ℕ) → bs ≡ left p bs ++ following p bs
left-and-following p bs = sym (take-append-drop (length bs - suffix_len p bs) bs)

-- a byte that does not pass, before bytes that do
suffix-at : (p : ℕ → Bool) (xs : List ℕ) (x : ℕ) (ys : List ℕ) → p x ≡ false → list_all p ys ≡ true → suffix_len p (xs ++ x ∷ ys) ≡ length ys
suffix-at p xs x ys e h =
    let bs : List ℕ = xs ++ x ∷ ys in
    let front : List ℕ = xs ++ x ∷ [] in
    let long : length bs ≡ length xs + suc (length ys) = length-append xs (x ∷ ys) in
    let short : length front ≡ length xs + 1 = length-append xs (x ∷ []) in
    let last : length xs + 1 - 1 ≡ length xs = omega arith in
    suffix_len_is p bs (length xs + 1) 0 (omega arith)
    (λ k low high.
    let j : ℕ = k - length front in
    let on : k ≡ length front + j = omega arith in
    ap (λ l. p (slice_index_or l k 0)) (sym (append_assoc xs (x ∷ []) ys))
    ∙ ap (λ i. p (slice_index_or (front ++ ys) i 0)) on
    ∙ ap p (get_or-append-add front ys j 0)
    ∙ AllPass-from_list_all p ys h j 0 (omega arith))
    (λ _. ap (λ i. p (slice_index_or bs i 0)) last ∙ ap p (get_or-append_seam xs x ys 0) ∙ e)
    ∙ omega arith

left-at : (p : ℕ → Bool) (xs : List ℕ) (x : ℕ) (ys : List ℕ) → p x ≡ false → list_all p ys ≡ true → left p (xs ++ x ∷ ys) ≡ xs ++ x ∷ []
left-at p xs x ys e h =
    let bs : List ℕ = xs ++ x ∷ ys in
    let front : List ℕ = xs ++ x ∷ [] in
    let long : length bs ≡ length xs + suc (length ys) = length-append xs (x ∷ ys) in
    let short : length front ≡ length xs + 1 = length-append xs (x ∷ []) in
    let same : length bs - suffix_len p bs ≡ length front = omega (arith, suffix-at p xs x ys e h) in
    ap (λ n. take n bs) same ∙ ap (take (length front)) (sym (append_assoc xs (x ∷ []) ys)) ∙ take-append_seam front ys

-- bytes with one more at the end
ends-with : (xs : List ℕ) (x : ℕ) → ends x (xs ++ x ∷ []) ≡ true
ends-with xs x = grind (arith, common_steps, ends-last)

front-length : (xs : List ℕ) (x : ℕ) → length (xs ++ x ∷ []) - 1 ≡ length xs
front-length xs x = omega (arith, length-append xs (x ∷ []))

front-bytes : (xs : List ℕ) (x : ℕ) → take (length (xs ++ x ∷ []) - 1) (xs ++ x ∷ []) ≡ xs
front-bytes xs x = ap (λ n. take n (xs ++ x ∷ [])) (front-length xs x) ∙ take-append_seam xs (x ∷ [])

some-end : (bs : List ℕ) (x : ℕ) → ends x bs ≡ true → 0 < length bs
some-end [] x e = absurd cc
some-end (b ∷ bs) x e = omega arith

end-is : (bs : List ℕ) (x : ℕ) → ends x bs ≡ true → slice_index_or bs (length bs - 1) 0 ≡ x
end-is bs x e = eqb-true _ x (sym (ends-last x bs (some-end bs x e)) ∙ e)

-- the last of the first m bytes, among all of them
pub kept-end : (bs : List ℕ) (m : ℕ) (x : ℕ) → ends x (take m bs) ≡ true → slice_index_or bs (length (take m bs) - 1) 0 ≡ x
kept-end bs m x e =
    sym (get_or-take m bs (length (take m bs) - 1) 0 (omega (arith, some-end (take m bs) x e, length-take m bs))) ∙ end-is (take m bs) x e

split-end : (bs : List ℕ) (x : ℕ) → ends x bs ≡ true → bs ≡ take (length bs - 1) bs ++ x ∷ []
split-end bs x e =
    let n : ℕ = length bs - 1 in
    let some = some-end bs x e in
    let at : slice_index_or bs n 0 ≡ x = end-is bs x e in
    let on : n + 1 ≡ length bs = omega arith in
    let rest : drop (n + 1) bs ≡ [] = ap (λ k. drop k bs) on ∙ drop-length bs in
    sym (take-append-drop n bs) ∙ ap (λ ys. take n bs ++ ys) (drop_more bs n 0 (omega arith) ∙ (λ i. at i ∷ rest i))

-- the bytes before a closing brace
opening-at : (front inside : List ℕ) → list_all is_inside_block inside ≡ true → opening_brace (front ++ left_brace ∷ inside) ≡ Some (length front)
unfolding opening_brace
opening-at front inside h = grind (arith, left-at, ends-with, front-length)

block-at : (front inside following : List ℕ) → list_all is_inside_block inside ≡ true → list_all is_after_block following ≡ true
    → attribute_block ((front ++ left_brace ∷ inside) ++ right_brace ∷ following) ≡ Some (braces (length front) (length (front ++ left_brace ∷ inside)))
unfolding attribute_block
block-at front inside following h g = grind (arith, left-at, ends-with, front-bytes, front-length, opening-at)

pub block-only : (heading : List ℕ) (block : Braces) → IsAttributeBlock heading block → attribute_block heading ≡ Some block
block-only heading block is =
    let before : List ℕ = is.front ++ left_brace ∷ is.inside in
    let long : length before ≡ length is.front + suc (length is.inside) = length-append is.front (left_brace ∷ is.inside) in
    let parts : heading ≡ before ++ right_brace ∷ is.following = is.parts ∙ sym (append_assoc is.front (left_brace ∷ is.inside) (right_brace ∷ is.following)) in
    ap attribute_block parts ∙ block-at is.front is.inside is.following is.plain is.aside
    ∙ ap₂ (λ m n. Some (braces m n)) (sym is.opens) (omega (arith, is.closes))

-- the converse
mapped-some : (t : Bool) (n : ℕ) (o : Option ℕ) (block : Braces) → (if t then option_map (λ opening. braces opening n) o else None) ≡ Some block
    → (o ≡ Some block.opening) × (block.closing ≡ n) × (t ≡ true)
mapped-some false n o block e = absurd cc
mapped-some true n None block e = absurd cc
mapped-some true n (Some k) block e = grind arith

opening-found : (bs : List ℕ) (k : ℕ) → opening_brace bs ≡ Some k
    → (front : List ℕ) × (inside : List ℕ) × (bs ≡ front ++ left_brace ∷ inside) × (list_all is_inside_block inside ≡ true) × (k ≡ length front)
unfolding opening_brace
opening-found bs k e =
    let kept : List ℕ = left is_inside_block bs in
    let found = cond_some (ends left_brace kept) (length kept - 1) k e in
    let front : List ℕ = take (length kept - 1) kept in
    let inside : List ℕ = following is_inside_block bs in
    let cut : kept ≡ front ++ left_brace ∷ [] = split-end kept left_brace found.0 in
    let parts : bs ≡ front ++ left_brace ∷ inside =
    left-and-following is_inside_block bs ∙ ap (λ l. l ++ inside) cut ∙ append_assoc front (left_brace ∷ []) inside in
    (front, inside, parts, following-passes is_inside_block bs, sym found.1 ∙ omega (arith, length-take (length kept - 1) kept))

pub block-found : (heading : List ℕ) (block : Braces) → attribute_block heading ≡ Some block → IsAttributeBlock heading block
unfolding attribute_block
block-found heading block e =
    let kept : List ℕ = left is_after_block heading in
    let n : ℕ = length kept - 1 in
    let before : List ℕ = take n kept in
    let some = mapped-some (ends right_brace kept) n (opening_brace before) block e in
    let opened = opening-found before block.opening some.0 in
    let front : List ℕ = opened.0 in
    let inside : List ℕ = opened.1 in
    let rest : List ℕ = following is_after_block heading in
    let cut : kept ≡ before ++ right_brace ∷ [] = split-end kept right_brace some.2 in
    let long : length before ≡ length front + suc (length inside) = ap length opened.2 ∙ length-append front (left_brace ∷ inside) in
    record {
      front = front;
      inside = inside;
      following = rest;
      parts = left-and-following is_after_block heading ∙ ap (λ l. l ++ rest) cut ∙ append_assoc before (right_brace ∷ []) rest
          ∙ ap (λ l. l ++ right_brace ∷ rest) opened.2 ∙ append_assoc front (left_brace ∷ inside) (right_brace ∷ rest);
      plain = opened.3;
      aside = following-passes is_after_block heading;
      opens = opened.4;
      closes = some.1 ∙ omega (arith, length-take n kept, long);
    }

-- a block is within its text
pub block-within : (bs : List ℕ) (block : Braces) → attribute_block bs ≡ Some block → (block.opening + 1 ≤ block.closing) × (block.closing < length bs)
block-within bs block e =
    let is = block-found bs block e in
    let a = length-append is.front (left_brace ∷ (is.inside ++ right_brace ∷ is.following)) in
    let b = length-append is.inside (right_brace ∷ is.following) in
    let whole : length bs ≡ length (is.front ++ left_brace ∷ (is.inside ++ right_brace ∷ is.following)) = ap length is.parts in
    (omega (arith, is.opens, is.closes), omega (arith, is.opens, is.closes))
