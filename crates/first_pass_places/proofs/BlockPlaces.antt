-- The place of an attribute block: between the last `}` of a heading and the last `{` before it.
use Rattle.std.proofs.Common.{◌≡◌, ℕ, suc, ◌+◌, ◌-◌, ◌<◌, ◌≤◌, ◌==◌, not, true, false, List, ◌∷◌, ◌++◌, length, take, drop, slice_index, Some, sym, ap, ◌∙◌}
use Rattle.std.proofs.Common.{arith, append_assoc, eq-eqb, length-append, slice_range, get_or-drop, get_or-take, get_or-append-add, take-take}
use Rattle.std.proofs.Common.{drop-drop, length-take, take-add}
use Rattle.first_pass_grammar.proofs.Common.{cases_lt, nat_tests, get_or_past, drop-take, All-append, take-append_seam, left_brace, right_brace, Braces}
use Rattle.first_pass_grammar.proofs.Common.{attribute_block}
use Rattle.std.specs.List.{AllPass}
use Rattle.std.proofs.lemmas.List.{get_or_default}
use Rattle.std.proofs.lemmas.List.Sums.{suffix_len_is, AllPass-from_list_all}
use Rattle.std.proofs.Math.Seq.{get_or-append_seam, drop-append-add}
use Rattle.first_pass_attributes.specs.AttributeBlocks.{is_after_block, is_inside_block, IsAttributeBlock}
use Rattle.first_pass_attributes.proofs.BlockFacts.{block-found}
use Rattle.first_pass_places.specs.AttributeBlockPlaces.{upto_last, block_range}
use Rattle.first_pass_places.specs.InfoStrings.{bytes_in}

-- a part of a text, at a place
pub part_at : (text : List ℕ) (start n k : ℕ) → k < n → slice_index (take n (drop start text)) k ≡ slice_index text (start + k)
part_at text start n k h = get_or-take n (drop start text) k 0 h ∙ get_or-drop start text k 0

pub part_short : (text : List ℕ) (start n : ℕ) → length (take n (drop start text)) ≤ n
part_short text start n = let size = length-take n (drop start text) in omega (arith, size)

-- an offset at which a list has a byte other than 0 is less than the length of the list
pub is_in : (bs : List ℕ) (k c : ℕ) → slice_index bs k ≡ c → 0 < c → k < length bs
is_in bs k c e h = grind (arith, cases_lt, get_or_past)

-- a part of a part
part_of_part : (text : List ℕ) (s m a c : ℕ) → a ≤ c → c ≤ m → slice_range (take m (drop s text)) a c ≡ slice_range text (s + a) (s + c)
part_of_part text s m a c order within =
    let rest : List ℕ = drop s text in
    let whole : a + (m - a) ≡ m = omega arith in
    let same : s + c - (s + a) ≡ c - a = omega arith in
    ap (λ n. take (c - a) (drop a (take n rest))) (sym whole) ∙ ap (take (c - a)) (drop-take a (m - a) rest)
    ∙ take-take (c - a) (m - a) (drop a rest) (omega arith) ∙ ap (take (c - a)) (drop-drop a s text) ∙ ap (λ n. take n (drop (s + a) text)) (sym same)

-- the bytes between two others
between : (front inside following : List ℕ) (x : ℕ)
    → slice_range ((front ++ x ∷ inside) ++ following) (length front + 1) (length (front ++ x ∷ inside)) ≡ inside
between front inside following x =
    let long : length (front ++ x ∷ inside) ≡ length front + suc (length inside) = length-append front (x ∷ inside) in
    let size : length (front ++ x ∷ inside) - (length front + 1) ≡ length inside = omega (arith, long) in
    ap (λ n. take n (drop (length front + 1) ((front ++ x ∷ inside) ++ following))) size
    ∙ ap (λ l. take (length inside) (drop (length front + 1) l)) (append_assoc front (x ∷ inside) following)
    ∙ ap (take (length inside)) (drop-append-add front (x ∷ (inside ++ following)) 1) ∙ take-append_seam inside following

-- no byte of a list equals `c`
abbrev HasNone : ℕ → List ℕ → Type 0
HasNone c bs = AllPass (λ b. not (b == c)) bs

-- `upto_last` counts up to and including a byte that no later byte equals
last_is : (c : ℕ) (xs ys : List ℕ) → HasNone c ys → upto_last c (xs ++ c ∷ ys) ≡ length xs + 1
last_is c xs ys later =
    let bs : List ℕ = xs ++ c ∷ ys in
    let long : length bs ≡ length xs + suc (length ys) = length-append xs (c ∷ ys) in
    let back : length xs + 1 - 1 ≡ length xs = omega arith in
    let size = suffix_len_is (λ b. not (b == c)) bs (length xs + 1) 0 (omega (arith, long))
    (λ k low high.
    let j : ℕ = k - (length xs + 1) in
    let on : k ≡ length xs + suc j = omega arith in
    ap (λ b. not (b == c)) (ap (slice_index bs) on ∙ get_or-append-add xs (c ∷ ys) (suc j) 0) ∙ later j 0 (omega (arith, long)))
    (λ _. ap (λ k. not (slice_index bs k == c)) back ∙ ap not (eq-eqb _ c (get_or-append_seam xs c ys 0))) in
    omega (arith, size, long)

-- a heading with these parts has its block between the two braces
block_between : (text : List ℕ) (start e : ℕ) (front inside following : List ℕ)
    → slice_range text start e ≡ (front ++ left_brace ∷ inside) ++ right_brace ∷ following → HasNone left_brace inside → HasNone right_brace following
    → bytes_in text (block_range text start e) ≡ inside
unfolding block_range
block_between text start e front inside following whole none later =
    let heading : List ℕ = slice_range text start e in
    let before : List ℕ = front ++ left_brace ∷ inside in
    let last : upto_last right_brace heading ≡ length before + 1 = ap (upto_last right_brace) whole ∙ last_is right_brace before following later in
    let closing : upto_last right_brace heading - 1 ≡ length before = omega (arith, last) in
    let opening : upto_last left_brace (take (length before) heading) ≡ length front + 1 =
    ap (upto_last left_brace) (ap (take (length before)) whole ∙ take-append_seam before (right_brace ∷ following)) ∙ last_is left_brace front inside none in
    let size = ap length whole ∙ length-append before (right_brace ∷ following) in
    let long = length-append front (left_brace ∷ inside) in
    let short = part_short text start (e - start) in
    ap (λ n. slice_range text (start + upto_last left_brace (take n heading)) (start + n)) closing
    ∙ ap (λ n. slice_range text (start + n) (start + length before)) opening
    ∙ sym (part_of_part text start (e - start) (length front + 1) (length before) (omega (arith, long)) (omega (arith, size, short)))
    ∙ ap (λ l. slice_range l (length front + 1) (length before)) whole ∙ between front inside (right_brace ∷ following) left_brace

-- a part of a text with the bytes before and after it
three_parts : (text : List ℕ) (start e s m : ℕ) → start ≤ s → s + m ≤ e
    → slice_range text start e ≡ take (s - start) (drop start text) ++ (take m (drop s text) ++ take (e - (s + m)) (drop (s + m) text))
three_parts text start e s m from to =
    let rest : List ℕ = drop start text in
    let ahead : ℕ = s - start in
    let beyond : ℕ = e - (s + m) in
    let size : e - start ≡ ahead + (m + beyond) = omega arith in
    let on : start + ahead ≡ s = omega arith in
    ap (λ n. take n rest) size ∙ take-add ahead (m + beyond) rest
    ∙ ap (λ l. take ahead rest ++ take (m + beyond) l) (drop-drop ahead start text ∙ ap (λ n. drop n text) on)
    ∙ ap (λ l. take ahead rest ++ l) (take-add m beyond (drop s text) ∙ ap (λ l. take m (drop s text) ++ take beyond l) (drop-drop m s text))

regrouped : (a b c d e : List ℕ) (x y : ℕ) → a ++ ((b ++ x ∷ (c ++ y ∷ d)) ++ e) ≡ ((a ++ b) ++ x ∷ c) ++ y ∷ (d ++ e)
regrouped a b c d e x y = simp append_assoc

inside_no_brace : (b : ℕ) → is_inside_block b ≡ true → (b == left_brace) ≡ false
inside_no_brace b h = grind (arith, nat_tests, h)

after_no_brace : (b : ℕ) → is_after_block b ≡ true → (b == right_brace) ≡ false
after_no_brace b h = grind (arith, nat_tests, h)

-- If no `}` of a heading follows a part of it, the block that is found in the part is between the last braces of the
-- heading.
pub found_between : (text : List ℕ) (start e s m : ℕ) (block : Braces) → start ≤ s → s + m ≤ e → attribute_block (take m (drop s text)) ≡ Some block
    → ((k : ℕ) → s + m ≤ k → k < e → (slice_index text k == right_brace) ≡ false)
    → bytes_in text (block_range text start e) ≡ slice_range (take m (drop s text)) (block.opening + 1) block.closing
found_between text start e s m block from to found none =
    let part : List ℕ = take m (drop s text) in
    let is : IsAttributeBlock part block = block-found part block found in
    let ahead : List ℕ = take (s - start) (drop start text) in
    let beyond : ℕ = e - (s + m) in
    let rest : List ℕ = take beyond (drop (s + m) text) in
    let whole = three_parts text start e s m from to ∙ ap (λ l. ahead ++ (l ++ rest)) is.parts
    ∙ regrouped ahead is.front is.inside is.following rest left_brace right_brace in
    let inner : HasNone left_brace is.inside =
    (λ k d low. ap not (inside_no_brace _ (AllPass-from_list_all is_inside_block is.inside is.plain k d low))) in
    let aside : HasNone right_brace is.following =
    (λ k d low. ap not (after_no_brace _ (AllPass-from_list_all is_after_block is.following is.aside k d low))) in
    let later : HasNone right_brace rest =
    (λ k d low.
    let short = part_short text (s + m) beyond in
    let there = get_or_default rest k d 0 low ∙ part_at text (s + m) beyond k (omega (arith, low, short)) in
    ap (λ b. not (b == right_brace)) there ∙ ap not (none (s + m + k) (omega arith) (omega (arith, low, short)))) in
    let all = All-append (λ b. not (b == right_brace) ≡ true) is.following rest aside later in
    let long = length-append is.front (left_brace ∷ is.inside) in
    let closing : block.closing ≡ length (is.front ++ left_brace ∷ is.inside) = omega (arith, is.closes, long) in
    let parts : part ≡ (is.front ++ left_brace ∷ is.inside) ++ right_brace ∷ is.following =
    is.parts ∙ sym (append_assoc is.front (left_brace ∷ is.inside) (right_brace ∷ is.following)) in
    block_between text start e (ahead ++ is.front) is.inside (is.following ++ rest) whole inner all
    ∙ sym (ap (λ n. slice_range part (n + 1) block.closing) is.opens ∙ ap (slice_range part (length is.front + 1)) closing
    ∙ ap (λ l. slice_range l (length is.front + 1) (length (is.front ++ left_brace ∷ is.inside))) parts
    ∙ between is.front is.inside (right_brace ∷ is.following) left_brace)
