-- The number of bytes of an ATX heading's text that are kept, counted from its end.
use Rattle.std.proofs.Common.{◌≡◌, inl, inr, ℕ, zero, suc, ◌+◌, ◌-◌, ◌<◌, ◌≤◌, ◌==◌, ◌&&◌, ◌||◌, Bool, true, false, List, length, take, get_or, nat_lt, refl}
use Rattle.std.proofs.Common.{sym, ap, ◌∙◌, arith, length-take-le, if◌then◌else◌, ltb-false, true≢false, take_all, take-take}
use Rattle.first_pass_grammar.proofs.Common.{suffix_len, cases_Bool, cases_lt, cond_both, cond-true, cond-false, and_parts, nat_tests, suffix_len-le-length}
use Rattle.first_pass_grammar.proofs.Common.{space, number_sign, is_space_or_line_end, kept_len}
use Rattle.first_pass_leaves.proofs.Common.{and_cases, suffix_len-take_yes, suffix_len-take_no, without_closing}

pub suffix_all : (p : ℕ → Bool) (xs : List ℕ) → suffix_len p (take (length xs) xs) ≡ suffix_len p xs
suffix_all p xs = ap (suffix_len p) (take_all (length xs) xs (omega arith))

-- the last byte does not pass if none passes at the end
pub run_none : (p : ℕ → Bool) (xs : List ℕ) → 0 < length xs → suffix_len p xs ≡ 0 → p (get_or xs (length xs - 1) 0) ≡ false
run_none p xs some none =
    elim (cases_Bool (p (get_or xs (length xs - 1) 0))) [
      | inl passes ↦
          let one = suffix_len-take_yes p xs (length xs) 0 some (omega arith) passes in
          absurd (omega (arith, suffix_all p xs))
      | inr fails ↦ fails
    ]

-- before those that pass at the end, no more of them pass
no_more : (p : ℕ → Bool) (xs : List ℕ) (n : ℕ) → n ≤ length xs → suffix_len p (take (n - suffix_len p (take n xs)) xs) ≡ 0
no_more p xs zero within = (let place : zero - suffix_len p (take zero xs) ≡ zero = omega arith in ap (λ (k : ℕ). suffix_len p (take k xs)) place)
no_more p xs (suc n) within =
    let back : suc n - 1 ≡ n = omega arith in
    elim (cases_Bool (p (get_or xs n 0))) [
      | inl passes ↦
          let one : suffix_len p (take (suc n) xs) ≡ 1 + suffix_len p (take (suc n - 1) xs) =
          suffix_len-take_yes p xs (suc n) 0 (omega arith) within (ap (λ (k : ℕ). p (get_or xs k 0)) back ∙ passes) in
          let same : suffix_len p (take (suc n - 1) xs) ≡ suffix_len p (take n xs) = ap (λ (k : ℕ). suffix_len p (take k xs)) back in
          let place : suc n - suffix_len p (take (suc n) xs) ≡ n - suffix_len p (take n xs) = omega arith in
          ap (λ (k : ℕ). suffix_len p (take k xs)) place ∙ no_more p xs n (omega arith)
      | inr fails ↦
          let none : suffix_len p (take (suc n) xs) ≡ 0 =
          suffix_len-take_no p xs (suc n) 0 (omega arith) within (ap (λ (k : ℕ). p (get_or xs k 0)) back ∙ fails) in
          let place : suc n - suffix_len p (take (suc n) xs) ≡ suc n = omega arith in
          ap (λ (k : ℕ). suffix_len p (take k xs)) place ∙ none
    ]

none_before : (p : ℕ → Bool) (xs : List ℕ) → suffix_len p (take (length xs - suffix_len p xs) xs) ≡ 0
none_before p xs = ap (λ (k : ℕ). suffix_len p (take (length xs - k) xs)) (sym (suffix_all p xs)) ∙ no_more p xs (length xs) (omega arith)

pub space_aside : (b : ℕ) → (b == space) ≡ true → is_space_or_line_end b ≡ true
space_aside b h = grind (arith, nat_tests, h)

-- no space is at the end if nothing is left out there
no_spaces : (xs : List ℕ) → suffix_len is_space_or_line_end xs ≡ 0 → suffix_len (λ b. b == space) xs ≡ 0
no_spaces xs none =
    elim (cases_lt 0 (length xs)) [
      | inl some ↦
          let last : ℕ = get_or xs (length xs - 1) 0 in
          elim (cases_Bool (last == space)) [
            | inl blank ↦ absurd (true≢false (sym (space_aside last blank) ∙ run_none is_space_or_line_end xs some none))
            | inr other ↦
                sym (suffix_all (λ b. b == space) xs)
                ∙ suffix_len-take_no (λ b. b == space) xs (length xs) 0 some (omega arith) other
          ]
      | inr empty ↦ (let node_bound = suffix_len-le-length (λ b. b == space) xs in omega arith)
    ]

-- by the counts: the number signs at the end, and the spaces before them
closing_len : (xs : List ℕ) → suffix_len (λ b. b == space) xs ≡ 0
    → (let o : ℕ = length xs - suffix_len (λ b. b == number_sign) xs in let n : ℕ = suffix_len (λ b. b == space) (take o xs) in
    length (without_closing xs) ≡ (if (o == 0) || nat_lt 0 n then o - n else length xs))
closing_len xs none =
    let s : ℕ = suffix_len (λ b. b == number_sign) xs in
    let o : ℕ = length xs - s in
    let bs : List ℕ = take o xs in
    let n : ℕ = suffix_len (λ b. b == space) bs in
    let size : length bs ≡ o = length-take-le o xs (omega arith) in
    let same : ((o == 0) || nat_lt 0 n) ≡ ((length bs == 0) || nat_lt 0 n) = ap (λ (z : ℕ). (z == 0) || nat_lt 0 n) (sym size) in
    cond_both (nat_lt 0 s && ((length bs == 0) || nat_lt 0 n)) (take (length bs - n) bs) xs
    (λ (ys : List ℕ). length ys ≡ (if (o == 0) || nat_lt 0 n then o - n else length xs))
    (λ closes.
    let last = (and_parts (nat_lt 0 s) ((length bs == 0) || nat_lt 0 n) closes).1 in
    length-take-le (length bs - n) bs (omega arith) ∙ ap (λ (z : ℕ). z - n) size ∙ sym (cond-true _ _ _ (same ∙ last)))
    (λ rest. elim (and_cases (nat_lt 0 s) ((length bs == 0) || nat_lt 0 n) rest) [
      | inl no_sign ↦
          let zero : s ≡ 0 = omega (arith, ltb-false 0 s no_sign) in
          let no_space : n ≡ 0 = ap (suffix_len (λ b. b == space)) (take_all o xs (omega arith)) ∙ none in
          cond_both ((o == 0) || nat_lt 0 n) (o - n) (length xs) (λ (z : ℕ). length xs ≡ z) (λ t. omega arith) (λ f. refl)
      | inr other ↦ sym (cond-false _ _ _ (same ∙ other))
    ])

-- The number of kept bytes is the counted one: without the bytes that are left out, the number signs before these,
-- and the spaces before those.
pub kept_counted : (text : List ℕ)
    → (let t : ℕ = length text - suffix_len is_space_or_line_end text in let o : ℕ = t - suffix_len (λ b. b == number_sign) (take t text) in
    let n : ℕ = suffix_len (λ b. b == space) (take o text) in kept_len text ≡ (if (o == 0) || nat_lt 0 n then o - n else t))
unfolding kept_len
kept_counted text =
    let t : ℕ = length text - suffix_len is_space_or_line_end text in
    let xs : List ℕ = take t text in
    let s : ℕ = suffix_len (λ b. b == number_sign) xs in
    let size : length xs ≡ t = length-take-le t text (omega arith) in
    closing_len xs (no_spaces xs (none_before is_space_or_line_end text))
    ∙ ap (λ (z : ℕ). let o : ℕ = z - s in let n : ℕ = suffix_len (λ b. b == space) (take o xs) in if (o == 0) || nat_lt 0 n then o - n else z) size
    ∙ ap (λ (ys : List ℕ). let o : ℕ = t - s in let n : ℕ = suffix_len (λ b. b == space) ys in if (o == 0) || nat_lt 0 n then o - n else t)
    (take-take (t - s) t text (omega arith))

-- Only the bytes that are left out at the end are removed if no number sign is before them.
pub kept_unclosed : (text front : List ℕ) (a n : ℕ)
    → a ≡ suffix_len is_space_or_line_end text → front ≡ take (length text - a) text → n ≡ suffix_len (λ b. b == number_sign) front → n ≡ 0
    → kept_len text ≡ length text - a
kept_unclosed text front a n e f g none =
    let t : ℕ = length text - suffix_len is_space_or_line_end text in
    let o : ℕ = t - suffix_len (λ b. b == number_sign) (take t text) in
    let spaces : ℕ = suffix_len (λ b. b == space) (take o text) in
    let signs : suffix_len (λ b. b == number_sign) (take t text) ≡ n =
    ap (λ (k : ℕ). suffix_len (λ b. b == number_sign) (take (length text - k) text)) (sym e) ∙ ap (suffix_len (λ b. b == number_sign)) (sym f) ∙ sym g in
    let all : o ≡ t = omega arith in
    let no_space : spaces ≡ 0 =
    ap (λ (k : ℕ). suffix_len (λ b. b == space) (take k text)) all ∙ no_spaces (take t text) (none_before is_space_or_line_end text) in
    kept_counted text
    ∙ cond_both ((o == 0) || nat_lt 0 spaces) (o - spaces) t (λ (z : ℕ). z ≡ length text - a) (λ taken. omega arith) (λ kept. omega arith)
