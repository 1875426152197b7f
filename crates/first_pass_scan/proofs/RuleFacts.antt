-- Facts on thematic breaks: offsets where none can begin, since none begins before them.
use Rattle.std.proofs.Common.{◌≡◌, ℕ, zero, suc, ◌+◌, ◌-◌, ◌<◌, ◌≤◌, Bool, true, false, ◌==◌, nat_le, List, [], ◌∷◌, length, get_or, take, drop, count_by}
use Rattle.std.proofs.Common.{Option, Some, None, refl, sym, ap, ◌∙◌, true≢false, arith, drop-drop, if◌then◌else◌, option_map, length-take}
use Rattle.std.specs.List.{prefix_len}
use Rattle.std.proofs.lemmas.Bool.{cond-false, cond_both, lt-leb}
use Rattle.std.proofs.lemmas.Bool.Decides.{nat_tests}
use Rattle.std.proofs.lemmas.List.Sums.{sum_by-cons, count_by-le-length}
use Rattle.first_pass_lines.specs.Plain.{is_plain, begins_plain}
use Rattle.first_pass_lines.specs.Lines.{eol_len}
use Rattle.first_pass_scan.specs.LeafLines.{is_rule_byte, in_rule, rule_len, hrule_len, HasNoRule}

shorter : (x y m n : ℕ) (o : Option ℕ)
    → x ≤ y → (if nat_le 3 y then option_map (λ k. n + k) o else None) ≡ None → (if nat_le 3 x then option_map (λ k. m + k) o else None) ≡ None
shorter x y m n None h e = grind (arith, nat_tests)
shorter x y m n (Some k) h e = grind (arith, nat_tests, e)

rule-shorter : (c b : ℕ) (bs : List ℕ) → in_rule c b ≡ true → rule_len c (b ∷ bs) ≡ None → rule_len c bs ≡ None
rule-shorter c b bs h e =
    let m : ℕ = prefix_len (in_rule c) bs in
    let p : prefix_len (in_rule c) (b ∷ bs) ≡ suc m = rw h (omega arith) in
    let more : count_by (λ x. x == c) (take m bs) ≤ count_by (λ x. x == c) (b ∷ take m bs) =
    omega (arith, sum_by-cons (λ x. if x == c then 1 else 0) b (take m bs)) in
    let g : rule_len c (b ∷ bs) ≡ (if nat_le 3 (count_by (λ x. x == c) (b ∷ take m bs)) then option_map (λ k. suc m + k) (eol_len (drop m bs)) else None) =
    rw p refl in
    shorter _ _ m (suc m) (eol_len (drop m bs)) more (sym g ∙ e)

same_byte : (c b : ℕ) → in_rule c b ≡ true → is_rule_byte b ≡ true → b ≡ c
same_byte c b h e = grind (arith, nat_tests, h, e)

here : (c b : ℕ) (bs : List ℕ) → in_rule c b ≡ true → (is_rule_byte c ≡ true → rule_len c (b ∷ bs) ≡ None) → hrule_len (b ∷ bs) ≡ None
unfolding hrule_len
here c b bs h f = grind (arith, cond_both, same_byte)

none_by : (c b : ℕ) (bs : List ℕ) (k : ℕ) (t : Bool)
    → in_rule c b ≡ t → (is_rule_byte c ≡ true → rule_len c (b ∷ bs) ≡ None) → k < prefix_len (in_rule c) (b ∷ bs)
    → ((j : ℕ) → (is_rule_byte c ≡ true → rule_len c bs ≡ None) → j < prefix_len (in_rule c) bs → hrule_len (drop j bs) ≡ None)
    → hrule_len (drop k (b ∷ bs)) ≡ None
none_by c b bs k false h f l more = let p : prefix_len (in_rule c) (b ∷ bs) ≡ 0 = rw h in absurd (omega arith)
none_by c b bs zero true h f l more = here c b bs h f
none_by c b bs (suc k) true h f l more = grind (arith, rule-shorter)

none_in : (c : ℕ) (bs : List ℕ) (k : ℕ) → (is_rule_byte c ≡ true → rule_len c bs ≡ None) → k < prefix_len (in_rule c) bs → hrule_len (drop k bs) ≡ None
none_in c [] k f l = absurd (omega arith)
none_in c (b ∷ bs) k f l = none_by c b bs k (in_rule c b) refl f l (none_in c bs)

no_rule : (b : ℕ) (bs : List ℕ) → hrule_len (b ∷ bs) ≡ None → is_rule_byte b ≡ true → rule_len b (b ∷ bs) ≡ None
unfolding hrule_len
no_rule b bs h e = rw e at h

-- if no thematic break begins here, none begins in the leading run of the first byte, spaces and tabs
pub none_begins : (bs : List ℕ) (c n : ℕ) → hrule_len bs ≡ None → 0 < length bs → c ≡ get_or bs 0 0 → n ≡ prefix_len (in_rule c) bs → HasNoRule bs 0 n
none_begins [] c n h l e m = absurd (omega arith)
none_begins (b ∷ bs) c n h l e m = record {
  none = λ k low high. none_in c (b ∷ bs) k (λ r. ap (λ x. rule_len x (b ∷ bs)) e ∙ no_rule b bs h (ap is_rule_byte (sym e) ∙ r)) (omega arith);
}

-- the same for bytes of which these are the rest
pub none_further : (bs : List ℕ) (s n : ℕ) → HasNoRule (drop s bs) 0 n → HasNoRule bs s (s + n)
none_further bs s n f =
    record {
      none = λ k low high.
          let e : s + (k - s) ≡ k = omega arith in
          let d : drop (k - s) (drop s bs) ≡ drop k bs = drop-drop (k - s) s bs ∙ ap (λ j. drop j bs) e in
          ap hrule_len (sym d) ∙ f.none (k - s) (omega arith) (omega arith);
    }

-- a run that ends before the third byte has at most two bytes
prefix_two : (p : ℕ → Bool) (a b d : ℕ) (bs : List ℕ) → p d ≡ false → prefix_len p (a ∷ b ∷ d ∷ bs) ≤ 2
prefix_two p a b d bs g = grind (arith, g)

-- a thematic break has at least three characters
rule_few : (c : ℕ) (bs : List ℕ) → prefix_len (in_rule c) bs ≤ 2 → rule_len c bs ≡ None
rule_few c bs h =
    let n : ℕ = prefix_len (in_rule c) bs in
    let bound : count_by (λ x. x == c) (take n bs) ≤ 2 = omega (arith, count_by-le-length (λ x. x == c) (take n bs), length-take n bs) in
    cond-false _ _ None (lt-leb 3 (count_by (λ x. x == c) (take n bs)) (omega arith))

plain_in_rule : (a d : ℕ) → is_rule_byte a ≡ true → is_plain d ≡ true → in_rule a d ≡ false
unfolding is_plain
plain_in_rule a d e h = grind (arith, nat_tests, e, h)

-- none begins two bytes before a plain one
pub none_before_plain : (bs : List ℕ) → begins_plain (drop 2 bs) ≡ true → hrule_len bs ≡ None
unfolding hrule_len
none_before_plain [] h = refl
none_before_plain (a ∷ []) h = absurd (true≢false (sym h))
none_before_plain (a ∷ b ∷ []) h = absurd (true≢false (sym h))
none_before_plain (a ∷ b ∷ d ∷ bs) h = grind (arith, cond_both, rule_few, prefix_two, plain_in_rule)
