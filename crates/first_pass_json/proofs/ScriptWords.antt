-- A word in a script element is the one that it is without it.
use Rattle.std.proofs.Common.{◌≡◌, ◌≢◌, ℕ, suc, ◌+◌, ◌-◌, List, [], ◌∷◌, ◌++◌, length, take, drop, Bool, true, false, cond, ◌||◌, ◌==◌, ◌⊎◌, inl, inr}
use Rattle.std.proofs.Common.{Option, Some, None, option_and_then, refl, ap, ap₂, ◌∙◌, arith, sym, subst, append_assoc, length-append, take_at}
use Rattle.std.proofs.Common.{take-append-drop}
use Rattle.std.proofs.lemmas.Bool.{cases_eq, true≢false, false≢true, and_parts, or_cases}
use Rattle.std.proofs.lemmas.Slice.Eq.{bytes_eq-Decides}
use Rattle.std.specs.Char.{is_ascii_digit}
use Rattle.std.specs.List.{prefix_len}
use Rattle.std.specs.Prelude.{⊤}
use Rattle.json.specs.Align.{is_good}
use Rattle.json.specs.Token.{Token}
use Rattle.json.specs.Word.{head, ends_word, after_digits, after_minus, after_sign, after_whole, after_fraction, after_exponent, after_number}
use Rattle.json.specs.Word.{number_before, literal, word}
use Rattle.first_pass_json.specs.Scripts.{in_script}
use Rattle.first_pass_json.proofs.Scripts.{in_script-other}

-- a test for another byte gives the same for both
same_test : (c : ℕ) (t : List ℕ) → (60 == c) ≡ false → (92 == c) ≡ false → (head (in_script t) == c) ≡ (head t == c)
unfolding in_script
same_test c [] p q = refl
same_test c (x ∷ xs) p q = go (cases_eq x 60)
  where
    go : (x ≡ 60) ⊎ (x ≢ 60) → (head (in_script (x ∷ xs)) == c) ≡ (x == c)
    go (inl is) = subst (λ y. (head (in_script (y ∷ xs)) == c) ≡ (y == c)) (sym is) (q ∙ sym p)
    go (inr other) = ap (λ l. head l == c) (in_script-other x xs other)

-- what follows a word begins alike
ended_same : (t : List ℕ) → ends_word t ≡ true → ends_word (in_script t) ≡ true
unfolding in_script
ended_same [] ended = refl
ended_same (x ∷ xs) ended = ap ends_word (in_script-other x xs (λ is. true≢false (sym ended ∙ ap (λ y. ends_word (y ∷ xs)) is))) ∙ ended

-- both begin with the same bytes, and r is what follows them
record Passes (t r : List ℕ) : Type 0 where
  front : List ℕ
  split : t ≡ front ++ r
  same : in_script t ≡ front ++ in_script r

stays : (t : List ℕ) → Passes t t
stays t = record { front = []; split = refl; same = refl }

joined : (t u r : List ℕ) → Passes t u → Passes u r → Passes t r
joined t u r first second = record {
  front = first.front ++ second.front;
  split = first.split ∙ ap (λ l. first.front ++ l) second.split ∙ sym (append_assoc first.front second.front r);
  same = first.same ∙ ap (λ l. first.front ++ l) second.same ∙ sym (append_assoc first.front second.front (in_script r));
}

-- u is what a part leaves of t, and v what it leaves of t in a script element
record Skips (t u v : List ℕ) : Type 0 where
  same : v ≡ in_script u
  passes : Passes t u

one_byte : (x : ℕ) (xs : List ℕ) → x ≢ 60 → Passes (x ∷ xs) xs
one_byte x xs other = record { front = x ∷ []; split = refl; same = in_script-other x xs other }

one : (c : ℕ) (t : List ℕ) → (60 == c) ≡ false → (head t == c) ≡ true → Skips t (drop 1 t) (drop 1 (in_script t))
unfolding in_script
one c [] p e = record { same = refl; passes = stays [] }
one c (x ∷ xs) p e =
    let other : x ≢ 60 = λ is. true≢false (sym e ∙ ap (λ y. y == c) is ∙ p) in
    record { same = ap (drop 1) (in_script-other x xs other); passes = one_byte x xs other }

either : (a b : ℕ) (t : List ℕ) → (60 == a) ≡ false → (60 == b) ≡ false → ((head t == a) ≡ true) ⊎ ((head t == b) ≡ true)
    → Skips t (drop 1 t) (drop 1 (in_script t))
either a b t p q (inl e) = one a t p e
either a b t p q (inr e) = one b t q e

optional : (t : List ℕ) (b c : Bool) → c ≡ b → (b ≡ true → Skips t (drop 1 t) (drop 1 (in_script t)))
    → Skips t (cond b (drop 1 t) t) (cond c (drop 1 (in_script t)) (in_script t))
optional t true true e f = f refl
optional t false false e f = record { same = refl; passes = stays t }
optional t true false e f = absurd (false≢true e)
optional t false true e f = absurd (true≢false e)

-- the digits at the front
record Digits (t : List ℕ) (n m : ℕ) : Type 0 where
  count : m ≡ n
  skips : Skips t (drop n t) (drop n (in_script t))

more_digits : (d : Bool) (x : ℕ) (xs : List ℕ) (n m : ℕ) → x ≢ 60 → Digits xs n m → Digits (x ∷ xs) (cond d (1 + n) 0) (cond d (1 + m) 0)
more_digits false x xs n m other digits = record { count = refl; skips = record { same = refl; passes = stays (x ∷ xs) } }
more_digits true x xs n m other digits =
    let e : suc n ≡ 1 + n = omega arith in
    let here : drop (suc n) (in_script (x ∷ xs)) ≡ drop n (in_script xs) = ap (drop (suc n)) (in_script-other x xs other) in
    subst (λ j. Digits (x ∷ xs) j (1 + m)) e record {
      count = omega (arith, digits.count);
      skips = record { same = here ∙ digits.skips.same; passes = joined (x ∷ xs) xs (drop n xs) (one_byte x xs other) digits.skips.passes };
    }

digit_run : (t : List ℕ) → Digits t (prefix_len is_ascii_digit t) (prefix_len is_ascii_digit (in_script t))
unfolding in_script
digit_run [] = record { count = refl; skips = record { same = refl; passes = stays [] } }
digit_run (x ∷ xs) = at_byte (cases_eq x 60) (digit_run xs)
  where
    at_byte : (x ≡ 60) ⊎ (x ≢ 60) → Digits xs (prefix_len is_ascii_digit xs) (prefix_len is_ascii_digit (in_script xs))
        → Digits (x ∷ xs) (prefix_len is_ascii_digit (x ∷ xs)) (prefix_len is_ascii_digit (in_script (x ∷ xs)))
    at_byte (inl is) more =
        subst (λ y. Digits (y ∷ xs) (prefix_len is_ascii_digit (y ∷ xs)) (prefix_len is_ascii_digit (in_script (y ∷ xs)))) (sym is)
        record { count = refl; skips = record { same = refl; passes = stays (60 ∷ xs) } }
    at_byte (inr other) more =
        subst (λ l. Digits (x ∷ xs) (prefix_len is_ascii_digit (x ∷ xs)) (prefix_len is_ascii_digit l)) (sym (in_script-other x xs other))
        (more_digits (is_ascii_digit x) x xs _ _ other more)

-- o is what a part leaves of t, if anything, and p what it leaves of t in a script element
abbrev Leaves : List ℕ → Option (List ℕ) → Option (List ℕ) → Type 0
Leaves t None p = ⊤
Leaves t (Some r) p = (p ≡ Some (in_script r)) × Passes t r

by_test : (t : List ℕ) (b c : Bool) (x y p q : Option (List ℕ)) → c ≡ b → (b ≡ true → Leaves t x p) → Leaves t y q → Leaves t (cond b x y) (cond c p q)
by_test t true true x y p q e f g = f refl
by_test t false false x y p q e f g = g
by_test t true false x y p q e f g = absurd (false≢true e)
by_test t false true x y p q e f g = absurd (true≢false e)

after : (t u v : List ℕ) (f : List ℕ → Option (List ℕ)) → Skips t u v → Leaves u (f u) (f (in_script u)) → Leaves t (f u) (f v)
after t u v f skips = go (f u)
  where
    go : (o : Option (List ℕ)) → Leaves u o (f (in_script u)) → Leaves t o (f v)
    go None leaves = tt
    go (Some r) leaves = (ap f skips.same ∙ leaves.0, joined t u r skips.passes leaves.1)

then : (t : List ℕ) (f : List ℕ → Option (List ℕ)) → ((u : List ℕ) → Leaves u (f u) (f (in_script u))) → (o p : Option (List ℕ)) → Leaves t o p
    → Leaves t (option_and_then f o) (option_and_then f p)
then t f each None p leaves = tt
then t f each (Some u) p leaves =
    subst (λ q. Leaves t (f u) (option_and_then f q)) (sym leaves.0) (after t u (in_script u) f record { same = refl; passes = leaves.1 } (each u))

digits : (t : List ℕ) → Leaves t (after_digits t) (after_digits (in_script t))
digits t =
    let run = digit_run t in
    by_test t (prefix_len is_ascii_digit t == 0) (prefix_len is_ascii_digit (in_script t) == 0) None _ None _ (ap (λ n. n == 0) run.count) (λ e. tt)
    (ap Some (ap (λ n. drop n (in_script t)) run.count ∙ run.skips.same), run.skips.passes)

whole : (t : List ℕ) → Leaves t (after_whole t) (after_whole (in_script t))
whole t =
    by_test t (head t == 48) _ (Some (drop 1 t)) _ _ _ (same_test 48 t refl refl)
    (λ e. let skips = one 48 t refl e in (ap Some skips.same, skips.passes)) (digits t)

fraction : (t : List ℕ) → Leaves t (after_fraction t) (after_fraction (in_script t))
fraction t =
    by_test t (head t == 46) _ _ (Some t) _ _ (same_test 46 t refl refl) (λ e. after t (drop 1 t) _ after_digits (one 46 t refl e) (digits (drop 1 t)))
    (refl, stays t)

signed : (t : List ℕ) → Leaves t (after_digits (after_sign t)) (after_digits (after_sign (in_script t)))
signed t =
    after t (after_sign t) _ after_digits
    (optional t _ _ (ap₂ (λ a b. a || b) (same_test 45 t refl refl) (same_test 43 t refl refl)) (λ e. either 45 43 t refl refl (or_cases _ _ e)))
    (digits (after_sign t))

exponent : (t : List ℕ) → Leaves t (after_exponent t) (after_exponent (in_script t))
exponent t =
    by_test t ((head t == 101) || (head t == 69)) _ _ (Some t) _ _ (ap₂ (λ a b. a || b) (same_test 101 t refl refl) (same_test 69 t refl refl))
    (λ e. after t (drop 1 t) _ (λ u. after_digits (after_sign u)) (either 101 69 t refl refl (or_cases _ _ e)) (signed (drop 1 t))) (refl, stays t)

number_left : (t : List ℕ) → Leaves t (after_number t) (after_number (in_script t))
unfolding after_number
number_left t =
    then t after_exponent exponent _ _ (then t after_fraction fraction _ _
    (after t (after_minus t) _ after_whole (optional t _ _ (same_test 45 t refl refl) (one 45 t refl)) (whole (after_minus t))))

-- ---- words

passed : (b : Bool) (k : Token) → is_good (cond b k Token.bad) ≡ true → b ≡ true
passed true k good = refl
passed false k good = absurd (false≢true good)

front_of : (t front r : List ℕ) → t ≡ front ++ r → take (length t - length r) t ≡ front
front_of t front r split =
    let size : length t - length r ≡ length front = omega (arith, ap length split, length-append front r) in
    ap₂ (λ n l. take n l) size split ∙ take_at front r _ refl

number_same : (t : List ℕ) → is_good (number_before t (after_number t)) ≡ true
    → number_before (in_script t) (after_number (in_script t)) ≡ number_before t (after_number t)
number_same t = go (after_number t) (number_left t)
  where
    go : (o : Option (List ℕ)) → Leaves t o (after_number (in_script t)) → is_good (number_before t o) ≡ true
        → number_before (in_script t) (after_number (in_script t)) ≡ number_before t o
    go None leaves good = absurd (false≢true good)
    go (Some r) leaves good =
        let ended = passed (ends_word r) _ good in
        ap (number_before (in_script t)) leaves.0
        ∙ ap₂ (λ b w. cond b (Token.number w) Token.bad) (ended_same r ended ∙ sym ended)
        (front_of (in_script t) leaves.1.front (in_script r) leaves.1.same ∙ sym (front_of t leaves.1.front r leaves.1.split))

literal_same : (name : List ℕ) (k : Token) (t : List ℕ) → ((r : List ℕ) → in_script (name ++ r) ≡ name ++ in_script r)
    → ((r : List ℕ) → literal name k (name ++ r) ≡ cond (ends_word r) k Token.bad)
    → is_good (literal name k t) ≡ true → literal name k (in_script t) ≡ literal name k t
literal_same name k t passes reads good =
    let both = and_parts _ _ (passed _ k good) in
    let rest = drop (length name) t in
    let front : name ≡ take (length name) t = (bytes_eq-Decides name (take (length name) t)).0 both.0 in
    let split : t ≡ name ++ rest = sym (take-append-drop (length name) t) ∙ ap (λ l. l ++ rest) (sym front) in
    ap (literal name k) (ap in_script split ∙ passes rest) ∙ reads (in_script rest)
    ∙ ap (λ b. cond b k Token.bad) (ended_same rest both.1 ∙ sym both.1) ∙ sym (ap (literal name k) split ∙ reads rest)

choice_same : (b c : Bool) (x y u v : Token) → c ≡ b → (is_good x ≡ true → u ≡ x) → (is_good y ≡ true → v ≡ y) → is_good (cond b x y) ≡ true
    → cond c u v ≡ cond b x y
choice_same true true x y u v e first second good = first good
choice_same false false x y u v e first second good = second good
choice_same true false x y u v e first second good = absurd (false≢true e)
choice_same false true x y u v e first second good = absurd (true≢false e)

pub word_same : (t : List ℕ) → is_good (word t) ≡ true → word (in_script t) ≡ word t
unfolding word in_script
word_same t =
    choice_same (head t == 116) _ _ _ _ _ (same_test 116 t refl refl) (literal_same (116 ∷ 114 ∷ 117 ∷ 101 ∷ []) (Token.boolean true) t (λ r. refl) (λ r. refl))
    (choice_same (head t == 102) _ _ _ _ _ (same_test 102 t refl refl)
    (literal_same (102 ∷ 97 ∷ 108 ∷ 115 ∷ 101 ∷ []) (Token.boolean false) t (λ r. refl) (λ r. refl))
    (choice_same (head t == 110) _ _ _ _ _ (same_test 110 t refl refl) (literal_same (110 ∷ 117 ∷ 108 ∷ 108 ∷ []) Token.null t (λ r. refl) (λ r. refl))
    (number_same t)))
