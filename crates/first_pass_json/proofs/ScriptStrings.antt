-- A string in a script element has the content that it has without it.
use Rattle.std.proofs.Common.{◌≡◌, ◌≢◌, ℕ, List, [], ◌∷◌, Bool, true, false, cond, ◌&&◌, ◌==◌, ◌⊎◌, inl, inr, Option, Some, None, option_and_then, refl}
use Rattle.std.proofs.Common.{ap, ◌∙◌, sym, subst}
use Rattle.std.proofs.lemmas.Bool.{cases_eq, cases_Bool, true≢false, and_parts}
use Rattle.std.specs.Char.{is_digit, digit_value, encode_utf8}
use Rattle.std.specs.Prelude.{nat_lt, ◌+◌, ◌*◌}
use Rattle.json.specs.Text.{Within, content, plain, after_backslash, after_u, after_high, prepend, code_unit, short_escape, is_high_surrogate}
use Rattle.json.specs.Text.{is_low_surrogate, surrogate_pair}
use Rattle.first_pass_json.specs.Scripts.{in_script}
use Rattle.first_pass_json.proofs.Scripts.{in_script-other}

-- what the first reads, the second reads too
abbrev pub Keeps : Option (List ℕ) → Option (List ℕ) → Type 0
Keeps before after = (s : List ℕ) → before ≡ Some s → after ≡ Some s

nothing : (o : Option (List ℕ)) → Keeps None o
nothing o s e = absurd (cc e)

prepended : (bytes : List ℕ) (o p : Option (List ℕ)) → Keeps o p → Keeps (prepend bytes o) (prepend bytes p)
prepended bytes None p keeps s e = absurd (cc e)
prepended bytes (Some r) p keeps s e = ap (prepend bytes) (keeps r refl) ∙ e

chosen : (b : Bool) (x y u v : Option (List ℕ)) → Keeps x u → Keeps y v → Keeps (cond b x y) (cond b u v)
chosen true x y u v first second = first
chosen false x y u v first second = second

mapped : (o : Option ℕ) (f g : ℕ → Option (List ℕ)) → ((n : ℕ) → Keeps (f n) (g n)) → Keeps (option_and_then f o) (option_and_then g o)
mapped None f g keeps s e = absurd (cc e)
mapped (Some n) f g keeps s e = keeps n s e

-- a test that leads to a content is true
tested : (b : Bool) (o : Option (List ℕ)) (s : List ℕ) → cond b o None ≡ Some s → (b ≡ true) × (o ≡ Some s)
tested true o s e = (refl, e)
tested false o s e = absurd (cc e)

digit_is_other : (a : ℕ) → is_digit a 16 ≡ true → a ≢ 60
digit_is_other a digit is = true≢false (sym digit ∙ ap (λ y. is_digit y 16) is)

record AreOther (a b c d : ℕ) : Type 0 where
  first : a ≢ 60
  second : b ≢ 60
  third : c ≢ 60
  fourth : d ≢ 60

-- hex digits are other bytes
four_digits : (a b c d : ℕ) (f : ℕ → Option (List ℕ)) (s : List ℕ) → option_and_then f (code_unit a b c d) ≡ Some s → AreOther a b c d
unfolding code_unit
four_digits a b c d f s e = found (cases_Bool (is_digit a 16 && is_digit b 16 && is_digit c 16 && is_digit d 16))
  where
    found : ((is_digit a 16 && is_digit b 16 && is_digit c 16 && is_digit d 16) ≡ true)
        ⊎ ((is_digit a 16 && is_digit b 16 && is_digit c 16 && is_digit d 16) ≡ false)
        → AreOther a b c d
    found (inl digits) =
        let three = and_parts (is_digit a 16 && is_digit b 16 && is_digit c 16) (is_digit d 16) digits in
        let two = and_parts (is_digit a 16 && is_digit b 16) (is_digit c 16) three.0 in
        let one = and_parts (is_digit a 16) (is_digit b 16) two.0 in
        record {
          first = digit_is_other a one.0;
          second = digit_is_other b one.1;
          third = digit_is_other c two.1;
          fourth = digit_is_other d three.1;
        }
    found (inr none) =
        absurd (cc (ap (λ t. option_and_then f (cond t (Some (digit_value a * 4096 + digit_value b * 256 + digit_value c * 16 + digit_value d)) None)) none, e))

four : (a b c d : ℕ) (xs : List ℕ) → AreOther a b c d → in_script (a ∷ b ∷ c ∷ d ∷ xs) ≡ a ∷ b ∷ c ∷ d ∷ in_script xs
four a b c d xs other =
    in_script-other a (b ∷ c ∷ d ∷ xs) other.first ∙ ap (λ l. a ∷ l) (in_script-other b (c ∷ d ∷ xs) other.second
    ∙ ap (λ l. b ∷ l) (in_script-other c (d ∷ xs) other.third ∙ ap (λ l. c ∷ l) (in_script-other d xs other.fourth)))

-- what is kept of the rest
abbrev Rest : List ℕ → Type 0
Rest xs = (w : Within) → Keeps (content w xs) (content w (in_script xs))

in_plain : (x : ℕ) (xs : List ℕ) → (x ≡ 60) ⊎ (x ≢ 60) → Rest xs → Keeps (content plain (x ∷ xs)) (content plain (in_script (x ∷ xs)))
unfolding content in_script code_unit encode_utf8
in_plain x xs (inl is) rest =
    subst (λ y. Keeps (content plain (y ∷ xs)) (content plain (in_script (y ∷ xs)))) (sym is) (prepended (60 ∷ []) _ _ (rest plain))
in_plain x xs (inr other) rest = λ s e.
    ap (content plain) (in_script-other x xs other)
    ∙ chosen (x == 34) _ _ _ _ (λ r is. is)
    (chosen (x == 92) _ _ _ _ (rest after_backslash) (chosen (nat_lt x 32) None _ None _ (nothing None) (prepended (x ∷ []) _ _ (rest plain)))) s e

in_escape : (x : ℕ) (xs : List ℕ) → (x ≡ 60) ⊎ (x ≢ 60) → Rest xs → Keeps (content after_backslash (x ∷ xs)) (content after_backslash (in_script (x ∷ xs)))
unfolding content in_script short_escape
in_escape x xs (inl is) rest = subst (λ y. Keeps (content after_backslash (y ∷ xs)) (content after_backslash (in_script (y ∷ xs)))) (sym is) (nothing _)
in_escape x xs (inr other) rest = λ s e.
    ap (content after_backslash) (in_script-other x xs other)
    ∙ chosen (x == 117) _ _ _ _ (rest after_u) (mapped (short_escape x) _ _ (λ c. prepended (c ∷ []) _ _ (rest plain))) s e

in_unit : (a b c d : ℕ) (xs : List ℕ) → Rest xs → Keeps (content after_u (a ∷ b ∷ c ∷ d ∷ xs)) (content after_u (in_script (a ∷ b ∷ c ∷ d ∷ xs)))
unfolding content
in_unit a b c d xs rest = λ s e.
    ap (content after_u) (four a b c d xs (four_digits a b c d _ s e))
    ∙ mapped (code_unit a b c d) _ _ (λ u. chosen (is_high_surrogate u) _ _ _ _ (rest (after_high u))
    (chosen (is_low_surrogate u) None _ None _ (nothing None) (prepended (encode_utf8 u) _ _ (rest plain)))) s e

in_pair : (h s u a b c d : ℕ) (xs : List ℕ) → Rest xs
    → Keeps (content (after_high h) (s ∷ u ∷ a ∷ b ∷ c ∷ d ∷ xs)) (content (after_high h) (in_script (s ∷ u ∷ a ∷ b ∷ c ∷ d ∷ xs)))
unfolding content
in_pair h s u a b c d xs rest = λ r e.
    let escapes = tested ((s == 92) && (u == 117)) _ r e in
    let both = and_parts (s == 92) (u == 117) escapes.0 in
    ap (content (after_high h)) (in_script-other s (u ∷ a ∷ b ∷ c ∷ d ∷ xs) (λ is. true≢false (sym both.0 ∙ ap (λ y. y == 92) is))
    ∙ ap (λ l. s ∷ l) (in_script-other u (a ∷ b ∷ c ∷ d ∷ xs) (λ is. true≢false (sym both.1 ∙ ap (λ y. y == 117) is)))
    ∙ ap (λ l. s ∷ u ∷ l) (four a b c d xs (four_digits a b c d _ r escapes.1)))
    ∙ chosen ((s == 92) && (u == 117)) _ None _ None (mapped (code_unit a b c d) _ _ (λ l.
    chosen (is_low_surrogate l) _ None _ None (prepended (encode_utf8 (surrogate_pair h l)) _ _ (rest plain)) (nothing None))) (nothing None) r e

pub content_kept : (w : Within) (xs : List ℕ) → Keeps (content w xs) (content w (in_script xs))
unfolding content in_script
content_kept plain [] = nothing None
content_kept plain (x ∷ xs) = in_plain x xs (cases_eq x 60) (λ w. content_kept w xs)
content_kept after_backslash [] = nothing None
content_kept after_backslash (x ∷ xs) = in_escape x xs (cases_eq x 60) (λ w. content_kept w xs)
content_kept after_u [] = nothing None
content_kept after_u (a ∷ []) = nothing _
content_kept after_u (a ∷ b ∷ []) = nothing _
content_kept after_u (a ∷ b ∷ c ∷ []) = nothing _
content_kept after_u (a ∷ b ∷ c ∷ d ∷ xs) = in_unit a b c d xs (λ w. content_kept w xs)
content_kept (after_high h) [] = nothing None
content_kept (after_high h) (s ∷ []) = nothing _
content_kept (after_high h) (s ∷ u ∷ []) = nothing _
content_kept (after_high h) (s ∷ u ∷ a ∷ []) = nothing _
content_kept (after_high h) (s ∷ u ∷ a ∷ b ∷ []) = nothing _
content_kept (after_high h) (s ∷ u ∷ a ∷ b ∷ c ∷ []) = nothing _
content_kept (after_high h) (s ∷ u ∷ a ∷ b ∷ c ∷ d ∷ xs) = in_pair h s u a b c d xs (λ w. content_kept w xs)
