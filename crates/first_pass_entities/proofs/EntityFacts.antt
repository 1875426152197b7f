-- The bytes of a reference: none is a backslash, the last is `;`, and they are more than those of its character.
use Rattle.std.proofs.Common.{◌≡◌, ◌⊎◌, inl, inr, ℕ, suc, ◌+◌, ◌-◌, ◌<◌, ◌≤◌, ◌==◌, ◌&&◌, nat_le, not, Bool, true, false, List, [], ◌∷◌, length, take, drop}
use Rattle.std.proofs.Common.{◌||◌, get_or, Option, Some, None, refl, sym, ap, subst, ◌∙◌, arith, codes, if◌then◌else◌, option_map, bytes_eq, eqb-true}
use Rattle.std.proofs.Common.{get_or-drop}
use Rattle.std.specs.Option.{option_or}
use Rattle.std.specs.List.{prefix_len}
use Rattle.std.specs.Str.Parse.{digits_value}
use Rattle.std.specs.Char.{is_ascii_digit, is_ascii_hexdigit, is_ascii_alphabetic, len_utf8}
use Rattle.std.proofs.lemmas.Bool.{false≢true, cases_lt}
use Rattle.std.proofs.lemmas.Bool.Decides.{nat_tests}
use Rattle.std.proofs.lemmas.Grind.{common_steps}
use Rattle.std.proofs.lemmas.Option.{some_pair_parts}
use Rattle.std.proofs.lemmas.List.Folds.{length-prefix_len}
use Rattle.first_pass_items.specs.Bytes.{number_sign, ampersand, semicolon, capital_x, backslash, small_x}
use Rattle.first_pass_lines.specs.Lines.{begins}
use Rattle.first_pass_entities.specs.Entities.{referred, following, number_at, numeric_at, named_in_xml, named_sign, named_punctuation, named, name_at}
use Rattle.first_pass_entities.specs.Entities.{entity_at}

-- a byte other than a backslash
abbrev pub is_plain : ℕ → Bool
is_plain b = not (b == backslash)

-- a byte that a reference may have: an ASCII letter or digit, or one of `#&;`
abbrev pub is_reference_byte : ℕ → Bool
is_reference_byte b = is_ascii_digit b || (is_ascii_alphabetic b || (b == number_sign || (b == ampersand || b == semicolon)))

-- the n bytes of a reference: none of them is a backslash, and the last is `;`
pub record EndsReference (bs : List ℕ) (n : ℕ) : Type 0 where
  pub some : 0 < n
  pub bytes : n ≤ prefix_len is_reference_byte bs
  pub plain : n ≤ prefix_len is_plain bs
  pub last : get_or bs (n - 1) 0 ≡ semicolon

-- the reference of n bytes at the start of these bytes, and its character
pub record IsReference (bs : List ℕ) (n c : ℕ) : Type 0 where
  pub ends : EndsReference bs n
  pub shorter : len_utf8 c < n

-- a pair of a length and a character
abbrev both : ℕ → ℕ → ℕ × ℕ
both n c = (n, c)

-- a byte that passes a test is not a backslash, if a backslash fails the test
plain_from : (p : ℕ → Bool) → p backslash ≡ false → (b : ℕ) → p b ≡ true → (t : Bool) → (b == backslash) ≡ t → is_plain b ≡ true
plain_from p q b h true e = absurd (false≢true (sym q ∙ ap p (sym (eqb-true b backslash e)) ∙ h))
plain_from p q b h false e = rw e

-- bytes that pass a test also pass one that holds of more bytes
through_by : (p q : ℕ → Bool) → ((b : ℕ) → p b ≡ true → q b ≡ true) → (t : Bool) (b : ℕ) (bs : List ℕ) → p b ≡ t
    → prefix_len p bs + prefix_len q (drop (prefix_len p bs) bs) ≡ prefix_len q bs
    → prefix_len p (b ∷ bs) + prefix_len q (drop (prefix_len p (b ∷ bs)) (b ∷ bs)) ≡ prefix_len q (b ∷ bs)
through_by p q known true b bs h i =
    let k : ℕ = prefix_len p bs in
    let e : prefix_len p (b ∷ bs) ≡ suc k = rw h (omega arith) in
    let f : prefix_len q (b ∷ bs) ≡ 1 + prefix_len q bs = rw (known b h) in
    rw e (omega arith)
through_by p q known false b bs h i = let e : prefix_len p (b ∷ bs) ≡ 0 = rw h in rw e (omega arith)

passes_through : (p q : ℕ → Bool) → ((b : ℕ) → p b ≡ true → q b ≡ true) → (bs : List ℕ)
    → prefix_len p bs + prefix_len q (drop (prefix_len p bs) bs) ≡ prefix_len q bs
passes_through p q known [] = refl
passes_through p q known (b ∷ bs) = through_by p q known (p b) b bs refl (passes_through p q known bs)

pub plain_through : (p : ℕ → Bool) → p backslash ≡ false → (bs : List ℕ)
    → prefix_len p bs + prefix_len is_plain (drop (prefix_len p bs) bs) ≡ prefix_len is_plain bs
plain_through p q bs = passes_through p is_plain (λ b e. plain_from p q b e (b == backslash) refl) bs

digit_byte : (b : ℕ) → is_ascii_digit b ≡ true → is_reference_byte b ≡ true
digit_byte b h = grind (arith, nat_tests, h)

hexdigit_byte : (b : ℕ) → is_ascii_hexdigit b ≡ true → is_reference_byte b ≡ true
hexdigit_byte b h = grind (arith, nat_tests, h)

letter_byte : (b : ℕ) → is_ascii_alphabetic b ≡ true → is_reference_byte b ≡ true
letter_byte b h = grind (arith, nat_tests, h)

ends_by : (bs : List ℕ) (n : ℕ) → 0 < n → n ≤ prefix_len is_reference_byte bs → get_or bs (n - 1) 0 ≡ semicolon → EndsReference bs n
ends_by bs n some bytes last = record { some = some; bytes = bytes; plain = omega (arith, plain_through is_reference_byte refl bs); last = last }

at_semicolon : (bs : List ℕ) → begins semicolon bs ≡ true → (0 < prefix_len is_reference_byte bs) × (get_or bs 0 0 ≡ semicolon)
at_semicolon [] h = cc
at_semicolon (b ∷ bs) h =
    let e = eqb-true b semicolon h in
    let f : is_reference_byte b ≡ true = ap is_reference_byte e in
    (rw f (omega arith), e)

-- digits or letters, then `;`
run_ends : (p : ℕ → Bool) → ((b : ℕ) → p b ≡ true → is_reference_byte b ≡ true) → (bs : List ℕ)
    → begins semicolon (drop (prefix_len p bs) bs) ≡ true → EndsReference bs (prefix_len p bs + 1)
run_ends p q bs h =
    let k : ℕ = prefix_len p bs in
    let s = at_semicolon (drop k bs) h in
    let t = passes_through p is_reference_byte q bs in
    let i : k + 1 - 1 ≡ k + 0 = omega arith in
    ends_by bs (k + 1) (omega arith) (omega arith) (ap (λ j. get_or bs j 0) i ∙ sym (get_or-drop k bs 0 0) ∙ s.1)

-- one more byte before them
one_more : (k n : ℕ) (bs : List ℕ) → begins k bs ≡ true → is_reference_byte k ≡ true → EndsReference (drop 1 bs) n → EndsReference bs (1 + n)
one_more k n [] h q e = cc
one_more k n (x ∷ xs) h q e =
    let s = e.some in
    let p = e.bytes in
    let f : is_reference_byte x ≡ true = ap is_reference_byte (eqb-true x k h) ∙ q in
    let g : prefix_len is_reference_byte (x ∷ xs) ≡ 1 + prefix_len is_reference_byte xs = rw f in
    let i : 1 + n - 1 ≡ suc (n - 1) = omega arith in
    ends_by (x ∷ xs) (1 + n) (omega arith) (omega arith) (ap (λ j. get_or (x ∷ xs) j 0) i ∙ e.last)

-- a number with its `;` has at least two bytes, and a number of one digit refers to a character of at most three
-- bytes
pub record IsNumber (bs : List ℕ) (n c : ℕ) : Type 0 where
  pub ends : EndsReference bs n
  pub some : 2 ≤ n
  pub short : n ≡ 2 → len_utf8 c ≤ 3

low_is_short : (v : ℕ) → v ≤ 36 → len_utf8 (referred v) ≤ 3
low_is_short v h = grind (arith, nat_tests)

at_most_four : (c : ℕ) → len_utf8 c ≤ 4
at_most_four c = grind (arith, nat_tests)

one_digit : (radix : ℕ) (bs : List ℕ) → digits_value radix (take 1 bs) ≤ 36
one_digit radix [] = omega arith
one_digit radix (b ∷ bs) = grind (arith, nat_tests)

number_by : (p : ℕ → Bool) → ((b : ℕ) → p b ≡ true → is_reference_byte b ≡ true) → (t : Bool) (radix most : ℕ) (bs : List ℕ) (n c : ℕ)
    → (nat_le 1 (prefix_len p bs) && nat_le (prefix_len p bs) most && begins semicolon (drop (prefix_len p bs) bs)) ≡ t
    → (if t then Some (both (prefix_len p bs + 1) (referred (digits_value radix (take (prefix_len p bs) bs)))) else None) ≡ Some (both n c)
    → IsNumber bs n c
number_by p q true radix most bs n c h e =
    let k : ℕ = prefix_len p bs in
    let low : 1 ≤ k = grind (arith, nat_tests, h) in
    let m : begins semicolon (drop k bs) ≡ true = grind (arith, h) in
    let parts = some_pair_parts (k + 1) n (referred (digits_value radix (take k bs))) c e in
    let a = parts.0 in
    let d = parts.1 in
    record {
      ends = subst (EndsReference bs) a (run_ends p q bs m);
      some = omega arith;
      short = λ two.
          let one : k ≡ 1 = omega arith in
          subst (λ x. len_utf8 x ≤ 3) (ap (λ j. referred (digits_value radix (take j bs))) (sym one) ∙ d) (low_is_short _ (one_digit radix bs));
    }
number_by p q false radix most bs n c h e = cc

number_facts : (p : ℕ → Bool) → ((b : ℕ) → p b ≡ true → is_reference_byte b ≡ true) → (radix most : ℕ) (bs : List ℕ) (n c : ℕ)
    → number_at p radix most bs ≡ Some (n, c) → IsNumber bs n c
unfolding number_at
number_facts p q radix most bs n c e = number_by p q _ radix most bs n c refl e

-- a name has at least two bytes, and its character at most three
pub record IsShortName (name : List ℕ) (c : ℕ) : Type 0 where
  pub some : 2 ≤ length name
  pub short : len_utf8 c ≤ 3

name_case : (t : Bool) (text name : List ℕ) (v c : ℕ) (rest : Option ℕ) → bytes_eq name text ≡ t → 2 ≤ length text → len_utf8 v ≤ 3
    → (rest ≡ Some c → IsShortName name c) → (if t then Some v else rest) ≡ Some c → IsShortName name c
name_case true text name v c rest h some short f e =
    let same : length name ≡ length text = grind (arith, common_steps, h) in
    let d : v ≡ c = cc in
    record { some = omega arith; short = subst (λ x. len_utf8 x ≤ 3) d short }
name_case false text name v c rest h some short f e = f e

no_name : (name : List ℕ) (c : ℕ) → None ≡ Some c → IsShortName name c
no_name name c e = cc

xml_facts : (name : List ℕ) (c : ℕ) → named_in_xml name ≡ Some c → IsShortName name c
unfolding named_in_xml
xml_facts name c e =
    name_case _ (codes "amp") name 38 c _ refl (omega arith) (omega arith)
    (name_case _ (codes "lt") name 60 c _ refl (omega arith) (omega arith)
    (name_case _ (codes "gt") name 62 c _ refl (omega arith) (omega arith)
    (name_case _ (codes "quot") name 34 c _ refl (omega arith) (omega arith)
    (name_case _ (codes "apos") name 39 c _ refl (omega arith) (omega arith) (no_name name c))))) e

sign_facts : (name : List ℕ) (c : ℕ) → named_sign name ≡ Some c → IsShortName name c
unfolding named_sign
sign_facts name c e =
    name_case _ (codes "nbsp") name 0xA0 c _ refl (omega arith) (omega arith)
    (name_case _ (codes "copy") name 0xA9 c _ refl (omega arith) (omega arith)
    (name_case _ (codes "reg") name 0xAE c _ refl (omega arith) (omega arith)
    (name_case _ (codes "AElig") name 0xC6 c _ refl (omega arith) (omega arith) (no_name name c)))) e

punctuation_facts : (name : List ℕ) (c : ℕ) → named_punctuation name ≡ Some c → IsShortName name c
unfolding named_punctuation
punctuation_facts name c e =
    name_case _ (codes "hellip") name 0x2026 c _ refl (omega arith) (omega arith)
    (name_case _ (codes "mdash") name 0x2014 c _ refl (omega arith) (omega arith)
    (name_case _ (codes "ndash") name 0x2013 c _ refl (omega arith) (omega arith) (no_name name c))) e

named_by : (name : List ℕ) (c : ℕ) (x s p : Option ℕ) → (x ≡ Some c → IsShortName name c) → (s ≡ Some c → IsShortName name c)
    → (p ≡ Some c → IsShortName name c) → option_or x (option_or s p) ≡ Some c → IsShortName name c
named_by name c (Some v) s p f g h e = f e
named_by name c None (Some v) p f g h e = g e
named_by name c None None p f g h e = h e

named_facts : (name : List ℕ) (c : ℕ) → named name ≡ Some c → IsShortName name c
unfolding named
named_facts name c e = named_by name c _ _ _ (xml_facts name c) (sign_facts name c) (punctuation_facts name c) e

name_by : (t : Bool) (bs : List ℕ) (n c : ℕ) (o : Option ℕ) → (o ≡ Some c → IsShortName (take (prefix_len is_ascii_alphabetic bs) bs) c)
    → begins semicolon (drop (prefix_len is_ascii_alphabetic bs) bs) ≡ t
    → (if t then option_map (both (prefix_len is_ascii_alphabetic bs + 1)) o else None) ≡ Some (both n c)
    → EndsReference bs n × (len_utf8 c < 1 + n)
name_by true bs n c (Some v) f h e =
    let k : ℕ = prefix_len is_ascii_alphabetic bs in
    let parts = some_pair_parts (k + 1) n v c e in
    let a = parts.0 in
    let s = f (ap (λ x. Some x) parts.1) in
    let l = length-prefix_len is_ascii_alphabetic bs in
    let some = s.some in
    let short = s.short in
    (subst (EndsReference bs) a (run_ends is_ascii_alphabetic letter_byte bs h), omega arith)
name_by true bs n c None f h e = cc
name_by false bs n c o f h e = cc

name_facts : (bs : List ℕ) (n c : ℕ) → name_at bs ≡ Some (n, c) → EndsReference bs n × (len_utf8 c < 1 + n)
unfolding name_at
name_facts bs n c e = name_by _ bs n c _ (named_facts _ c) refl e

-- a reference after k bytes: its own length is k less
pub after_some : (k n c : ℕ) (o : Option (ℕ × ℕ)) → following k o ≡ Some (n, c) → (m : ℕ) × (o ≡ Some (m, c)) × (n ≡ k + m)
after_some k n c None e = cc
after_some k n c (Some r) e = let parts = some_pair_parts (k + r.0) n r.1 c e in (r.0, ap (λ x. Some (both r.0 x)) parts.1, sym parts.0)

above : (n l : ℕ) → 2 ≤ n → l ≤ 4 → (n ≡ 2 → l ≤ 3) → (2 < n) ⊎ (n ≤ 2) → l < 2 + n
above n l some four short (inl more) = omega arith
above n l some four short (inr two) = let s = short (omega arith) in omega arith

numeric_by : (t u : Bool) (bs : List ℕ) (n c : ℕ)
    → begins small_x bs ≡ t → begins capital_x bs ≡ u → numeric_at bs ≡ Some (n, c) → EndsReference bs n × (len_utf8 c < 2 + n)
unfolding numeric_at
numeric_by true u bs n c h h' e =
    let b = after_some 1 n c _ (rw h at e) in
    let f = number_facts is_ascii_hexdigit hexdigit_byte 16 6 (drop 1 bs) b.0 c b.1 in
    let some = f.some in
    let four = at_most_four c in
    let m = b.2 in
    (subst (EndsReference bs) (sym m) (one_more small_x b.0 bs h refl f.ends), omega arith)
numeric_by false true bs n c h h' e =
    let b = after_some 1 n c _ (rw (h, h') at e) in
    let f = number_facts is_ascii_hexdigit hexdigit_byte 16 6 (drop 1 bs) b.0 c b.1 in
    let some = f.some in
    let four = at_most_four c in
    let m = b.2 in
    (subst (EndsReference bs) (sym m) (one_more capital_x b.0 bs h' refl f.ends), omega arith)
numeric_by false false bs n c h h' e =
    let f = number_facts is_ascii_digit digit_byte 10 7 bs n c (rw (h, h') at e) in
    (f.ends, above n (len_utf8 c) f.some (at_most_four c) f.short (cases_lt 2 n))

entity_by : (t u : Bool) (bs : List ℕ) (n c : ℕ) → begins ampersand bs ≡ t → begins number_sign (drop 1 bs) ≡ u → entity_at bs ≡ Some (n, c)
    → IsReference bs n c
unfolding entity_at
entity_by true true bs n c h h' e =
    let a = after_some 1 n c _ (rw (h, h') at e) in
    let b = after_some 1 a.0 c _ a.1 in
    let f = numeric_by _ _ (drop 1 (drop 1 bs)) b.0 c refl refl b.1 in
    let l = f.1 in
    let k = a.2 in
    let m = b.2 in
    record {
      ends = subst (EndsReference bs) (sym k)
          (one_more ampersand a.0 bs h refl (subst (EndsReference (drop 1 bs)) (sym m) (one_more number_sign b.0 (drop 1 bs) h' refl f.0)));
      shorter = omega arith;
    }
entity_by true false bs n c h h' e =
    let a = after_some 1 n c _ (rw (h, h') at e) in
    let f = name_facts (drop 1 bs) a.0 c a.1 in
    let l = f.1 in
    let k = a.2 in
    record { ends = subst (EndsReference bs) (sym k) (one_more ampersand a.0 bs h refl f.0); shorter = omega arith }
entity_by false u bs n c h h' e = let z : None ≡ Some (n, c) = rw h at e in cc

pub entity_is_reference : (bs : List ℕ) (n c : ℕ) → entity_at bs ≡ Some (n, c) → IsReference bs n c
entity_is_reference bs n c e = entity_by _ _ bs n c refl refl e
