-- Heads of footnote definitions, and labels without a line ending.
use Rattle.std.proofs.Common.{◌≡◌, ℕ, ◌+◌, ◌&&◌, Bool, true, false, List, drop, Option, Some, None, IsUtf8, IsSomeAnd, MatchOption, refl, sym, ap, subst, ◌∙◌}
use Rattle.std.proofs.Common.{if◌then◌else◌, arith, option_and_then, IsCharBoundary, suc, ◌==◌, [], ◌∷◌, take, slice_index, inl, inr, is_some, eqb-true}
use Rattle.std.proofs.lemmas.Str.{IsCharBoundary-after_ascii}
use Rattle.first_pass_items.specs.Bytes.{colon, left_bracket, circumflex, line_feed, backslash, right_bracket}
use Rattle.first_pass_items.specs.declared.cow_str.CowStr.{CowStr}
use Rattle.first_pass_items.specs.CowText.{text_of}
use Rattle.first_pass_lines.specs.Lines.{begins, ends_line}
use Rattle.first_pass_links.specs.Labels.{label_at, is_bracket, ends_line_label, joined, bytes_of, offsets_of, label_len, is_label, as_read}
use Rattle.first_pass_links.specs.Footnotes.{begins_footnote_mark, head_after, footnote_head}
use Rattle.first_pass_links.proofs.Destinations.{first_byte, by_units, upto-nil, upto-stop, upto-byte, upto-escape}
use Rattle.first_pass_links.proofs.Labels.{joined-nil, joined-byte, joined-stop, joined_fails}
use Rattle.std.specs.Char.{is_ascii_punctuation}
use Rattle.std.proofs.lemmas.Bool.{and_left, and_parts, and_right, cases_Bool, false≢true}
use Rattle.std.proofs.lemmas.Bool.Decides.{nat_tests}
use Rattle.first_pass_links.specs.Escapes.{begins_escape}
use Rattle.first_pass_links.specs.Destinations.{unescaped_upto}

-- a character begins after `[^`
pub after_mark : (text : List ℕ) → IsUtf8 text → begins_footnote_mark text ≡ true → IsCharBoundary text 2
after_mark text u h =
    let there = first_byte circumflex text 1 (and_parts (begins left_bracket text) (begins circumflex (drop 1 text)) h).1 in
    IsCharBoundary-after_ascii text 1 u there.0 (omega (arith, there.1))

-- so does one at a place further on
pub further : (text following xs : List ℕ) (at : ℕ) → IsCharBoundary text 2 → xs ≡ drop 2 text → IsCharBoundary xs at → following ≡ drop at xs
    → IsCharBoundary text (2 + at) × (following ≡ drop (2 + at) text)
further text following xs at m is b e = grind arith

-- the result for a label or a head, with its length in bytes
abbrev pub IsAnswer : Option (ℕ × List ℕ) → Option (ℕ × CowStr) → Type 0
IsAnswer o answer = MatchOption o (answer ≡ None) (λ label. IsSomeAnd answer (λ found. (found.0 ≡ label.0) × (text_of found.1 ≡ label.1)))

-- no head without `[^`
pub no_mark : (prefix : List ℕ → Option ℕ) (t : Bool) (text : List ℕ) → begins_footnote_mark text ≡ false → footnote_head prefix t text ≡ None
unfolding footnote_head
no_mark prefix t text h = ap (λ (b : Bool). if b then option_and_then (head_after (drop 2 text)) (label_at prefix t (drop 2 text)) else None) h

label_missing : (o : Option (ℕ × List ℕ)) → IsAnswer o None → o ≡ None
label_missing None h = refl
label_missing (Some l) h = absurd h

pub head_of : (prefix : List ℕ → Option ℕ) (t : Bool) (text : List ℕ) → begins_footnote_mark text ≡ true
    → footnote_head prefix t text ≡ option_and_then (head_after (drop 2 text)) (label_at prefix t (drop 2 text))
unfolding footnote_head
head_of prefix t text h = ap (λ (b : Bool). if b then option_and_then (head_after (drop 2 text)) (label_at prefix t (drop 2 text)) else None) h

-- no head without a label
pub no_label : (prefix : List ℕ → Option ℕ) (t : Bool) (text : List ℕ) → begins_footnote_mark text ≡ true → IsAnswer (label_at prefix t (drop 2 text)) None
    → footnote_head prefix t text ≡ None
no_label prefix t text h k = grind (arith, head_of, label_missing)

colon_by : (t : Bool) (bs : List ℕ) (o : Option (ℕ × List ℕ)) (n : ℕ) (label : CowStr) → IsAnswer o (Some (n, label)) → begins colon (drop n bs) ≡ t
    → IsAnswer (option_and_then (head_after bs) o) (if t then Some (n + 3, label) else None)
colon_by t bs None n label k h = cc
colon_by true bs (Some l) n label k h = grind arith
colon_by false bs (Some l) n label k h = let e : begins colon (drop l.0 bs) ≡ false = ap (λ m. begins colon (drop m bs)) (sym k.0) ∙ h in rw e refl

-- the head after a label, by whether a colon follows it
pub head_by : (u : Bool) (prefix : List ℕ → Option ℕ) (t : Bool) (text : List ℕ) (n : ℕ) (label : CowStr) → begins_footnote_mark text ≡ true
    → IsAnswer (label_at prefix t (drop 2 text)) (Some (n, label)) → begins colon (drop (n + 2) text) ≡ u
    → IsAnswer (footnote_head prefix t text) (if u then Some (n + 3, label) else None)
head_by u prefix t text n label h k c = grind (arith, head_of, colon_by)

-- a character begins after the colon
pub after_colon : (text : List ℕ) (n : ℕ) → IsUtf8 text → begins colon (drop (n + 2) text) ≡ true → IsCharBoundary text (n + 3)
after_colon text n u h =
    let there = first_byte colon text (n + 2) h in
    let e : n + 2 + 1 ≡ n + 3 = omega arith in
    subst (IsCharBoundary text) e (IsCharBoundary-after_ascii text (n + 2) u there.0 (omega (arith, there.1)))

-- the label continues on no further line
abbrev pub no_further_line : List ℕ → Option ℕ
no_further_line bs = None

-- A `]` is at n in the joined text exactly if one is at k in the bytes. Then the bytes before the `]` are equal, and its
-- offset is `at` + k.
record IsSameLabel (cs : List (ℕ × ℕ)) (xs : List ℕ) (at n k : ℕ) : Type 0 where
  pub ends : begins right_bracket (drop n (bytes_of cs)) ≡ begins right_bracket (drop k xs)
  pub label : begins right_bracket (drop k xs) ≡ true → take n (bytes_of cs) ≡ take k xs
  pub place : begins right_bracket (drop k xs) ≡ true → slice_index (offsets_of cs) n ≡ at + k

one_more : (cs : List (ℕ × ℕ)) (xs : List ℕ) (at b n k : ℕ) → IsSameLabel cs xs (at + 1) n k → IsSameLabel ((at, b) ∷ cs) (b ∷ xs) at (1 + n) (1 + k)
one_more cs xs at b n k s =
    let e : 1 + n ≡ suc n = omega arith in
    let f : 1 + k ≡ suc k = omega arith in
    rw (e, f) record { ends = s.ends; label = λ t. ap (λ ys. b ∷ ys) (s.label t); place = λ t. let p = s.place t in omega arith }

two_more : (cs : List (ℕ × ℕ)) (xs : List ℕ) (at b c n k : ℕ)
    → IsSameLabel cs xs (at + 1 + 1) n k → IsSameLabel ((at, b) ∷ (at + 1, c) ∷ cs) (b ∷ c ∷ xs) at (2 + n) (2 + k)
two_more cs xs at b c n k s =
    let e : 2 + n ≡ 1 + (1 + n) = omega arith in
    let f : 2 + k ≡ 1 + (1 + k) = omega arith in
    rw (e, f) (one_more ((at + 1, c) ∷ cs) (c ∷ xs) at b (1 + n) (1 + k) (one_more cs xs (at + 1) c n k s))

-- nothing is joined if a line feed is first
nothing_after : (at : ℕ) (bs : List ℕ) → begins line_feed bs ≡ true → joined no_further_line at 0 bs ≡ []
nothing_after at [] h = joined-nil no_further_line at
nothing_after at (b ∷ bs) h = let e : ends_line b bs ≡ true = rw h refl in joined-stop no_further_line at b bs e refl

-- no `]` is at n, and none at k
none_in : (cs : List (ℕ × ℕ)) (xs : List ℕ) (at n k : ℕ) → begins right_bracket (drop n (bytes_of cs)) ≡ false → begins right_bracket (drop k xs) ≡ false
    → IsSameLabel cs xs at n k
none_in cs xs at n k e f = record {
  ends = e ∙ sym f;
  label = λ t. absurd (false≢true (sym f ∙ t));
  place = λ t. absurd (false≢true (sym f ∙ t));
}

-- the rest from an offset on
abbrev SameFrom : ℕ → List ℕ → Type 0
SameFrom at xs =
    IsSameLabel (joined no_further_line at 0 xs) xs at (label_len (bytes_of (joined no_further_line at 0 xs))) (unescaped_upto ends_line_label 0 xs)

same_nil : (at : ℕ) → SameFrom at []
same_nil at =
    rw (joined-nil no_further_line at, upto-nil ends_line_label)
    (none_in [] [] at (label_len []) 0 (ap (λ n. begins right_bracket (drop n [])) (upto-nil is_bracket)) refl)

-- no escape begins in the joined text if none begins in the text
escape_joined : (at b : ℕ) (bs : List ℕ) → begins_escape (b ∷ bs) ≡ false → begins_escape (b ∷ bytes_of (joined no_further_line at 0 bs)) ≡ false
escape_joined at b bs e =
    joined_fails (λ c. (b == backslash) && is_ascii_punctuation c) (and_right (b == backslash) false refl) no_further_line at bs e

-- at a bracket
at_bracket : (at b : ℕ) (bs : List ℕ) → is_bracket b ≡ true → SameFrom at (b ∷ bs)
at_bracket at b bs s =
    let e : ends_line b bs ≡ false = grind (arith, nat_tests, s) in
    let f : (b == backslash) ≡ false = grind (arith, nat_tests, s) in
    let l : ends_line_label b ≡ true = rw s refl in
    let cs = joined no_further_line (at + 1) 0 bs in
    rw (upto-stop ends_line_label b bs (and_left _ _ f) l, joined-byte no_further_line at b bs e, upto-stop is_bracket b (bytes_of cs) (and_left _ _ f) s)
    record { ends = refl; label = λ t. refl; place = λ t. omega arith }

-- at a byte of a line ending
at_line_ending_byte : (at b : ℕ) (bs : List ℕ) → is_bracket b ≡ false → ends_line_label b ≡ true → SameFrom at (b ∷ bs)
at_line_ending_byte at b bs s l =
    let f : (b == backslash) ≡ false = grind (arith, nat_tests, s, l) in
    let d : (b == right_bracket) ≡ false = grind (arith, nat_tests, s) in
    let stop = upto-stop ends_line_label b bs (and_left _ _ f) l in
    let none = upto-nil is_bracket in
    elim (cases_Bool (ends_line b bs)) [
      | inl e ↦ rw (stop, joined-stop no_further_line at b bs e refl)
          (none_in [] (b ∷ bs) at (label_len []) 0 (ap (λ n. begins right_bracket (drop n [])) none) d)
      | inr e ↦ (
          let i : begins line_feed bs ≡ true = grind (arith, nat_tests, e, s, l) in
          let j : joined no_further_line at 0 (b ∷ bs) ≡ (at, b) ∷ [] =
          joined-byte no_further_line at b bs e ∙ ap (λ cs. (at, b) ∷ cs) (nothing_after (at + 1) bs i) in
          let n : label_len (b ∷ []) ≡ 1 = upto-byte is_bracket b [] (and_left _ _ f) s ∙ ap (λ m. 1 + m) none in
          rw (stop, j) (none_in ((at, b) ∷ []) (b ∷ bs) at (label_len (b ∷ [])) 0 (ap (λ m. begins right_bracket (drop m (b ∷ []))) n) d))
    ]

-- one byte further
byte_on : (at b : ℕ) (bs : List ℕ) → begins_escape (b ∷ bs) ≡ false → ends_line_label b ≡ false → SameFrom (at + 1) bs → SameFrom at (b ∷ bs)
byte_on at b bs g l on =
    let cs = joined no_further_line (at + 1) 0 bs in
    let e : ends_line b bs ≡ false = grind (arith, nat_tests, l) in
    let s : is_bracket b ≡ false = grind (arith, nat_tests, l) in
    rw (upto-byte ends_line_label b bs g l, joined-byte no_further_line at b bs e, upto-byte is_bracket b (bytes_of cs) (escape_joined (at + 1) b bs g) s)
    (one_more cs bs at b (label_len (bytes_of cs)) (unescaped_upto ends_line_label 0 bs) on)

-- one escape further
escape_on : (at b c : ℕ) (bs : List ℕ) → begins_escape (b ∷ c ∷ bs) ≡ true → SameFrom (at + 1 + 1) bs → SameFrom at (b ∷ c ∷ bs)
escape_on at b c bs g on =
    let cs = joined no_further_line (at + 1 + 1) 0 bs in
    let e : ends_line b (c ∷ bs) ≡ false = rw (eqb-true b backslash (and_parts _ _ g).0) refl in
    let p : is_ascii_punctuation c ≡ true = (and_parts _ _ g).1 in
    let f : ends_line c bs ≡ false = grind (arith, nat_tests, p) in
    let j : joined no_further_line at 0 (b ∷ c ∷ bs) ≡ (at, b) ∷ (at + 1, c) ∷ cs =
    joined-byte no_further_line at b (c ∷ bs) e ∙ ap (λ ds. (at, b) ∷ ds) (joined-byte no_further_line (at + 1) c bs f) in
    rw (upto-escape ends_line_label b c bs g, j, upto-escape is_bracket b c (bytes_of cs) g)
    (two_more cs bs at b c (label_len (bytes_of cs)) (unescaped_upto ends_line_label 0 bs) on)

same_label : (at : ℕ) (xs : List ℕ) → SameFrom at xs
same_label = by_units SameFrom same_nil escape_on (λ at b bs g on. elim (cases_Bool (ends_line_label b)) [
  | inl l ↦ elim (cases_Bool (is_bracket b)) [ inl s ↦ at_bracket at b bs s | inr s ↦ at_line_ending_byte at b bs s l ]
  | inr l ↦ byte_on at b bs g l on
])

-- the length of a label without a line ending, after its `[` and before a `]`
abbrev pub line_label_len : List ℕ → ℕ
line_label_len xs = unescaped_upto ends_line_label 0 xs

-- the label after a `[`, if it has no line ending
line_label : (t : Bool) (xs : List ℕ) → label_at no_further_line t xs
    ≡ (if begins right_bracket (drop (line_label_len xs) xs) && is_label (take (line_label_len xs) xs)
    then Some (line_label_len xs + 1, as_read t (take (line_label_len xs) xs)) else None)
unfolding label_at
line_label t xs =
    let s = same_label 0 xs in
    elim (cases_Bool (begins right_bracket (drop (line_label_len xs) xs))) [
      | inl h ↦ (
          let place : slice_index (offsets_of (joined no_further_line 0 0 xs)) (label_len (bytes_of (joined no_further_line 0 0 xs))) ≡ line_label_len xs =
          s.place h ∙ omega arith in
          rw (s.ends ∙ h, h, s.label h, place))
      | inr h ↦ rw (s.ends ∙ h, h)
    ]

head_form : (b u : Bool) (xs label : List ℕ) (m : ℕ)
    → is_some (option_and_then (head_after xs) (if b && u then Some (m, label) else None)) ≡ (b && (begins colon (drop m xs) && u))
head_form false u xs label m = refl
head_form true false xs label m = sym (and_right _ false refl)
head_form true true xs label m = elim (cases_Bool (begins colon (drop m xs))) [ inl h ↦ rw h | inr h ↦ rw h ]

-- whether a head begins there, with a label that has no line ending
pub line_head : (text label : List ℕ) (n : ℕ) → label ≡ drop 2 text → n ≡ line_label_len label → begins_footnote_mark text ≡ true → (t : Bool)
    → is_some (footnote_head no_further_line t text) ≡ (begins right_bracket (drop n label) && (begins colon (drop (n + 1) label) && is_label (take n label)))
line_head text label n l k h t =
    let xs = drop 2 text in
    rw (k, l) (ap is_some (head_of no_further_line t text h ∙ ap (option_and_then (head_after xs)) (line_label t xs))
    ∙ head_form (begins right_bracket (drop (line_label_len xs) xs)) (is_label (take (line_label_len xs) xs)) xs _ (line_label_len xs + 1))

pub head_unmarked : (text : List ℕ) → begins_footnote_mark text ≡ false → (t : Bool) → is_some (footnote_head no_further_line t text) ≡ false
head_unmarked text h t = ap is_some (no_mark no_further_line t text h)
