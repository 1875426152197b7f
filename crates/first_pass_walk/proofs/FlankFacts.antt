-- Facts on the characters beside a delimiter run.
use Rattle.std.proofs.Common.{Bool, true, false, not, cond, ◌&&◌, ◌||◌, ◌≡◌, ℕ, ◌-◌, List, [], ◌∷◌, ◌++◌, length, take, Option, Some, None, MatchOption, IfSome}
use Rattle.std.proofs.Common.{refl, sym, ap, ◌∙◌, subst, arith, length-append, append-nil, slice_get, encode_utf8, chars, IsUtf8}
use Rattle.first_pass_walk.proofs.Common.{nat_tests, IsScalar, is_whitespace, slice_get_read, asterisk, underscore, DelimiterRun}
use Rattle.std.proofs.lemmas.Str.{IsUtf8-encode, IsUtf8-take, IsCharBoundary-at_seam, chars-append, chars_past_char, chars-nil}
use Rattle.std.proofs.Math.Seq.{take-append_seam, get_or-append_seam}
use Rattle.first_pass_walk.specs.Flank.{last_char, is_punctuation, can_open, can_close, opens_between, closes_between}
use Rattle.first_pass_walk.specs.Flanking.{is_left_flanking, is_right_flanking, underscore_opens, underscore_closes, GoesBy}

-- the bytes before the last character of a text are UTF-8
front_is_text : (text front : List ℕ) (c : ℕ) → IsUtf8 text → IsScalar c → text ≡ front ++ encode_utf8 c → IsUtf8 front
front_is_text text front c utf8 scalar parts =
    let cut = IsCharBoundary-at_seam text front (encode_utf8 c) parts (IsUtf8-encode c scalar) in
    let same : take (length front) text ≡ front = ap (take (length front)) parts ∙ take-append_seam front (encode_utf8 c) in
    subst IsUtf8 same (IsUtf8-take text (length front) utf8 cut)

last_of : (front : List ℕ) (c : ℕ) → slice_get (front ++ c ∷ []) (length (front ++ c ∷ []) - 1) ≡ Some c
last_of front c =
    let n : length (front ++ c ∷ []) - 1 ≡ length front = omega (arith, length-append front (c ∷ [])) in
    rw n (slice_get_read (front ++ c ∷ []) (length (front ++ c ∷ [])) (length front) c refl (omega (arith, length-append front (c ∷ [])))
    (sym (get_or-append_seam front c [] c)))

-- the character at the end of a text is its last one
last_char_is : (text front : List ℕ) (c : ℕ) → IsUtf8 text → IsScalar c → text ≡ front ++ encode_utf8 c → last_char text ≡ Some c
unfolding last_char
last_char_is text front c utf8 scalar parts =
    let alone : encode_utf8 c ≡ encode_utf8 c ++ [] = sym (append-nil (encode_utf8 c)) in
    let one : chars (encode_utf8 c) ≡ c ∷ [] = chars_past_char (encode_utf8 c) [] c (IsUtf8-encode c scalar) alone ∙ ap (λ cs. c ∷ cs) chars-nil in
    let all : chars text ≡ chars front ++ c ∷ [] =
    ap chars parts ∙ chars-append front (encode_utf8 c) (front_is_text text front c utf8 scalar parts) ∙ ap (λ cs. chars front ++ cs) one in
    rw all (last_of (chars front) c)

-- an empty text has no last character
last_char_none : (text : List ℕ) → length text ≡ 0 → last_char text ≡ None
unfolding last_char
last_char_none [] h = rw chars-nil
last_char_none (b ∷ bs) h = absurd (omega arith)

-- the last character of a text, from the bytes before it
pub last_char_by : (A : Type 0) (text whole front : List ℕ) (r : Option ℕ)
    → whole ≡ text → IsUtf8 text → IfSome r IsScalar → MatchOption r ((length whole ≡ 0) × A) (λ c. whole ≡ front ++ encode_utf8 c) → r ≡ last_char text
last_char_by A text whole front None same utf8 scalar parts = sym (last_char_none text (ap length (sym same) ∙ parts.0))
last_char_by A text whole front (Some c) same utf8 scalar parts = sym (last_char_is text front c utf8 scalar (sym same ∙ parts))

-- the tests of a run outside rows, by white space and punctuation after and before it: first for an asterisk, then for an underscore
module _ (wa pa wb pb : Bool) where
  open_tests : (cond wa false (cond (not pa) true (cond wb true (pb && true))) ≡ not wa && (not pa || (wb || pb)))
      × (cond wa false (cond wb true (pb && true)) ≡ (not wa && (not pa || (wb || pb))) && (not (not wb && (not pb || (wa || pa))) || pb))
  open_tests = (grind (arith, nat_tests), grind (arith, nat_tests))

  close_tests : (cond wb false (cond (not pb) true (wa || pa)) ≡ not wb && (not pb || (wa || pa)))
      × (cond wb false (wa || pa) ≡ (not wb && (not pb || (wa || pa))) && (not (not wa && (not pa || (wb || pb))) || pa))
  close_tests = (grind (arith, nat_tests), grind (arith, nat_tests))

-- a run between two characters, or at the start or the end of a line, opens and closes emphasis by the rules of CommonMark
module _ (r : DelimiterRun) where
  abbrev between : Option ℕ → Option ℕ → DelimiterRun
  between before after = record r { before = before; after = after }

  pub emphasis_opens : (before after : Option ℕ)
      → GoesBy asterisk can_open is_left_flanking (between before after) × GoesBy underscore can_open underscore_opens (between before after)
  unfolding can_open opens_between
  emphasis_opens before None = (λ plain asterisk_is. refl, λ plain underscore_is. refl)
  emphasis_opens None (Some a) = (λ plain asterisk_is. grind (arith, nat_tests), λ plain underscore_is. grind (arith, nat_tests))
  emphasis_opens (Some b) (Some a) = (
    λ plain asterisk_is. rw (plain, asterisk_is) (open_tests (is_whitespace a) (is_punctuation a) (is_whitespace b) (is_punctuation b)).0,
    λ plain underscore_is. rw (plain, underscore_is) (open_tests (is_whitespace a) (is_punctuation a) (is_whitespace b) (is_punctuation b)).1,
  )

  pub emphasis_closes : (before after : Option ℕ)
      → GoesBy asterisk can_close is_right_flanking (between before after) × GoesBy underscore can_close underscore_closes (between before after)
  unfolding can_close closes_between
  emphasis_closes None after = (λ plain asterisk_is. refl, λ plain underscore_is. refl)
  emphasis_closes (Some b) None = (λ plain asterisk_is. grind (arith, nat_tests), λ plain underscore_is. grind (arith, nat_tests))
  emphasis_closes (Some b) (Some a) = (
    λ plain asterisk_is. rw (plain, asterisk_is) (close_tests (is_whitespace a) (is_punctuation a) (is_whitespace b) (is_punctuation b)).0,
    λ plain underscore_is. rw (plain, underscore_is) (close_tests (is_whitespace a) (is_punctuation a) (is_whitespace b) (is_punctuation b)).1,
  )
