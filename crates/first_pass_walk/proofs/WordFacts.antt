-- A run between two ASCII letters or digits.
use Rattle.std.proofs.Common.{◌≡◌, ℕ, ◌+◌, ◌-◌, ◌<◌, ◌==◌, ◌++◌, Bool, true, false, List, length, take, drop, Some, IsUtf8, slice_index, refl, sym, ap, ◌∙◌}
use Rattle.std.proofs.Common.{arith, get_or-drop, length-drop, length-take-le, encode_utf8, slice_range, slice_get, get_or-take}
use Rattle.first_pass_walk.proofs.Common.{nat_tests, IsScalar, is_whitespace, is_ascii_alphanumeric, underscore, pipe, DelimiterRun, take_more, drop_more}
use Rattle.std.proofs.lemmas.Str.{IsUtf8-take, IsUtf8-drop, IsCharBoundary-before_ascii, IsCharBoundary-after_ascii, chars_past_char, encode_ascii}
use Rattle.first_pass_walk.specs.Flank.{is_punctuation, can_open, can_close, opens_between, closes_between, first_char, last_char, ends_with_pipe}
use Rattle.first_pass_walk.proofs.AsciiFacts.{punctuation_in_ascii}
use Rattle.first_pass_walk.proofs.FlankFacts.{last_char_by}

-- a letter or digit is neither white space nor punctuation, and no pipe
pub word_below : (c : ℕ) → is_ascii_alphanumeric c ≡ true → c < 128
word_below c h = grind (arith, nat_tests, h)

word_space : (c : ℕ) → is_ascii_alphanumeric c ≡ true → is_whitespace c ≡ false
word_space c h = grind (arith, nat_tests, h)

word_punctuation : (c : ℕ) → is_ascii_alphanumeric c ≡ true → is_punctuation c ≡ false
word_punctuation c h = punctuation_in_ascii c (word_below c h) ∙ grind (arith, nat_tests, h)

word_pipe : (c : ℕ) → is_ascii_alphanumeric c ≡ true → (c == pipe) ≡ false
word_pipe c h = grind (arith, nat_tests, h)

pub word_underscore : (c : ℕ) → is_ascii_alphanumeric c ≡ true → (c == underscore) ≡ false
word_underscore c h = grind (arith, nat_tests, h)

-- a run of underscores between them neither opens nor closes
pub opens_not : (row : Bool) (r : DelimiterRun) (p n : ℕ) → r.in_row ≡ row → r.delimiter ≡ underscore → r.after_pipe ≡ false
    → is_ascii_alphanumeric p ≡ true → is_ascii_alphanumeric n ≡ true → r.before ≡ Some p → r.after ≡ Some n → can_open r ≡ false
unfolding can_open opens_between
opens_not true r p n row d a hp hn eb ea = rw (eb, ea, row, d, a, word_space n hn, word_pipe n hn, word_space p hp, word_punctuation p hp) refl
opens_not false r p n row d a hp hn eb ea = rw (eb, ea, row, d, word_space n hn, word_space p hp, word_punctuation p hp) refl

pub closes_not : (row : Bool) (r : DelimiterRun) (p n : ℕ) → r.in_row ≡ row → r.delimiter ≡ underscore → r.after_pipe ≡ false
    → is_ascii_alphanumeric p ≡ true → is_ascii_alphanumeric n ≡ true → r.before ≡ Some p → r.after ≡ Some n → can_close r ≡ false
unfolding can_close closes_between
closes_not true r p n row d a hp hn eb ea = rw (eb, ea, row, d, a, word_space p hp, word_pipe n hn, word_space n hn, word_punctuation n hn) refl
closes_not false r p n row d a hp hn eb ea = rw (eb, ea, row, d, word_space p hp, word_space n hn, word_punctuation n hn) refl

scalar_word : (c : ℕ) → c < 128 → IsScalar c
scalar_word c h = grind (arith, nat_tests, h)

-- the characters beside it
pub last_word : (whole : List ℕ) (at : ℕ) → IsUtf8 whole → 0 < at → at < length whole → slice_index whole at < 128
    → is_ascii_alphanumeric (slice_index whole (at - 1)) ≡ true → last_char (take at whole) ≡ Some (slice_index whole (at - 1))
last_word whole at utf8 some within low word =
    let p = slice_index whole (at - 1) in
    let on : at - 1 + 1 ≡ at = omega arith in
    let parts : take at whole ≡ take (at - 1) whole ++ encode_utf8 p =
    ap (λ n. take n whole) (sym on) ∙ take_more whole (at - 1) 0 (omega arith)
    ∙ ap (λ (e : List ℕ). take (at - 1) whole ++ e) (sym (encode_ascii p (word_below p word))) in
    sym (last_char_by Unit (take at whole) (take at whole) (take (at - 1) whole) (Some p) refl
    (IsUtf8-take whole at utf8 (IsCharBoundary-before_ascii whole at within low)) (scalar_word p (word_below p word)) parts)

pub first_word : (whole : List ℕ) (at : ℕ) → IsUtf8 whole → at + 1 < length whole → slice_index whole at < 128
    → is_ascii_alphanumeric (slice_index whole (at + 1)) ≡ true → first_char (drop (at + 1) whole) ≡ Some (slice_index whole (at + 1))
unfolding first_char
first_word whole at utf8 within low word =
    let n = slice_index whole (at + 1) in
    let parts : drop (at + 1) whole ≡ encode_utf8 n ++ drop (at + 1 + 1) whole =
    drop_more whole (at + 1) 0 within ∙ ap (λ (e : List ℕ). e ++ drop (at + 1 + 1) whole) (sym (encode_ascii n (word_below n word))) in
    ap (λ cs. slice_get cs 0) (chars_past_char (drop (at + 1) whole) (drop (at + 1 + 1) whole) n
    (IsUtf8-drop whole (at + 1) utf8 (IsCharBoundary-after_ascii whole at utf8 (omega arith) low)) parts)

-- no pipe is before it
pub no_pipe : (text : List ℕ) (start at : ℕ) → start < at → at < length text → is_ascii_alphanumeric (slice_index text (at - 1)) ≡ true
    → ends_with_pipe (slice_range text start at) ≡ false
unfolding ends_with_pipe
no_pipe text start at some within word =
    let long = length-drop start text in
    let size : length (slice_range text start at) ≡ at - start = length-take-le (at - start) (drop start text) (omega arith) in
    let place : start + (at - start - 1) ≡ at - 1 = omega arith in
    let last : slice_index (slice_range text start at) (length (slice_range text start at) - 1) ≡ slice_index text (at - 1) =
    ap (λ n. slice_index (slice_range text start at) (n - 1)) size
    ∙ get_or-take (at - start) (drop start text) (at - start - 1) 0 (omega arith) ∙ get_or-drop start text (at - start - 1) 0
    ∙ ap (slice_index text) place in
    rw (last, word_pipe (slice_index text (at - 1)) word) refl
