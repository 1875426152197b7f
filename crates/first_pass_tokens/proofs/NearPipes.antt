-- A pipe that ends no cell is plain text, and so is a letter, digit or hyphen before it.
use Rattle.std.proofs.Common.{◌≡◌, ℕ, ◌+◌, ◌<◌, ◌≤◌, ◌==◌, true, false, List, length, inl, inr, arith, slice_index}
use Rattle.first_pass_tokens.proofs.Common.{cases_lt, lt-leb, and_from, and_parts, or_cases, or_from, or_parts, or_left, or_right, cond_both, hyphen, pipe}
use Rattle.first_pass_tokens.proofs.Common.{Left, nat_tests, Ready, Inline, is_word_or_hyphen, is_near_pipe, is_ascii_alphanumeric}
use Rattle.first_pass_walk.specs.Walk.{is_special}
use Rattle.first_pass_tokens.specs.Pieces.{found_at, special_found, special_piece, bracket_piece}
use Rattle.first_pass_tokens.specs.LineTokens.{content_ends_at}
use Rattle.first_pass_tokens.proofs.QuickPieces.{hyphen_ready}
use Rattle.first_pass_tokens.proofs.SoFar.{IsPlain}

-- a letter, digit or hyphen before a pipe, and that pipe
pub near_two : (text : List ℕ) (at : ℕ) → is_word_or_hyphen (slice_index text at) ≡ true → (slice_index text (at + 1) == pipe) ≡ true
    → (k : ℕ) → at ≤ k → k < at + 2 → is_near_pipe text k ≡ true
near_two text at here next k low high =
    elim (cases_lt at k) [
      | inl later ↦ let same : k ≡ at + 1 = omega arith in rw same (or_left _ _ next)
      | inr first ↦ let same : k ≡ at = omega arith in rw same (or_right _ _ (and_from _ _ here next))
    ]

-- a pipe that ends no cell is a piece by itself
pipe_piece : (z : Inline) (at : ℕ) → slice_index z.text at ≡ pipe → found_at z at ≡ Ready (Left 1)
unfolding found_at special_found special_piece bracket_piece
pipe_piece z at is = grind (arith, cond_both)

-- a hyphen that no other follows is a piece by itself
hyphen_piece : (z : Inline) (at : ℕ) → at < length z.text → slice_index z.text at ≡ hyphen → (slice_index z.text (at + 1) == hyphen) ≡ false
    → found_at z at ≡ Ready (Left 1)
unfolding found_at
hyphen_piece z at within here other = grind (arith, cond_both, hyphen_ready)

-- a letter or digit is not special
word_plain : (z : Inline) (at : ℕ) → is_ascii_alphanumeric (slice_index z.text at) ≡ true → is_special z.options (slice_index z.text at) ≡ false
unfolding is_special
word_plain z at h = grind (arith, nat_tests, h)

-- no content ends at a hyphen
hyphen_inside : (z : Inline) (at : ℕ) → at < length z.text → slice_index z.text at ≡ hyphen → content_ends_at z at ≡ false
unfolding content_ends_at
hyphen_inside z at within here = grind (arith, nat_tests, within, here)

-- nor at a pipe, if it does not end at another one
pipe_inside : (z : Inline) (at k : ℕ) → content_ends_at z at ≡ false → slice_index z.text at ≡ pipe → k < length z.text → slice_index z.text k ≡ pipe
    → content_ends_at z k ≡ false
unfolding content_ends_at
pipe_inside z at k on is within here = grind (arith, or_parts, or_from, lt-leb)

-- a letter, digit or hyphen before a pipe is plain text
before_pipe : (z : Inline) (at : ℕ) → at < length z.text → is_word_or_hyphen (slice_index z.text at) ≡ true
    → (slice_index z.text (at + 1) == pipe) ≡ true → IsPlain z at
before_pipe z at within word next = grind (arith, or_cases, word_plain, hyphen_inside, hyphen_piece)

-- the bytes near pipes are plain text, if no cell ends at a pipe
pub near_pipes : (z : Inline) (at : ℕ) → content_ends_at z at ≡ false → slice_index z.text at ≡ pipe
    → (k : ℕ) → k < length z.text → is_near_pipe z.text k ≡ true → IsPlain z k
near_pipes z at on is k within near = grind (arith, or_cases, pipe_inside, pipe_piece, and_parts, before_pipe)
