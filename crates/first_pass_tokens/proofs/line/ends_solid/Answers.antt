use Rattle.std.proofs.Common.{◌≡◌, ℕ, ◌-◌, ◌<◌, ◌≤◌, Bool, false, List, length, slice_index, arith, slice_range}
use Rattle.first_pass_tokens.proofs.Common.{cases_lt, not-true, space, nat_tests, is_white, suffix_len}
use Rattle.first_pass_tokens.proofs.LineLemmas.{end_bounded}
use Rattle.first_pass_tokens.proofs.line.ends_solid.Goals as goal
use Rattle.first_pass_tokens.proofs.line.ends_solid.Goals.{then-start-end, else-start-end}

-- no byte at the end of the content passes a test that the last one fails
none_at_end : (p : ℕ → Bool) (text : List ℕ) (start end : ℕ) → start ≤ end → end ≤ length text
    → p (slice_index text (end - 1)) ≡ false → suffix_len p (slice_range text start end) ≡ 0
none_at_end p text start end order within last = grind (arith, end_bounded, cases_lt)

-- a byte above the space is no white space
above_solid : (b : ℕ) → space < b → is_white b ≡ false
above_solid b above = grind (arith, nat_tests)

pub returns-then-text-end-gt32-clause-white : goal.returns-then-text-end-gt32-clause-white
returns-then-text-end-gt32-clause-white c = grind (arith, then-start-end, else-start-end, nat_tests, none_at_end, above_solid)

pub returns-then-text-end-gt32-clause-backslashes : goal.returns-then-text-end-gt32-clause-backslashes
returns-then-text-end-gt32-clause-backslashes c = grind (arith, none_at_end, not-true)
