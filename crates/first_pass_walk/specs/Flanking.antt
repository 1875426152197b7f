-- The delimiter runs of emphasis, in the terms of CommonMark.
use Rattle.std.specs.Prelude.{◌≡◌, ℕ, ◌&&◌, ◌||◌, not, Bool, true, false, Option, None, Some}
use Rattle.std.specs.Char.{is_whitespace}
use Rattle.first_pass_walk.specs.declared.flank.DelimiterRun.{DelimiterRun}
use Rattle.first_pass_walk.specs.Flank.{is_punctuation}

-- white space beside a run; the start and the end of the line count as white space (CommonMark 6.2; that U+000B,
-- U+0085, U+2028 and U+2029 count too: this project)
abbrev pub is_space_beside : Option ℕ → Bool
is_space_beside None = true
is_space_beside (Some c) = is_whitespace c

-- a punctuation character beside a run (CommonMark 6.2)
abbrev pub is_punctuation_beside : Option ℕ → Bool
is_punctuation_beside None = false
is_punctuation_beside (Some c) = is_punctuation c

-- a left-flanking run: no white space follows it; if punctuation follows it, white space or punctuation is before it
-- (CommonMark 6.2)
abbrev pub is_left_flanking : DelimiterRun → Bool
is_left_flanking r =
    not (is_space_beside r.after) && (not (is_punctuation_beside r.after) || (is_space_beside r.before || is_punctuation_beside r.before))

-- a right-flanking run: no white space is before it; if punctuation is before it, white space or punctuation follows
-- it (CommonMark 6.2)
abbrev pub is_right_flanking : DelimiterRun → Bool
is_right_flanking r =
    not (is_space_beside r.before) && (not (is_punctuation_beside r.before) || (is_space_beside r.after || is_punctuation_beside r.after))

-- a run of `_` can open emphasis: it is left-flanking, and it is not right-flanking or it is after punctuation
-- (CommonMark 6.2)
abbrev pub underscore_opens : DelimiterRun → Bool
underscore_opens r = is_left_flanking r && (not (is_right_flanking r) || is_punctuation_beside r.before)

-- a run of `_` can close emphasis: it is right-flanking, and it is not left-flanking or it is before punctuation
-- (CommonMark 6.2)
abbrev pub underscore_closes : DelimiterRun → Bool
underscore_closes r = is_right_flanking r && (not (is_left_flanking r) || is_punctuation_beside r.after)

-- outside the rows of a table, a rule decides whether a run of the byte can open or close (CommonMark 6.2)
abbrev pub GoesBy : ℕ → (DelimiterRun → Bool) → (DelimiterRun → Bool) → DelimiterRun → Type 0
GoesBy delimiter can rule r = r.in_row ≡ false → r.delimiter ≡ delimiter → can r ≡ rule r
