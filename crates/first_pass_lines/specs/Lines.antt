-- Classes of bytes, line endings, blank lines and ATX headings. The bytes run from a position in the text to its end.
use Rattle.std.specs.Prelude.{◌≡◌, ◌⊎◌, ℕ, ◌+◌, ◌==◌, ◌&&◌, ◌||◌, not, Bool, true, false, List, [], ◌∷◌, ◌++◌, drop, Option, Some, None, is_some, unwrap_or}
use Rattle.std.specs.Prelude.{length, slice_index, if◌then◌else◌}
use Rattle.std.specs.Option.{option_map}
use Rattle.std.specs.List.{prefix_len, list_all}
use Rattle.first_pass_items.specs.Bytes.{tab, line_feed, line_tabulation, form_feed, carriage_return, space, number_sign}
use Rattle.first_pass_items.specs.declared.item.HeadingLevel.{HeadingLevel}
use Rattle.first_pass_items.specs.declared.item.HeadingLevel.TheVariants.{H1, H2, H3, H4, H5, H6}

-- `\n` or `\r` (CommonMark 2.1, line ending)
abbrev pub is_line_end : ℕ → Bool
is_line_end b = (b == line_feed) || (b == carriage_return)

-- a byte that is not part of a line ending (CommonMark 2.1)
abbrev pub is_content : ℕ → Bool
is_content b = not (is_line_end b)

-- White space without line endings: tab, 0x0B, 0x0C and space (this project). The rules of CommonMark have only spaces
-- and tabs. If a definition that cites one has white space, its 0x0B and 0x0C are this project's.
abbrev pub is_white : ℕ → Bool
is_white b = (b == tab) || (b == line_tabulation) || (b == form_feed) || (b == space)

-- a space or a tab (CommonMark 2.1)
abbrev pub is_space_or_tab : ℕ → Bool
is_space_or_tab b = (b == tab) || (b == space)

-- white space, or `\n` or `\r` (this project)
abbrev pub is_white_or_line_end : ℕ → Bool
is_white_or_line_end b = is_white b || is_line_end b

-- the bytes begin with the byte c (this project)
abbrev pub begins : ℕ → List ℕ → Bool
begins c [] = false
begins c (b ∷ bs) = b == c

-- the bytes end with the byte c (this project)
abbrev pub ends : ℕ → List ℕ → Bool
ends c [] = false
ends c (b ∷ bs) = slice_index (b ∷ bs) (length bs) == c

-- a line ends after `\n`, and after a `\r` that no `\n` follows (CommonMark 2.1, line ending)
abbrev pub ends_line : ℕ → List ℕ → Bool
ends_line b bs = (b == line_feed) || ((b == carriage_return) && not (begins line_feed bs))

-- the length of the line ending here: `\n`, `\r\n` or `\r`; zero at the end of the text (CommonMark 2.1, line ending)
abbrev pub eol_len : List ℕ → Option ℕ
eol_len [] = Some 0
eol_len (b ∷ bs) = if b == line_feed then Some 1 else (if b == carriage_return then Some (if begins line_feed bs then 2 else 1) else None)

-- the length of the blank line here, with its line ending: it has only white space (CommonMark 2.1, blank line)
abbrev pub blank_len : List ℕ → Option ℕ
blank_len bs = let n = prefix_len is_white bs in option_map (λ k. n + k) (eol_len (drop n bs))

-- a blank line begins here (CommonMark 2.1, blank line)
abbrev pub is_blank_line : List ℕ → Bool
is_blank_line bs = is_some (blank_len bs)

-- the length of the line here, with its line ending (CommonMark 2.1, line)
unfoldable pub line_len : List ℕ → ℕ
line_len bs = let n = prefix_len is_content bs in n + unwrap_or (eol_len (drop n bs)) 0

-- the line or the text ends here (CommonMark 2.1)
abbrev pub at_line_end : List ℕ → Bool
at_line_end bs = is_some (eol_len bs)

-- a line ending before the bytes that follow it: `\n`, `\r\n`, a `\r` that no `\n` follows, or nothing at the end of
-- the text (CommonMark 2.1)
abbrev pub IsLineEnd : List ℕ → List ℕ → Type 0
IsLineEnd bs following =
    (bs ≡ line_feed ∷ []) ⊎ (bs ≡ carriage_return ∷ line_feed ∷ [])
    ⊎ ((bs ≡ carriage_return ∷ []) × (begins line_feed following ≡ false)) ⊎ ((bs ≡ []) × (following ≡ []))

-- a line before the bytes that follow it: bytes other than `\n` and `\r`, then a line ending (CommonMark 2.1, line)
pub record IsLine (line : List ℕ) (following : List ℕ) : Type 0 where
  pub content : List ℕ
  pub ending : List ℕ
  pub parts : line ≡ content ++ ending
  pub plain : list_all is_content content ≡ true
  pub ends : IsLineEnd ending following
  pub some : ¬ (line ≡ [])

-- a number sign (CommonMark 4.2)
abbrev pub is_number_sign : ℕ → Bool
is_number_sign b = b == number_sign

-- the level of a heading is the number of its opening number signs (CommonMark 4.2)
abbrev pub level_number : HeadingLevel → ℕ
level_number H1 = 1
level_number H2 = 2
level_number H3 = 3
level_number H4 = 4
level_number H5 = 5
level_number H6 = 6

-- the heading level for this many number signs, 1 to 6 (CommonMark 4.2)
abbrev pub level_of : ℕ → Option HeadingLevel
level_of n =
    if n == 1 then Some H1
    else (if n == 2 then Some H2
    else (if n == 3 then Some H3
    else (if n == 4 then Some H4
    else (if n == 5 then Some H5
    else (if n == 6 then Some H6
    else None)))))

-- the opening sequence of an ATX heading ends here: a space, a tab or the end of the line follows (CommonMark 4.2)
abbrev pub ends_signs : List ℕ → Bool
ends_signs bs = at_line_end bs || begins space bs || begins tab bs

-- the level of the ATX heading that begins here: 1 to 6 number signs, then a space, a tab or the end of the line (CommonMark 4.2)
unfoldable pub atx_level : List ℕ → Option HeadingLevel
atx_level bs = let n = prefix_len is_number_sign bs in if ends_signs (drop n bs) then level_of n else None
