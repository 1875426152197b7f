-- Lines that open or close a leaf block: thematic breaks, setext heading underlines and code fences. The width of
-- indentation.
use Rattle.std.specs.Prelude.{◌≡◌, ◌<◌, ◌≤◌, ℕ, ◌+◌, ◌-◌, ◌%◌, ◌==◌, ◌&&◌, ◌||◌, not, Bool, true, nat_le, List, [], ◌∷◌, length, take, drop, Option}
use Rattle.std.specs.Prelude.{Some, None, count_by, if◌then◌else◌}
use Rattle.std.specs.Option.{option_map}
use Rattle.std.specs.List.{prefix_len, take_while, list_any, list_all}
use Rattle.first_pass_items.specs.Bytes.{tab, space, asterisk, hyphen, equals_sign, underscore, backquote, tilde}
use Rattle.first_pass_items.specs.declared.item.HeadingLevel.{HeadingLevel}
use Rattle.first_pass_items.specs.declared.item.HeadingLevel.TheVariants.{H1, H2}
use Rattle.first_pass_lines.specs.Lines.{is_content, is_space_or_tab, begins, eol_len, blank_len, at_line_end}
use Rattle.first_pass_lines.specs.Rest.{columns_of}

-- the number of copies of the byte c at the start (this project)
abbrev pub run_len : ℕ → List ℕ → ℕ
run_len c bs = prefix_len (λ b. b == c) bs

-- a byte of which a thematic break is made: `-`, `_` or `*` (CommonMark 4.1)
abbrev pub is_rule_byte : ℕ → Bool
is_rule_byte b = (b == hyphen) || (b == underscore) || (b == asterisk)

-- a byte of a thematic break made of the byte c: that byte, a space or a tab (CommonMark 4.1)
abbrev pub in_rule : ℕ → ℕ → Bool
in_rule c b = (b == c) || is_space_or_tab b

-- the length of a thematic break of the byte c, with its line ending: three or more of that byte, with spaces and tabs
-- between and after them (CommonMark 4.1)
abbrev pub rule_len : ℕ → List ℕ → Option ℕ
rule_len c bs =
    let n = prefix_len (in_rule c) bs in
    if nat_le 3 (count_by (λ b. b == c) (take n bs)) then option_map (λ k. n + k) (eol_len (drop n bs)) else None

-- the length of the thematic break here, with its line ending (CommonMark 4.1)
unfoldable pub hrule_len : List ℕ → Option ℕ
hrule_len [] = None
hrule_len (b ∷ bs) = if is_rule_byte b then rule_len b (b ∷ bs) else None

-- no thematic break begins at any offset from low up to, but not including, high (CommonMark 4.1)
pub record HasNoRule (bs : List ℕ) (low : ℕ) (high : ℕ) : Type 0 where
  pub none : (k : ℕ) → low ≤ k → k < high → hrule_len (drop k bs) ≡ None

-- the length of an underline of copies of the byte c, with its line ending: a run of that byte, then only white space
-- (CommonMark 4.3)
abbrev pub underline_len : ℕ → List ℕ → Option ℕ
underline_len c bs = let n = run_len c bs in option_map (λ k. n + k) (blank_len (drop n bs))

-- the setext heading underline here: its length, with its line ending, and the level, 1 for `=` and 2 for `-`
-- (CommonMark 4.3)
unfoldable pub setext_underline : List ℕ → Option (ℕ × HeadingLevel)
setext_underline bs =
    if begins equals_sign bs
    then option_map (λ n. (n, H1)) (underline_len equals_sign bs)
    else (if begins hyphen bs then option_map (λ n. (n, H2)) (underline_len hyphen bs) else None)

-- the line contains a backquote (CommonMark 4.5)
abbrev pub has_backquote : List ℕ → Bool
has_backquote bs = list_any (λ b. b == backquote) (take_while is_content bs)

-- the code fence here, its length and its byte: three or more backquotes with none in the info string, or three or more
-- tildes (CommonMark 4.5)
unfoldable pub code_fence : List ℕ → Option (ℕ × ℕ)
code_fence bs =
    if begins backquote bs
    then (let n = run_len backquote bs in if nat_le 3 n && not (has_backquote (drop n bs)) then Some (n, backquote) else None)
    else (if begins tilde bs then (let n = run_len tilde bs in if nat_le 3 n then Some (n, tilde) else None) else None)

-- The length of the closing code fence here, with trailing spaces and tabs but without its line ending. It has at least
-- `count` bytes c, the number in the opening code fence (CommonMark 4.5). The end of the text closes the block too
-- (this project).
unfoldable pub closing_fence_len : ℕ → ℕ → List ℕ → Option ℕ
closing_fence_len c count bs =
    if length bs == 0
    then Some 0
    else (
    let n = run_len c bs in
    let m = n + prefix_len is_space_or_tab (drop n bs) in
    if nat_le count n && at_line_end (drop m bs) then Some m else None)

-- the columns of a space or a tab, given the number of bytes since the last tab (CommonMark 2.2)
abbrev pub blank_columns : ℕ → ℕ → ℕ
blank_columns b column = if b == space then 1 else (if b == tab then 4 - column % 4 else 0)

-- the first n bytes are spaces and tabs of this many columns, at most max (CommonMark 2.2)
pub record IsIndent (bs : List ℕ) (max : ℕ) (n : ℕ) (columns : ℕ) : Type 0 where
  pub within : n ≤ length bs
  pub blanks : list_all is_space_or_tab (take n bs) ≡ true
  pub wide : columns ≡ columns_of (take n bs) 0
  pub bound : columns ≤ max

-- the longest run of whole spaces and tabs here that has at most max columns (CommonMark 2.2)
pub record IsLongestIndent (bs : List ℕ) (max : ℕ) (n : ℕ) (columns : ℕ) : Type 0 where
  pub fits : IsIndent bs max n columns
  pub longest : (m k : ℕ) → IsIndent bs max m k → m ≤ n
