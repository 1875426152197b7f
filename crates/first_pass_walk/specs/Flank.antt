-- Delimiter runs, and whether they can open or close.
use Rattle.std.specs.Prelude.{ℕ, ◌-◌, ◌==◌, ◌&&◌, ◌||◌, not, Bool, true, false, List, length, drop, take, Option, None, Some, nat_lt, nat_le, slice_index}
use Rattle.std.specs.Prelude.{if◌then◌else◌}
use Rattle.std.specs.List.{slice_get}
use Rattle.std.specs.Str.{chars}
use Rattle.std.specs.Char.{is_whitespace}
use Rattle.unicode.specs.GeneralCategory.{general_category}
use Rattle.unicode.specs.GeneralCategoryGroup.{in_group}
use Rattle.ucd_category.specs.declared.GeneralCategoryGroup.TheVariants.{Punctuation, Symbol}
use Rattle.first_pass_items.specs.Bytes.{apostrophe, right_parenthesis, asterisk, backslash, right_bracket, pipe, tilde}
use Rattle.first_pass_walk.specs.declared.flank.TableParseMode.{TableParseMode}
use Rattle.first_pass_walk.specs.declared.flank.TableParseMode.TheVariants.{Scan, Active, Disabled}
use Rattle.first_pass_walk.specs.declared.flank.DelimiterRun.{DelimiterRun}

-- a Unicode punctuation character: of the general category P or S (CommonMark 2.1)
unfoldable pub is_punctuation : ℕ → Bool
is_punctuation c = in_group Punctuation (general_category c) || in_group Symbol (general_category c)

-- the line is a row of a table (GFM 4.10)
abbrev pub is_row : TableParseMode → Bool
is_row Scan = false
is_row Active = true
is_row Disabled = false

-- the first character of a text, if there is one (this project)
unfoldable pub first_char : List ℕ → Option ℕ
first_char text = slice_get (chars text) 0

-- the last character of a text, if there is one (this project)
unfoldable pub last_char : List ℕ → Option ℕ
last_char text = slice_get (chars text) (length (chars text) - 1)

-- the text ends with a pipe that no backslash escapes (GFM 4.10)
unfoldable pub ends_with_pipe : List ℕ → Bool
ends_with_pipe text =
    slice_index text (length text - 1) == pipe && not (nat_le 2 (length text) && slice_index text (length text - 2) == backslash)

-- The run of this size at the start of the text, and the characters beside it, given its offset in the content. An
-- empty run has no delimiter, so no rule for a delimiter applies to it (CommonMark 6.2, delimiter run).
unfoldable pub run_beside : List ℕ → List ℕ → ℕ → ℕ → TableParseMode → DelimiterRun
run_beside content text size at mode = record {
  delimiter = slice_index (take size text) 0;
  size = size;
  in_row = is_row mode;
  after_pipe = ends_with_pipe (take at content);
  before = last_char (take at content);
  after = first_char (drop size text);
}

-- a run of `*`, or of two or more tildes: it can open and close inside a word, unlike a run of `_` (CommonMark 6.2;
-- GFM 6.5)
abbrev pub is_intraword : DelimiterRun → Bool
is_intraword r = r.delimiter == asterisk || (r.delimiter == tilde && nat_lt 1 r.size)

-- a run of tildes after a tilde (this project; GFM 6.5)
abbrev pub follows_tilde : DelimiterRun → ℕ → Bool
follows_tilde r before = r.delimiter == tilde && before == tilde

-- an apostrophe after a closing bracket (this project)
abbrev pub follows_bracket : DelimiterRun → ℕ → Bool
follows_bracket r before = r.delimiter == apostrophe && (before == right_bracket || before == right_parenthesis)

-- whether a run between two characters can open; the first case that applies decides (CommonMark 6.2, left-flanking;
-- the rest: GFM 4.10, 6.5, this project)
unfoldable pub opens_between : DelimiterRun → ℕ → ℕ → Bool
opens_between r before after =
    if is_whitespace after then false
    else (if r.in_row && r.after_pipe then true
    else (if r.in_row && after == pipe then false
    else (if r.delimiter == asterisk && not (is_punctuation after) then true
    else (if r.delimiter == tilde && nat_lt 1 r.size then true
    else (if follows_tilde r before && not (is_punctuation after) then true
    else (if is_whitespace before then true
    else is_punctuation before && not (follows_bracket r before)))))))

-- whether a run between two characters can close; the first case that applies decides (CommonMark 6.2,
-- right-flanking; the rest: GFM 4.10, 6.5, this project)
unfoldable pub closes_between : DelimiterRun → ℕ → ℕ → Bool
closes_between r before after =
    if is_whitespace before then false
    else (if r.in_row && r.after_pipe then false
    else (if r.in_row && after == pipe then true
    else (if is_intraword r && not (is_punctuation before) then true
    else (if follows_tilde r before then true
    else is_whitespace after || is_punctuation after))))

-- a run can open between these characters; the end of the text and the start of the content count as white space
-- (CommonMark 6.2)
abbrev pub opens_beside : DelimiterRun → Option ℕ → Option ℕ → Bool
opens_beside r before None = false
opens_beside r None (Some after) = not (is_whitespace after)
opens_beside r (Some before) (Some after) = opens_between r before after

-- a run can close between these characters; the end of the text and the start of the content count as white space
-- (CommonMark 6.2)
abbrev pub closes_beside : DelimiterRun → Option ℕ → Option ℕ → Bool
closes_beside r None after = false
closes_beside r (Some before) None = not (is_whitespace before)
closes_beside r (Some before) (Some after) = closes_between r before after

-- a run can open (CommonMark 6.2)
unfoldable pub can_open : DelimiterRun → Bool
can_open r = opens_beside r r.before r.after

-- a run can close (CommonMark 6.2)
unfoldable pub can_close : DelimiterRun → Bool
can_close r = closes_beside r r.before r.after
