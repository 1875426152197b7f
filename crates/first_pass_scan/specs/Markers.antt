-- The markers of list items and definitions, task list item markers, and the tags of block quotes.
use Rattle.std.specs.Prelude.{ℕ, ◌+◌, ◌-◌, ◌*◌, ◌==◌, ◌&&◌, ◌||◌, not, Bool, nat_le, List, [], ◌∷◌, length, take, drop, Option, Some, None, is_some}
use Rattle.std.specs.Prelude.{slice_index, codes, if◌then◌else◌}
use Rattle.std.specs.Option.{option_map}
use Rattle.std.specs.List.{prefix_len}
use Rattle.std.specs.Char.{is_ascii_digit}
use Rattle.std.specs.Str.{str_eq_ignore_ascii_case}
use Rattle.first_pass_items.specs.Bytes.{right_parenthesis, asterisk, plus_sign, hyphen, full_stop, digit_zero, colon, capital_x, left_bracket, right_bracket}
use Rattle.first_pass_items.specs.Bytes.{small_x}
use Rattle.first_pass_items.specs.declared.item.BlockQuoteKind.{BlockQuoteKind}
use Rattle.first_pass_items.specs.declared.item.BlockQuoteKind.TheVariants.{Note, Tip, Important, Warning, Caution}
use Rattle.first_pass_lines.specs.Lines.{begins, blank_len, is_blank_line, at_line_end, is_white, is_white_or_line_end}
use Rattle.first_pass_scan.specs.LeafLines.{hrule_len}
use Rattle.first_pass_lines.specs.Places.{line_rest}
use Rattle.first_pass_lines.specs.Rest.{Rest, after_columns, indent, past_bytes}

-- the number that is written with the digits of n and then these digits; if n is 0, with only these digits (CommonMark
-- 5.2)
abbrev pub number_from : ℕ → List ℕ → ℕ
number_from n [] = n
number_from n (b ∷ bs) = number_from (10 * n + (b - digit_zero)) bs

-- the bullets `-`, `+` and `*` (CommonMark 5.2)
abbrev pub is_bullet : ℕ → Bool
is_bullet b = (b == hyphen) || (b == plus_sign) || (b == asterisk)

-- the bullet list marker here: its width, its byte, and 0 for its number (CommonMark 5.2)
abbrev pub bullet_marker : List ℕ → Option (ℕ × ℕ × ℕ)
bullet_marker [] = None
bullet_marker (b ∷ bs) = if is_bullet b then Some (1, b, 0) else None

-- the marker of n digits that write this number, if a `.` or `)` follows them (CommonMark 5.2)
abbrev pub delimited : ℕ → ℕ → List ℕ → Option (ℕ × ℕ × ℕ)
delimited n number [] = None
delimited n number (b ∷ bs) = if (b == full_stop) || (b == right_parenthesis) then Some (n + 1, b, number) else None

-- the ordered list marker here: its width, its last byte and its number; it has 1 to 9 digits, then a `.` or `)`
-- (CommonMark 5.2)
abbrev pub ordered_marker : List ℕ → Option (ℕ × ℕ × ℕ)
ordered_marker bs =
    let n = prefix_len is_ascii_digit bs in
    if nat_le 1 n && nat_le n 9 then delimited n (number_from 0 (take n bs)) (drop n bs) else None

-- the list marker here: its width, its byte and its number (CommonMark 5.2)
unfoldable pub list_marker : List ℕ → Option (ℕ × ℕ × ℕ)
list_marker bs = if is_some (bullet_marker bs) then bullet_marker bs else ordered_marker bs

-- For an item with content at column n or later: the columns that a line needs to continue it, and the rest of its line
-- after the columns that count. Of the columns after column n, up to three count. If there are four or more, none of
-- them counts, since the content is indented code. If the rest is blank, none counts either (CommonMark 5.2).
unfoldable pub content_indent : ℕ → Rest → ℕ × Rest
content_indent n r =
    if is_blank_line r.left then (n, r) else (if nat_le 4 (indent r) then (n, r) else (n + indent r, after_columns (indent r) r))

-- the same after an item's marker that ends at column n, if a column or the end of the line follows it (CommonMark 5.2)
unfoldable pub after_marker : ℕ → Rest → Option (ℕ × Rest)
after_marker n r =
    if nat_le 1 (indent r) || at_line_end r.left then Some (content_indent (n + 1) (after_columns 1 r)) else None

-- the item that has this marker, after `outer` columns: the marker's byte and number, the item's indent, and the rest
-- of its line (CommonMark 5.2)
abbrev pub item_by : ℕ → Rest → Option (ℕ × ℕ × ℕ) → Option ((ℕ × ℕ × ℕ) × Rest)
item_by outer r None = None
item_by outer r (Some m) =
    option_map (λ content. ((m.1, m.2, content.0), content.1)) (after_marker (outer + m.0) (past_bytes m.0 r))

-- the item that begins here, if no column is owed and no thematic break is here (CommonMark 5.2)
unfoldable pub item_of : ℕ → Rest → Option ((ℕ × ℕ × ℕ) × Rest)
item_of outer r = if (r.owed == 0) && not (is_some (hrule_len r.left)) then item_by outer r (list_marker r.left) else None

-- the item that has this marker, at the start of a line: the marker's width, byte and number, and the item's indent
-- (CommonMark 5.2)
abbrev pub listitem_by : List ℕ → Option (ℕ × ℕ × ℕ) → Option (ℕ × ℕ × ℕ × ℕ)
listitem_by bs None = None
listitem_by bs (Some m) = option_map (λ content. (m.0, m.1, m.2, content.0)) (after_marker m.0 (past_bytes m.0 (line_rest bs)))

-- the list item at the start of a line, even if the line is a thematic break: the marker's width, byte and number, and
-- the item's indent (CommonMark 5.2)
unfoldable pub listitem : List ℕ → Option (ℕ × ℕ × ℕ × ℕ)
listitem bs = listitem_by bs (list_marker bs)

-- the indent of a definition whose marker ends at column n, and the rest of its line; no column has to follow the
-- marker (this project)
abbrev pub after_colon : ℕ → Rest → ℕ × Rest
after_colon n r = if nat_le 1 (indent r) then content_indent (n + 1) (after_columns 1 r) else (n, r)

-- the definition whose `:` is here after `outer` columns, if no column is owed: its indent, and the rest of its line
-- (this project)
unfoldable pub definition_of : ℕ → Rest → Option (ℕ × Rest)
definition_of outer r = if (r.owed == 0) && begins colon r.left then Some (after_colon (outer + 1) (past_bytes 1 r)) else None

-- the mark of a checked task, `x` or `X` (GFM 5.3)
abbrev pub is_checked : ℕ → Bool
is_checked b = (b == small_x) || (b == capital_x)

-- the task list item marker here, and whether it is checked: `[`, then white space, `x` or `X`, then `]`, and white
-- space or a line ending after it (GFM 5.3)
unfoldable pub task_box : List ℕ → Option Bool
task_box bs =
    let mark = slice_index bs 1 in
    if (slice_index bs 0 == left_bracket) && (is_white mark || is_checked mark) && (slice_index bs 2 == right_bracket)
    && is_white_or_line_end (slice_index bs 3)
    then Some (is_checked mark)
    else None

-- the task list item marker after up to three columns: whether it is checked, and the rest of the line after it
-- (GFM 5.3)
unfoldable pub task_of : Rest → Option (Bool × Rest)
task_of r =
    let box = after_columns 3 r in
    if box.owed == 0 then option_map (λ checked. (checked, past_bytes 3 box)) (task_box box.left) else None

-- the tag that gives a block quote its kind (GitHub's alerts)
abbrev pub tag_of : BlockQuoteKind → List ℕ
tag_of Note = codes "[!NOTE]"
tag_of Tip = codes "[!TIP]"
tag_of Important = codes "[!IMPORTANT]"
tag_of Warning = codes "[!WARNING]"
tag_of Caution = codes "[!CAUTION]"

-- the bytes begin with the tag, in letters of either case (GitHub's alerts)
unfoldable pub has_tag : BlockQuoteKind → List ℕ → Bool
has_tag kind bs =
    let n = length (tag_of kind) in nat_le n (length bs) && str_eq_ignore_ascii_case (take n bs) (tag_of kind)

-- the kind whose tag the bytes begin with (GitHub's alerts)
unfoldable pub tag_kind : List ℕ → Option BlockQuoteKind
tag_kind bs =
    if has_tag Note bs then Some Note
    else (if has_tag Tip bs then Some Tip
    else (if has_tag Important bs then Some Important
    else (if has_tag Warning bs then Some Warning
    else (if has_tag Caution bs then Some Caution
    else None))))

-- For this kind, whose tag the bytes begin with: the kind, and the length of the line with its line ending. There is no
-- result if the rest of the line is not blank (GitHub's alerts).
abbrev pub tag_line_of : List ℕ → Option BlockQuoteKind → Option (BlockQuoteKind × ℕ)
tag_line_of bs None = None
tag_line_of bs (Some kind) = let n = length (tag_of kind) in option_map (λ k. (kind, n + k)) (blank_len (drop n bs))

-- the kind whose tag the bytes begin with, and the length of that line with its line ending, if the rest of the line
-- is blank (GitHub's alerts)
unfoldable pub tag_line : List ℕ → Option (BlockQuoteKind × ℕ)
tag_line bs = tag_line_of bs (tag_kind bs)

-- the kind that the tag here gives a block quote, if no column is owed before it, and the rest of the text after its
-- line (GitHub's alerts)
unfoldable pub past_tag : Rest → Option (BlockQuoteKind × Rest)
past_tag r = if r.owed == 0 then option_map (λ tag. (tag.0, past_bytes tag.1 r)) (tag_line r.left) else None
