-- The text of an entry in a Markdown list of headings: plain, or a link (this project).
use Rattle.std.specs.Prelude.{ℕ, ◌-◌, ◌==◌, ◌&&◌, ◌||◌, not, nat_lt, Bool, false, List, [], ◌∷◌, ◌++◌, length, take, Option, Some, None}
use Rattle.std.specs.Prelude.{codes, is_some, if◌then◌else◌}
use Rattle.std.specs.List.{insert, list_all, list_any, prefix_len, suffix_len}
use Rattle.std.specs.Option.{option_and_then}
use Rattle.std.specs.Char.{is_ascii_digit}
use Rattle.first_pass_items.specs.Bytes.{line_feed, space, dollar_sign, left_parenthesis, right_parenthesis, hyphen, colon, less_than, greater_than}
use Rattle.first_pass_items.specs.Bytes.{left_bracket, backslash, right_bracket, backquote, pipe}
use Rattle.first_pass_lines.specs.Lines.{begins, ends, is_blank_line, is_white_or_line_end}
use Rattle.first_pass_scan.specs.Markers.{task_box}
use Rattle.first_pass_grammar.specs.Kinds.{interrupts_with}
use Rattle.first_pass_outline.specs.Titles.{Title}

-- the text begins with `<` and ends with `>`, as a tag on a line of its own does, which begins an HTML block
-- (CommonMark 4.6, start condition 7)
abbrev pub is_like_tag : List ℕ → Bool
is_like_tag text = begins less_than text && ends greater_than (take (length text - suffix_len is_white_or_line_end text) text)

-- a byte of a delimiter row, which with the line before it begins a table (GFM 4.10)
abbrev pub is_row_byte : ℕ → Bool
is_row_byte b = (b == hyphen) || (b == pipe) || (b == colon) || is_white_or_line_end b

-- a `]` and then a `:` are among the bytes, as at the end of the label of a definition (CommonMark 4.7)
unfoldable pub has_label_end : List ℕ → Bool
has_label_end [] = false
has_label_end (b ∷ bs) = ((b == right_bracket) && begins colon bs) || has_label_end bs

-- the text begins with `[`, and may be a link reference definition or a footnote definition, or begins with a task list
-- item marker (CommonMark 4.7, GFM 5.3)
abbrev pub is_like_label : List ℕ → Bool
is_like_label text = begins left_bracket text && (has_label_end text || is_some (task_box (text ++ line_feed ∷ [])))

-- The text of an item may begin another block than a paragraph: a block that would interrupt a paragraph, such as a
-- list item or an ATX heading (CommonMark 4.8), an HTML block, a definition, or with the line before it a table.
unfoldable pub may_begin_block : List ℕ → Bool
may_begin_block text = interrupts_with false text || (is_like_tag text || (list_all is_row_byte text || is_like_label text))

-- the text of an item as a paragraph: if it may begin another block, a backslash comes before its first byte, or after
-- the digits that it begins with (CommonMark 2.4)
abbrev pub as_paragraph : List ℕ → List ℕ
as_paragraph text = if may_begin_block text then insert text (prefix_len is_ascii_digit text) backslash else text

-- a byte that may be in the destination of a link: no control character, space, parenthesis, angle bracket or
-- backslash (CommonMark 6.3), and no backquote or dollar sign, which may begin a code span or math
abbrev pub is_plain_id_byte : ℕ → Bool
is_plain_id_byte b =
    nat_lt space b && not (b == 127)
    && not ((b == left_parenthesis) || (b == right_parenthesis) || (b == less_than) || (b == greater_than) || (b == backslash))
    && not ((b == backquote) || (b == dollar_sign))

abbrev pub is_plain_id : List ℕ → Bool
is_plain_id id = nat_lt 0 (length id) && list_all is_plain_id_byte id

abbrev pub is_bracket : ℕ → Bool
is_bracket b = (b == left_bracket) || (b == right_bracket)

-- the text may be that of a link: it has no bracket, and does not end with a backslash
abbrev pub may_be_link : List ℕ → Bool
may_be_link text = not (list_any is_bracket text) && not (ends backslash text)

-- the id of a heading, if its entry is a link to it
abbrev pub link_of : Title → Option (List ℕ)
link_of title = option_and_then (λ id. if is_plain_id id && may_be_link title.text then Some id else None) title.entry.id

-- the text of an entry, or a link with the text
abbrev pub written_text : List ℕ → Option (List ℕ) → List ℕ
written_text text None = as_paragraph text
written_text text (Some id) = codes "[" ++ text ++ codes "](#" ++ id ++ codes ")"

-- nothing is written for the text of a heading: it is blank, and no link
abbrev pub is_unwritten : Title → Bool
is_unwritten title = not (is_some (link_of title)) && is_blank_line title.text
