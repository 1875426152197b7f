-- The parts of the text that make up the content of a chain. A chain is the tokens of one block: siblings, in order.
use Rattle.std.specs.Prelude.{ℕ, ◌+◌, ◌-◌, ◌==◌, ◌&&◌, ◌||◌, Bool, List, nat_lt, slice_index, if◌then◌else◌}
use Rattle.std.specs.List.{prefix_len, slice_range}
use Rattle.std.specs.declared.ops.Range.{Range}
use Rattle.first_pass_items.specs.Bytes.{form_feed, line_tabulation}
use Rattle.first_pass_items.specs.declared.item.Item.{Item}
use Rattle.first_pass_lines.specs.Lines.{is_content}
use Rattle.first_pass_tokens.specs.LineTokens.{is_break}
use Rattle.first_pass_grammar.specs.Order.{is_task_marker}
use Rattle.first_pass_reports.specs.Pairs.{whole_start}

-- the part of the text from one offset up to another
abbrev pub part : ℕ → ℕ → Range ℕ
part from to = record { start = from; «end» = to }

-- the start of the line ending of a break: the first byte of a line ending in it, or its end (CommonMark 2.1)
abbrev pub line_end_of : List ℕ → Item → ℕ
line_end_of text token = token.start + prefix_len is_content (slice_range text token.start token.«end»)

-- The part of the text that a token has in the content. That of a break is before its line ending, and a task list item
-- marker has none. A backslash that was dropped before a token is in its part (CommonMark 2.4).
abbrev pub part_of : List ℕ → Item → Range ℕ
part_of text token =
    if is_break token.body then part token.start (line_end_of text token)
    else (if is_task_marker token.body then part token.start token.start else part (whole_start token) token.«end»)

-- a byte that may be the only one of a line without tokens: it is white space, but the line continues a paragraph (this
-- project)
abbrev pub is_lone : ℕ → Bool
is_lone b = b == line_tabulation || b == form_feed

-- The part of the text between a token and the next one that is content, although no token has it: before a break, the
-- white space at the end of the line. If both are breaks, the line has no token: then it is the byte directly before the
-- second one, if that is such a byte. It is empty elsewhere (this project).
abbrev pub gap : List ℕ → Item → Item → Range ℕ
gap text token next =
    if is_break next.body
    then (if is_break token.body
    then (if nat_lt token.«end» next.start && is_lone (slice_index text (next.start - 1))
    then part (next.start - 1) next.start else part next.start next.start)
    else part token.«end» next.start)
    else part next.start next.start
