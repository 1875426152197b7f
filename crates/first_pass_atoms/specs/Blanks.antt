-- Blanks of a content.
use Rattle.std.specs.Prelude.{ℕ, ◌==◌, ◌||◌, Bool}
use Rattle.first_pass_items.specs.Bytes.{line_feed}
use Rattle.first_pass_lines.specs.Lines.{is_space_or_tab}

-- A blank: a space, a tab or a newline. Two newlines of a content have other bytes between them, so blanks have at most
-- one line ending (CommonMark 6.3, 6.6).
abbrev pub is_blank : ℕ → Bool
is_blank b = is_space_or_tab b || b == line_feed
