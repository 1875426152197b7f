-- First bytes with which a line can interrupt a paragraph only as a table, a footnote definition or a definition.
use Rattle.std.specs.Prelude.{ℕ, ◌==◌, ◌||◌, not, Bool, false, List, [], ◌∷◌}
use Rattle.std.specs.Char.{is_ascii_digit}
use Rattle.first_pass_items.specs.Bytes.{number_sign, less_than, greater_than, backquote, tilde}
use Rattle.first_pass_lines.specs.Lines.{is_line_end}
use Rattle.first_pass_scan.specs.LeafLines.{is_rule_byte}
use Rattle.first_pass_scan.specs.Markers.{is_bullet}

-- A byte that is no line ending, and at which no thematic break, ATX heading, code fence, block quote, list item or
-- HTML block begins. A table, a footnote definition or a definition may still begin at it, and interrupt a paragraph
-- (this project).
unfoldable pub cannot_interrupt_by_standard : ℕ → Bool
cannot_interrupt_by_standard b =
    not (is_line_end b || is_rule_byte b || b == number_sign || b == backquote || b == tilde || b == greater_than || is_bullet b || is_ascii_digit b
    || b == less_than)

-- there is a first byte, and it is such a byte (this project)
abbrev pub begins_no_interruption_by_standard : List ℕ → Bool
begins_no_interruption_by_standard [] = false
begins_no_interruption_by_standard (b ∷ bs) = cannot_interrupt_by_standard b
