-- The role of a line after paragraph text.
use Rattle.std.specs.Prelude.{ℕ, ◌||◌, Bool, true, false, Option, Some, None}
use Rattle.first_pass_items.specs.declared.item.HeadingLevel.{HeadingLevel}
use Rattle.first_pass_lines.specs.Rest.{Rest}
use Rattle.first_pass_lines.specs.Places.{offset, place_at}
use Rattle.first_pass_grammar.specs.Containers.{Context, front}
use Rattle.first_pass_grammar.specs.Kinds.{unindented, underline_of, ends_paragraph, colon_ends}
use Rattle.first_pass_kinds.specs.declared.interrupt.NextLine.{NextLine}
use Rattle.first_pass_kinds.specs.declared.interrupt.NextLine.TheVariants.{More, Underline, NotText}

-- The role of a line after paragraph text. Given are the underline that the line is, if it is one; whether the line
-- ends the paragraph text; and the offset after its prefixes and indentation (CommonMark 4.3, 4.8, and for a `:` this
-- project).
abbrev pub next_by : Option (ℕ × HeadingLevel) → Bool → ℕ → NextLine
next_by (Some underline) ends at = Underline underline.1
next_by None true at = NotText
next_by None false at = More at

abbrev pub next_line_of : Context → ℕ → Rest → NextLine
next_line_of around start r =
    next_by (underline_of around.path r) (ends_paragraph around r || colon_ends around r) (offset (unindented (place_at start (front around.path r))))
