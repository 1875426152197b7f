-- How a title is read line by line. Contracts of public functions cite only `stops_title_line`, through `text_asks`.
use Rattle.std.specs.Prelude.{ℕ, ◌+◌, ◌==◌, ◌&&◌, ◌||◌, not, nat_lt, Bool, List, drop, Option, Some, None, false, ⊤, ◌≡◌, ◌⊎◌}
use Rattle.std.specs.List.{list_any}
use Rattle.std.specs.Option.{option_map, option_and_then}
use Rattle.first_pass_lines.specs.Lines.{is_line_end, eol_len}
use Rattle.first_pass_items.specs.Bytes.{apostrophe, quotation_mark, right_parenthesis, space, backslash}
use Rattle.first_pass_items.specs.declared.cow_str.CowStr.{CowStr}
use Rattle.first_pass_items.specs.CowText.{text_of}
use Rattle.first_pass_entities.specs.Texts.{Borrows}
use Rattle.first_pass_grammar.specs.Definitions.{ends_title}

-- the byte closes titles (CommonMark 6.3, link title)
abbrev pub ClosesTitle : ℕ → Type 0
ClosesTitle close = (close ≡ apostrophe) ⊎ (close ≡ quotation_mark) ⊎ (close ≡ right_parenthesis)

-- an unescaped byte at which reading of a title's line stops: a byte of a line ending, the closing byte, or in
-- parentheses `(` (CommonMark 6.3)
abbrev pub stops_title_line : ℕ → ℕ → Bool
stops_title_line close b = is_line_end b || ends_title close b

-- a byte at which reading of a title's line never stops, and which escapes nothing: a space, or a byte greater than `)`
-- except a backslash (CommonMark 6.3)
abbrev pub is_title_text : ℕ → Bool
is_title_text b = b == space || (nat_lt right_parenthesis b && not (b == backslash))

-- the offset at which a title continues after the line ending at an offset, if it does (CommonMark 4.7)
abbrev pub goes_on_at : (List ℕ → Option ℕ) → List ℕ → ℕ → Option ℕ
goes_on_at prefix bs at = option_and_then (λ e. option_map (λ n. at + e + n) (prefix (drop (at + e) bs))) (eol_len (drop at bs))

-- the text of a title as it is read, not yet unescaped; it is borrowed if it has no line ending (CommonMark 4.7)
pub record IsReadText (text : List ℕ) (found : CowStr) : Type 0 where
  pub value : text_of found ≡ text
  pub borrowed : list_any is_line_end text ≡ false → Borrows text found

-- the same for the title of a definition, if it has one (CommonMark 4.7)
abbrev pub IsReadTitle : Option (List ℕ) → Option CowStr → Type 0
IsReadTitle None None = ⊤
IsReadTitle None (Some found) = ⊥
IsReadTitle (Some text) None = ⊥
IsReadTitle (Some text) (Some found) = IsReadText text found
