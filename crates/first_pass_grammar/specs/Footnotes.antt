-- Heads of footnote definitions in a document (this project).
use Rattle.std.specs.Prelude.{◌≡◌, ℕ, ◌+◌, ◌-◌, ◌&&◌, Bool, true, false, nat_lt, List, [], ◌∷◌, take, drop, slice_get, Option, Some, None, is_some}
use Rattle.std.specs.Prelude.{if◌then◌else◌}
use Rattle.std.specs.List.{prefix_len}
use Rattle.first_pass_items.specs.declared.cow_str.CowStr.{CowStr}
use Rattle.first_pass_items.specs.declared.item.CowIndex.{CowIndex}
use Rattle.first_pass_items.specs.CowText.{text_of}
use Rattle.first_pass_items.specs.OptionWords.{has, footnotes, gfm_footnotes}
use Rattle.first_pass_lines.specs.Rest.{indent}
use Rattle.first_pass_lines.specs.Lines.{is_white}
use Rattle.first_pass_lines.specs.Places.{Place, offset, line_place}
use Rattle.first_pass_links.specs.Footnotes.{footnote_head}
use Rattle.first_pass_entities.specs.Texts.{Borrows}
use Rattle.first_pass_grammar.specs.Containers.{Context, in_footnote}
use Rattle.first_pass_grammar.specs.Kinds.{unindented, is_blank_rest}
use Rattle.first_pass_grammar.specs.Names.{Names}
use Rattle.first_pass_grammar.specs.Definitions.{prefix_crossed}

-- The number of bytes in the next line before the place at which a footnote's label continues. In GitHub's form the
-- label does not continue there. In the old form it continues as the label of a link reference definition does (this
-- project).
abbrev pub footnote_prefix : Context → List ℕ → Option ℕ
footnote_prefix around bs = if gfm_footnotes around.options then None else prefix_crossed true around bs

-- the head of the footnote definition that begins here: its length in bytes, and its label as it is read (this
-- project)
abbrev pub footnote_at : Bool → Context → List ℕ → Option (ℕ × List ℕ)
footnote_at in_table around bs = footnote_head (footnote_prefix around) in_table bs

-- the head of the footnote definition that begins at a place, at fewer than four columns: its length in bytes, and its
-- label as it is read (this project)
unfoldable pub footnote_head_at : Context → Place → Option (ℕ × List ℕ)
footnote_head_at around p =
    if has around.options footnotes && nat_lt (indent p.rest) 4 then footnote_at false around (unindented p).rest.left else None

-- the bytes between the `[^` and the `]` of a head with this length, which begins here (this project)
abbrev pub label_bytes : ℕ → List ℕ → List ℕ
label_bytes size bs = take (size - 4) (drop 2 bs)

-- The index names the label of a footnote definition's head. A label that is read as it is written is borrowed from
-- the text (this project).
pub record NamesLabel (names : Names) (ix : CowIndex) (written label : List ℕ) : Type 0 where
  pub named : CowStr
  pub at : slice_get names.texts ix.0 ≡ Some named
  pub text : text_of named ≡ label
  pub borrowed : label ≡ written → Borrows written named

-- The place n bytes after another, as at the start of a line: tab stops count anew there, and no column is owed (this
-- project).
abbrev pub place_past : ℕ → Place → Place
place_past n p = line_place (offset p + n) (drop n p.rest.left)

-- Where blocks continue after the colon of a footnote definition's head, and the lines after that. In GitHub's form:
-- after the white space there. In the old form: after the colon; but if the rest of the line is blank and another line
-- follows, at the start of that line. It is then read as if it followed the colon, whichever containers it continues
-- (this project).
abbrev pub past_head : Bool → Place → List Place → Place × List Place
past_head true q lines = (place_past (prefix_len is_white q.rest.left) q, lines)
past_head false q [] = (q, [])
past_head false q (line ∷ lines) = if is_blank_rest q.rest then (line, lines) else (q, line ∷ lines)

-- An innermost footnote definition ends where another one begins (this project).
abbrev pub ends_footnote : Context → Place → Bool
ends_footnote around p = in_footnote around.path && is_some (footnote_head_at around p)
