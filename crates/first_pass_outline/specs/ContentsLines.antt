-- The lines of a table of contents, as a Markdown list and in JSON (this project).
use Rattle.std.specs.Prelude.{ℕ, zero, suc, ◌-◌, ◌==◌, ◌&&◌, Bool, List, [], ◌∷◌, ◌++◌, codes, if◌then◌else◌}
use Rattle.std.specs.List.{flat_map}
use Rattle.first_pass_lines.specs.Lines.{level_number}
use Rattle.first_pass_grammar.specs.Names.{Names}
use Rattle.first_pass_items.specs.declared.item.Item.{Item}
use Rattle.first_pass_reports.specs.Printed.{indentation}
use Rattle.first_pass_json.specs.JsonLines.{range_members}
use Rattle.first_pass_json.specs.JsonValues.{decimal, json_string, text_or_null}
use Rattle.first_pass_outline.specs.EntryTexts.{link_of, written_text, is_unwritten}
use Rattle.first_pass_outline.specs.Nesting.{Placed, contents}
use Rattle.first_pass_outline.specs.Titles.{Title, titles}

-- An entry is in the one before it, and that one has a text. If nothing were written after its `-`, the `-` would be
-- the underline of that text (CommonMark 4.3).
abbrev pub is_below_text : Placed → Bool
is_below_text entry = entry.follows_text && (entry.depth == entry.open_before)

-- what is written after the `-` of an entry: a space and its text or link; or nothing if there is none, except for a
-- comment that keeps the `-` from being an underline
abbrev pub after_bullet : Placed → List ℕ
after_bullet entry =
    if is_unwritten entry.title
    then (if is_below_text entry then codes " <!-- -->" else [])
    else codes " " ++ written_text entry.title.text (link_of entry.title)

-- the line of an entry in a Markdown list: two spaces for each heading around it, `-`, and its text or link
abbrev pub item_line : Placed → List ℕ
item_line entry = indentation entry.depth ++ codes "-" ++ after_bullet entry ++ codes "\n"

-- the Markdown list of headings
abbrev pub list_lines : List ℕ → Names → List (ℕ × Item) → List ℕ
list_lines text names nodes = flat_map item_line (contents (titles text names nodes))

-- the members of a heading in JSON: its level, its text, its id or `null`, and its range
unfoldable pub title_members : Title → List ℕ
title_members title =
    codes "\"level\":" ++ decimal (level_number title.entry.level) ++ codes ",\"text\":" ++ json_string title.text
    ++ codes ",\"id\":" ++ text_or_null title.entry.id ++ range_members title.entry.start title.entry.«end»

-- the line of a heading in JSON
abbrev pub title_line : Title → List ℕ
title_line title = codes "{" ++ title_members title ++ codes "}\n"

-- the lines of headings in JSON
abbrev pub outline_lines : List ℕ → Names → List (ℕ × Item) → List ℕ
outline_lines text names nodes = flat_map title_line (titles text names nodes)

-- the ends of this many open objects, each with the array of its children
unfoldable pub closed : ℕ → List ℕ
closed zero = []
closed (suc count) = closed count ++ codes "]}"

-- what comes between the last object and one at this depth, if so many objects are open: nothing if all of them are
-- around it, otherwise the ends of the others and a comma
abbrev pub between_objects : ℕ → ℕ → List ℕ
between_objects open_before depth = if depth == open_before then [] else closed (open_before - depth) ++ codes ","

-- an entry as an object in JSON that is open for its children, after what comes between the last object and it
abbrev pub object_opened : Placed → List ℕ
object_opened entry =
    between_objects entry.open_before entry.depth ++ codes "{" ++ title_members entry.title ++ codes ",\"children\":["

-- the number of objects that are open after entries, if so many are open before them: the last, and those around it
abbrev pub open_at_end : ℕ → List Placed → ℕ
open_at_end open_before [] = open_before
open_at_end open_before (entry ∷ entries) = open_at_end (suc entry.depth) entries

-- entries as an array in JSON of nested objects, on one line
abbrev pub nested_array : List Placed → List ℕ
nested_array entries = codes "[" ++ flat_map object_opened entries ++ (closed (open_at_end 0 entries) ++ codes "]\n")

-- the nested headings in JSON
abbrev pub nested_lines : List ℕ → Names → List (ℕ × Item) → List ℕ
nested_lines text names nodes = nested_array (contents (titles text names nodes))
