-- The JSON lines of a tree and its tables: one object a line (this project).
use Rattle.std.specs.Prelude.{ℕ, List, ◌++◌, Option, codes}
use Rattle.std.specs.List.{flat_map}
use Rattle.first_pass_items.specs.declared.item.Item.{Item}
use Rattle.first_pass_grammar.specs.Names.{Names}
use Rattle.first_pass_grammar.specs.LinkTables.{LinkEntry}
use Rattle.first_pass_grammar.specs.Derivation.{Tables}
use Rattle.first_pass_reports.specs.Printed.{kind_name}
use Rattle.first_pass_json.specs.JsonValues.{decimal, json_string, word, text_or_null}
use Rattle.first_pass_json.specs.Members.{block_members, token_members}

-- the members of a range: its start and its end
unfoldable pub range_members : ℕ → ℕ → List ℕ
range_members start e = codes ",\"start\":" ++ decimal start ++ codes ",\"end\":" ++ decimal e

-- the members that every node has: its kind, its depth and its range, in a form of ranges
abbrev pub node_members : (ℕ → ℕ → List ℕ) → ℕ × Item → List ℕ
node_members range node =
    codes "\"kind\":" ++ word (kind_name node.1.body) ++ codes ",\"depth\":" ++ decimal node.0 ++ range node.1.start node.1.«end»

-- the line of a node: the members that every node has, and those of its kind
abbrev pub node_line : (ℕ → ℕ → List ℕ) → Names → ℕ × Item → List ℕ
node_line range names node = codes "{" ++ node_members range node ++ block_members names node.1.body ++ token_members names node.1.body ++ codes "}\n"

-- the members of a link definition's destination, and of its title, which is `null` if there is none (CommonMark 4.7)
unfoldable pub target_members : List ℕ → Option (List ℕ) → List ℕ
target_members dest title = codes ",\"destination\":" ++ json_string dest ++ codes ",\"title\":" ++ text_or_null title

-- the members of a link definition: its label as it is spelled, and those of its destination and title (CommonMark 4.7)
unfoldable pub link_members : LinkEntry → List ℕ
link_members link = codes "\"definition\":" ++ json_string link.label ++ target_members link.dest link.title

-- the line of a link definition: its own members, and its range in a form of ranges
abbrev pub definition_line : (ℕ → ℕ → List ℕ) → LinkEntry → List ℕ
definition_line range link = codes "{" ++ link_members link ++ range link.start link.«end» ++ codes "}\n"

-- the line of a footnote's label
abbrev pub footnote_line : List ℕ → List ℕ
footnote_line label = codes "{\"footnote\":" ++ json_string label ++ codes "}\n"

-- the lines of the link definitions, then those of the footnotes, in the order of their tables
abbrev pub tables_lines : (ℕ → ℕ → List ℕ) → Tables → List ℕ
tables_lines range tables = flat_map (definition_line range) tables.links ++ flat_map footnote_line tables.footnotes

-- the lines of a tree's nodes, then those of its tables, in a form of ranges
abbrev pub lines_in : (ℕ → ℕ → List ℕ) → Names → List (ℕ × Item) → Tables → List ℕ
lines_in range names nodes tables = flat_map (node_line range names) nodes ++ tables_lines range tables

-- the lines of a tree and its tables, with only the start and the end of each range
abbrev pub json_lines : Names → List (ℕ × Item) → Tables → List ℕ
json_lines names nodes tables = lines_in range_members names nodes tables
