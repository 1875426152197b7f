-- The lines of link definitions, and the lines of nodes (this project).
use Rattle.std.specs.Prelude.{ℕ, List, [], ◌∷◌, ◌++◌, codes}
use Rattle.first_pass_items.specs.declared.item.Item.{Item}
use Rattle.first_pass_grammar.specs.LinkTables.{LinkEntry}
use Rattle.first_pass_reports.specs.Printed.{link_line}

-- the line of a link definition: its label, its destination, its title if it has one, and its range (CommonMark 4.7)
abbrev pub definition_line : LinkEntry → List ℕ
definition_line link = codes "definition " ++ link_line link

-- the lines of nodes in reading order, where the lines of the first of some nodes are given
unfoldable pub node_lines : (List (ℕ × Item) → List ℕ) → List (ℕ × Item) → List ℕ
node_lines lines [] = []
node_lines lines (first ∷ nodes) = lines (first ∷ nodes) ++ node_lines lines nodes
