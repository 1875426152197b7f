-- The number of nodes, and of the cells that are inserted into rows of tables.
use Rattle.std.specs.Prelude.{ℕ, ◌+◌, ◌==◌, ◌&&◌, Bool, true, false, List, [], ◌∷◌, Option, Some, None, if◌then◌else◌}
use Rattle.first_pass_items.specs.declared.item.Item.{Item}
use Rattle.first_pass_items.specs.declared.item.ItemBody.{ItemBody}
use Rattle.first_pass_items.specs.declared.item.ItemBody.TheVariants.{TableHead, TableRow, TableCell}

-- a row of a table, or its header row (GFM 4.10)
abbrev pub is_row : ItemBody → Bool
is_row TableHead = true
is_row TableRow = true
is_row _ = false

-- a cell of a table (GFM 4.10)
abbrev pub is_cell : ItemBody → Bool
is_cell TableCell = true
is_cell _ = false

-- the start of the row's last cell after a node, if the row has a cell by then; a row begins without one (GFM 4.10)
abbrev pub last_cell : Option ℕ → Item → Option ℕ
last_cell cell x = if is_row x.body then None else (if is_cell x.body then Some x.start else cell)

-- An inserted cell after another inserted cell of its row. Empty cells are inserted into a row that has too few. These
-- all start at the row's end. A written cell starts before that, and after the cell before it. So a cell that starts
-- where the last cell does is an inserted cell after another one, and no other cell is (GFM 4.10, and this project).
abbrev pub is_inserted_after : Option ℕ → Item → Bool
is_inserted_after None x = false
is_inserted_after (Some start) x = is_cell x.body && (x.start == start)

-- the number of these nodes without inserted cells after other inserted cells; `cell` is the start of the row's last
-- cell so far, if it has one (this project)
unfoldable pub own : Option ℕ → List (ℕ × Item) → ℕ
own cell [] = 0
own cell (n ∷ nodes) = (if is_inserted_after cell n.1 then 0 else 1) + own (last_cell cell n.1) nodes

-- the number of counted nodes of a tree or a block: of the cells that are inserted into a row, only the first counts
-- (this project)
abbrev pub counted_nodes : List (ℕ × Item) → ℕ
counted_nodes nodes = own None nodes

-- the end of the row that the next nodes belong to, if this node or an earlier one begins a row (GFM 4.10)
abbrev pub row_end : Option ℕ → Item → Option ℕ
row_end «end» x = if is_row x.body then Some x.«end» else «end»

-- an inserted cell: a cell that starts at the end of its row, which is `end` (GFM 4.10, and this project)
abbrev pub is_inserted : Option ℕ → Item → Bool
is_inserted None x = false
is_inserted (Some «end») x = is_cell x.body && (x.start == «end»)

-- the number of inserted cells among these nodes; `end` is the end of the row before them, if there is one (this
-- project)
unfoldable pub inserted_in_row : Option ℕ → List (ℕ × Item) → ℕ
inserted_in_row «end» [] = 0
inserted_in_row «end» (n ∷ nodes) = (if is_inserted «end» n.1 then 1 else 0) + inserted_in_row (row_end «end» n.1) nodes

-- the number of inserted cells in a tree (GFM 4.10, and this project)
abbrev pub inserted_cells : List (ℕ × Item) → ℕ
inserted_cells nodes = inserted_in_row None nodes
