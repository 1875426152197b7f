-- Whole tables, read off their nodes: each row has as many cells as there are columns, and the number of inserted cells
-- is limited.
use Rattle.std.specs.Prelude.{◌≡◌, ◌⊎◌, ℕ, zero, ◌+◌, ◌<◌, ◌≤◌, ◌==◌, ◌||◌, suc, Bool, true, false, Option, Some, None, IsSomeAnd, List, [], ◌∷◌, ◌++◌}
use Rattle.std.specs.Prelude.{length, map, if◌then◌else◌}
use Rattle.std.specs.Option.{option_map_or}
use Rattle.first_pass_items.specs.declared.item.Item.{Item}
use Rattle.first_pass_items.specs.declared.item.ItemBody.{ItemBody}
use Rattle.first_pass_items.specs.declared.item.ItemBody.TheVariants.{Table, TableHead, TableRow, TableCell, Paragraph, MaybeDefinitionListTitle}
use Rattle.first_pass_tree.specs.declared.tree_index.TreeIndex.{TreeIndex}
use Rattle.first_pass_tree.specs.Forest.{Forest, body_at}
use Rattle.first_pass_grammar.specs.Completion.{Closed, OtherClosed, ParagraphAt, DefinitionClosed, TitleAt}
use Rattle.first_pass_grammar.specs.Counting.{is_row}
use Rattle.first_pass_grammar.specs.Names.{Names, alignments_named}
use Rattle.first_pass_grammar.specs.Tables.{most_inserted}

-- A node as a part of a table, with its depth: a table with its number of columns, a row or header row with its end, or
-- a cell with its start (GFM 4.10).
pub data Mark : Type 0 where
  ATable : ℕ → ℕ → Mark
  ARow : ℕ → ℕ → Mark
  ACell : ℕ → ℕ → Mark

-- the mark of a node with this depth, range and body, if it is part of a table; the index of a table names its
-- alignments (GFM 4.10)
abbrev pub shown : Names → ℕ → ℕ → ℕ → ItemBody → List Mark
shown names depth start «end» (Table ix) = ATable depth (length (alignments_named names ix)) ∷ []
shown names depth start «end» TableHead = ARow depth «end» ∷ []
shown names depth start «end» TableRow = ARow depth «end» ∷ []
shown names depth start «end» TableCell = ACell depth start ∷ []
shown names depth start «end» _ = []

-- the marks of nodes, in reading order (this project)
unfoldable pub marks : Names → List (ℕ × Item) → List Mark
marks names [] = []
marks names (n ∷ nodes) = shown names n.0 n.1.start n.1.«end» n.1.body ++ marks names nodes

-- the parts of a row that are counted: its end, and the starts of its cells (GFM 4.10)
pub record RowCells : Type 0 where
  pub «end» : ℕ
  pub starts : List ℕ

-- the parts of a table that are counted: its depth, its number of columns, and its rows, the header row first (GFM
-- 4.10)
pub record TableRows : Type 0 where
  pub depth : ℕ
  pub columns : ℕ
  pub rows : List RowCells

-- the marks of rows at a depth; each row is followed by its cells, one deeper (GFM 4.10)
unfoldable pub row_marks : ℕ → List RowCells → List Mark
row_marks depth [] = []
row_marks depth (row ∷ rows) = (ARow depth row.«end» ∷ map (ACell (suc depth)) row.starts) ++ row_marks depth rows

-- the marks of tables; each table is followed by its rows, one deeper (GFM 4.10)
unfoldable pub table_marks : List TableRows → List Mark
table_marks [] = []
table_marks (table ∷ tables) = (ATable table.depth table.columns ∷ row_marks (suc table.depth) table.rows) ++ table_marks tables

-- how often an offset is in a list (this project)
unfoldable pub how_often : ℕ → List ℕ → ℕ
how_often at [] = 0
how_often at (start ∷ starts) = (if start == at then 1 else 0) + how_often at starts

-- The number of inserted cells in rows: those that start at the end of their row. A written cell starts before that
-- (GFM 4.10, and this project).
unfoldable pub inserted_in : List RowCells → ℕ
inserted_in [] = 0
inserted_in (row ∷ rows) = how_often row.«end» row.starts + inserted_in rows

-- The cells of a row with this end start apart. Each starts after the one before it, or at the end of the row, as
-- inserted cells do (GFM 4.10, and this project).
unfoldable pub StartApart : ℕ → List ℕ → Type 0
StartApart «end» [] = Unit {0}
StartApart «end» (start ∷ []) = Unit {0}
StartApart «end» (start ∷ next ∷ starts) = ((start < next) ⊎ (next ≡ «end»)) × StartApart «end» (next ∷ starts)

-- each row has as many cells as there are columns, and its cells start apart (GFM 4.10, and this project)
unfoldable pub HaveCells : ℕ → List RowCells → Type 0
HaveCells columns [] = Unit {0}
HaveCells columns (row ∷ rows) = (length row.starts ≡ columns) × StartApart row.«end» row.starts × HaveCells columns rows

-- in each table, each row has as many cells as there are columns, which start apart; the number of inserted cells is at
-- most `most_inserted` (GFM 4.10, and this project)
unfoldable pub AreFull : List TableRows → Type 0
AreFull [] = Unit {0}
AreFull (table ∷ tables) = HaveCells table.columns table.rows × (inserted_in table.rows ≤ most_inserted) × AreFull tables

-- The marks of these nodes are those of full tables, in order. Each table has its rows one level deeper and their cells
-- two levels deeper. There are no other rows or cells (GFM 4.10, and this project).
unfoldable pub AreWholeTables : Names → List (ℕ × Item) → Type 0
AreWholeTables names nodes = (tables : List TableRows) × (marks names nodes ≡ table_marks tables) × AreFull tables

-- a node with this body is no part of a table
abbrev pub ShowsNothing : ItemBody → Type 0
ShowsNothing body = (names : Names) (depth start «end» : ℕ) → shown names depth start «end» body ≡ []

-- a property holds of the body of each of these nodes
abbrev pub AreEachNode : (ItemBody → Type 0) → List (ℕ × Item) → Type 0
AreEachNode P [] = Unit {0}
AreEachNode P (x ∷ nodes) = P x.1.body × AreEachNode P nodes

-- there is a node at an index, and neither it nor any node after it is part of a table
abbrev pub SilentFrom : List (ℕ × Item) → ℕ → Type 0
SilentFrom [] i = ⊥
SilentFrom (n ∷ nodes) zero = AreEachNode ShowsNothing (n ∷ nodes)
SilentFrom (n ∷ nodes) (suc i) = SilentFrom nodes i

-- If the last child is a paragraph or a possible title, neither it nor any node after it is part of a table. A
-- definition list may take in such a child.
abbrev pub SilentClosed : List (ℕ × Item) → Closed → Type 0
SilentClosed nodes OtherClosed = Unit {0}
SilentClosed nodes (ParagraphAt index) = SilentFrom nodes index
SilentClosed nodes (DefinitionClosed e blanks) = Unit {0}
SilentClosed nodes (TitleAt e index) = SilentFrom nodes index

-- a paragraph or a possible title: a definition list may take it in (this project)
abbrev pub may_be_title : ItemBody → Bool
may_be_title Paragraph = true
may_be_title MaybeDefinitionListTitle = true
may_be_title _ = false

-- there is a node at each of these indices, and it is neither a row nor such a text (this project)
abbrev pub HaveNoRows : List (ℕ × Item) → List TreeIndex → Type 0
HaveNoRows nodes [] = Unit {0}
HaveNoRows nodes (ix ∷ indices) = IsSomeAnd (body_at nodes ix.0) (λ b. (is_row b || may_be_title b) ≡ false) × HaveNoRows nodes indices

-- the last text, if a definition list may take it in, has no part of a table in it (this project)
abbrev pub IsSilentLast : List (ℕ × Item) → Option TreeIndex → Type 0
IsSilentLast nodes None = Unit {0}
IsSilentLast nodes (Some ix) = option_map_or may_be_title (body_at nodes ix.0) false ≡ true → SilentFrom nodes ix.0

-- The tables of a tree are whole. None of their rows is open: closing a row would change its end, and so which cells
-- count as inserted. No text that a definition list may take in is open. If the last text is such a text, no part of a
-- table is in it, since its nodes move (GFM 4.10, and this project).
pub record HasWholeTables (names : Names) (tree : Forest Item) : Type 0 where
  pub whole : AreWholeTables names tree.nodes
  pub none_open : HaveNoRows tree.nodes tree.spine
  pub last : IsSilentLast tree.nodes tree.current
