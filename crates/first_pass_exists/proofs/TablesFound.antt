-- Each row has cells, each table body has rows, and each text is a paragraph, a setext heading or a table.
use Rattle.std.proofs.Common.{◌≡◌, inl, inr, ℕ, zero, suc, ◌+◌, ◌-◌, ◌≤◌, ◌==◌, Bool, true, false, List, [], ◌∷◌, ◌++◌, length, drop, slice_index, Option}
use Rattle.std.proofs.Common.{Some, None, MatchOption, is_some, refl, sym, ap, ◌∙◌, arith}
use Rattle.first_pass_grammar.proofs.Common.{cases_lt, at_drop_all, none-some, pipe, Alignment, Item, Table, TableHead, TableRow, Options, block_of, begins}
use Rattle.first_pass_grammar.proofs.Common.{eol_len, Place, offset, start_of, Inline, no_braces, Spot, spot, IsCell, Names, context, document, Document}
use Rattle.first_pass_grammar.proofs.Common.{TextLines, headed_table, cell_start, cell_text, cell_block, AreCells, inserted, row_block, row_text, Taken}
use Rattle.first_pass_grammar.proofs.Common.{taking, FoundRow, TableSoFar, table_so_far, most_inserted, IsTable, heading_attributes_of, IsPlainText, IsText}
use Rattle.first_pass_grammar.proofs.Common.{IsUnderlined, heading_bytes, heading_children, plain_text, underlined_text, underline_first, HeadingLevel}
use Rattle.first_pass_tokens.proofs.LineFound.{cell_found}
use Rattle.first_pass_grammar.specs.declared.kind.Container.{Container}
use Rattle.first_pass_grammar.proofs.Count.RowsWithRoom.{is_row, with_row, RowsWithRoom, are_rows}
use Rattle.first_pass_exists.proofs.Found.{named_alignments, named_attributes, Found, found_also, found_here, found_then}
use Rattle.first_pass_grammar.proofs.Names.MoreNames.{extends_none, with_texts, extends_texts}
use Rattle.first_pass_grammar.proofs.Names.TextsMore.{cell_later}
use Rattle.first_pass_exists.proofs.LinesFound.{lines_found}
use Rattle.first_pass_grammar.proofs.Order.RowEnds.{text_after, begun_there, cell_takes_a_byte}

-- A cell that is followed by more of its line is looked for inside the text.
cell_inside : (text : List ℕ) (at : ℕ) → eol_len (drop (cell_text text at) text) ≡ None → at ≤ length text
cell_inside text at h =
    elim (cases_lt (cell_text text at) (length text)) [
      | inl within ↦ (let following = text_after text at (slice_index text at == pipe) refl in omega arith)
      | inr past ↦ absurd (none-some 0 (sym h ∙ at_drop_all (λ bs. eol_len bs) text (cell_text text at) past))
    ]

-- a cell: its tokens, and the spot where it ends
cell_read : (names : Names) (s : Inline) → Found names (List Item × Spot) (λ later c. IsCell later.texts s c.0 c.1.at c.1.braces)
cell_read names s =
    let cell = cell_found names.texts s in
    let mid : Names = with_texts names cell.named in
    record {
      value = (cell.tokens, spot cell.end cell.after);
      more = mid;
      extends = extends_texts names cell.named cell.more;
      holds = λ later e. cell_later later mid s cell.tokens cell.end e cell.cell;
    }

-- the cells of a row, and the spot where they end
abbrev pub CellsFrom : Names → List ℕ → Options → Spot → Type 0
CellsFrom names text options p = Found names (List (List (ℕ × Item)) × Spot) (λ later c. AreCells (document text options later) p c.0 c.1)

cells_by : (names : Names) (text : List ℕ) (options : Options) (p : Spot) (most : ℕ) (o : Option ℕ) → length text ≤ p.at + suc most
    → eol_len (drop (cell_text text p.at) text) ≡ o → ((mid : Names) (next : Spot) → length text ≤ next.at + most → CellsFrom mid text options next)
    → CellsFrom names text options p
unfolding AreCells
cells_by names text options p most (Some n) h e f = found_here ([], spot (cell_text text p.at + n) p.braces) (λ later. (n, e, refl))
cells_by names text options p most None h e f =
    let cell = cell_read names (begun_there (document text options names) p) in
    let (tokens, stop) = cell.value in
    let here = cell.holds cell.more (extends_none cell.more) in
    let later = cell_takes_a_byte (document text options cell.more) p tokens stop.at (cell_inside text p.at e) (ap is_some e) here in
    let further = f cell.more stop (omega arith) in
    found_also (found_then cell further) (cell_block (cell_start text p.at) stop.at tokens ∷ further.value.0, further.value.1)
    (λ later are. (ap is_some e, tokens, stop, are.0, refl, are.1))

cells_at : (names : Names) (text : List ℕ) (options : Options) (most : ℕ) (p : Spot) → length text ≤ p.at + most → CellsFrom names text options p
unfolding AreCells
cells_at names text options zero p h =
    let following = text_after text p.at (slice_index text p.at == pipe) refl in
    found_here ([], spot (cell_text text p.at + 0) p.braces)
    (λ later. (0, at_drop_all (λ bs. eol_len bs) text (cell_text text p.at) (omega arith), refl))
cells_at names text options (suc most) p h =
    cells_by names text options p most (eol_len (drop (cell_text text p.at) text)) h refl (λ mid next k. cells_at mid text options most next k)

pub cells_found : (names : Names) (text : List ℕ) (options : Options) (p : Spot) → CellsFrom names text options p
cells_found names text options p = cells_at names text options (length text) p (omega arith)

-- the rows of a table body
abbrev RowsFrom : Names → List ℕ → Options → List Container → TableSoFar → List Place → Type 0
RowsFrom names text options path table lines = Found names Taken (λ later t. RowsWithRoom (document text options later) path table lines t)

-- the row with the cells that were found
abbrev row_with : ℕ → List (List (ℕ × Item)) × Spot → FoundRow
row_with start (cells, to) = record { start = start; cells = cells; row_end = to.at; after = to.braces }

-- the rows of a table from a line on whose cells were found: the line is the next row, or ends the table
row_by : (names : Names) (text : List ℕ) (options : Options) (path : List Container) (table : TableSoFar) (line : Place) (lines : List Place) (start : ℕ)
    (found : CellsFrom names text options (spot start table.braces)) (t : Bool)
    → row_text (context options path) line ≡ Some start
    → (let row : FoundRow = row_with start found.value in
    is_row table row.cells ≡ t → RowsFrom found.more text options path (with_row table row) lines → RowsFrom names text options path table (line ∷ lines))
unfolding RowsWithRoom
row_by names text options path table line lines start found true here h more =
    let row : FoundRow = row_with start found.value in
    let rest = more.value in
    found_also (found_then found more) (taking (row_block TableRow table.columns row.start row.cells row.row_end ++ rest.items) rest.left)
    (λ later are. inr (row, record { begins = here; are_cells = are.0 }, inr (h, rest, are.1, refl)))
row_by names text options path table line lines start found false here h more =
    found_also found (taking [] (line ∷ lines))
    (λ later are. inr (row_with start found.value, record { begins = here; are_cells = are }, inl (h, refl)))

rows_by : (names : Names) (text : List ℕ) (options : Options) (path : List Container) (table : TableSoFar) (line : Place) (lines : List Place)
    (o : Option ℕ) → row_text (context options path) line ≡ o → ((mid : Names) (further : TableSoFar) → RowsFrom mid text options path further lines)
    → RowsFrom names text options path table (line ∷ lines)
unfolding RowsWithRoom
rows_by names text options path table line lines None e f = found_here (taking [] (line ∷ lines)) (λ later. inl (e, refl))
rows_by names text options path table line lines (Some start) e f =
    let found = cells_found names text options (spot start table.braces) in
    row_by names text options path table line lines start found (is_row table found.value.0) e refl
    (f found.more (with_row table (row_with start found.value)))

rows_found : (names : Names) (text : List ℕ) (options : Options) (path : List Container) (lines : List Place) (table : TableSoFar)
    → RowsFrom names text options path table lines
unfolding RowsWithRoom
rows_found names text options path [] table = found_here (taking [] []) (λ later. refl)
rows_found names text options path (line ∷ lines) table =
    rows_by names text options path table line lines (row_text (context options path) line) refl (λ mid further. rows_found mid text options path lines further)

-- a table
table_found : (names : Names) (text : List ℕ) (options : Options) (path : List Container) (p : Place) (alignments : List Alignment) (lines : List Place)
    → Found names Taken (λ later t. IsTable (document text options later) path p alignments lines t)
table_found names text options path p alignments lines =
    let columns : ℕ = length alignments in
    let head = cells_found names text options (spot (offset p) no_braces) in
    let (cells, to) = head.value in
    let table : TableSoFar = table_so_far columns (most_inserted - inserted columns cells) to.braces in
    let body = rows_found head.more text options path (drop 1 lines) table in
    let rows = body.value in
    let ix = named_alignments body.more alignments in
    let node : Item = record { start = offset p; «end» = start_of (length text) rows.left; body = Table ix.value } in
    found_also (found_then (found_then head body) ix) (taking (block_of node (row_block TableHead columns (offset p) cells to.at ++ rows.items)) rows.left)
    (λ later are. record {
      index = ix.value;
      named = are.1;
      cells = cells;
      head_end = to.at;
      after = to.braces;
      are_cells = are.0.0;
      body = rows.items;
      are_rows = are_rows (document text options later) path table (drop 1 lines) rows are.0.1;
      items_are = refl;
    })

-- a setext heading or a paragraph
ended_found : (names : Names) (text : List ℕ) (options : Options) (start : ℕ) (marker : Option Item) (l : TextLines)
    (o : Option (ℕ × HeadingLevel))
    → Found names Taken (λ later t. MatchOption o (t ≡ plain_text (document text options later) start marker l)
    (λ underline. IsUnderlined (document text options later) start marker l underline.1 t))
unfolding heading_children
ended_found names text options start marker l None = found_here (plain_text (document text options names) start marker l) (λ later. refl)
ended_found names text options start marker l (Some underline) =
    let d : Document = document text options names in
    let index = named_attributes names (heading_attributes_of options (heading_bytes d start marker l)) in
    found_also index (underlined_text d start marker underline.1 index.value l) (λ later named. (index.value, named, refl))

plain_found : (names : Names) (text : List ℕ) (options : Options) (path : List Container) (p : Place) (marker : Option Item) (lines : List Place)
    → Found names Taken (λ later t. IsPlainText (document text options later) path (offset p) marker lines t)
plain_found names text options path p marker lines =
    let found = lines_found names text options path lines (spot (offset p) no_braces) [] in
    let given = found.value in
    let ended = ended_found found.more text options (offset p) marker given (underline_first path given.left) in
    found_also (found_then found ended) ended.value (λ later are. (given, are.0, are.1))

-- a paragraph, a setext heading or a table
text_by : (names : Names) (text : List ℕ) (options : Options) (path : List Container) (p : Place) (marker : Option Item) (lines : List Place)
    (o : Option (List Alignment))
    → Found names Taken (λ later t. MatchOption o (IsPlainText (document text options later) path (offset p) marker lines t)
    (λ alignments. IsTable (document text options later) path p alignments lines t))
text_by names text options path p marker lines None = plain_found names text options path p marker lines
text_by names text options path p marker lines (Some alignments) = table_found names text options path p alignments lines

pub text_found : (names : Names) (text : List ℕ) (options : Options) (path : List Container) (p : Place) (marker : Option Item) (lines : List Place)
    → Found names Taken (λ later t. IsText (document text options later) path p marker lines t)
unfolding IsText
text_found names text options path p marker lines = text_by names text options path p marker lines (headed_table (context options path) p.rest.left)
