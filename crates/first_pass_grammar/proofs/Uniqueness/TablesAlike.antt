-- A row has one list of cells, and a text reads alike under all names.
use Rattle.std.proofs.Common.{◌≡◌, ◌⊎◌, inl, inr, ℕ, ◌+◌, ◌-◌, ◌&&◌, nat_lt, nat_le, true, false, List, ◌∷◌, ◌++◌, length, drop, Option, Some, None}
use Rattle.std.proofs.Common.{MatchOption, IfSome, is_some, refl, sym, ap, ◌∙◌, true≢false, arith, []}
use Rattle.first_pass_grammar.proofs.Common.{none-some, same_Some, Alignment, HeadingLevel, Item, Heading, Paragraph, Table, TableHead, TableRow, TableCell}
use Rattle.first_pass_grammar.proofs.Common.{Place, offset, start_of, Braces, MathBraces, no_braces, Spot, spot, Inline, Names, Document, around, TextLines}
use Rattle.first_pass_grammar.proofs.Common.{text_lines, headed_table, node_of, cell_content, cell_start, cell_text, AreCells, inserted, row_block, Taken}
use Rattle.first_pass_grammar.proofs.Common.{taking, FoundRow, HasCells, TableSoFar, table_so_far, AreRows, most_inserted, IsTable, IsPlainText, IsText}
use Rattle.first_pass_grammar.proofs.Common.{IsUnderlined, text_children, children_without, heading_bytes, heading_children, plain_text}
use Rattle.first_pass_tokens.proofs.AlikeLemmas.{one_cell}
use Rattle.first_pass_grammar.specs.declared.kind.Container.{Container}
use Rattle.first_pass_grammar.proofs.Count.RowsWithRoom.{is_row, with_row, RowsWithRoom, counted}
use Rattle.first_pass_grammar.proofs.Names.NoIndex.{HasNoIndex, HasTextIndex, tokens_textual}
use Rattle.first_pass_grammar.proofs.Each.EachToken.{cell_each}
use Rattle.first_pass_grammar.proofs.Uniqueness.Alike.{with_names, AlikeChains, AlikeNodes, nodes_append, block_alike, heading_alike, table_alike}
use Rattle.first_pass_grammar.proofs.Uniqueness.ChainsAlike.{alike_reads, close_alike, marked_alike, ends_alike, cut_alike}
use Rattle.first_pass_grammar.proofs.Uniqueness.BlocksAlike.{AlikeBlocks, as_many, own_alike, row_alike}
use Rattle.first_pass_grammar.proofs.Uniqueness.LinesAlike.{one_lines}

-- two results of a block read alike, and leave the same lines
abbrev pub AlikeTaken : Names → Names → Taken → Taken → Type 0
AlikeTaken m n t u = AlikeNodes m n t.items u.items × (t.left ≡ u.left)

-- a row has one list of cells, apart from indices, one end, and the same brace contexts after it
pub one_cells : (d : Document) (n : Names) (p : Spot) (xs ys : List (List (ℕ × Item))) (e f : Spot) → AreCells d p xs e
    → AreCells (with_names d n) p ys f → AlikeBlocks d.names n xs ys × (e ≡ f)
unfolding AreCells
one_cells d n p [] [] e f (k, h, is) (k', h', is') = (tt, is ∙ ap (λ z. spot (cell_text d.text p.at + z) p.braces) (same_Some k k' (sym h ∙ h')) ∙ sym is')
one_cells d n p [] (y ∷ ys) e f (k, h, is) (on, t, s, c, same, more) = absurd (true≢false (sym (ap is_some h) ∙ on))
one_cells d n p (x ∷ xs) [] e f (on, t, s, c, same, more) (k, h, is) = absurd (true≢false (sym (ap is_some h) ∙ on))
one_cells d n p (x ∷ xs) (y ∷ ys) e f (on, t, s, c, is, more) (on', t', s', c', is', more') =
    let start : ℕ = cell_start d.text p.at in
    let source : Inline = cell_content d (spot (cell_text d.text p.at) p.braces) in
    let o = one_cell d.names.texts n.texts source t t' s.at s'.at s.braces s'.braces c c' in
    let next : s ≡ s' = λ i. spot (o.1 i) (o.2 i) in
    let r = one_cells d n s xs ys e f more (rw next more') in
    let tokens = alike_reads d.names n t t' (cell_each d.names.texts HasTextIndex (tokens_textual d.names.texts) source t s.at c) o.0 in
    grind (arith, block_alike d.names n start s.at TableCell TableCell t t' refl tokens)

-- what is taken after a row with these cells
abbrev AfterRow : Document → List Container → TableSoFar → Place → List Place → Taken → FoundRow → Type 0
AfterRow d path table line lines t row =
    ((is_row table row.cells ≡ false) × (t ≡ taking [] (line ∷ lines)))
    ⊎ ((is_row table row.cells ≡ true)
    × (more : Taken) × RowsWithRoom d path (with_row table row) lines more
    × (t ≡ taking (row_block TableRow table.columns row.start row.cells row.row_end ++ more.items) more.left))

-- two rows with the same start and end and the same brace contexts after them, whose cells are alike
abbrev AlikeRows : Names → Names → FoundRow → FoundRow → Type 0
AlikeRows m n row other = AlikeBlocks m n row.cells other.cells × (row.start ≡ other.start) × (row.row_end ≡ other.row_end) × (row.after ≡ other.after)

one_found : (d : Document) (n : Names) (path : List Container) (line : Place) (before : MathBraces) (row other : FoundRow) → HasCells d path line before row
    → HasCells (with_names d n) path line before other → AlikeRows d.names n row other
one_found d n path line before row other h k = grind (arith, same_Some, one_cells)

-- lists with as many cells are both rows or neither, and need as many inserted cells
same_row : (table : TableSoFar) (m n : Names) (cells cells' : List (List (ℕ × Item))) → AlikeBlocks m n cells cells'
    → is_row table cells ≡ is_row table cells'
same_row table m n cells cells' are = ap (λ (k : ℕ). nat_lt 0 k && nat_le (table.columns - k) table.room) (as_many m n cells cells' are)

same_table : (table : TableSoFar) (m n : Names) (row other : FoundRow) → AlikeRows m n row other → with_row table row ≡ with_row table other
same_table table m n row other are = grind (arith, as_many)

-- their blocks read alike
same_block : (table : TableSoFar) (m n : Names) (row other : FoundRow) → AlikeRows m n row other
    → AlikeNodes m n (row_block TableRow table.columns row.start row.cells row.row_end) (row_block TableRow table.columns other.start other.cells other.row_end)
same_block table m n row other are = rw (are.1, are.2) (row_alike m n TableRow table.columns other.start row.cells other.cells other.row_end refl are.0)

-- a line has cells, and this is taken after the row with them
abbrev HasRow : Document → List Container → TableSoFar → Place → List Place → Taken → Type 0
HasRow d path table line lines t = (row : FoundRow) × HasCells d path line table.braces row × AfterRow d path table line lines t row

one_row : (d : Document) (n : Names) (path : List Container) (table : TableSoFar) (line : Place) (lines : List Place) (t u : Taken)
    → ((next : TableSoFar) (a b : Taken) → RowsWithRoom d path next lines a → RowsWithRoom (with_names d n) path next lines b → AlikeTaken d.names n a b)
    → HasRow d path table line lines t → HasRow (with_names d n) path table line lines u → AlikeTaken d.names n t u
one_row d n path table line lines t u f (row, has, inl (h, e)) (other, has', inl (k, g)) = rw (e, g) (refl, refl)
one_row d n path table line lines t u f (row, has, inl (h, e)) (other, has', inr (k, more, is, g)) =
    grind (arith, one_found d n path line table.braces row other has has', true≢false, same_row)
one_row d n path table line lines t u f (row, has, inr (h, more, is, e)) (other, has', inl (k, g)) =
    grind (arith, one_found d n path line table.braces row other has has', true≢false, same_row)
one_row d n path table line lines t u f (row, has, inr (h, a, is, e)) (other, has', inr (k, b, is', g)) =
    let are = one_found d n path line table.braces row other has has' in
    let rest = f (with_row table row) a b is (rw (same_table table d.names n row other are) is') in grind (arith, nodes_append, same_block)

-- lines have one table body, apart from indices
one_counted : (d : Document) (n : Names) (path : List Container) (lines : List Place) (table : TableSoFar) (t u : Taken)
    → RowsWithRoom d path table lines t → RowsWithRoom (with_names d n) path table lines u → AlikeTaken d.names n t u
unfolding RowsWithRoom
one_counted d n path [] table t u e f = rw (e, f) (refl, refl)
one_counted d n path (line ∷ lines) table t u (inl (h, e)) (inl (k, f)) = rw (e, f) (refl, refl)
one_counted d n path (line ∷ lines) table t u (inl (h, e)) (inr (row, has, rest)) = absurd (none-some row.start (sym h ∙ has.begins))
one_counted d n path (line ∷ lines) table t u (inr (row, has, rest)) (inl (k, f)) = absurd (none-some row.start (sym k ∙ has.begins))
one_counted d n path (line ∷ lines) table t u (inr row) (inr other) =
    one_row d n path table line lines t u (λ next a b x y. one_counted d n path lines next a b x y) row other

pub one_rows : (d : Document) (n : Names) (path : List Container) (lines : List Place) (table : TableSoFar) (t u : Taken)
    → AreRows d path table lines t → AreRows (with_names d n) path table lines u → AlikeTaken d.names n t u
one_rows d n path lines table t u h k =
    one_counted d n path lines table t u (counted d path table lines t h) (counted (with_names d n) path table lines u k)

-- a table reads alike
pub one_table : (d : Document) (n : Names) (path : List Container) (p : Place) (alignments : List Alignment) (lines : List Place) (t u : Taken)
    → IsTable d path p alignments lines t → IsTable (with_names d n) path p alignments lines u → AlikeTaken d.names n t u
one_table d n path p alignments lines t u h k =
    let columns : ℕ = length alignments in
    let c = one_cells d n (spot (offset p) no_braces) h.cells k.cells (spot h.head_end h.after) (spot k.head_end k.after) h.are_cells k.are_cells in
    let ends : h.head_end ≡ k.head_end = ap (λ (z : Spot). z.at) c.1 in
    let many = as_many d.names n h.cells k.cells c.0 in
    let table : TableSoFar = table_so_far columns (most_inserted - inserted columns h.cells) h.after in
    let same : table ≡ table_so_far columns (most_inserted - inserted columns k.cells) k.after =
    λ i. table_so_far columns (most_inserted - (columns - many i)) (c.1 i).braces in
    let body : AlikeTaken d.names n (taking h.body t.left) (taking k.body u.left) =
    one_rows d n path (drop 1 lines) table (taking h.body t.left) (taking k.body u.left) h.are_rows (rw same k.are_rows) in
    let head : List (ℕ × Item) = row_block TableHead columns (offset p) h.cells h.head_end in
    let other : List (ℕ × Item) = row_block TableHead columns (offset p) k.cells k.head_end in
    let heads : AlikeNodes d.names n head other =
    rw ends (row_alike d.names n TableHead columns (offset p) h.cells k.cells k.head_end refl c.0) in
    let stop : ℕ = start_of (length d.text) u.left in (
      rw (h.items_are, k.items_are, body.1)
          (own_alike d.names n (node_of (offset p) stop (Table h.index)) (node_of (offset p) stop (Table k.index)) (head ++ h.body) (other ++ k.body)
          (table_alike d.names n (offset p) stop h.index k.index alignments h.named k.named) (nodes_append d.names n head other h.body k.body heads body.0)),
      body.1,
    )

-- the children of a setext heading or a paragraph read alike
module _ (d : Document) (n : Names) (start : ℕ) (marker : Option Item) (l : TextLines) (chain : List Item) (free : IfSome marker HasNoIndex)
    (same : AlikeChains d.names n l.chain chain) where
  abbrev given : TextLines
  given = text_lines chain l.break l.left

  children_alike : AlikeChains d.names n (text_children marker l) (text_children marker given)
  children_alike = grind (arith, marked_alike, close_alike)

  bytes_alike : heading_bytes d start marker l ≡ heading_bytes d start marker given
  bytes_alike = grind (arith, ends_alike, marked_alike)

  without_alike : (o : Option Braces) → AlikeChains d.names n (children_without d start marker l o) (children_without d start marker given o)
  without_alike o = grind (arith, children_alike, cut_alike, marked_alike, close_alike, bytes_alike)

  heading_children_alike : AlikeChains d.names n (heading_children d start marker l) (heading_children d start marker given)
  unfolding heading_children
  heading_children_alike = grind (arith, bytes_alike, without_alike)

  -- a setext heading or a paragraph reads alike
  one_ended : (t u : Taken) (o : Option (ℕ × HeadingLevel))
      → MatchOption o (t ≡ plain_text d start marker l) (λ underline. IsUnderlined d start marker l underline.1 t)
      → MatchOption o (u ≡ plain_text (with_names d n) start marker given) (λ underline. IsUnderlined (with_names d n) start marker given underline.1 u)
      → AlikeTaken d.names n t u
  unfolding heading_children
  one_ended t u None e f =
      rw (e, f) (
        block_alike d.names n start (start_of (length d.text) l.left) Paragraph Paragraph (text_children marker l) (text_children marker given) refl
            children_alike,
        refl,
      )
  one_ended t u (Some underline) (i, named, e) (j, named', f) =
      let stop : ℕ = start_of (length d.text) (drop 1 l.left) in
      rw (e, f) (
        block_alike d.names n start stop (Heading underline.1 i) (Heading underline.1 j) (heading_children d start marker l)
            (heading_children d start marker given)
            (grind (arith, heading_alike, bytes_alike))
            heading_children_alike,
        refl,
      )

one_plain : (d : Document) (n : Names) (path : List Container) (p : Place) (marker : Option Item) (lines : List Place) (t u : Taken) → IfSome marker HasNoIndex
    → IsPlainText d path (offset p) marker lines t → IsPlainText (with_names d n) path (offset p) marker lines u → AlikeTaken d.names n t u
one_plain d n path p marker lines t u free (l, are, is) (l', are', is') =
    grind (arith, one_lines d n path (spot (offset p) no_braces) [] [] lines l l' refl are are', one_ended)

-- a paragraph, a setext heading or a table reads alike, and leaves the same lines
text_by : (d : Document) (n : Names) (path : List Container) (p : Place) (marker : Option Item) (lines : List Place) (t u : Taken) (o : Option (List Alignment))
    → IfSome marker HasNoIndex
    → MatchOption o (IsPlainText d path (offset p) marker lines t) (λ alignments. IsTable d path p alignments lines t)
    → MatchOption o (IsPlainText (with_names d n) path (offset p) marker lines u) (λ alignments. IsTable (with_names d n) path p alignments lines u)
    → AlikeTaken d.names n t u
text_by d n path p marker lines t u None free h k = one_plain d n path p marker lines t u free h k
text_by d n path p marker lines t u (Some alignments) free h k = one_table d n path p alignments lines t u h k

pub one_text : (d : Document) (n : Names) (path : List Container) (p : Place) (marker : Option Item) (lines : List Place) (t u : Taken)
    → IfSome marker HasNoIndex → IsText d path p marker lines t → IsText (with_names d n) path p marker lines u → AlikeTaken d.names n t u
unfolding IsText
one_text d n path p marker lines t u free h k = text_by d n path p marker lines t u (headed_table (around d path) p.rest.left) free h k
