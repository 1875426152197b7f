-- An added paragraph or table is the one of its text.
use Rattle.std.proofs.Common.{◌≡◌, ℕ, ◌+◌, ◌-◌, ◌≤◌, List, ◌++◌, length, drop, Option, Some, None, IsUtf8, IsCharBoundary, refl, sym, ap, subst, ◌∙◌, arith}
use Rattle.std.proofs.Common.{inl, inr, drop-drop}
use Rattle.first_pass_grammar.proofs.Common.{cases_lt, Alignment, AlignmentIndex, Item, Table, TableHead, Options, TreeIndex, Forest, added, block_of, popped}
use Rattle.first_pass_grammar.proofs.Common.{line_len, Place, offset, line_end, line_place, start_of, IsPlaceOf, lines_at-line, lines_at-end, line_is_place}
use Rattle.first_pass_grammar.proofs.Common.{start_of-lines, no_braces, spot, Context, context, Names, Extends, NamesAlignments, document, lines_from}
use Rattle.first_pass_grammar.proofs.Common.{headed_table, inserted, row_block, taking, TableSoFar, table_so_far, most_inserted, IsTable, IsText, within_top}
use Rattle.first_pass_blocks.proofs.Common.{IsJustPushed, begun_item, opened_block, path_of, context_of, line_end_at, AddsBetween, with_below, AppendsRows}
use Rattle.first_pass_blocks.proofs.Common.{AddsText, AddsPlainText}
use Rattle.first_pass_tree.proofs.Blocks.{BlockCalls, block-built}
use Rattle.first_pass_kinds.specs.TableHeads.{table_head_len}
use Rattle.first_pass_order.proofs.HeadLines.{headed_has_line}
use Rattle.first_pass_grammar.proofs.Names.TextsMore.{cells_more, rows_more}
use Rattle.first_pass_open.proofs.BlockLemmas.{just_pushed}
use Rattle.first_pass_open.proofs.PathLemmas.{AreIn, path_of-opened}
use Rattle.first_pass_tables.proofs.TableFits.{table_fits}

-- the end of a line with a place
there_ends : (text : List ℕ) (p : Place) (start : ℕ) → IsPlaceOf text p → offset p ≡ start → line_end_at text start ≡ line_end p
there_ends text p start i at = ap (line_end_at text) (sym at) ∙ ap (λ bs. offset p + line_len bs) (sym i.left)

headed_at : (context : Context) (text : List ℕ) (p : Place) (start : ℕ) (o : Option (List Alignment))
    → IsPlaceOf text p → offset p ≡ start → headed_table context (drop start text) ≡ o → headed_table context p.rest.left ≡ o
headed_at context text p start o i at h = ap (headed_table context) (i.left ∙ ap (λ n. drop n text) at) ∙ h

-- an added paragraph or setext heading
pub plain_text_added : (text : List ℕ) (options : Options) (names : Names) (start : ℕ) (marker : Option Item) (old new : Forest Item) (next : ℕ)
    → headed_table (context_of options old) (drop start text) ≡ None
    → AddsPlainText (document text options names) start marker old new next → AddsText (document text options names) start marker old new next
unfolding IsText
plain_text_added text options names start marker old new next none a = record {
  items = a.items;
  is_text = λ more e p i at. rw (headed_at (context_of options old) text p start None i at none, ← there_ends text p start i at, at) (a.is more e);
  tree_is = a.tree_is;
  later = a.later;
  boundary = a.boundary;
}

pub only_opened : (old opened : Forest Item) (start : ℕ) (ix : AlignmentIndex)
    → opened ≡ opened_block old start (Table ix) → (place : TreeIndex) × IsJustPushed opened place
only_opened old opened start ix is =
    let x : Item = begun_item start (Table ix) in
    (record { 0 = length old.nodes }, just_pushed old opened x (record { 0 = length old.nodes }) refl is)

-- the lines after the delimiter row
body_lines : (text : List ℕ) (mid : ℕ) → drop 1 (lines_from text mid) ≡ lines_from text (line_end_at text mid)
body_lines text mid =
    elim (cases_lt mid (length text)) [
      | inl within ↦ ap (drop 1) (lines_at-line text mid within)
      | inr past ↦ ap (drop 1) (lines_at-end text mid past) ∙ sym (lines_at-end text (line_end_at text mid) (omega arith))
    ]

-- the start of the lines after a header row and its delimiter row
pub body_at : (text : List ℕ) (start len : ℕ) → len ≡ table_head_len (drop start text) → start + len ≡ line_end_at text (line_end_at text start)
body_at text start len is =
    let n : ℕ = line_len (drop start text) in
    let after : drop n (drop start text) ≡ drop (start + n) text = drop-drop n start text in
    let both : start + len ≡ start + (n + line_len (drop (start + n) text)) = ap (λ k. start + k) (is ∙ ap (λ bs. n + line_len bs) after) in
    omega (arith, both)

-- an added table
module _ (text : List ℕ) (options : Options) (names : Names) (start body next : ℕ) (ix : AlignmentIndex) (alignments : List Alignment) (old new : Forest Item)
    (r : AppendsRows (document text options names) (length alignments) start body (opened_block old start (Table ix)) new next)
    (there : AreIn (length old.nodes) old.spine) (named : (more : Names) → Extends more names → NamesAlignments more ix alignments)
    (body_is : body ≡ line_end_at text (line_end_at text start)) (headed : headed_table (context_of options old) (drop start text) ≡ Some alignments) where
  abbrev table_items : List (ℕ × Item)
  table_items = block_of (record { start = start; «end» = next; body = Table ix }) (row_block TableHead (length alignments) start r.cells r.head_end ++ r.body)

  table_tree : new ≡ added old table_items
  table_tree =
      let x : Item = begun_item start (Table ix) in
      let place : TreeIndex = record { 0 = length old.nodes } in
      let opened : Forest Item = opened_block old start (Table ix) in
      let kids : List (ℕ × Item) = row_block TableHead (length alignments) start r.cells r.head_end ++ r.body in
      let closed : Forest Item = popped (with_below opened kids) place old.spine in
      let calls : BlockCalls old x kids place closed = record {
        opened = opened;
        filled = with_below opened kids;
        at = refl;
        opened_is = refl;
        nodes = refl;
        spine = refl;
        around = refl;
        closed_is = refl;
      } in
      r.tree_is ∙ block-built old x (λ y. record y { «end» = next }) kids place closed calls

  table_is : (more : Names) → Extends more names → (p : Place) → IsPlaceOf text p → offset p ≡ start
      → IsTable (document text options more) (path_of options old) p alignments (lines_from text (line_end p)) (taking table_items (lines_from text next))
  table_is more e p i at =
      let d = document text options more in
      let columns : ℕ = length alignments in
      let table : TableSoFar = table_so_far columns (most_inserted - inserted columns r.cells) r.after in
      let left : List Place = lines_from text next in
      let path = path_of-opened options old (begun_item start (Table ix)) (record { 0 = length old.nodes }) refl there in
      let ends : start_of (length text) left ≡ next = start_of-lines text next r.boundary.0 in
      let lines : lines_from text body ≡ drop 1 (lines_from text (line_end p)) =
      ap (lines_from text) body_is ∙ sym (body_lines text (line_end_at text start)) ∙ ap (λ k. drop 1 (lines_from text k)) (there_ends text p start i at) in
      record {
        index = ix;
        named = named more e;
        cells = r.cells;
        head_end = r.head_end;
        after = r.after;
        are_cells = rw (at) (cells_more text options names more (spot start no_braces) r.cells (spot r.head_end r.after) e r.are_cells);
        body = r.body;
        are_rows = rw (← lines, ← path) (rows_more text options names more (path_of options (opened_block old start (Table ix))) table (lines_from text body)
            (taking r.body left) e r.are_rows);
        items_are = rw (ends, at) refl;
      }

  pub table_text : (marker : Option Item) → AddsText (document text options names) start marker old new next
  unfolding IsText
  table_text marker = record {
    items = table_items;
    is_text = λ more e p i at. rw (headed_at (context_of options old) text p start (Some alignments) i at headed) (table_is more e p i at);
    tree_is = table_tree;
    later = let low = r.later in omega arith;
    boundary = r.boundary;
  }

  -- its nodes are in order
  pub table_between : Extends names names → IsUtf8 text → IsCharBoundary text start → (from : ℕ) → from ≤ start → AddsBetween text from next old new
  table_between e utf8 begins from low =
      let p : Place = line_place start (drop start text) in
      let at : offset p ≡ start = omega arith in
      let i = line_is_place text start begins in
      let ends = there_ends text p start i at in
      let line : line_end p ≡ line_end_at text (offset p) = ap (λ bs. offset p + line_len bs) i.left in
      let table = table_is names e p i at in
      let h = headed_has_line text (context options (path_of options old)) p alignments i headed in
      record {
        items = table_items;
        tree_is = table_tree;
        fits = table_fits (document text options names) (path_of options old) p alignments next table_items (within_top old) from utf8
            (record {
              place = i;
              further = h;
              ends = r.boundary;
              table = subst (λ k. IsTable (document text options names) (path_of options old) p alignments (lines_from text k)
                  (taking table_items (lines_from text next))) line table;
            }) (omega arith);
      }
