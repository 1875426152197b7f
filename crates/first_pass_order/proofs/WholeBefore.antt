-- Nodes that can be completed already have whole tables: the nodes still open in them are no part of a table.
use Rattle.std.proofs.Common.{◌≡◌, ℕ, suc, Bool, true, false, List, [], ◌∷◌, ◌++◌, length, map, refl, sym, ap, subst, ◌∙◌, arith, true≢false, All}
use Rattle.first_pass_grammar.proofs.Common.{All-nil, All-cons, All-head, All-tail, All-append, All-map, Item, ItemBody, Table, Place, Names, Extends, index_of}
use Rattle.first_pass_grammar.proofs.Common.{NamesEntry, AreNamed, Document, document, Continues, level, Lines, onward, ItemsOf, Rows, any_gap, Tables, Derives}
use Rattle.first_pass_grammar.proofs.Common.{ended, Pending, OneList, Unfinished, Further, AreFurther, rows_beyond, rendered, Frame, InContainer, InList}
use Rattle.first_pass_grammar.proofs.Common.{InDefinitions, definitions_open, containers_of, loosened, container_closed, Becomes, is_quote, Mark, ATable, ARow}
use Rattle.first_pass_grammar.proofs.Common.{ACell, shown, marks, RowCells, row_marks, TableRows, table_marks, AreFull, AreWholeTables}
use Rattle.first_pass_order.proofs.Common.{Container, WholeRows, derived_whole, alignments_kept, each_row, heads_are_full}
use Rattle.first_pass_grammar.specs.Completion.{rows_on, Completion}
use Rattle.first_pass_grammar.proofs.Sequences.Finishes.{containers-loosened}
use Rattle.first_pass_grammar.proofs.Sequences.PlacesKept.{AreAt}
use Rattle.first_pass_completion.proofs.SilentNodes.{IsSilent, AreSilent, SilentList, ShowsMore, more_both, marks_ended, rendered_shows, silent_rendered}
use Rattle.first_pass_completion.proofs.SilentNodes.{silent_place, silent_as, silent_definitions}
use Rattle.first_pass_grammar.proofs.WholeTables.WholeBlocks.{PlainFrom, sequence_whole}

-- the nodes still open have no part of a table when a container is closed
silent_places : (depth last place e : ℕ) (nodes : List (ℕ × Item)) (list : Pending) (rows : Rows) (places : List ℕ) → SilentList nodes list
    → AreSilent nodes places → AreSilent (ended (rendered depth last nodes list rows) place e) places
silent_places depth last place e nodes list rows [] silent h = tt
silent_places depth last place e nodes list rows (i ∷ places) silent h =
    (silent_place depth last place e nodes list rows i silent h.0, silent_places depth last place e nodes list rows places silent h.1)

container_shows : (names : Names) (depth place : ℕ) (w : Unfinished) (f : Further) (rows : Rows) → SilentList w.nodes w.list → IsSilent w.nodes place
    → WholeRows names rows → ShowsMore names w.nodes (ended (rendered depth f.«end» w.nodes w.list rows) place f.«end»)
container_shows names depth place w f rows list silent whole =
    let (more, shows) = rendered_shows names depth f.«end» w.nodes w.list rows list whole in
    let still = silent_rendered depth f.«end» w.nodes w.list rows place list silent in
    (more, marks_ended names (rendered depth f.«end» w.nodes w.list rows) place f.«end» still ∙ shows)

-- Reading continues at these lines of the text, and not after a part of a table.
record PlainStart (text : List ℕ) : Type 0 where
  from : Continues
  lines : List Place
  plain : PlainFrom text from
  at : AreAt text lines

-- The completion of nodes keeps their marks and adds those of tables: each container takes blocks with whole tables,
-- or with none.
module _ (d : Document) where
  becomes_shows : (frames : List Frame) (places : List ℕ) (w : Unfinished) (further : List Further) (s : PlainStart d.text) (forest : List (ℕ × Item))
      (tables : Tables) → AreSilent w.nodes places → SilentList w.nodes w.list → AreFurther d (containers_of frames) w.before s.from s.lines further
      → Becomes frames places w further forest tables → ShowsMore d.names w.nodes forest
  unfolding AreFurther Becomes
  becomes_shows [] [] w [] s forest tables silent list are becomes = absurd are
  becomes_shows [] [] w (f ∷ []) s forest tables silent list (sequence, ends) (is, told) =
      let blocks = (sequence_whole d (heads_are_full d) f.blocks (level [] w.before) s.from s.lines (Lines []) s.plain s.at sequence).0 in
      let rows = each_row (AreWholeTables d.names) false w.before f.«end» f.blocks blocks in
      subst (ShowsMore d.names w.nodes) (sym is) (rendered_shows d.names 1 f.«end» w.nodes w.list (rows_on false w f) list rows)
  becomes_shows [] [] w (f ∷ g ∷ more) s forest tables silent list are becomes = absurd are
  becomes_shows (InList byte loose ∷ frames) (place ∷ places) w further s forest tables silent list are becomes =
      let inside : Unfinished = record { nodes = w.nodes; list = OneList place (ItemsOf byte) loose; before = w.before; defined = w.defined } in
      becomes_shows frames places inside further s forest tables silent.1 silent.0 are becomes
  becomes_shows (InDefinitions loose ∷ frames) (place ∷ places) w further s forest tables silent list are becomes =
      let inside : Unfinished = record { nodes = w.nodes; list = definitions_open place loose w.list; before = w.before; defined = w.defined } in
      becomes_shows frames places inside further s forest tables silent.1 (silent_definitions w.nodes place loose w.list silent.0 list) are becomes
  becomes_shows (InContainer c ∷ frames) (place ∷ places) w [] s forest tables silent list are becomes = absurd are
  becomes_shows (InContainer c ∷ frames) (place ∷ places) w (f ∷ further) s forest tables silent list (left, sequence, ends, are) becomes =
      let rows : Rows = rows_on (is_quote c) w f in
      let gap : Bool = any_gap (rows_beyond w.list rows) in
      let depth : ℕ = suc (length (place ∷ places)) in
      let now : Unfinished = container_closed c depth place w f rows in
      let blocks = sequence_whole d (heads_are_full d) f.blocks (level (c ∷ containers_of frames) w.before) s.from s.lines left s.plain s.at sequence in
      let next : PlainStart d.text = record { from = (onward left).0; lines = (onward left).1; plain = blocks.1.0; at = blocks.1.1 } in
      let whole = each_row (AreWholeTables d.names) (is_quote c) w.before f.«end» f.blocks blocks.0 in
      let here = container_shows d.names depth place w f rows list silent.0 whole in
      let still = silent_places depth f.«end» place f.«end» w.nodes w.list rows places list silent.1 in
      more_both d.names w.nodes now.nodes forest here
      (becomes_shows (loosened gap frames) places now further next forest tables still (silent_as now.nodes c f.«end»)
      (subst (λ (path : List Container). AreFurther d path now.before next.from next.lines further) (sym (containers-loosened gap frames)) are)
      becomes)
  becomes_shows frames places w further s forest tables silent list are becomes = absurd becomes

-- If tables follow some marks, and all marks together are whole tables, the first marks are whole tables: those of a
-- row or a cell begin no table.
abbrev is_table : Mark → Bool
is_table (ATable depth columns) = true
is_table (ARow depth «end») = false
is_table (ACell depth start) = false

abbrev IsNoTable : Mark → Type 0
IsNoTable m = is_table m ≡ false

rows_no_tables : (depth : ℕ) (rows : List RowCells) → All IsNoTable (row_marks depth rows)
unfolding row_marks
rows_no_tables depth [] = All-nil IsNoTable
rows_no_tables depth (row ∷ rows) =
    let cells : List Mark = map (ACell (suc depth)) row.starts in
    All-cons IsNoTable (ARow depth row.«end») (cells ++ row_marks depth rows) refl
    (All-append IsNoTable cells (row_marks depth rows) (All-map IsNoTable (ACell (suc depth)) row.starts (λ k d low. refl)) (rows_no_tables depth rows))

same_cons : {m k : Mark} {ms ks : List Mark} → m ∷ ms ≡ k ∷ ks → (m ≡ k) × (ms ≡ ks)
same_cons e = (cc, cc)

after_rows : (rows m all : List Mark) (more : List TableRows) → All IsNoTable rows → m ++ table_marks more ≡ rows ++ all
    → (following : List Mark) × (m ≡ rows ++ following) × (following ++ table_marks more ≡ all)
unfolding table_marks
after_rows [] m all more none e = (m, refl, e)
after_rows (k ∷ rows) [] all [] none e = absurd (let n = ap length e in omega arith)
after_rows (k ∷ rows) [] all (t ∷ more) none e =
    let first = (same_cons e).0 in
    absurd (true≢false (ap is_table first ∙ All-head IsNoTable k rows none))
after_rows (k ∷ rows) (b ∷ m) all more none e =
    let (first, further) = same_cons e in
    let (following, is, rest) = after_rows rows m all more (All-tail IsNoTable k rows none) further in
    (following, cc (first, is), rest)

front_of : (m : List Mark) (more all : List TableRows) → m ++ table_marks more ≡ table_marks all → AreFull all
    → (front : List TableRows) × (m ≡ table_marks front) × AreFull front
unfolding table_marks AreFull
front_of [] more all e full = ([], refl, tt)
front_of (b ∷ m) more [] e full = absurd (let n = ap length e in omega arith)
front_of (b ∷ m) more (t ∷ all) e full =
    let (first, rest) = same_cons e in
    let (following, is, further) = after_rows (row_marks (suc t.depth) t.rows) m (table_marks all) more (rows_no_tables (suc t.depth) t.rows) rest in
    let (front, same, whole) = front_of following more all further full.2 in (
      t ∷ front,
      cc (first, is, same),
      (full.0, full.1, whole),
    )

front_whole : (names : Names) (nodes after : List (ℕ × Item)) → ShowsMore names nodes after → AreWholeTables names after → AreWholeTables names nodes
unfolding AreWholeTables
front_whole names nodes after (more, shows) (all, is, full) = front_of (marks names nodes) more all (sym shows ∙ is) full

-- The completed nodes, under the names that complete them.
pub completed_whole : (d : Document) (frames : List Frame) (places : List ℕ) (w : Unfinished) (from : Continues) (lines : List Place) → PlainFrom d.text from
    → AreAt d.text lines → AreSilent w.nodes places → SilentList w.nodes w.list → (c : Completion d frames places w from lines)
    → Derives (document d.text d.options c.names) c.forest c.tables → AreWholeTables c.names w.nodes
completed_whole d frames places w from lines plain at silent list c derives =
    let named : Document = document d.text d.options c.names in
    front_whole c.names w.nodes c.forest
    (becomes_shows named frames places w c.further (record { from = from; lines = lines; plain = plain; at = at }) c.forest c.tables silent list
    c.taken c.becomes)
    (derived_whole named c.forest c.tables derives)

-- Each index names the same under further names.
shown_still : (more names : Names) (depth start «end» : ℕ) (b : ItemBody) → Extends more names → NamesEntry names (index_of b)
    → shown more depth start «end» b ≡ shown names depth start «end» b
shown_still more names depth start end (Table ix) e h = ap (λ z. ATable depth (length z) ∷ []) (alignments_kept more names ix e h)
shown_still more names depth start end b e h = refl

marks_still : (more names : Names) (nodes : List (ℕ × Item)) → Extends more names → AreNamed names nodes → marks more nodes ≡ marks names nodes
unfolding marks AreNamed
marks_still more names [] e h = refl
marks_still more names (n ∷ nodes) e h =
    cc (shown_still more names n.0 n.1.start n.1.«end» n.1.body e h.0, marks_still more names nodes e h.1)

pub whole_already : (more names : Names) (nodes : List (ℕ × Item)) → Extends more names → AreNamed names nodes → AreWholeTables more nodes
    → AreWholeTables names nodes
unfolding AreWholeTables
whole_already more names nodes e named (tables, is, full) = (tables, sym (marks_still more names nodes e named) ∙ is, full)

-- so whole tables stay whole under further names
pub whole_still : (more names : Names) (nodes : List (ℕ × Item)) → Extends more names → AreNamed names nodes → AreWholeTables names nodes
    → AreWholeTables more nodes
unfolding AreWholeTables
whole_still more names nodes e named (tables, is, full) = (tables, marks_still more names nodes e named ∙ is, full)
