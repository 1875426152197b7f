-- After each call, each index in the nodes names an entry, if each did before.
use Rattle.std.proofs.Common.{◌≡◌, inl, inr, ℕ, zero, suc, ◌+◌, ◌-◌, ◌&&◌, nat_lt, Bool, List, [], ◌∷◌, ◌++◌, length, take, drop, Option, Some, None, IfSome}
use Rattle.std.proofs.Common.{IsSomeAnd, IsCharBoundary, arith}
use Rattle.first_pass_grammar.proofs.Common.{cond_both, slice_get_within, HeadingLevel, Item, ItemBody, Heading, TableHead, TableRow, TreeIndex, Forest}
use Rattle.first_pass_grammar.proofs.Common.{appended, at_depth, cut_tokens, is_text, item_at, open_place, with_end, Place, line_place, line_is_place}
use Rattle.first_pass_grammar.proofs.Common.{MathBraces, no_braces, spot, Inline, with_tokens, AppendsLine, lines_from, IsHtml, Document, block_with}
use Rattle.first_pass_grammar.proofs.Common.{heading_block, rule_block, Names, Extends, AreNamed, index_of, AreColumns, range_text, range_html, IsRawLine}
use Rattle.first_pass_grammar.proofs.Common.{AreRawLines, AreCells, row_block, table_so_far, inserted, most_inserted, taking}
use Rattle.first_pass.proofs.Common.{both_nodes, cells_nodes, nodes_named, row_nodes, rows_nodes, ReadsRow, AppendsRaw}
use Rattle.first_pass_blocks.proofs.Common.{joins_at, with_token, AppendsCell, named_more, text_named, closed_by, path_of, range_of, RawKind, Code, Html}
use Rattle.first_pass_blocks.proofs.Common.{with_below, OpenTable, ReadsRowLine, AppendsRows, AddsHeading, BecomesHeading, CutsChildren, AddsText, block_added}
use Rattle.first_pass_grammar.proofs.Each.EachToken.{AreEach, both_each, cell_each, heading_each, line_each, raw_each, range_text_each}
use Rattle.first_pass_grammar.proofs.Names.MoreNames.{extends_none}
use Rattle.first_pass_grammar.proofs.Names.NamedItems.{HasEntry, IsNamed, block_named, each_named, html_is_free, lines_named, named_both, named_deeper}
use Rattle.first_pass_grammar.proofs.Names.NamedItems.{named_modified, text_is_free, tokens_entered}
use Rattle.first_pass_grammar.proofs.Names.TextsNamed.{given_entry}
use Rattle.first_pass.proofs.CutOrder.{cut_cases}

-- Tokens follow the nodes of a tree; the first of them may be joined to the last node.
end_named : (names : Names) (f : Forest Item) (e : ℕ) (o : Option TreeIndex) → AreNamed names f.nodes → AreNamed names (with_end f e o).nodes
end_named names f e None h = h
end_named names f e (Some c) h = named_modified names f.nodes c.0 (λ y. record y { «end» = e }) (λ y k. k) h

token_named : (names : Names) (f : Forest Item) (x : Item) → AreNamed names f.nodes → IsNamed names x → AreNamed names (with_token f x).nodes
unfolding AreNamed
token_named names f x h own =
    cond_both (is_text x.body && joins_at f x.start f.current) (with_end f x.«end» f.current) (appended f x) (λ (g : Forest Item). AreNamed names g.nodes)
    (λ b. end_named names f x.«end» f.current h) (λ b. named_both names f.nodes ((length f.spine + 1, x) ∷ []) h (own, tt))

tokens_named : (names : Names) (f : Forest Item) (tokens : List Item) → AreNamed names f.nodes → AreEach (HasEntry names) tokens
    → AreNamed names (with_tokens f tokens).nodes
tokens_named names f [] h own = h
tokens_named names f (x ∷ tokens) h own = tokens_named names (with_token f x) tokens (token_named names f x h own.0) own.1

-- a line, and a cell
pub line_named : {after : MathBraces} {names before : Names} {s : Inline} {old new : Forest Item} {answer : ℕ × Option Item} → Extends names before
    → AppendsLine names.texts s old new answer after → AreNamed before old.nodes → AreNamed names new.nodes
line_named {names = names} {before = before} {s = s} {old = old} {answer = answer} more h own =
    rw h.tree_is (tokens_named names old h.tokens (named_more names before old.nodes more own)
    (line_each names.texts (HasEntry names) (tokens_entered names) s h.tokens answer h.line))

pub cell_named : {after : MathBraces} {names before : Names} {s : Inline} {old new : Forest Item} {stop : ℕ} → Extends names before
    → AppendsCell names.texts s old new stop after → AreNamed before old.nodes → AreNamed names new.nodes
cell_named {names = names} {before = before} {s = s} {old = old} {stop = stop} more h own =
    rw h.tree_is (tokens_named names old h.tokens (named_more names before old.nodes more own)
    (cell_each names.texts (HasEntry names) (tokens_entered names) s h.tokens stop h.cell))

-- a raw line
owed_each : (names : Names) (owed at : ℕ) (items : List Item) → AreColumns names owed at items → AreEach (HasEntry names) items
owed_each names zero at items is = rw is tt
owed_each names (suc n) at items (ix, (named, at_ix, text), is) =
    rw is (slice_get_within names.texts ix.0 named at_ix, tt)

range_each : (names : Names) (kind : RawKind) (a b : ℕ) → AreEach (HasEntry names) (range_of kind a b)
range_each names Code a b = range_text_each (HasEntry names) (λ escaped. tt) a b
range_each names Html a b = (tt, tt)

raw_line_each : (d : Document) (kind : RawKind) (owed from to : ℕ) (items : List Item) → IsRawLine (range_of kind) d owed from to items
    → AreEach (HasEntry d.names) items
raw_line_each d kind owed from to items (columns, are, is) =
    rw is (both_each (HasEntry d.names) columns _ (owed_each d.names owed from columns are)
    (raw_each (HasEntry d.names) (range_of kind) d.text from to (range_each d.names kind)))

pub raw_line_named : (d : Document) (kind : RawKind) (owed from to : ℕ) (before : Names) (old new : Forest Item) → Extends d.names before
    → AppendsRaw (range_of kind) d.text d.names owed from to old new → AreNamed before old.nodes → AreNamed d.names new.nodes
raw_line_named d kind owed from to before old new more h own =
    rw h.tree_is (tokens_named d.names old h.items (named_more d.names before old.nodes more own)
    (raw_line_each d kind owed from to h.items (h.are d.options d.names (extends_none d.names))))

-- the items of a leaf block
pub code_named : (d : Document) (places : List Place) (body : ItemBody) (start stop : ℕ) (chain : List Item) (items : List (ℕ × Item))
    → items ≡ block_with start stop body chain → HasEntry d.names body → AreRawLines range_text d [] places chain → AreNamed d.names items
unfolding AreNamed
code_named d places body start stop chain items is own lines =
    block_named d.names start stop body chain items is own (lines_named range_text d [] places chain text_is_free tt lines)

pub html_named : {d : Document} {start columns : ℕ} {places : List Place} {e : ℕ} {items : List (ℕ × Item)} → IsHtml d start columns places e items
    → AreNamed d.names items
unfolding AreNamed
html_named {d = d} {items = items} is =
    block_named d.names _ _ _ is.chain items is.items_are tt (lines_named range_html d [] _ is.chain html_is_free tt is.lines)

pub rule_named : (names : Names) (start size : ℕ) → AreNamed names (rule_block start size)
unfolding AreNamed
rule_named names start size = (tt, tt)

pub atx_named : {d : Document} {start : ℕ} {level : HeadingLevel} {old new : Forest Item} {next : ℕ} (a : AddsHeading d start level old new next)
    → AreNamed d.names (heading_block start next level a.index a.chain)
unfolding AreNamed
atx_named {d = d} {next = next} a =
    let line = a.line d.names (extends_none d.names) in (
      given_entry d.names a.index _ line.named,
      named_deeper d.names 1 _ (each_named d.names a.chain (heading_each (HasEntry d.names) d (tokens_entered d.names) _ a.index a.chain next line)),
    )

pub text_added : {d : Document} {start : ℕ} {marker : Option Item} {old new : Forest Item} {next : ℕ} (a : AddsText d start marker old new next)
    → IsCharBoundary d.text start → IfSome marker (λ x. index_of x.body ≡ None) → AreNamed d.names a.items
text_added {d = d} {start = start} {marker = marker} {old = old} {next = next} a boundary free =
    let p : Place = line_place start (drop start d.text) in
    let there = line_is_place d.text start boundary in
    text_named d (path_of d.options old) p marker _ (taking a.items (lines_from d.text next)) free
    (a.is_text d.names (extends_none d.names) p there (omega arith))

-- a row, if one is added, and the rows of a table
row_by : (d : Document) (columns start : ℕ) (cells : List (List (ℕ × Item))) (stop : ℕ) (before after : MathBraces)
    → AreCells d (spot start before) cells (spot stop after) → AreNamed d.names (row_block TableRow columns start cells stop)
row_by d columns start cells stop before after are =
    nodes_named d.names _ (row_nodes (HasEntry d.names) TableRow columns start cells stop tt tt
    (cells_nodes (HasEntry d.names) d (tokens_entered d.names) tt (spot start before) cells (spot stop after) are))

pub row_named : (d : Document) (columns start : ℕ) (old new : OpenTable) (answer : Option (ℕ × TreeIndex)) (before : Names) → Extends d.names before
    → ReadsRow d columns start old new answer → AreNamed before old.tree.nodes → AreNamed d.names new.tree.nodes
row_named d columns start old new None before more r h =
    rw r.adds.1 (named_more d.names before old.tree.nodes more h)
row_named d columns start old new (Some (stop, ix)) before more r h =
    block_added d.names before old.tree new.tree (row_block TableRow columns start r.cells r.row_end) more r.adds.1
    (row_by d columns start r.cells r.row_end old.braces r.after r.are_cells) h

pub row_line_named : (d : Document) (columns ix : ℕ) (old new : OpenTable) (answer : Option (ℕ × TreeIndex)) (before : Names) → Extends d.names before
    → ReadsRowLine d columns ix old new answer → AreNamed before old.tree.nodes → AreNamed d.names new.tree.nodes
row_line_named d columns ix old new answer before more (inl (none, is, same)) h =
    rw same (named_more d.names before old.tree.nodes more h)
row_line_named d columns ix old new answer before more (inr (start, at, r)) h = row_named d columns start old new answer before more r h

closed_named : (names : Names) (f : Forest Item) (e : ℕ) (s : List TreeIndex) → AreNamed names f.nodes → AreNamed names (closed_by f e s).nodes
closed_named names f e [] h = h
closed_named names f e (ix ∷ rest) h = named_modified names f.nodes ix.0 (λ x. record x { «end» = e }) (λ x k. k) h

pub rows_named : {d : Document} {columns head_start body_start : ℕ} {old new : Forest Item} {next : ℕ} {before : Names} → Extends d.names before
    → AppendsRows d columns head_start body_start old new next → AreNamed before old.nodes → AreNamed d.names new.nodes
rows_named {d = d} {columns = columns} {head_start = head_start} {body_start = body_start} {old = old} {next = next} {before = before} more r h =
    let P : ItemBody → Type 0 = HasEntry d.names in
    let holds = tokens_entered d.names in
    let head : List (ℕ × Item) = row_block TableHead columns head_start r.cells r.head_end in
    let cells = cells_nodes P d holds tt (spot head_start no_braces) r.cells (spot r.head_end r.after) r.are_cells in
    let rows = rows_nodes P d holds tt (path_of d.options old) (table_so_far columns (most_inserted - inserted columns r.cells) r.after)
    (lines_from d.text body_start) (taking r.body (lines_from d.text next)) tt r.are_rows in
    let items : List (ℕ × Item) = head ++ r.body in
    let own = nodes_named d.names items (both_nodes P head r.body (row_nodes P TableHead columns head_start r.cells r.head_end tt tt cells) rows) in
    rw r.tree_is (closed_named d.names (with_below old items) next old.spine
    (named_both d.names old.nodes (at_depth (length old.spine + 1) items) (named_more d.names before old.nodes more h)
    (named_deeper d.names (length old.spine + 1) items own)))

-- A block becomes a heading, and its children are cut off at an offset.
cut_named : (names : Names) (e d : ℕ) (nodes : List (ℕ × Item)) → AreNamed names nodes → AreNamed names (cut_tokens e d nodes)
unfolding AreNamed
cut_named names e d [] h = tt
cut_named names e d (n ∷ nodes) h =
    let rest = cut_named names e d nodes h.1 in
    let own = cond_both (nat_lt e n.1.«end») (record n.1 { «end» = e }) n.1 (IsNamed names) (λ b. h.0) (λ b. h.0) in
    cut_cases e d n nodes (AreNamed names) (λ b. (h.0, rest)) (λ b. (own, rest)) (λ b. (tt, tt)) tt

parts_named : (names : Names) (k : ℕ) (nodes : List (ℕ × Item)) → AreNamed names nodes → AreNamed names (take k nodes) × AreNamed names (drop k nodes)
unfolding AreNamed
parts_named names zero nodes h = (tt, h)
parts_named names (suc k) [] h = (tt, tt)
parts_named names (suc k) (n ∷ nodes) h = (let (front, rest) = parts_named names k nodes h.1 in ((h.0, front), rest))

children_named : (names : Names) (text : List ℕ) (old cut : Forest Item) (o : Option Item) → IsSomeAnd o (λ x. CutsChildren text x.start old cut)
    → AreNamed names old.nodes → AreNamed names cut.nodes
children_named names text old cut None cuts h = absurd cuts
children_named names text old cut (Some x) (inl same) h = rw same h
children_named names text old cut (Some x) (inr (e, low, b, is)) h =
    let k : ℕ = open_place old.spine + 1 in
    let (front, rest) = parts_named names k old.nodes h in
    rw is (named_both names (take k old.nodes) (cut_tokens e (length old.spine + 1) (drop k old.nodes)) front
    (cut_named names e (length old.spine + 1) (drop k old.nodes) rest))

pub heading_named : {d : Document} {level : HeadingLevel} {broken : Bool} {block : TreeIndex} {old new : Forest Item} {before : Names} → Extends d.names before
    → BecomesHeading d level broken block old new → AreNamed before old.nodes → AreNamed d.names new.nodes
heading_named {d = d} {level = level} {block = block} {old = old} {before = before} more heads h =
    let own = children_named d.names d.text old heads.cut (item_at old block) heads.children (named_more d.names before old.nodes more h) in
    rw heads.tree_is (named_modified d.names heads.cut.nodes block.0 (λ x. record x { body = Heading level heads.index }) (λ x k. heads.entry) own)
