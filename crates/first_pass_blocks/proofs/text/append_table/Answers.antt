use Rattle.std.proofs.Common.{◌+◌, IsCharBoundary, length, subst, sym, ◌∙◌}
use Rattle.first_pass_grammar.proofs.Common.{Table, Names, Extends, NamesAlignments, document}
use Rattle.first_pass_blocks.proofs.Common.{opened_block, names_of, extends_none, extends_both, extends_alignments, line_stops, AppendsRows, alignments_last}
use Rattle.first_pass_open.proofs.PathLemmas.{open_are_in}
use Rattle.first_pass_blocks.proofs.Leaves.TextsAre.{only_opened, body_at, table_text, table_between}
use Rattle.first_pass_blocks.proofs.text.append_table.Goals as goal

pub parse_table-requires-clause-body : goal.parse_table-requires-clause-body
parse_table-requires-clause-body c =
    let text = c.args.source.now.text.now in
    let body_is = body_at text c.args.start c.args.table.table_head_len c.requires.head in
    let utf8 = c.requires.utf8 in
    subst (IsCharBoundary text) (sym body_is) (line_stops text _ utf8 (line_stops text c.args.start utf8 c.requires.boundary))

pub parse_table-requires-clause-open : goal.parse_table-requires-clause-open
parse_table-requires-clause-open c = only_opened c.args.tree.now c.open_block.new.tree c.args.start c.in_ok-index.index c.in_ok-open_block.ensures.tree

-- later names name its alignments
named_yet : (c : goal.In_ok-next) (more : Names) → Extends more (names_of c.parse_table.new.allocs)
    → NamesAlignments more c.in_ok-index.index c.args.table.alignments.items
named_yet c more e =
    let named = names_of c.allocate_alignment.new.self in
    alignments_last (names_of c.args.allocs.now) named more c.in_ok-index.index c.args.table.alignments.items c.in_ok-index.ensures.index
    c.in_ok-index.ensures.names (extends_both more (names_of c.parse_table.new.allocs) named e c.in_ok-next.ensures.more.names)

-- the rows follow the table's node
rows_read : (c : goal.In_ok-next) → AppendsRows (document c.args.source.now.text.now c.args.source.now.options (names_of c.parse_table.new.allocs))
    (length c.args.table.alignments.items) c.args.start (c.args.start + c.args.table.table_head_len)
    (opened_block c.args.tree.now c.args.start (Table c.in_ok-index.index)) c.parse_table.new.tree c.in_ok-next.next
rows_read c = rw (c.in_ok-open_block.ensures.tree, c.len.ensures, c.args.table.alignments.ok.0) at c.in_ok-next.ensures.rows

pub returns-clause-more : goal.returns-clause-more
returns-clause-more c =
    let named = names_of c.allocate_alignment.new.self in
    record {
      names = extends_both (names_of c.parse_table.new.allocs) named (names_of c.args.allocs.now) c.in_ok-next.ensures.more.names
          (extends_alignments (names_of c.args.allocs.now) named c.args.table.alignments.items c.in_ok-index.ensures.names);
      entries = c.in_ok-next.ensures.more.entries ∙ c.in_ok-index.ensures.entries;
    }

pub returns-clause-block : goal.returns-clause-block
returns-clause-block c = λ marker.
    let old = c.args.tree.now in
    table_text _ _ _ _ _ _ c.in_ok-index.index c.args.table.alignments.items old _ (rows_read c)
    (open_are_in old.nodes old.spine c.recall_forest.ensures.opened) (named_yet c)
    (body_at c.args.source.now.text.now c.args.start c.args.table.table_head_len c.requires.head) c.requires.headed marker

pub returns-clause-fits : goal.returns-clause-fits
returns-clause-fits c = λ from low.
    let old = c.args.tree.now in
    table_between _ _ _ _ _ _ c.in_ok-index.index c.args.table.alignments.items old _ (rows_read c)
    (open_are_in old.nodes old.spine c.recall_forest.ensures.opened) (named_yet c)
    (body_at c.args.source.now.text.now c.args.start c.args.table.table_head_len c.requires.head) c.requires.headed (extends_none _) c.requires.utf8
    c.requires.boundary from low
