use Rattle.std.proofs.Common.{rules, ◌≡◌, ℕ, ◌-◌, is_some, ◌+◌, refl, ap, ◌∙◌, option_map, arith}
use Rattle.first_pass_grammar.proofs.Common.{Item, TableRow, TreeIndex, Forest, spot, document, most_inserted}
use Rattle.first_pass_names.specs.TableEntries.{names_of}
use Rattle.first_pass_open.specs.OpenBlock.{begun_item}
use Rattle.first_pass_open.proofs.BlockLemmas.{just_pushed}
use Rattle.first_pass_tables.specs.Appends.{keeps_row, open_table}
use Rattle.first_pass_tables.proofs.RowDrops.{dropped}
use Rattle.first_pass_tables.proofs.RowClosed.{OpenRow, row_place, row_is_open, row_closed, row_after, row_read}
use Rattle.first_pass_tables.proofs.RowsAdded.{row_between}
use Rattle.first_pass_tables.proofs.row.parse_table_row_inner.Goals as goal
use Rattle.first_pass_tables.proofs.row.parse_table_row_inner.Goals.{After-is_kept, In_ok-end}

pub append_cells-requires-clause-fresh : goal.append_cells-requires-clause-fresh
append_cells-requires-clause-fresh c =
    (row_place c.args.tree.now, just_pushed c.args.tree.now _ (begun_item c.args.wanted.start TableRow) _ refl c.in_ok-open_block.ensures.tree)

-- the row with its cells
abbrev open_row : (c : In_ok-end) → OpenRow (document c.args.source.now.text.now c.args.source.now.options (names_of c.append_cells.new.allocs))
    c.args.wanted.most (spot c.args.wanted.start c.args.table.now.braces) TableRow c.args.tree.now
open_row c = record {
  opened = c.open_block.new.tree;
  read = c.append_cells.new.tree;
  stop = spot c.in_ok-end.end c.append_cells.new.braces;
  count = c.in_ok-end.count;
  opened_is = c.in_ok-open_block.ensures.tree;
  adds = c.in_ok-end.ensures.cells;
}

-- the test of the row is that of its cells
kept_is : (c : After-is_kept) → keeps_row (is_some c.args.tree.now.current) c.args.wanted.most
    (most_inserted - c.args.table.now.missing_empty_cells) c.in_ok-end.ensures.cells.cells ≡ c.is_kept.result
kept_is c = grind arith

pub close_block-requires : goal.close_block-requires
close_block-requires c = row_is_open (open_row (goal.at.close_block-requires c).In_ok-end) _ _ c.saturating_sub-missing.ensures c.in_ok-fill_row.ensures

pub drop_beyond-requires : goal.drop_beyond-requires
drop_beyond-requires c =
    let more = row_after (open_row (goal.at.drop_beyond-requires c).In_ok-end) c.pop.new.self c.pop.result c.pop.ensures in
    (dropped _ c.cur-before.ensures c.recall_forest.ensures c.requires.open more).0

pub returns-then-not-is_kept-clause-row : goal.returns-then-not-is_kept-clause-row
returns-then-not-is_kept-clause-row c =
    let adds = c.in_ok-end.ensures.cells in
    let more = row_after (open_row (goal.at.returns-then-not-is_kept-clause-row c).In_ok-end) c.pop.new.self c.pop.result c.pop.ensures in
    record {
      cells = adds.cells;
      row_end = c.in_ok-end.end;
      after = c.append_cells.new.braces;
      are_cells = adds.are_cells;
      adds = (
        kept_is (goal.at.returns-then-not-is_kept-clause-row c).After-is_kept ∙ c.if-not-is_kept.true,
        ap (λ (f : Forest Item). open_table f c.args.table.now.missing_empty_cells c.append_cells.new.braces)
            (c.drop_beyond.ensures ∙ (dropped _ c.cur-before.ensures c.recall_forest.ensures c.requires.open more).1),
      );
    }

pub returns-clause-row : goal.returns-clause-row
returns-clause-row c =
    let adds = c.in_ok-end.ensures.cells in
    let missing_is = c.saturating_sub-missing.ensures ∙ ap (λ (n : ℕ). c.args.wanted.most - n) adds.count in
    let answer_is : c.map.result ≡ option_map (λ (ix : TreeIndex). (c.in_ok-end.end, ix)) c.cur.result = search rules in
    row_read (record { start = c.args.wanted.start; cells = adds.cells; row_end = c.in_ok-end.end; after = c.append_cells.new.braces }) adds.are_cells
    (kept_is (goal.at.returns-clause-row c).After-is_kept ∙ c.if-not-is_kept.false)
    (row_closed (open_row (goal.at.returns-clause-row c).In_ok-end) _ _ c.saturating_sub-missing.ensures c.in_ok-fill_row.ensures _ c.close_block.ensures.tree)
    (ap (λ (n : ℕ). c.args.table.now.missing_empty_cells + n) missing_is) refl
    (answer_is ∙ ap (option_map (λ (ix : TreeIndex). (c.in_ok-end.end, ix))) c.cur.ensures)

pub returns-clause-fits : goal.returns-clause-fits
returns-clause-fits c = λ begins from low. row_between c.map.result c.in_ok-end.ensures.utf8 begins (returns-clause-row c) from low
