use Rattle.std.proofs.Common.{refl}
use Rattle.first_pass_grammar.proofs.Common.{TableHead, spot, document}
use Rattle.first_pass_names.specs.TableEntries.{names_of}
use Rattle.first_pass_open.specs.OpenBlock.{begun_item}
use Rattle.first_pass_open.proofs.BlockLemmas.{just_pushed}
use Rattle.first_pass_tables.proofs.RowClosed.{OpenRow, row_place, row_is_open, missing_are, row_closed}
use Rattle.first_pass_tables.proofs.row.append_head_row.Goals as goal
use Rattle.first_pass_tables.proofs.row.append_head_row.Goals.{In_ok-end}

pub append_cells-requires-clause-fresh : goal.append_cells-requires-clause-fresh
append_cells-requires-clause-fresh c =
    (row_place c.args.tree.now, just_pushed c.args.tree.now _ (begun_item c.args.wanted.start TableHead) _ refl c.in_ok-open_block.ensures.tree)

-- the row with its cells
abbrev open_row : (c : In_ok-end) → OpenRow (document c.args.source.now.text.now c.args.source.now.options (names_of c.append_cells.new.allocs))
    c.args.wanted.most (spot c.args.wanted.start c.args.table.now.braces) TableHead c.args.tree.now
open_row c = record {
  opened = c.open_block.new.tree;
  read = c.append_cells.new.tree;
  stop = spot c.in_ok-end.end c.append_cells.new.braces;
  count = c.in_ok-end.count;
  opened_is = c.in_ok-open_block.ensures.tree;
  adds = c.in_ok-end.ensures.cells;
}

pub close_block-requires : goal.close_block-requires
close_block-requires c = row_is_open (open_row (goal.at.close_block-requires c).In_ok-end) _ _ c.saturating_sub-missing.ensures c.in_ok-fill_row.ensures

pub returns-clause-head : goal.returns-clause-head
returns-clause-head c =
    let row = open_row (goal.at.returns-clause-head c).In_ok-end in
    let adds = c.in_ok-end.ensures.cells in
    record {
      cells = adds.cells;
      row_end = c.in_ok-end.end;
      are_cells = adds.are_cells;
      missing_is = missing_are row _ _ c.saturating_sub-missing.ensures c.in_ok-fill_row.ensures;
      tree_is = row_closed row _ _ c.saturating_sub-missing.ensures c.in_ok-fill_row.ensures _ c.close_block.ensures.tree;
    }
