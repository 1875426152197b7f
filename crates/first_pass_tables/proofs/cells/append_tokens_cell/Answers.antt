use Rattle.std.proofs.Common.{◌≡◌, refl, ap, ◌∙◌}
use Rattle.first_pass_grammar.proofs.Common.{Item, TableCell, Forest, chained, joins_none-fresh}
use Rattle.first_pass_tokens.proofs.LineLemmas.{only_appended_cell}
use Rattle.first_pass_open.specs.OpenBlock.{begun_item, opened_block}
use Rattle.first_pass_open.proofs.BlockLemmas.{still_open, block_closed}
use Rattle.first_pass_tables.proofs.cells.append_tokens_cell.Goals as goal
use Rattle.first_pass_tables.proofs.cells.append_tokens_cell.Goals.{In_ok-end}

-- the open cell has its tokens
filled : (c : In_ok-end) → c.append_cell.new.tree ≡ chained (opened_block c.args.tree.now c.args.start TableCell) c.in_ok-end.ensures.cell.tokens
filled c =
    let opened = c.in_ok-open_block.ensures.tree in
    let cell = c.in_ok-end.ensures.cell in
    only_appended_cell cell (joins_none-fresh c.open_block.new.tree (ap (λ (f : Forest Item). f.current) opened)) ∙ ap (λ v. chained v cell.tokens) opened

pub close_block-requires : goal.close_block-requires
close_block-requires c =
    still_open c.args.tree.now _ (begun_item c.args.start TableCell) c.in_ok-end.ensures.cell.tokens _ refl (filled (goal.at.close_block-requires c).In_ok-end)

pub returns-clause-cell : goal.returns-clause-cell
returns-clause-cell c =
    let cell = c.in_ok-end.ensures.cell in
    record {
      tokens = cell.tokens;
      cell = rw (c.requires.whole, c.requires.row) at cell.cell;
      tree_is = block_closed c.args.tree.now _ (begun_item c.args.start TableCell) cell.tokens _ refl (filled (goal.at.returns-clause-cell c).In_ok-end) _
          c.in_ok-end.end c.close_block.ensures.tree;
    }
