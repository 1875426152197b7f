use Rattle.std.proofs.Common.{◌∙◌}
use Rattle.first_pass_names.specs.TableEntries.{names_of}
use Rattle.first_pass_open.proofs.PathLemmas.{open_are_in}
use Rattle.first_pass_names.proofs.NameLemmas.{extends_both, texts_both}
use Rattle.first_pass_tables.specs.Appends.{open_table}
use Rattle.first_pass_tables.proofs.BodyLemmas.{rows_closed}
use Rattle.first_pass_tables.proofs.RowsAdded.{rows_between}
use Rattle.first_pass_tables.proofs.WholeRows.{added_whole}
use Rattle.first_pass_tables.proofs.rows.parse_table.Goals as goal

pub returns-clause-rows : goal.returns-clause-rows
returns-clause-rows c =
    rows_closed c.close_block.new.tree
    (record {
      before = names_of c.append_head_row.new.allocs;
      headed = open_table c.append_head_row.new.tree c.append_head_row.new.table.missing_empty_cells c.append_head_row.new.table.braces;
      bodied = c.append_body.new.tree;
      next = c.in_ok-next.next;
      grown = c.in_ok-next.ensures.more.names;
      head = rw c.new.ensures at c.in_ok-append_head_row.ensures.head;
      body = c.in_ok-next.ensures.body;
    })
    c.requires.open (open_are_in c.args.tree.now.nodes c.args.tree.now.spine c.recall_forest.ensures.opened) c.close_block.ensures.tree

pub returns-clause-fits : goal.returns-clause-fits
returns-clause-fits c = λ from low following.
    rows_between c.in_ok-next.ensures.utf8 (record { head = c.requires.head; body = c.requires.body; apart = following }) (returns-clause-rows c) from low

pub returns-clause-tables : goal.returns-clause-tables
returns-clause-tables c = added_whole (returns-clause-rows c)

pub returns-clause-more : goal.returns-clause-more
returns-clause-more c =
    let body = c.in_ok-next.ensures.more in
    let head = c.in_ok-append_head_row.ensures.more in
    record { names = extends_both _ _ _ body.names head.names; entries = body.entries ∙ head.entries }

pub returns-clause-texts : goal.returns-clause-texts
returns-clause-texts c = texts_both _ _ _ c.in_ok-next.ensures.texts c.in_ok-append_head_row.ensures.texts
