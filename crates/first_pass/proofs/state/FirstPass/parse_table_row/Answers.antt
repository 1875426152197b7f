use Rattle.std.proofs.Common.{refl, subst}
use Rattle.first_pass_grammar.proofs.Common.{document}
use Rattle.first_pass.proofs.Common.{open_table}
use Rattle.first_pass_blocks.proofs.Common.{names_of, OpenTable, ReadsRowLine}
use Rattle.first_pass_tables.proofs.RowsAdded.{line_row_ends, line_row_none}
use Rattle.first_pass.proofs.CallsNamed.{row_line_named}
use Rattle.first_pass.proofs.RowsOrdered.{line_row_stops, row_read}
use Rattle.first_pass.proofs.state.FirstPass.parse_table_row.Goals as goal

pub returns : goal.returns
returns c =
    let self = c.args.self.now in
    let d = document self.pass.source.text.now self.pass.source.options (names_of c.parse_table_row-row.new.allocs) in
    let old = self.pass.state.tree in
    let before : OpenTable = open_table old c.args.missing_empty_cells.now c.replace.result in
    let table = c.parse_table_row-row.new.table in
    let after : OpenTable = open_table c.parse_table_row-row.new.tree table.missing_empty_cells table.braces in
    let row = c.in_ok-row.row in
    let e = c.in_ok-row.ensures in
    record {
      row_is = subst (λ b. ReadsRowLine d c.args.row_cells c.args.ix (open_table old c.args.missing_empty_cells.now b) after row) c.replace.ensures.value e.row;
      reads = row_read self _ c.args.ix row
          (record { source = refl; more = e.more; named = row_line_named d c.args.row_cells c.args.ix before after row _ e.more.names e.row }) e.texts refl
          c.requires.boundary.0 (line_row_none d c.args.row_cells c.args.ix before after row e.row)
          (line_row_ends d c.args.row_cells c.args.ix before after row e.utf8 c.requires.boundary e.row)
          (λ begins. line_row_stops d c.args.row_cells c.args.ix before after row e.utf8 begins e.row) (λ begins. e.fits);
    }
