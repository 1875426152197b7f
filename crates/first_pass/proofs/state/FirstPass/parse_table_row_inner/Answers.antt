use Rattle.std.proofs.Common.{refl}
use Rattle.first_pass_tables.proofs.RowsAdded.{row_ends, row_none}
use Rattle.first_pass.proofs.CallsNamed.{row_named}
use Rattle.first_pass.proofs.RowsOrdered.{row_read, row_stops}
use Rattle.first_pass.proofs.state.FirstPass.parse_table_row_inner.Goals as goal

pub returns : goal.returns
returns c =
    let row = c.in_ok-row.row in
    let e = c.in_ok-row.ensures in
    record {
      row_is = rw c.replace.ensures.value at e.row;
      reads = row_read _ _ c.args.ix row (record { source = refl; more = e.more; named = row_named _ _ _ _ _ row _ e.more.names e.row }) e.texts refl
          c.requires.within (row_none _ _ _ _ _ row e.row) (row_ends _ _ _ _ _ row c.requires.within e.row)
          (λ begins. row_stops _ _ _ _ _ row c.recall_utf8.ensures begins e.row) e.fits;
    }
