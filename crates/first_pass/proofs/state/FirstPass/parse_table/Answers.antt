use Rattle.std.proofs.Common.{refl}
use Rattle.first_pass_grammar.proofs.Common.{document}
use Rattle.first_pass_blocks.proofs.Common.{names_of}
use Rattle.first_pass.proofs.CallsNamed.{rows_named}
use Rattle.first_pass.proofs.RowsOrdered.{rows_may_add, rows_count, rows_ordered}
use Rattle.first_pass.proofs.TableClosed.{closed_table_whole}
use Rattle.first_pass.proofs.state.FirstPass.parse_table.Goals as goal

pub returns : goal.returns
returns c =
    let self = c.args.self.now in
    let e = c.in_ok-next.ensures in
    record {
      kept = record { entries = record { source = refl; more = e.more; named = rows_named e.more.names e.rows }; braces = refl };
      texts = e.texts;
      state = refl;
      rows = e.rows;
      order = λ at low following o. rows_ordered c.requires.open.1 e.rows.boundary (e.fits at low following) o;
      may_add = λ table at low following h. rows_may_add c.requires.open.1 e.rows.boundary (e.fits at low following) refl table h;
      node_bound = λ from low following apart. rows_count c.requires.open.1 (e.fits from low following) apart;
      tables = e.tables;
      whole = λ r start index is width few named h.
          closed_table_whole (document self.pass.source.text.now self.pass.source.options (names_of c.parse_table.new.allocs)) (names_of self.pass.allocs) r
          start index c.args.table_cols c.args.head_start self.pass.state.tree c.parse_table.new.tree c.in_ok-next.next is e.texts e.more.names e.tables
          width few named h;
    }
