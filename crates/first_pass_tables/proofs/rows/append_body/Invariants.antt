use Rattle.std.proofs.Common.{◌≡◌, ◌-◌, length}
use Rattle.first_pass_grammar.proofs.Common.{document}
use Rattle.first_pass_names.specs.TableEntries.{entries, names_of, AddsTexts}
use Rattle.first_pass_tables.specs.Appends.{open_table}
use Rattle.first_pass_tables.proofs.BodySoFar.{BodySoFar}
use Rattle.first_pass_tables.proofs.rows.append_body.Given as goal

-- the rows are read up to here
abbrev pub invariant-rows : goal.invariant-rows
invariant-rows l = record {
  read : BodySoFar (document l.source.text.now l.source.options (names_of l.allocs)) l.wanted.most l.wanted.start
      (open_table l.initial.tree l.initial.table.missing_empty_cells l.initial.table.braces)
      (open_table l.tree l.table.missing_empty_cells l.table.braces) l.ix;
  grown : AddsTexts (names_of l.allocs) (names_of l.initial.allocs);
  entries : entries l.allocs ≡ entries l.initial.allocs;
}

abbrev pub decreases-rows : goal.decreases-rows
decreases-rows l = length l.source.text.now - l.ix
