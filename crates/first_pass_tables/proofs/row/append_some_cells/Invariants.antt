use Rattle.std.proofs.Common.{◌≡◌, ◌≤◌, ◌-◌, length}
use Rattle.first_pass_grammar.proofs.Common.{spot, document}
use Rattle.first_pass_names.specs.TableEntries.{entries, names_of, AddsTexts}
use Rattle.first_pass_tables.specs.Reading.{AreAppended}
use Rattle.first_pass_tables.proofs.row.append_some_cells.Given as goal

-- the cells up to here are appended
abbrev pub invariant-cells : goal.invariant-cells
invariant-cells l = record {
  read : AreAppended (document l.source.text.now l.source.options (names_of l.allocs)) (spot l.wanted.start l.initial.braces) l.initial.tree l.tree
      (spot l.at l.braces) l.count;
  node_bound : l.count ≤ l.wanted.most;
  grown : AddsTexts (names_of l.allocs) (names_of l.initial.allocs);
  entries : entries l.allocs ≡ entries l.initial.allocs;
}

abbrev pub decreases-cells : goal.decreases-cells
decreases-cells l = length l.source.text.now - l.at
