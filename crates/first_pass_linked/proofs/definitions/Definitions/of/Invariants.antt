use Rattle.std.proofs.Common.{◌≡◌, ◌++◌, map}
use Rattle.std.specs.Map.Iter.{deref_pair}
use Rattle.first_pass_names.specs.TableEntries.{link_entry}
use Rattle.first_pass_linked.proofs.definitions.Definitions.of.Given as goal

-- the entries so far, and the rest of the table
abbrev pub invariant-loop-entry : goal.invariant-loop-entry
invariant-loop-entry l = map (λ e. link_entry (deref_pair e)) l.entries.items ++ map link_entry l.entry-iterator ≡ map link_entry l.table
