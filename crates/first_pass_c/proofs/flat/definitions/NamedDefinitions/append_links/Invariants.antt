use Rattle.std.proofs.Common.{map}
use Rattle.first_pass_names.specs.TableEntries.{link_entry}
use Rattle.first_pass_c.proofs.Appending.{IsPartlyWritten}
use Rattle.first_pass_c.proofs.flat.definitions.NamedDefinitions.append_links.Given as goal

-- the definitions so far are appended
abbrev pub invariant-loop-label : goal.invariant-loop-label
invariant-loop-label l = IsPartlyWritten l.initial.self l.self (map link_entry l.label-iterator) (map link_entry l.links)
