use Rattle.std.proofs.Common.{map}
use Rattle.first_pass_names.specs.TableEntries.{footnote_label}
use Rattle.first_pass_c.specs.FlatDefinitions.{label_entry}
use Rattle.first_pass_c.proofs.Appending.{IsPartlyWritten}
use Rattle.first_pass_c.proofs.flat.definitions.NamedDefinitions.append_footnotes.Given as goal

-- the labels so far are appended
abbrev pub invariant-loop-label : goal.invariant-loop-label
invariant-loop-label l =
    IsPartlyWritten l.initial.self l.self (map label_entry (map footnote_label l.label-iterator)) (map label_entry (map footnote_label l.footnotes))
