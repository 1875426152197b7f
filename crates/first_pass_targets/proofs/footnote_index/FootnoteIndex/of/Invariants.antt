use Rattle.first_pass_targets.proofs.IndexFacts.{ArePartOfKeys}
use Rattle.first_pass_targets.proofs.footnote_index.FootnoteIndex.of.Given as goal

-- the keys so far are in the index
abbrev pub invariant-loop-label : goal.invariant-loop-label
invariant-loop-label l = ArePartOfKeys l.keys l.label-iterator l.table
