use Rattle.std.proofs.Common.{◌≡◌, ◌+◌, length}
use Rattle.first_pass_targets.proofs.IndexFacts.{IsPartOfIndex}
use Rattle.first_pass_targets.proofs.definition_index.DefinitionIndex.of.Given as goal

-- the definitions so far are in the index
abbrev pub invariant-loop-label : goal.invariant-loop-label
invariant-loop-label l = record {
  part : IsPartOfIndex l.firsts l.index l.label-iterator l.table;
  size : l.index + length l.label-iterator ≡ length l.table;
}
