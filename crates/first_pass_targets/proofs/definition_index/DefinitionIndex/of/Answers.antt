use Rattle.std.proofs.Common.{arith, ap, length}
use Rattle.first_pass_targets.proofs.IndexFacts.{one_more, all_indexed}
use Rattle.first_pass_targets.proofs.definition_index.DefinitionIndex.of.Goals as goal

pub loop-label-preserved : goal.loop-label-preserved
loop-label-preserved c = record {
  part = one_more c.loop-label.firsts c.add_first.new.firsts c.loop-label.index _ _ _ _ _ c.in-Some.ensures.steps c.label.ensures
      c.in_ok-add_first.ensures c.loop-label.invariant.part;
  size = omega (arith, ap length c.in-Some.ensures.steps, c.loop-label.invariant.size);
}

pub invariant_of-result : goal.invariant_of-result
invariant_of-result c = all_indexed c.loop-label.firsts c.loop-label.index _ _ c.in-None.ensures.steps.0 c.loop-label.invariant.part
