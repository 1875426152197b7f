use Rattle.std.proofs.Common.{◌∙◌, ap}
use Rattle.first_pass_targets.specs.Keys.{label_key}
use Rattle.first_pass_targets.proofs.IndexFacts.{one_more_key, all_keys}
use Rattle.first_pass_targets.proofs.footnote_index.FootnoteIndex.of.Goals as goal

pub loop-label-preserved : goal.loop-label-preserved
loop-label-preserved c =
    one_more_key c.loop-label.keys c.insert.new.self c.in_ok-key_of.field-0 _ _ _ _ c.in-Some.ensures.steps
    (c.in_ok-key_of.ensures ∙ ap label_key c.label.ensures)
    c.in_ok-insert.ensures.updates.0 c.loop-label.invariant

pub invariant_of-result : goal.invariant_of-result
invariant_of-result c = all_keys c.loop-label.keys _ _ c.in-None.ensures.steps.0 c.loop-label.invariant
