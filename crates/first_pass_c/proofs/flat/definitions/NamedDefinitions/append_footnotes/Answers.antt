use Rattle.std.proofs.Common.{map, ap, ◌∙◌}
use Rattle.first_pass_names.specs.TableEntries.{footnote_label}
use Rattle.first_pass_c.specs.FlatDefinitions.{label_entry}
use Rattle.first_pass_c.proofs.Appending.{none_so_far, one_more, all_appended}
use Rattle.first_pass_c.proofs.flat.definitions.NamedDefinitions.append_footnotes.Goals as goal

pub loop-label-init : goal.loop-label-init
loop-label-init c =
    none_so_far _ _ _
    (ap (λ l. map label_entry (map footnote_label l)) (c.into_iter-label-iterator.ensures.into_iter_gives ∙ c.iter-label-items.ensures.entries))

pub loop-label-preserved : goal.loop-label-preserved
loop-label-preserved c =
    one_more _ _ _ _ _ _ _ (ap (λ l. map label_entry (map footnote_label l)) c.in-Some.ensures.steps) c.in_ok-append_footnote.ensures c.loop-label.invariant

pub returns : goal.returns
returns c = all_appended _ _ _ _ (ap (λ l. map label_entry (map footnote_label l)) c.in-None.ensures.steps.0) c.loop-label.invariant
