use Rattle.std.proofs.Common.{map, ap}
use Rattle.std.specs.Map.Iter.{deref_pair}
use Rattle.first_pass_names.specs.TableEntries.{link_entry}
use Rattle.first_pass_linked.proofs.Entries.{one_more, all_kept}
use Rattle.first_pass_linked.proofs.definitions.Definitions.of.Goals as goal

pub loop-entry-preserved : goal.loop-entry-preserved
loop-entry-preserved c =
    one_more (λ e. link_entry (deref_pair e)) c.loop-entry.entries.items _ _ _ _ _ c.in_ok-push.ensures.items (ap (map link_entry) c.in-Some.ensures.steps)
    c.loop-entry.invariant

pub returns : goal.returns
returns c = all_kept (λ e. link_entry (deref_pair e)) c.loop-entry.entries.items _ _ (ap (map link_entry) c.in-None.ensures.steps.0) c.loop-entry.invariant
