use Rattle.std.proofs.Common.{map, sym, ap, ◌∙◌, option_map}
use Rattle.first_pass_names.specs.TableEntries.{names_of}
use Rattle.first_pass_outline.specs.Entries.{entry_in}
use Rattle.first_pass_outline.proofs.Outlines.{heading_told, other_passed}
use Rattle.first_pass_outline.proofs.outline.outline.Goals as goal
use Rattle.first_pass_outline.proofs.outline.outline.Goals.{in-Some+in_ok-push, in_default}

pub loop-node-preserved : goal.loop-node-preserved
loop-node-preserved c =
    let names = names_of c.args.allocs.now in
    let nodes = c.nodes-node-items.result.now in
    elim c.match-entry_of.branch [
      | in-Some+in_ok-push w ↦ ap (λ v. map entry_in v.items) w.entries-is ∙ ap (map entry_in) w.in_ok-push.ensures.items
          ∙ heading_told names nodes c.loop-node.node-index _ _ _ c.loop-node-test.true c.loop-node.invariant
          (sym (ap (option_map entry_in) w.in-Some.is) ∙ c.entry_of.ensures)
      | in_default w ↦ ap (λ v. map entry_in v.items) w.entries-is
          ∙ other_passed names nodes c.loop-node.node-index _ _ c.loop-node-test.true c.loop-node.invariant
          (sym (ap (option_map entry_in) w.in_default.is) ∙ c.entry_of.ensures)
    ]
