use Rattle.std.proofs.Common.{◌++◌, sym, ap, ◌∙◌, append-nil}
use Rattle.first_pass_names.specs.TableEntries.{names_of}
use Rattle.first_pass_c.specs.FlatNodes.{name_by}
use Rattle.first_pass_c.proofs.Appending.{flat_more, two_steps}
use Rattle.first_pass_c.proofs.flat.names.append_names.Goals as goal
use Rattle.first_pass_c.proofs.flat.names.append_names.Goals.{then-may_name_bytes+in_ok-append_name, else-may_name_bytes}

pub loop-node-preserved : goal.loop-node-preserved
loop-node-preserved c =
    let names = names_of c.args.allocs.now in
    elim c.if-may_name_bytes.branch [
      | then-may_name_bytes+in_ok-append_name w ↦
          two_steps _ _ _ _ _ _ (ap (λ v. v.items) w.names-is ∙ w.in_ok-append_name.ensures) c.loop-node.invariant
          (flat_more (name_by names) c.args.nodes.now c.loop-node.node-index _ c.loop-node-test.true)
      | else-may_name_bytes w ↦
          let none = c.may_name_bytes.ensures w.if-may_name_bytes.false names in
          two_steps _ _ _ _ _ _
          (ap (λ v. v.items) w.names-is ∙ sym (append-nil c.loop-node.names.items) ∙ ap (λ l. c.loop-node.names.items ++ l) (sym none))
          c.loop-node.invariant
          (flat_more (name_by names) c.args.nodes.now c.loop-node.node-index _ c.loop-node-test.true)
    ]
