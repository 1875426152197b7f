use Rattle.std.proofs.Common.{refl, sym, ◌∙◌, arith}
use Rattle.first_pass_names.specs.TableEntries.{names_of}
use Rattle.first_pass_c.proofs.Filling.{none_filled, record_written, record_long, depth_kept}
use Rattle.first_pass_c.proofs.Nexts.{depth_past}
use Rattle.first_pass_c.proofs.flat.nodes.fill_nodes.Goals as goal

pub loop-place-init : goal.loop-place-init
loop-place-init c = (
  none_filled _ _ _ _ c.requires.room refl c.requires.names (c.len.ensures ∙ c.args.side.now.attributes.ok.0 ∙ c.requires.attributes),
  sym (depth_past c.args.nodes.now _ (omega arith)),
)

pub returns-in_err-place-clause-long : goal.returns-in_err-place-clause-long
returns-in_err-place-clause-long c failed all =
    record_long (names_of c.args.allocs.now) c.args.nodes.now c.loop-place.flat c.loop-place.place _ c.next_index-next.result c.loop-place.invariant.0
    c.loop-place-test.true c.next_index-next.ensures.value (c.in_err-place.ensures.long refl) all

pub loop-place-preserved : goal.loop-place-preserved
loop-place-preserved c = (
  record_written (names_of c.args.allocs.now) c.args.nodes.now c.loop-place.flat _ c.loop-place.place _ _ c.next_index-next.result c.loop-place.invariant.0
      c.loop-place-test.true c.next_index-next.ensures.value c.in_ok-place.ensures.ok,
  depth_kept (names_of c.args.allocs.now) c.args.nodes.now c.loop-place.flat _ c.loop-place.place _ _ c.next_index-next.result c.loop-place.invariant.0
      c.loop-place-test.true c.in_ok-place.ensures.ok,
)
