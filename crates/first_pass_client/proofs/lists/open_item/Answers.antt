use Rattle.std.proofs.Common.{refl, sym, subst, arith}
use Rattle.first_pass_client.proofs.Common.{MayAddAt, PassState, ListItem}
use Rattle.first_pass_client.proofs.lists.open_item.Goals as goal

pub returns : goal.returns
returns c =
    let h = c.requires in
    let text = c.args.pass.now.pass.source.text.now in
    let old : PassState = c.args.pass.now.pass.state in
    let at = c.args.at in
    record {
      from = at;
      low = omega arith;
      order = subst (λ (r : PassState). MayAddAt text r at) (sym c.in_ok-open_block.ensures.0)
          (c.block_begins.ensures.item text old h.from at (ListItem c.args.columns) h.order h.low h.boundary refl);
      boundary = h.boundary;
    }
