use Rattle.std.proofs.Common.{refl, sym, subst, arith}
use Rattle.first_pass_client.proofs.Common.{MayAddAt, PassState, HoldsChain, Paragraph, begun, with_block}
use Rattle.first_pass_tree.specs.declared.tree_index.TreeIndex.{TreeIndex}
use Rattle.first_pass_client.proofs.texts.begin_text.Goals as goal

pub returns : goal.returns
returns c =
    let h = c.requires in
    let text = c.args.pass.now.pass.source.text.now in
    let old : PassState = c.args.pass.now.pass.state in
    let new : PassState = c.open_block.new.state in
    let at = c.args.at in
    let (state_is, block_is) = c.in_ok-block.ensures in
    let law = c.block_begins.ensures in
    record {
      place = record {
        from = at;
        low = omega arith;
        order = subst (λ (r : PassState). MayAddAt text r at) (sym state_is) (law.may_add text old h.from at Paragraph h.order h.low h.boundary refl);
        boundary = h.boundary;
      };
      to = at;
      near = omega arith;
      chain = subst (λ (r : PassState). HoldsChain text r.tree c.in_ok-block.block at) (sym state_is)
          (subst (λ (b : TreeIndex). HoldsChain text (begun at Paragraph (with_block old old.tree)).tree b at) (sym block_is)
          (law.chain text at Paragraph (with_block old old.tree) refl h.boundary));
    }
