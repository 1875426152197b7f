use Rattle.std.proofs.Common.{◌≡◌, ◌+◌, ◌∙◌, arith, ap, length, refl, rules, subst, sym, true}
use Rattle.std.proofs.lemmas.List.{nil_from_length}
use Rattle.first_pass_content.specs.Chains.{IsChain, chain_after, has_chain}
use Rattle.first_pass_inline.specs.Inlines.{chains_from}
use Rattle.first_pass_inline.specs.declared.inlines.BlockInlines.{BlockInlines}
use Rattle.first_pass_inline.proofs.Blocks.{AreSoFar, all_found, chain_here, chain_is, chains_later, no_more, none_so_far, of_block, one_more}
use Rattle.first_pass_inline.proofs.inlines.inlines_of.Goals as goal
use Rattle.first_pass_inline.proofs.inlines.inlines_of.Goals.{then-has_chain+in_ok-inlines+in_ok-push, else-has_chain}

pub loop-node-init : goal.loop-node-init
loop-node-init c = record {
  are = none_so_far c.args.text.now c.args.labels.now c.args.nodes.now c.args.nodes.now _ refl (search rules);
  chains = c.requires;
  size = omega arith;
}

pub inline_marks-requires : goal.inline_marks-requires
inline_marks-requires c =
    subst (IsChain c.args.text.now) (sym c.tokens_below-tokens.ensures)
    (chain_here c.args.text.now c.in-Some.node.now c.in-Some.following.now c.loop-node.rest.now c.in-Some.ensures.cases.0
    (sym c.has_chain.ensures ∙ c.if-has_chain.true) c.loop-node.invariant.chains)

pub loop-node-preserved : goal.loop-node-preserved
loop-node-preserved c =
    let text = c.args.text.now in
    let labels = c.args.labels.now in
    let rest = c.loop-node.rest.now in
    let node = c.in-Some.node.now in
    let others = c.in-Some.following.now in
    let there = c.in-Some.ensures.cases.0 in
    let old = c.loop-node.invariant in
    record {
      are = elim c.if-has_chain.branch [
        | then-has_chain+in_ok-inlines+in_ok-push w ↦
            let h : has_chain node.1.body ≡ true = sym c.has_chain.ensures ∙ w.if-has_chain.true in
            let x : BlockInlines = record { block = c.loop-node.block; inlines = w.in_ok-inlines.inlines } in
            let is = of_block text labels w.tokens_below-tokens.result.now (c.loop-node.block, chain_after node others) x
            (w.tokens_below-tokens.ensures ∙ sym (chain_is node others h)) refl w.in_ok-inlines.ensures.content w.in_ok-inlines.ensures.marks in
            subst (λ f. AreSoFar text labels (c.loop-node.block + 1) others f (chains_from 0 c.args.nodes.now))
            (sym (ap (λ v. v.items) w.found-is ∙ w.in_ok-push.ensures.items))
            (one_more text labels c.loop-node.block node others rest there c.loop-node.found.items _ old.are h x is)
        | else-has_chain w ↦
            subst (λ f. AreSoFar text labels (c.loop-node.block + 1) others f (chains_from 0 c.args.nodes.now))
            (sym (ap (λ v. v.items) w.found-is))
            (no_more text labels c.loop-node.block node others rest there c.loop-node.found.items _ old.are (sym c.has_chain.ensures ∙ w.if-has_chain.false))
      ];
      chains = chains_later text node others rest there old.chains;
      size = omega (arith, ap length there, old.size);
    }

pub returns : goal.returns
returns c =
    all_found c.args.text.now c.args.labels.now _ _ _ _ (nil_from_length c.loop-node.rest.now c.in_default.ensures.cases) c.loop-node.invariant.are
