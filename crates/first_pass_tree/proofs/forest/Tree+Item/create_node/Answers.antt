use Rattle.std.proofs.Common.{arith, ◌≡◌, ◌<◌, ◌^◌, ◌+◌, length}
use Rattle.first_pass_tree.proofs.Common.{depths, length-reverse}
use Rattle.first_pass_tree.proofs.Keeps.{shallow, wrapped-is, current-within}
use Rattle.first_pass_tree.proofs.SubtreeLemmas.{subtrees-first, subtrees-joined}
use Rattle.first_pass_tree.proofs.forest.Tree+Item.create_node.Goals as goal

pub wrap-requires-clause-small : goal.wrap-requires-clause-small
wrap-requires-clause-small c =
    let l : length c.self.inside.nodes.items < 2 ^ 63 = omega (arith, c.self.inside.nodes.small, c.self.inside.nodes.ok) in
    shallow _ c.self.invariant.forest l

pub invariant_of-self-2 : goal.invariant_of-self-2
invariant_of-self-2 c =
    let ns = c.self.inside.nodes.items in
    let d : c.len.result + 2 ≡ length c.self.inside.spine.items + 2 = omega arith in
    let w = current-within _ c.unwrap-index.result c.unwrap-index.ensures c.self.invariant.forest in
    record {
      forest = rw (c.in_ok-wrap.ensures.ok, d, ← length-reverse c.self.inside.spine.items)
          (wrapped-is _ c.unwrap-index.result c.args.item c.unwrap-index.ensures c.self.invariant.forest);
      known = subtrees-joined ns c.wrap.new.nodes.items _ (c.unwrap-index.result.0 + 1) _ (omega arith) c.in_ok-wrap.ensures.ok
          (subtrees-first (depths ns) (length ns) _ _ _ c.cut_to.ensures c.self.invariant.known);
    }
