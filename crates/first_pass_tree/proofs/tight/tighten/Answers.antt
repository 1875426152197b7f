use Rattle.std.proofs.Common.{ℕ, List, sym, ap, ◌∙◌, slice_index, arith}
use Rattle.first_pass_tree.proofs.Common.{depths, Item}
use Rattle.first_pass_tree.proofs.BodyLemmas.{body_of}
use Rattle.first_pass_tree.proofs.TightLemmas.{node_stays, node_tight, two_deeper, not_two_deeper, other_tight, tight_same_body}
use Rattle.first_pass_tree.proofs.tight.tighten.Goals as goal

pub returns-then-depth_at-list_depth-ne2 : goal.returns-then-depth_at-list_depth-ne2
returns-then-depth_at-list_depth-ne2 c = grind (arith, not_two_deeper, node_stays)

pub returns-in-Paragraph : goal.returns-in-Paragraph
returns-in-Paragraph c = grind (arith, two_deeper, body_of, node_tight)

pub returns-in_default : goal.returns-in_default
returns-in_default c =
    let f = c.args.tree.now in
    let b = c.index.result.now.body in
    let two = two_deeper c.depth_at.result
    (slice_index (depths f.nodes) c.args.ix.0) c.args.list_depth c.depth_at.ensures c.requires.deeper c.if-depth_at-list_depth-ne2.false in
    let is = body_of f c.args.ix c.index.result.now c.index.ensures in
    ap (λ (ns : List (ℕ × Item)). record f { nodes = ns })
    (sym (node_tight c.args.list_depth c.args.ix.0 f.nodes b b two is (other_tight b c.in_default.not-Paragraph) ∙ tight_same_body f.nodes c.args.ix.0 b is))
