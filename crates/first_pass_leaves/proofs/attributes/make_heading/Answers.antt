use Rattle.std.proofs.Common.{◌≤◌, sym, ap, ◌∙◌, subst, length, arith}
use Rattle.first_pass_grammar.proofs.Common.{Item, Heading, Forest, length-modify}
use Rattle.first_pass_leaves.proofs.Common.{open_node_in}
use Rattle.first_pass_leaves.proofs.attributes.make_heading.Goals as goal

pub index-requires : goal.index-requires
index-requires c = open_node_in c.args.tree.now c.args.node_ix c.recall_forest.ensures c.requires.open

pub set_body-requires : goal.set_body-requires
set_body-requires c = grind (arith, open_node_in)

pub returns-clause-heading : goal.returns-clause-heading
returns-clause-heading c = record {
  index = c.in_ok-index.index;
  cut = c.cut_attributes.new.tree;
  cuts = rw c.index.ensures c.in_ok-index.ensures.cut;
  children = rw c.index.ensures c.in_ok-index.ensures.children;
  entry = c.in_ok-index.ensures.entry;
  tree_is = c.set_body.ensures;
}

pub returns-clause-node_bound : goal.returns-clause-node_bound
returns-clause-node_bound c =
    let cut : Forest Item = c.cut_attributes.new.tree in
    let same = ap (λ (f : Forest Item). length f.nodes) c.set_body.ensures
    ∙ length-modify cut.nodes c.args.node_ix.0 (λ (x : Item). record x { body = Heading c.args.underlined.level c.in_ok-index.index }) in
    subst (λ n. n ≤ length c.args.tree.now.nodes) (sym same) c.in_ok-index.ensures.node_bound
