use Rattle.std.proofs.Common.{◌<◌, length, sym, subst}
use Rattle.first_pass_grammar.proofs.Common.{TreeIndex}
use Rattle.first_pass_open.proofs.FrontLemmas.{root, place_within}
use Rattle.first_pass_open.proofs.front.is_definition_at_depth.Goals as goal

pub index-requires : goal.index-requires
index-requires c =
    let node = c.in-Some.ensures.lookup.3 in
    subst (λ (ix : TreeIndex). ix.0 < length c.args.tree.now.nodes) (sym (node.1 root))
    (place_within c.args.tree.now.nodes c.args.tree.now.spine _ c.args.kept c.recall_forest.ensures.opened c.walk_spine.ensures node.0)
