use Rattle.std.proofs.Common.{sym, length-take-le}
use Rattle.first_pass_c.proofs.Counts.{sides_counted, tree_fits}
use Rattle.first_pass_c.proofs.reading.write_into.Goals as goal

pub slice_bounds-fill_nodes-end : goal.slice_bounds-fill_nodes-end
slice_bounds-fill_nodes-end c =
    tree_fits c.args.parsed.now _ c.counts-needed.result _ c.nodes-tree.ensures c.counts-needed.ensures c.if-nodes-needed.false

pub slice_bounds-fill_nodes-end-2 : goal.slice_bounds-fill_nodes-end-2
slice_bounds-fill_nodes-end-2 c =
    sym (length-take-le _ _
    (tree_fits c.args.parsed.now _ c.counts-needed.result _ c.nodes-tree.ensures c.counts-needed.ensures c.if-nodes-needed.false))

pub fill_nodes-requires-clause-room : goal.fill_nodes-requires-clause-room
fill_nodes-requires-clause-room c =
    length-take-le _ _ (tree_fits c.args.parsed.now _ c.counts-needed.result _ c.nodes-tree.ensures c.counts-needed.ensures c.if-nodes-needed.false)

pub fill_nodes-requires-clause-attributes : goal.fill_nodes-requires-clause-attributes
fill_nodes-requires-clause-attributes c = sides_counted c.args.parsed.now c.nodes-tree.result.now c.requires c.nodes-tree.ensures
