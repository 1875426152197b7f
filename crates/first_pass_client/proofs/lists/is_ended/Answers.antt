use Rattle.std.proofs.Common.{sym, ◌∙◌, arith, leb-true}
use Rattle.first_pass_client.proofs.lists.is_ended.Goals as goal

pub returns-then-not-is_marker : goal.returns-then-not-is_marker
returns-then-not-is_marker c = λ low. record {
  from = c.args.at;
  low = omega arith;
  order = c.ended_block_is_closable.ensures _ _ _ c.args.at c.in-Some.last c.index-item.result.now c.recall_forest.ensures c.requires.order
      (sym c.cur.ensures ∙ c.in-Some.is) c.index-item.ensures (sym c.is_marker.ensures ∙ c.if-not-is_marker.true) (leb-true _ _ low);
  boundary = c.requires.boundary;
}
