use Rattle.std.proofs.Common.{◌+◌, ◌-◌, ◌/◌, ◌≡◌, Some, ap, sym, ◌∙◌, arith, not-suc-le-zero, slice_get}
use Rattle.std.proofs.lemmas.Map.Entries.{lookup_at_gap}
use Rattle.first_pass_labels.specs.LabelTables.{table_of}
use Rattle.first_pass_labels.proofs.PlaceLemmas.{named, past_end, below_more, above_more, found_at}
use Rattle.first_pass_labels.proofs.TextOrder.{in_order_table, label_total}
use Rattle.first_pass_labels.proofs.search.find_sorted.Goals as goal
use Rattle.first_pass_labels.proofs.search.find_sorted.Goals.{After-cmp}

pub loop-low-init : goal.loop-low-init
loop-low-init g c = record {
  within = omega arith;
  below = λ j e lt at. absurd (not-suc-le-zero lt);
  above = λ j e le at. absurd (past_end c.args.entries.now (table_of c.args.entries.now) c.args.order.now j e c.requires le at);
}

pub offset_bounds-entries-order : goal.offset_bounds-entries-order
offset_bounds-entries-order g c =
    let n = named c.args.entries.now (table_of c.args.entries.now) c.args.order.now (c.loop-low.low + (c.loop-low.high - c.loop-low.low) / 2) c.requires
    (omega (arith, c.loop-low.invariant.within, c.loop-low-test.true)) in
    omega (arith, n.within)

pub bounds-entries-order : goal.bounds-entries-order
bounds-entries-order g c =
    (named c.args.entries.now (table_of c.args.entries.now) c.args.order.now (c.loop-low.low + (c.loop-low.high - c.loop-low.low) / 2) c.requires
    (omega (arith, c.loop-low.invariant.within, c.loop-low-test.true))).within

-- the entry in the middle is in the table
middle : (g : _) (c : After-cmp g)
    → slice_get (table_of c.args.entries.now) (c.loop-low.low + (c.loop-low.high - c.loop-low.low) / 2) ≡ Some c.index-entries-order.result
middle g c =
    let n = named c.args.entries.now (table_of c.args.entries.now) c.args.order.now (c.loop-low.low + (c.loop-low.high - c.loop-low.low) / 2) c.requires
    (omega (arith, c.loop-low.invariant.within, c.loop-low-test.true)) in
    n.in_table ∙ ap Some (sym (c.index-entries-order.is ∙ n.reads c.index-entries-order.result))

pub loop-low-preserved-in-Less : goal.loop-low-preserved-in-Less
loop-low-preserved-in-Less g c = record {
  within = omega (arith, c.loop-low.invariant.within, c.loop-low-test.true);
  below = c.loop-low.invariant.below;
  above = above_more c.args.key.now _ (in_order_table c.args.entries.now) _ _ (middle g (goal.at.loop-low-preserved-in-Less g c).After-cmp)
      (sym c.cmp.ensures ∙ c.in-Less.is);
}

pub returns-in-Equal : goal.returns-in-Equal
returns-in-Equal g c =
    sym (found_at c.args.key.now _ _ _ (in_order_table c.args.entries.now) (middle g (goal.at.returns-in-Equal g c).After-cmp)
    (sym c.cmp.ensures ∙ c.in-Equal.is))

pub loop-low-preserved : goal.loop-low-preserved
loop-low-preserved g c = record {
  within = c.loop-low.invariant.within;
  below = below_more c.args.key.now _ (in_order_table c.args.entries.now) _ _ (middle g (goal.at.loop-low-preserved g c).After-cmp)
      (sym c.cmp.ensures ∙ c.in-Greater.is);
  above = c.loop-low.invariant.above;
}

pub returns : goal.returns
returns g c =
    let es = c.args.entries.now in
    sym (lookup_at_gap label_total c.args.key.now (table_of es) c.loop-low.low (in_order_table es) c.loop-low.invariant.below
    (λ e at. c.loop-low.invariant.above c.loop-low.low e c.loop-low-test.false at))
