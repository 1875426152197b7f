use Rattle.std.proofs.Common.{refl}
use Rattle.first_pass.proofs.Common.{empty_item_closed_named, finish_item_keeps_order, empty_item_closed_whole}
use Rattle.first_pass.proofs.state.FirstPass.finish_empty_list_item.Goals as goal

pub returns : goal.returns
returns c = record {
  kept = record {
    source = refl;
    tables = refl;
    named = λ h. rw c.finish_empty_list_item.ensures (empty_item_closed_named _ _ h);
    whole = λ named h. rw c.finish_empty_list_item.ensures (empty_item_closed_whole _ c.args.self.now.pass.state h);
    braces = refl;
  };
  state = c.finish_empty_list_item.ensures;
  order = λ at h. finish_item_keeps_order _ _ _ at c.finish_empty_list_item.ensures h;
}
