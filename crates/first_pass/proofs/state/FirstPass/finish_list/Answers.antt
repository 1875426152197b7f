use Rattle.std.proofs.Common.{refl, ap, ◌∙◌}
use Rattle.first_pass.proofs.Common.{list_finished_outside, finish_list_keeps_order}
use Rattle.first_pass_blocks.proofs.Common.{is_list, list_finished_blank, list_finished_named, list_finished_whole, top_body, PassState}
use Rattle.first_pass.proofs.state.FirstPass.finish_list.Goals as goal

pub returns : goal.returns
returns c = record {
  closes = record {
    kept = record {
      source = refl;
      tables = refl;
      named = λ h. rw c.finish_list.ensures (list_finished_named _ _ _ h);
      whole = λ named h. rw c.finish_list.ensures (list_finished_whole _ c.args.ix c.args.self.now.pass.state c.recall_forest.ensures h);
      braces = refl;
    };
    state = c.finish_list.ensures;
    order = λ at later within ends h. finish_list_keeps_order _ _ _ at _ c.finish_list.ensures later within ends h;
  };
  blank = ap (λ (r : PassState). r.blank) c.finish_list.ensures ∙ list_finished_blank c.args.ix c.args.self.now.pass.state;
  outside = λ at h.
      ap (λ (r : PassState). is_list (top_body r.tree)) c.finish_list.ensures
      ∙ (list_finished_outside c.args.ix c.args.self.now.pass.state h.1.nested).1;
}
