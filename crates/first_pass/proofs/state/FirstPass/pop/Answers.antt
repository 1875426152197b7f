use Rattle.std.proofs.Common.{refl, sym, ap, ◌∙◌, true≢false}
use Rattle.first_pass.proofs.Common.{popped_outside, popped_named, pop_keeps_order, popped_whole}
use Rattle.first_pass_blocks.proofs.Common.{is_list, top_body, PassState}
use Rattle.first_pass.proofs.state.FirstPass.pop.Goals as goal

pub returns : goal.returns
returns c = record {
  closes = record {
    kept = record {
      source = refl;
      tables = refl;
      named = λ h. rw c.pop.ensures (popped_named _ _ _ h);
      whole = λ named h. rw c.pop.ensures (popped_whole _ c.args.ix c.args.self.now.pass.state c.recall_forest.ensures h);
      braces = refl;
    };
    state = c.pop.ensures;
    order = λ at later within ends h. pop_keeps_order _ _ _ at _ c.pop.ensures later within ends h;
  };
  outside = λ at other h.
      ap (λ (r : PassState). is_list (top_body r.tree)) c.pop.ensures
      ∙ (popped_outside c.args.ix c.args.self.now.pass.state h.1.nested (λ item. true≢false (sym item ∙ other))).1;
}
