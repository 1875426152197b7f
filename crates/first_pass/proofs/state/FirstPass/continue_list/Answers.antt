use Rattle.std.proofs.Common.{refl}
use Rattle.first_pass.proofs.Common.{continued_named, continue_list_keeps_order}
use Rattle.first_pass.proofs.TablesWhole.{continued_whole}
use Rattle.first_pass.proofs.state.FirstPass.continue_list.Goals as goal

pub returns : goal.returns
returns c =
    let is = c.in_ok-continue_list.ensures in
    record {
      kept = record {
        source = refl;
        tables = refl;
        named = λ h. rw is (continued_named _ _ _ _ _ h);
        whole = λ named h.
            rw is (continued_whole _ c.args.start c.args.ch c.args.index c.args.self.now.pass.state c.recall_forest.ensures h);
        braces = refl;
      };
      state = is;
      order = λ at later within starts h. continue_list_keeps_order _ _ _ at _ _ _ is later within starts h;
    }
