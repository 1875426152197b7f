use Rattle.std.proofs.Common.{rules}
use Rattle.first_pass.proofs.BetweenCalls.{new_may_add}
use Rattle.first_pass.proofs.state.FirstPass.new.Goals as goal

pub returns : goal.returns
returns c =
    let e = c.in_ok-pass.ensures in
    record {
      text_is = e.text;
      options_are = e.options;
      empty = e.empty;
      ready = e.ready;
      may_add = new_may_add c.args.text.now c.in_ok-pass.pass.state c.recall_forest.ensures e.root e.order;
      root = e.root;
      named = e.named;
      labels = e.labels;
      tables = e.tables;
      braces = search rules;
    }
