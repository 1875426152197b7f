use Rattle.std.proofs.Common.{◌≡◌, drop, false, sym, ap, ◌∙◌}
use Rattle.first_pass_grammar.proofs.Common.{left_bracket, begins, in_table}
use Rattle.first_pass_blocks.proofs.Common.{tables_of, context_in, BlockPass}
use Rattle.first_pass_blocks.proofs.LinkDefinitions.{run_is_empty, puts_none}
use Rattle.first_pass_blocks.proofs.state.BlockPass.parse_definitions.Goals as goal

pub returns-then-not-begins : goal.returns-then-not-begins
returns-then-not-begins c =
    let now : BlockPass = c.args.self.now in
    let text = now.source.text.now in
    let h : begins left_bracket (drop c.args.at text) ≡ false = ap (begins left_bracket) (sym
    (c.rest_of.ensures.value ∙ ap (drop c.args.at) c.as_bytes.ensures.value)) ∙ sym c.begins.ensures.value ∙ c.if-not-begins.true in
    record {
      kept = puts_none now;
      run = λ p line at i.
          run_is_empty text (context_in now) (in_table now.state.tree.nodes now.state.tree.spine) p c.args.at (tables_of now.allocs) i (sym at) h;
    }
