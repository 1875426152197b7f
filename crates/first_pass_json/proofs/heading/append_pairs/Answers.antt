use Rattle.std.proofs.Common.{◌++◌, ap, ◌∙◌}
use Rattle.first_pass_grammar.proofs.Common.{on_ok_weaker, pair_in}
use Rattle.first_pass_json.specs.Members.{pair}
use Rattle.first_pass_json.proofs.Arrays.{array_seen}
use Rattle.first_pass_json.proofs.heading.append_pairs.Goals as goal

pub returns : goal.returns
returns c =
    on_ok_weaker c.append_array.result (λ is. is ∙ ap (λ l. c.args.line.now.items ++ l) (array_seen pair pair_in c.args.pairs.now))
    c.append_array.ensures
