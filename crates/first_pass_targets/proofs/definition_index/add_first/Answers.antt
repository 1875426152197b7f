use Rattle.std.proofs.Common.{◌≡◌, Some, arith}
use Rattle.first_pass_targets.specs.Indices.{first_at, pair_of}
use Rattle.first_pass_targets.specs.Keys.{earlier}
use Rattle.first_pass_targets.proofs.IndexFacts.{added}
use Rattle.first_pass_targets.proofs.definition_index.add_first.Goals as goal

pub returns-in_ok-insert : goal.returns-in_ok-insert
returns-in_ok-insert c =
    let is : earlier (first_at c.args.firsts.now c.in_ok-key.key) (Some (pair_of c.args.first)) ≡ Some (pair_of c.args.first) = grind arith in
    added c.args.firsts.now c.insert.new.self c.in_ok-key.key c.args.first _ c.in_ok-key.ensures c.in_ok-insert.ensures.updates.0 is
