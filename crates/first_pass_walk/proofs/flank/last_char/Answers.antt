use Rattle.std.proofs.Common.{IfSome, rules}
use Rattle.first_pass_walk.proofs.Common.{IsScalar}
use Rattle.first_pass_walk.proofs.FlankFacts.{last_char_by}
use Rattle.first_pass_walk.proofs.flank.last_char.Goals as goal

pub returns : goal.returns
returns c =
    let scalar : IfSome c.next_back.result IsScalar = search rules in
    last_char_by _ c.args.text.now c.chars.result.rest.now c.next_back.new.self.rest.now c.next_back.result
    (search rules) c.utf8.text scalar c.next_back.ensures.steps
