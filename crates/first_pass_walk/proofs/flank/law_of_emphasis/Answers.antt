use Rattle.first_pass_walk.proofs.FlankFacts.{emphasis_opens, emphasis_closes}
use Rattle.first_pass_walk.proofs.flank.law_of_emphasis.Goals as goal

pub returns : goal.returns
returns c =
    let run = c.args.run.now in
    let opens = emphasis_opens run run.before run.after in
    let closes = emphasis_closes run run.before run.after in
    record { star_opens = opens.0; star_closes = closes.0; underscore_opens = opens.1; underscore_closes = closes.1 }
