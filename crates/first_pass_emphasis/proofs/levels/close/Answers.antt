use Rattle.first_pass_emphasis.proofs.Walks.{level_read}
use Rattle.first_pass_emphasis.proofs.levels.close.Goals as goal

pub returns : goal.returns
returns c = λ o from ts.
    level_read o from ts c.args.walk.now c.settle.new.walk _ (c.in_ok-settle.ensures o from ts) c.in_ok-push.ensures.items c.truncate.ensures.items
    c.truncate-2.ensures.items c.leave-walk.ensures
