use Rattle.std.proofs.Common.{refl}
use Rattle.first_pass_emphasis.proofs.Runs.{run_stands}
use Rattle.first_pass_emphasis.proofs.reduce.read_run.Goals as goal

pub returns : goal.returns
returns c = λ p rest st.
    run_stands p rest c.args.run c.in_ok-left.left c.args.at _ c.close_all.new.pass _ (c.in_ok-left.ensures p rest st) st.place refl refl
    c.in_ok-push.ensures.items refl
