use Rattle.std.proofs.Common.{arith}
use Rattle.first_pass_emphasis.proofs.Runs.{begins, went_on, stopped, used_up}
use Rattle.first_pass_emphasis.proofs.reduce.close_all.Goals as goal

pub loop-more-init : goal.loop-more-init
loop-more-init c = record { closing = λ p rest st. begins p rest c.args.run c.args.at c.args.pass.now st }

pub overflow_sub-more : goal.overflow_sub-more
overflow_sub-more c =
    (went_on c.requires.ready.0 c.requires.ready.1 c.args.run c.loop-more.more c.loop-more.at c.in_ok-taken.taken c.loop-more.pass c.close.new.pass
    (c.loop-more.invariant.closing c.requires.ready.0 c.requires.ready.1 c.requires.ready.2) c.in_ok-taken.ensures (omega arith)).0

pub loop-more-preserved : goal.loop-more-preserved
loop-more-preserved c = record {
  closing = λ p rest st.
      (went_on p rest c.args.run c.loop-more.more c.loop-more.at c.in_ok-taken.taken c.loop-more.pass c.close.new.pass
      (c.loop-more.invariant.closing p rest st) c.in_ok-taken.ensures (omega arith)).1;
}

pub returns-then-taken-eq0 : goal.returns-then-taken-eq0
returns-then-taken-eq0 c = λ p rest st.
    stopped p rest c.args.run c.loop-more.more c.loop-more.at c.in_ok-taken.taken c.loop-more.pass c.close.new.pass (c.loop-more.invariant.closing p rest st)
    c.in_ok-taken.ensures (omega arith)

pub returns : goal.returns
returns c = λ p rest st. used_up p rest c.args.run c.loop-more.more c.loop-more.at c.loop-more.pass (c.loop-more.invariant.closing p rest st) (omega arith)
