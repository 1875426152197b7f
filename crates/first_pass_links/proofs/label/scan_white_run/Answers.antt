use Rattle.std.proofs.Common.{◌≡◌, ℕ, ◌+◌, List, [], slice_index, refl, sym, ◌∙◌, arith}
use Rattle.first_pass_items.specs.Bytes.{space}
use Rattle.first_pass_items.proofs.ResultFacts.{on_err}
use Rattle.first_pass_links.proofs.Handlers.{under_both, under_none}
use Rattle.first_pass_links.proofs.Labels.{run_more, run_blank, white_is_ascii}
use Rattle.first_pass_links.proofs.label.scan_white_run.Goals as goal

-- after one space, the rest of the run begins at the next offset
first_is : (bytes : List ℕ) (at next following n : ℕ)
    → (slice_index bytes next ≡ space → following ≡ next + 1) → (n ≡ 0 → next ≡ at) → n + 1 ≡ 1 → slice_index bytes at ≡ space → following ≡ at + 1
first_is bytes at next following n f started one white = grind arith

pub returns-in_default-clause-none : goal.returns-in_default-clause-none
returns-in_default-clause-none g c =
    λ e. under_both c.loop-next.invariant.run (c.in_ok-following.ensures.none c.in_default.is)
    (c.loop-next.invariant.from, c.loop-next.invariant.within)
    (λ h r n. run_blank h c.args.bytes.now c.args.at c.loop-next.next c.loop-next.characters r n)

pub loop-next-preserved : goal.loop-next-preserved
loop-next-preserved g c =
    let some = rw c.in-Some.is at c.in_ok-following.ensures.some in
    let reads = rw c.in-Some.is at c.in_ok-following.ensures.reads in
    let from = c.loop-next.invariant.from in
    let bound = c.loop-next.invariant.bound in
    let later = some.0 in
    record {
      from = omega arith;
      within = some.1.0;
      boundary = some.1;
      bound = omega arith;
      lone = λ one white. first_is c.args.bytes.now c.args.at c.loop-next.next c.in-Some.following c.loop-next.characters
          (rw c.in-Some.is at c.in_ok-following.ensures.space) c.loop-next.invariant.started one white;
      started = λ z. absurd (omega arith);
      run = under_both c.loop-next.invariant.run reads (from, omega arith) (λ h r n. run_more h c.args.bytes.now c.args.at c.loop-next.next c.in-Some.following
          c.loop-next.characters r n (sym c.is_white_or_line_end.ensures ∙ c.if-is_white_or_line_end.true));
    }

pub loop-next-init : goal.loop-next-init
loop-next-init g c = record {
  from = omega arith;
  within = omega arith;
  boundary = grind (arith, white_is_ascii, c.requires.white);
  bound = omega arith;
  lone = λ one white. absurd (omega arith);
  started = λ z. refl;
  run = under_none (λ h. record { run = []; joins = refl; white = refl; count = refl });
}

-- the handler fails
pub returns-in_err-following-clause-err : goal.returns-in_err-following-clause-err
returns-in_err-following-clause-err g c = on_err c.from_residual.result (record {
  next = c.loop-next.next;
  characters = c.loop-next.characters;
  order = c.loop-next.invariant.from;
  run = c.loop-next.invariant.run;
  stops = c.in_err-following.ensures.err;
})
