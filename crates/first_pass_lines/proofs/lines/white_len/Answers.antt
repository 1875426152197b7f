use Rattle.std.proofs.Common.{sym, ap, arith, inl, inr}
use Rattle.first_pass_lines.proofs.Common.{prefix_len, prefix_len_is, cases_lt, take_rest, is_white}
use Rattle.first_pass_lines.proofs.LaneLemmas.{after_passed}
use Rattle.first_pass_lines.proofs.lines.white_len.Goals as goal

pub returns-then-run-lt-LANES-clause-value : goal.returns-then-run-lt-LANES-clause-value
returns-then-run-lt-LANES-clause-value c =
    let run = c.white_run-run.ensures in
    sym (prefix_len_is is_white c.args.bytes.now _ 0 (omega arith)
    (λ k l. elim (cases_lt k c.loop-from.from) [ inl passed ↦ c.loop-from.invariant.none k passed | inr following ↦ run.1 k following l ])
    (λ l. run.2 (omega arith)))

pub returns-clause-value : goal.returns-clause-value
returns-clause-value c =
    let bytes = c.args.bytes.now in
    let from = c.loop-from.from in
    let left = c.near_white_len.ensures.value in
    let whole = ap (prefix_len is_white) (take_rest bytes from) in
    omega (arith, after_passed is_white bytes from (omega arith) c.loop-from.invariant.none)
