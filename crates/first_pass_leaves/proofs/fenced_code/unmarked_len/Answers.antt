use Rattle.std.proofs.Common.{sym, ap, arith, inl, inr}
use Rattle.first_pass_leaves.proofs.Common.{is_unmarked, take_rest, after_passed, prefix_len_is}
use Rattle.std.proofs.lemmas.Bool.{cases_lt}
use Rattle.std.specs.List.{prefix_len}
use Rattle.first_pass_leaves.proofs.fenced_code.unmarked_len.Goals as goal

pub returns-then-run-lt-LANES-clause-value : goal.returns-then-run-lt-LANES-clause-value
returns-then-run-lt-LANES-clause-value c =
    let run = c.unmarked_run-run.ensures in
    sym (prefix_len_is (is_unmarked c.args.fence_byte) c.args.bytes.now _ 0 (omega arith)
    (λ k l. elim (cases_lt k c.loop-from.from) [ inl passed ↦ c.loop-from.invariant.none k passed | inr following ↦ run.1 k following l ])
    (λ l. run.2 (omega arith)))

pub returns-clause-value : goal.returns-clause-value
returns-clause-value c =
    let test = is_unmarked c.args.fence_byte in
    let bytes = c.args.bytes.now in
    let from = c.loop-from.from in
    let left = c.short_unmarked_len.ensures.value in
    let whole = ap (prefix_len test) (take_rest bytes from) in
    omega (arith, after_passed test bytes from (omega arith) c.loop-from.invariant.none)
