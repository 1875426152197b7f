use Rattle.std.proofs.Common.{sym, arith}
use Rattle.first_pass_lines.proofs.Common.{prefix_len_is, false_from_ne_true, not_from_false, not_from_true, is_content}
use Rattle.first_pass_lines.proofs.lines.far_content_len.Goals as goal

pub returns-in-None-clause-value : goal.returns-in-None-clause-value
returns-in-None-clause-value c =
    sym (prefix_len_is is_content c.args.bytes.now _ 0 (omega arith) (λ k l. not_from_false _ (false_from_ne_true _ (c.in-None.ensures k (omega arith) l)))
    (λ l. absurd (omega arith)))

pub returns-in-Some-clause-value : goal.returns-in-Some-clause-value
returns-in-Some-clause-value c =
    let e = c.in-Some.ensures in
    sym (prefix_len_is is_content c.args.bytes.now _ 0 (omega (arith, e.0.high))
    (λ k l. not_from_false _ (false_from_ne_true _ (e.0.before k (omega arith) l))) (λ l. not_from_true _ e.1))
