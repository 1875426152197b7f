use Rattle.std.proofs.Common.{◌≡◌, ℕ, ◌≤◌, ◌<◌, ◌+◌, ◌-◌, true, length, get_or, sym, ap, ◌∙◌, subst, get_or-drop, length-drop, length-take-le, arith, eqb-true}
use Rattle.std.proofs.Common.{get_or-take}
use Rattle.first_pass_grammar.proofs.Common.{prefix_len_passes, line_feed, fence_judge}
use Rattle.first_pass_leaves.proofs.Common.{is_unmarked, AreWhole}
use Rattle.first_pass_leaves.specs.declared.raw_line.RawKind.TheVariants.{Code}
use Rattle.first_pass_leaves.proofs.WholeLines.{none_whole}
use Rattle.first_pass_leaves.proofs.UnmarkedLines.{are_whole}
use Rattle.first_pass_leaves.proofs.fenced_code.FenceJudgesLines.whole_lines.Goals as goal

pub returns-then-self-ne0 : goal.returns-then-self-ne0
returns-then-self-ne0 c = none_whole _ _ _ _

pub returns-in-None : goal.returns-in-None
returns-in-None c = none_whole _ _ _ _

pub returns-in-Some : goal.returns-in-Some
returns-in-Some c =
    let text = c.args.text.now in
    let start = c.args.start in
    let rest = c.rest_of-rest.result.now in
    let size = c.unmarked_len.result in
    let at = c.in-Some.at in
    let byte = c.args.self.now.byte in
    let found = c.in-Some.ensures in
    let in_rest : at < size = omega (arith, found.0.high, length-take-le size rest c.unmarked_len.ensures.within) in
    let in_text : (k : ℕ) → start ≤ k → get_or rest (k - start) 0 ≡ get_or text k 0 = λ k from.
    ap (λ bs. get_or bs (k - start) 0) c.rest_of-rest.ensures.value ∙ get_or-drop start text (k - start) 0 ∙ ap (λ j. get_or text j 0) (omega arith) in
    let ends : get_or text (start + at + 1 - 1) 0 ≡ line_feed =
    sym (in_text (start + at + 1 - 1) (omega arith)) ∙ ap (λ j. get_or rest j 0) (omega arith) ∙ sym (get_or-take size rest at 0 in_rest)
    ∙ eqb-true _ _ found.1 in
    let long : start + at + 1 ≤ length text =
    omega (arith, in_rest, c.unmarked_len.ensures.within, ap length c.rest_of-rest.ensures.value, length-drop start text, c.requires) in
    let many : 0 < c.args.self.now.count = omega (arith, c.if-self-eq0.false) in
    let lines = are_whole text byte c.args.self.now.count (start + at + 1) many long ends (at + 1) start (omega arith) (omega arith)
    (λ k from below. subst (λ b. is_unmarked byte b ≡ true) (in_text k from)
    (prefix_len_passes (is_unmarked byte) rest (k - start) 0 (omega (arith, in_rest, c.unmarked_len.ensures.value)))) in
    let indent : 0 ≡ c.args.self.now.indent = omega (arith, c.if-self-ne0.false) in
    subst (λ i. (lines : ℕ) × AreWhole Code (fence_judge i byte c.args.self.now.count) text lines start (start + at + 1))
    indent lines
