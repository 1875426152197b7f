use Rattle.std.proofs.Common.{◌≡◌, sym, ap, ◌∙◌, arith}
use Rattle.first_pass_lines.specs.Rest.{Rest}
use Rattle.first_pass_lines.proofs.SpaceFacts.{space_is, spaces_by}
use Rattle.first_pass_scan.proofs.line_start.LineStart.take_spaces.Goals as goal

pub returns-clause-yes : goal.returns-clause-yes
returns-clause-yes c _ =
    let r : Rest = c.args.self.now in
    let run = c.space_run.ensures in
    let left : r.left ≡ c.rest_of-rest.result.now = ap (λ (q : Rest). q.left) (sym c.self.view_is) ∙ sym c.rest_of-rest.ensures.value in
    let owed : r.owed ≡ 0 = ap (λ (q : Rest). q.owed) (sym c.self.view_is) ∙ c.if-self-ne0.false in
    let both = spaces_by c.args.n c.rest_of-rest.result.now r left owed (omega arith) (λ k low. space_is _ (run.1 k (omega arith) (omega arith))) in
    (c.skip.ensures ∙ sym both.0, both.1)
