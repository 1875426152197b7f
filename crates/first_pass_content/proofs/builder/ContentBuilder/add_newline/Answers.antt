use Rattle.std.proofs.Common.{ℕ, ◌+◌, sym, ap, subst, ◌∙◌}
use Rattle.first_pass_content.specs.Building.{IsContentWith, content_with}
use Rattle.first_pass_content.specs.declared.run.Run.{Run}
use Rattle.first_pass_content.proofs.Growth.{begun, begun_content, closed_from, newline_closed}
use Rattle.first_pass_content.proofs.builder.ContentBuilder.add_newline.Goals as goal

pub returns-clause-sound : goal.returns-clause-sound
returns-clause-sound c =
    let past : ℕ = c.close_run.new.self.last.past in
    let done = c.in_ok-close_run.ensures in
    let closed = closed_from _ _ _ past _ (ap (λ (r : Run). r.past) done.last) done.runs done.size done.value in
    let added = newline_closed _ _ _ _ past c.args.start c.args.end _ closed c.in_ok-push.ensures.items c.in_ok-push-2.ensures.items c.ranges.start.fits in
    subst (λ (r : Run). IsContentWith c.args.text.now c.push.new.self.items c.push-2.new.self.items r) (sym c.empty_run-self.ensures)
    (begun c.args.text.now _ _ (past + 1) c.args.end _ added c.ranges.end.fits)

pub returns-clause-value : goal.returns-clause-value
returns-clause-value c =
    let past : ℕ = c.close_run.new.self.last.past in
    let done = c.in_ok-close_run.ensures in
    let closed = closed_from _ _ _ past _ (ap (λ (r : Run). r.past) done.last) done.runs done.size done.value in
    let added = newline_closed _ _ _ _ past c.args.start c.args.end _ closed c.in_ok-push.ensures.items c.in_ok-push-2.ensures.items c.ranges.start.fits in
    ap (λ (r : Run). content_with c.args.text.now c.push.new.self.items c.push-2.new.self.items r) c.empty_run-self.ensures
    ∙ begun_content c.args.text.now _ _ (past + 1) c.args.end _ added
