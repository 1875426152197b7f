use Rattle.std.proofs.Common.{max, subst, ap, ◌∙◌}
use Rattle.first_pass_content.specs.Content.{bytes_of}
use Rattle.first_pass_inline.specs.Readable.{AreReadable}
use Rattle.first_pass_linked.proofs.MarkLines.{one_more, none_left}
use Rattle.first_pass_linked.proofs.lines.append_marks.Goals as goal

pub loop-mark-preserved : goal.loop-mark-preserved
loop-mark-preserved g c = (
  (subst (AreReadable (bytes_of c.args.source.now.content.now)) c.in-Some.ensures.cases.0 c.loop-mark.invariant.0).1,
  one_more (g.F.LineForm.forms c.args.form.now) c.args.source.now.content.now c.args.source.now.definitions.now c.loop-mark.place _
      c.loop-mark.line.items _ _ c.in-Some.mark.now c.in-Some.following.now c.loop-mark.rest.now c.in-Some.ensures.cases.0
      c.in_ok-append_first.ensures (c.max-place.ensures ∙ ap (max c.loop-mark.place) c.listed_from.ensures) c.loop-mark.invariant.1,
)

pub returns : goal.returns
returns g c =
    none_left (g.F.LineForm.forms c.args.form.now) c.args.source.now.content.now c.args.source.now.definitions.now c.loop-mark.place
    c.loop-mark.line.items _ c.loop-mark.rest.now c.in_default.ensures.cases c.loop-mark.invariant.1
