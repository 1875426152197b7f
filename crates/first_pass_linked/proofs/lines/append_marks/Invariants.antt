use Rattle.std.proofs.Common.{◌≡◌, ◌++◌, length}
use Rattle.first_pass_content.specs.Content.{bytes_of}
use Rattle.first_pass_linked.specs.Forms.{mark_lines}
use Rattle.first_pass_inline.specs.Readable.{AreReadable}
use Rattle.first_pass_linked.proofs.lines.append_marks.Given as goal

-- the lines so far, and those of the rest
abbrev pub invariant-loop-mark : goal.invariant-loop-mark
invariant-loop-mark g l =
    AreReadable (bytes_of l.source.content.now) l.rest
    × (l.line.items ++ mark_lines (g.F.LineForm.forms l.form) l.source.content.now l.source.definitions.now l.place l.rest
    ≡ l.initial.line.items ++ mark_lines (g.F.LineForm.forms l.form) l.source.content.now l.source.definitions.now 0 l.marks)

abbrev pub decreases-loop-mark : goal.decreases-loop-mark
decreases-loop-mark g l = length l.rest
