use Rattle.std.proofs.Common.{◌≡◌, ◌+◌, ◌&&◌, Bool, take, drop, is_some, sym, ap, ◌∙◌, arith}
use Rattle.std.proofs.lemmas.Bool.{and_left}
use Rattle.first_pass_items.specs.Bytes.{colon}
use Rattle.first_pass_lines.specs.Lines.{begins}
use Rattle.first_pass_links.specs.Labels.{is_label}
use Rattle.first_pass_links.specs.Footnotes.{footnote_head}
use Rattle.first_pass_links.proofs.Footnotes.{no_further_line, line_head, head_unmarked}
use Rattle.first_pass_links.proofs.footnote.begins_footnote_in_line.Goals as goal
use Rattle.first_pass_links.proofs.footnote.begins_footnote_in_line.Goals.{Else-not-begins}

pub returns-then-not-begins_footnote_mark : goal.returns-then-not-begins_footnote_mark
returns-then-not-begins_footnote_mark c = λ t. sym (head_unmarked c.args.bytes.now (sym c.begins_footnote_mark.ensures ∙ c.if-not-begins_footnote_mark.true) t)

-- whether a head begins there, if a `]` follows the label
head : (c : Else-not-begins) (t : Bool) → is_some (footnote_head no_further_line t c.args.bytes.now)
    ≡ (begins colon (drop (c.scan_label_end-len.result + 1) c.rest_of-label.result.now)
    && is_label (take c.scan_label_end-len.result c.rest_of-label.result.now))
head c t = grind (arith, line_head)

pub returns-then-not-begins : goal.returns-then-not-begins
returns-then-not-begins c = grind (arith, line_head, and_left)

pub returns-then-begins : goal.returns-then-begins
returns-then-begins c = λ t. sym (head (goal.at.returns-then-begins c).Else-not-begins t
    ∙ rw (← c.rest_of-2.ensures.value, ← c.begins-2.ensures.value, c.if-begins.true, ← c.is_label.ensures))

pub returns-else-begins : goal.returns-else-begins
returns-else-begins c = λ t. sym (head (goal.at.returns-else-begins c).Else-not-begins t
    ∙ and_left _ _ (ap (begins colon) (sym c.rest_of-2.ensures.value) ∙ sym c.begins-2.ensures.value ∙ c.if-begins.false) ∙ sym c.if-begins.false)
