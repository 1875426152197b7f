use Rattle.std.proofs.Common.{refl, sym, ap, drop, is_some, true, false, Some, None, ◌≡◌, ◌+◌, ◌-◌, ◌∙◌, arith, if◌then◌else◌}
use Rattle.first_pass_grammar.proofs.Common.{text_of, blank_len, title_after, space_at}
use Rattle.first_pass_links.proofs.Parts.{of_text}
use Rattle.first_pass_open.specs.Path.{context_of}
use Rattle.first_pass_definitions.proofs.Targets.{title_spaced, white_len}
use Rattle.first_pass_definitions.proofs.target.scan_title_after.Goals as goal
use Rattle.first_pass_definitions.proofs.target.scan_title_after.Goals.{In-Some-2}

-- the title, if the rest of its line is blank
spaced : (c : In-Some-2)
    → (c.in-Some.start ≡ c.args.at + white_len (space_at (context_of c.args.source.now.options c.args.tree.now) (drop c.args.at c.args.source.now.text.now)))
    × (title_after (context_of c.args.source.now.options c.args.tree.now) (drop c.args.at c.args.source.now.text.now)
    ≡ (if is_some (blank_len (drop (c.in-Some.start + c.in-Some-2.len) c.args.source.now.text.now))
    then Some (c.in-Some.start - c.args.at + c.in-Some-2.len, text_of c.in-Some-2.title)
    else None))
spaced c =
    let around = context_of c.args.source.now.options c.args.tree.now in
    title_spaced around c.args.source.now.text.now c.args.at c.in-Some.start c.in-Some.field-0-1 c.in-Some-2.len c.in-Some-2.title
    (sym c.in-Some.is ∙ c.in_ok-start.ensures.value) c.if-start-at.false
    (rw c.range_from.ensures.value at (rw c.in-Some-2.is at c.in_ok-len.ensures.value))

pub returns-clause-value : goal.returns-clause-value
returns-clause-value c =
    let t = spaced (goal.at.returns-clause-value c).In-Some-2 in
    let there = t.0 in
    let blank : is_some (blank_len (drop (c.in-Some.start + c.in-Some-2.len) c.args.source.now.text.now)) ≡ true =
    ap is_some (sym (of_text blank_len _ c.scan_blank_line.ensures.value c.rest_of.ensures.value c.as_bytes.ensures.value)) ∙ c.if-is_none.ensures in
    rw t.1 (rw blank (omega arith, record { value = refl; borrowed = rw c.in-Some-2.is at c.in_ok-len.ensures.borrowed }, there))

pub returns-then-is_none-clause-value : goal.returns-then-is_none-clause-value
returns-then-is_none-clause-value c =
    let blank : is_some (blank_len (drop (c.in-Some.start + c.in-Some-2.len) c.args.source.now.text.now)) ≡ false =
    ap is_some (sym (of_text blank_len _ c.scan_blank_line.ensures.value c.rest_of.ensures.value c.as_bytes.ensures.value)) ∙ c.if-is_none.ensures in
    rw (spaced (goal.at.returns-then-is_none-clause-value c).In-Some-2).1 (rw blank refl)
