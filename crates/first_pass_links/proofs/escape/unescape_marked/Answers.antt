use Rattle.std.proofs.Common.{inl, refl, arith}
use Rattle.std.proofs.lemmas.Str.{IsCharBoundary-start}
use Rattle.first_pass_links.specs.Changes.{IsChange}
use Rattle.first_pass_links.proofs.Escapes.{written_more, change_differs}
use Rattle.first_pass_links.proofs.escape.unescape_marked.Goals as goal
use Rattle.first_pass_links.proofs.escape.unescape_marked.Goals.{In-Some}

pub loop-at-init : goal.loop-at-init
loop-at-init c =
    let start = IsCharBoundary-start c.args.text.now c.utf8.text in
    rw c.new-written.ensures.bytes (record { so_far = record { within = omega arith; boundary = start; so_far = refl; fewer = inl (refl, refl) } })

change : (c : In-Some) → IsChange c.args.in_table c.args.text.now c.loop-at.from (c.in-Some.at, c.in-Some.len, c.in-Some.character)
change c = rw c.as_bytes.ensures.value at c.in-Some.ensures.some

pub returns-in_err-push_between-clause-borrowed : goal.returns-in_err-push_between-clause-borrowed
returns-in_err-push_between-clause-borrowed c = grind (arith, change_differs, change)

pub returns-in_err-push-clause-borrowed : goal.returns-in_err-push-clause-borrowed
returns-in_err-push-clause-borrowed c = grind (arith, change_differs, change)

pub loop-at-preserved : goal.loop-at-preserved
loop-at-preserved c =
    let w = written_more c.args.in_table c.args.text.now c.loop-at.from c.in-Some.at c.in-Some.len c.in-Some.character _ c.utf8.text
    c.loop-at.invariant.so_far (change (goal.at.loop-at-preserved c).In-Some) in
    rw (c.in_ok-push.ensures.bytes, c.in_ok-push_between.ensures.bytes) (record { so_far = w })
