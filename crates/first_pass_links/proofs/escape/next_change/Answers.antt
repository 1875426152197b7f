use Rattle.std.proofs.Common.{◌≡◌, ℕ, ◌+◌, length, drop, get_or, Some, None, sym, ap, ◌∙◌, arith}
use Rattle.first_pass_links.specs.Changes.{change_at}
use Rattle.first_pass_links.specs.Plain.{is_unmarked}
use Rattle.first_pass_links.proofs.Escapes.{IsKept, kept_none, kept_run, kept_more, change_here, kept_all}
use Rattle.first_pass_links.proofs.escape.next_change.Goals as goal
use Rattle.first_pass_links.proofs.escape.next_change.Goals.{In-Some-next_mark}

-- a change directly at the offset
pub returns-in-Some-clause-some : goal.returns-in-Some-clause-some
returns-in-Some-clause-some c =
    let e : change_at c.args.in_table (drop c.args.from c.args.bytes.now) ≡ Some (c.in-Some.len, c.in-Some.character) =
    ap (change_at c.args.in_table) (sym c.rest_of.ensures.value) ∙ sym c.change_at.ensures ∙ c.in-Some.is
    in
    change_here c.args.in_table c.args.bytes.now c.args.from c.args.from c.in-Some.len c.in-Some.character
    (kept_none c.args.in_table c.args.bytes.now c.args.from c.requires) e

-- the bytes before the next backslash or `&` are kept
upto : (c : In-Some-next_mark) → IsKept c.args.in_table c.args.bytes.now c.args.from (c.loop-plain.at + c.in-Some-next_mark.plain)
upto c = grind (arith, kept_run)

pub returns-in-Some-change_at-clause-some : goal.returns-in-Some-change_at-clause-some
returns-in-Some-change_at-clause-some c =
    let k = upto (goal.at.returns-in-Some-change_at-clause-some c).In-Some-next_mark in
    let at = c.loop-plain.at + c.in-Some-next_mark.plain in
    let e : change_at c.args.in_table (drop at c.args.bytes.now) ≡ Some (c.in-Some-change_at.len, c.in-Some-change_at.character) =
    ap (change_at c.args.in_table) (sym c.rest_of-in-Some-next_mark.ensures.value) ∙ sym c.change_at-in-Some-next_mark.ensures ∙ c.in-Some-change_at.is
    in
    change_here c.args.in_table c.args.bytes.now c.args.from at c.in-Some-change_at.len c.in-Some-change_at.character k e

pub loop-plain-preserved : goal.loop-plain-preserved
loop-plain-preserved c =
    let k = upto (goal.at.loop-plain-preserved c).In-Some-next_mark in
    let at = c.loop-plain.at + c.in-Some-next_mark.plain in
    let e : change_at c.args.in_table (drop at c.args.bytes.now) ≡ None =
    ap (change_at c.args.in_table) (sym c.rest_of-in-Some-next_mark.ensures.value) ∙ sym c.change_at-in-Some-next_mark.ensures ∙ c.in_default-change_at.is
    in
    let whole = c.rest_of-in-loop-plain.ensures.whole in
    let found = c.in-Some-next_mark.ensures in
    record { kept = kept_more c.args.in_table c.args.bytes.now c.args.from at k (omega (arith, found.within)) e }

pub returns-clause-none : goal.returns-clause-none
returns-clause-none c =
    let hay = c.rest_of-in-loop-plain.ensures.value in
    let whole = c.rest_of-in-loop-plain.ensures.whole in
    let none = c.in_default-next_mark.ensures in
    let n : ℕ = length c.rest_of-in-loop-plain.result.now in
    let k = kept_run c.args.in_table c.args.bytes.now c.args.from c.loop-plain.at n c.loop-plain.invariant.kept
    (omega arith)
    (λ j l. ap (λ xs. is_unmarked (get_or xs j 0)) (sym hay) ∙ none.first.1 j (omega arith) (omega arith))
    in
    kept_all c.args.in_table c.args.bytes.now c.args.from (c.loop-plain.at + n) k whole
