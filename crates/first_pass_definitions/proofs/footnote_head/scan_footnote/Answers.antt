use Rattle.std.proofs.Common.{rules, refl, sym, ◌+◌, drop, ap, ◌∙◌}
use Rattle.first_pass_grammar.proofs.Common.{line_rest, footnote_prefix}
use Rattle.std.proofs.lemmas.Result.{on_err_weaker}
use Rattle.first_pass_links.proofs.Footnotes.{after_mark}
use Rattle.first_pass_open.specs.Path.{context_of}
use Rattle.first_pass_kinds.specs.Memory.{line_may_head_table}
use Rattle.first_pass_definitions.proofs.Asks.{footnote_asks, place_from}
use Rattle.first_pass_definitions.proofs.footnote_head.scan_footnote.Goals as goal

pub returns-clause-borrowed : goal.returns-clause-borrowed
returns-clause-borrowed c = rw c.range_from.ensures.value at c.scan_footnote_head.ensures.borrowed

pub returns-clause-err : goal.returns-clause-err
returns-clause-err c =
    let text = c.args.source.now.text.now in
    let around = context_of c.args.source.now.options c.args.tree.now in
    let bs = c.range_from.result.now in
    rw (← c.range_from.ensures.value)
    (on_err_weaker c.scan_footnote_head.result (λ f. footnote_asks around (footnote_prefix around) _ _ bs _ c.is_in_table-in_table.ensures f.0
    (f.1 (footnote_prefix around) (λ following answer at b e p.
    let there = place_from text following.now bs c.args.start at c.requires c.range_from.ensures.value b e in
    let u = there.0 in let v = there.1 in search rules)) (λ at e.
    let s = e.1 in
    let mark = after_mark bs c.range_from.utf8 f.0 in
    let inside = place_from bs s.following.now (drop 2 bs) 2 (at + 1) mark refl s.boundary s.past_is in
    let there = place_from text s.following.now bs c.args.start (2 + (at + 1)) c.requires c.range_from.ensures.value inside.0 inside.1 in
    let u = there.0 in let v = there.1 in let p = s.returns in
    (search rules, ap (λ xs. line_may_head_table around (line_rest xs)) (sym s.past_is) ∙ search rules)))
    c.scan_footnote_head.ensures.err)
