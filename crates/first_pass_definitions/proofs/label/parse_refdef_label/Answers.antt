use Rattle.std.proofs.Common.{rules, ◌+◌, true, sym, ap, ◌∙◌}
use Rattle.first_pass_grammar.proofs.Common.{line_rest, prefix_crossed}
use Rattle.std.proofs.lemmas.Result.{on_err_weaker}
use Rattle.first_pass_open.specs.Path.{context_of}
use Rattle.first_pass_kinds.specs.Memory.{line_may_head_table}
use Rattle.first_pass_definitions.proofs.Asks.{label_asks, place_from}
use Rattle.first_pass_definitions.proofs.Spaces.{label_fits}
use Rattle.first_pass_definitions.proofs.label.parse_refdef_label.Goals as goal

pub returns-clause-fits : goal.returns-clause-fits
returns-clause-fits c =
    label_fits c.scan_link_label_rest.result c.args.source.now.text.now c.range_from.result.now c.args.start c.requires c.range_from.ensures.value
    c.scan_link_label_rest.ensures.within c.scan_link_label_rest.ensures.following

pub returns-clause-err : goal.returns-clause-err
returns-clause-err c =
    let text = c.args.source.now.text.now in
    let around = context_of c.args.source.now.options c.args.tree.now in
    let bs = c.range_from.result.now in
    rw (← c.range_from.ensures.value)
    (on_err_weaker c.scan_link_label_rest.result (λ f. label_asks around (prefix_crossed true around) _ _ bs _ c.is_in_table-in_table.ensures
    (f (prefix_crossed true around) (λ following answer at b e p.
    let there = place_from text following.now bs c.args.start at c.requires c.range_from.ensures.value b e in
    let u = there.0 in let v = there.1 in search rules))
    (λ at e.
    let s = e.1 in
    let there = place_from text s.following.now bs c.args.start (at + 1) c.requires c.range_from.ensures.value s.boundary s.past_is in
    ap (λ xs. line_may_head_table around (line_rest xs)) (sym s.past_is) ∙ (let u = there.0 in let v = there.1 in let p = s.returns in search rules)))
    c.scan_link_label_rest.ensures.err)
