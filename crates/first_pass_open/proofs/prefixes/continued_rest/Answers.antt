use Rattle.std.proofs.Common.{length, sym, ap, ◌∙◌, arith}
use Rattle.first_pass_grammar.proofs.Common.{line_rest, after}
use Rattle.first_pass_open.proofs.Common.{path_in, taken-yes}
use Rattle.first_pass_open.proofs.FrontLemmas.{taken_none, in_spine, place_within, node_taken, stops, outer-all}
use Rattle.first_pass_scan.proofs.BlankFacts.{taken_no}
use Rattle.first_pass_open.proofs.QuoteLemmas.{rest_passed}
use Rattle.first_pass_open.proofs.prefixes.continued_rest.Goals as goal

pub loop-i-init : goal.loop-i-init
loop-i-init c = grind (arith, taken_none)

pub returns-then-is_at_eol : goal.returns-then-is_at_eol
returns-then-is_at_eol c = grind (arith, rest_passed)

pub index-requires : goal.index-requires
index-requires c = grind (arith, place_within)

pub returns-then-not-takes_prefix : goal.returns-then-not-takes_prefix
returns-then-not-takes_prefix c =
    let options = c.args.options in
    let f = c.args.tree.now in
    let here = in_spine f.spine _ c.loop-i.i c.walk_spine-ix-items.ensures c.loop-i-test.true in
    let none = stops options f.nodes f.spine c.loop-i.i (record { 0 = 0 }) (line_rest c.args.bytes.now)
    (node_taken options f.nodes f.spine _ c.loop-i.i c.index.result.now (line_rest c.args.bytes.now) c.loop-i.rest
    c.walk_spine-ix-items.ensures c.loop-i-test.true c.index.ensures c.loop-i.invariant
    ∙ (taken_no _ c.loop-i.rest c.takes_prefix.new.line_start c.takes_prefix.result c.takes_prefix.ensures c.if-not-takes_prefix.true).0)
    (length f.spine) here (omega arith) in
    sym (ap (λ s. after (path_in options f.nodes s) (line_rest c.args.bytes.now)) (sym (outer-all f.spine)) ∙ none)

pub loop-i-preserved : goal.loop-i-preserved
loop-i-preserved c = grind (arith, node_taken, taken-yes)
