use Rattle.std.proofs.Common.{◌≡◌, ℕ, ◌<◌, ◌≤◌, length, None, ◌∙◌, arith}
use Rattle.first_pass_grammar.proofs.Common.{length-reverse, after}
use Rattle.first_pass_open.proofs.Common.{path_in, outer, taken-yes}
use Rattle.first_pass_open.proofs.FrontLemmas.{taken_none, in_spine, place_within, node_taken, stops, front_is}
use Rattle.first_pass_scan.proofs.BlankFacts.{taken_no}
use Rattle.first_pass_open.proofs.prefixes.scan_containers.Goals as goal
use Rattle.first_pass_open.proofs.prefixes.scan_containers.Goals.{Then-not-takes_prefix}

pub loop-i-init : goal.loop-i-init
loop-i-init c = taken_none c.args.options c.args.tree.now.nodes c.args.tree.now.spine c.args.line_start.now

pub index-requires : goal.index-requires
index-requires c = grind (arith, place_within)

none_longer : (c : Then-not-takes_prefix) → (m : ℕ) → c.loop-i.i < m → m ≤ length c.args.tree.now.spine
    → after (path_in c.args.options c.args.tree.now.nodes (outer m c.args.tree.now.spine)) c.args.line_start.now ≡ None
none_longer c =
    stops c.args.options c.args.tree.now.nodes c.args.tree.now.spine c.loop-i.i (record { 0 = 0 }) c.args.line_start.now
    (node_taken c.args.options c.args.tree.now.nodes c.args.tree.now.spine _ c.loop-i.i c.index.result.now c.args.line_start.now c.loop-i.line_start
    c.walk_spine-spine.ensures c.loop-i-test.true c.index.ensures c.loop-i.invariant
    ∙ (taken_no _ c.loop-i.line_start c.takes_prefix.new.line_start c.takes_prefix.result c.takes_prefix.ensures c.if-not-takes_prefix.true).0)

pub returns-then-not-takes_prefix-clause-stops : goal.returns-then-not-takes_prefix-clause-stops
returns-then-not-takes_prefix-clause-stops c = none_longer c

pub returns-then-not-takes_prefix-clause-front : goal.returns-then-not-takes_prefix-clause-front
returns-then-not-takes_prefix-clause-front c = grind (arith, in_spine, taken_no, front_is, none_longer)

pub loop-i-preserved : goal.loop-i-preserved
loop-i-preserved c = grind (arith, node_taken, taken-yes)

pub returns-clause-front : goal.returns-clause-front
returns-clause-front c = grind (arith, length-reverse, front_is)
