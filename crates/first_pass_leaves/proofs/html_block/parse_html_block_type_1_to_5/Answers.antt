use Rattle.std.proofs.Common.{◌∙◌, arith}
use Rattle.first_pass_grammar.proofs.Common.{condition_of}
use Rattle.first_pass_leaves.proofs.HtmlLemmas.{held_is, first_end, one_open, more_open, html_one, html_more, tag_extent}
use Rattle.first_pass_leaves.proofs.html_block.parse_html_block_type_1_to_5.Goals as goal

pub close_block-requires : goal.close_block-requires
close_block-requires c = one_open c.args.source.now.options c.args.tree.now c.in_ok-end.ensures.line c.in_ok-end.ensures.next.0

pub returns-then-holds_end-clause-block : goal.returns-then-holds_end-clause-block
returns-then-holds_end-clause-block c = λ p i.
    let options = c.args.source.now.options in
    let line = c.in_ok-end.ensures.line in
    let next_is = c.in_ok-end.ensures.next.0 in
    let held = held_is c.args.source.now.text.now (condition_of c.args.html_end) p c.args.start.now.at c.in_ok-end.«end» c.holds_end.result _ i
    (first_end options c.args.tree.now line next_is p i) c.range.ensures.value c.holds_end.ensures ∙ c.if-holds_end.true in
    html_one options c.args.tree.now line next_is p i (condition_of c.args.html_end) c.close_block.new.tree held c.close_block.ensures.tree

pub returns-then-holds_end-clause-boundary : goal.returns-then-holds_end-clause-boundary
returns-then-holds_end-clause-boundary c = (omega (arith, c.in_ok-end.ensures.next.0), c.in_ok-end.ensures.next.1)

pub close_block-requires-2 : goal.close_block-requires-2
close_block-requires-2 c = grind (arith, more_open)

pub returns-clause-block : goal.returns-clause-block
returns-clause-block c = λ p i.
    let options = c.args.source.now.options in
    let line = c.in_ok-end.ensures.line in
    let next_is = c.in_ok-end.ensures.next.0 in
    let until = condition_of c.args.html_end in
    let held = held_is c.args.source.now.text.now until p c.args.start.now.at c.in_ok-end.«end» c.holds_end.result _ i
    (first_end options c.args.tree.now line next_is p i) c.range.ensures.value c.holds_end.ensures ∙ c.if-holds_end.false in
    let lines = rw (c.in_ok-end.ensures.path options) at c.in_ok-lines.ensures.lines in
    html_more options c.args.tree.now line next_is p i c.in_ok-lines.ensures.more.names lines _ c.close_block-2.new.tree
    (tag_extent options c.args.tree.now line next_is p i until held) c.close_block-2.ensures.tree
