use Rattle.std.proofs.Common.{take_all}
use Rattle.first_pass_grammar.proofs.Common.{on_err}
use Rattle.first_pass_names.specs.TableEntries.{names_of}
use Rattle.first_pass_places.proofs.FootnoteTables.{label_among, none_first, next_node, some_labels}
use Rattle.first_pass_places.proofs.footnotes.footnote_nodes.Goals as goal

pub loop-index-init : goal.loop-index-init
loop-index-init c = rw c.new-table.ensures (none_first (names_of c.args.allocs.now))

pub loop-index-preserved : goal.loop-index-preserved
loop-index-preserved c =
    next_node (names_of c.args.allocs.now) c.args.nodes.now c.loop-index.index _ c.loop-index.table c.add_footnote.new.table c.loop-index-test.true
    c.loop-index.invariant c.in_ok-add_footnote.ensures.value

pub returns-in_err-add_footnote-clause-err : goal.returns-in_err-add_footnote-clause-err
returns-in_err-add_footnote-clause-err c =
    on_err c.from_residual.result
    (label_among (names_of c.args.allocs.now) 0 c.loop-index.index c.loop-index.index c.args.nodes.now _ c.loop-index-test.true
    c.in_err-add_footnote.ensures.err)

pub returns-clause-value : goal.returns-clause-value
returns-clause-value c =
    rw c.sort.ensures.same (rw (take_all c.loop-index.index c.args.nodes.now c.loop-index-test.false) at c.loop-index.invariant)

pub returns-in_err-sort-clause-err : goal.returns-in_err-sort-clause-err
returns-in_err-sort-clause-err c =
    on_err c.from_residual-in_err-sort.result
    (some_labels (names_of c.args.allocs.now) c.args.nodes.now c.loop-index.table c.in_err-sort.ensures.err
    (rw (take_all c.loop-index.index c.args.nodes.now c.loop-index-test.false) at c.loop-index.invariant))
