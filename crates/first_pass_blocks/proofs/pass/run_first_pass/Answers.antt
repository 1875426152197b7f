use Rattle.std.proofs.Common.{◌≡◌, ◌≤◌, inl, inr, ℕ, List, [], length, None, arith, refl, ap, ◌∙◌, subst}
use Rattle.first_pass_grammar.proofs.Common.{IsCharBoundary-start, IsCharBoundary-end, lines_at-end, document, Options, Derives}
use Rattle.first_pass_blocks.proofs.Common.{PassState, reached, IsReadTo, IsReadFrom, Ready, names_of, tables_in, tables_of, extends_equal, Entries}
use Rattle.first_pass_blocks.proofs.Common.{ordered_whole, own_at_most, ready_finish}
use Rattle.first_pass_blocks.proofs.BlockRead.{block_more, lines_more, room_made}
use Rattle.first_pass_blocks.proofs.FootnoteLabels.{labels_stay}
use Rattle.first_pass_blocks.proofs.LinkDefinitions.{none_written}
use Rattle.first_pass_order.proofs.InsertedCells.{all_nodes}
use Rattle.first_pass_grammar.proofs.Uniqueness.Unique.{only_derived}
use Rattle.first_pass_grammar.proofs.WholeTables.WholeForests.{derived_whole}
use Rattle.first_pass_order.proofs.SettledNodes.{derived_settled}
use Rattle.first_pass_open.proofs.FrontLemmas.{outer-none}
use Rattle.first_pass_blocks.proofs.pass.run_first_pass.Goals.{After-drop-pass-2}
use Rattle.first_pass_blocks.proofs.pass.run_first_pass.Goals as goal

pub loop-ix-init : goal.loop-ix-init
loop-ix-init c = record {
  read = record {
    same_text = c.in_ok-pass.ensures.text;
    same_options = c.in_ok-pass.ensures.options;
    boundary = IsCharBoundary-start c.args.text.now c.utf8.text;
    ready = λ names more. rw c.in_ok-pass.ensures.empty (c.in_ok-pass.ensures.ready names);
    order = inl c.in_ok-pass.ensures.order;
    named = c.in_ok-pass.ensures.named;
    written = none_written c.args.text.now c.in_ok-pass.pass.allocs c.in_ok-pass.ensures.empty;
    labels = c.in_ok-pass.ensures.labels;
    node_bound = (let root = c.in_ok-pass.ensures.root in let most = own_at_most None c.in_ok-pass.pass.state.tree.nodes in omega arith);
  };
  within = c.sample_end-part_end.ensures.within;
  last = c.sample_end-part_end.ensures.some;
}

pub loop-pass-init : goal.loop-pass-init
loop-pass-init c =
    let one = c.in_ok-ix.ensures in
    let later = one.block.later in
    record { read = block_more c.loop-ix-2.invariant one.block (omega arith); front = one.front; later = omega arith }

pub loop-pass-preserved : goal.loop-pass-preserved
loop-pass-preserved c =
    let one = c.in_ok-ix-2.ensures in
    let later = one.block.later in
    let before = c.loop-pass.invariant.later in
    record { read = block_more c.loop-pass.invariant.read one.block (omega arith); front = one.front; later = omega arith }

pub loop-ix-2-preserved : goal.loop-ix-2-preserved
loop-ix-2-preserved c =
    let more = c.read_blank_lines-ix.ensures in
    lines_more c.loop-pass.invariant.read more.later more.boundary more.read

pub loop-ix-preserved : goal.loop-ix-preserved
loop-ix-preserved c =
    record { read = room_made c.loop-ix-2.invariant c.reserve_for_rest.ensures; within = omega arith; last = λ _. omega arith }

-- At the end of the text no block has ended at a blank line.
at_end : (options : Options) (text : List ℕ) (r : PassState) (at : ℕ) → length text ≤ at → IsReadFrom options text r at → IsReadTo text r at
at_end options text r at past (inl o) = o
at_end options text r at past (inr h) = (let within = h.0.within in absurd (omega arith))

-- The part that is read last ends at the end of the text.
past_end : (c : After-drop-pass-2) → length c.args.text.now ≤ c.loop-ix.ix
past_end c =
    let past = c.loop-ix-test.false in
    let last = c.loop-ix.invariant.last past in
    omega arith

-- At the end of the text all containers are closed.
all_closed : (c : After-drop-pass-2) → c.close_containers.new.state.tree.spine ≡ []
all_closed c = c.close_containers.ensures.spine ∙ outer-none c.loop-ix.pass.state.tree.spine

derived : (c : After-drop-pass-2)
    → Derives (document c.args.text.now c.args.options (names_of c.loop-ix.pass.allocs)) c.close_containers.new.state.tree.nodes
    (tables_of c.loop-ix.pass.allocs)
derived c =
    let names = names_of c.loop-ix.pass.allocs in
    let d = document c.args.text.now c.args.options names in
    let i = c.loop-ix.invariant.read in
    let now = c.close_containers.new.state in
    let here = rw (lines_at-end c.args.text.now c.loop-ix.ix (past_end c)) at (i.ready names (extends_equal _ _ refl)) in
    let closed : Ready d (tables_of c.loop-ix.pass.allocs) now [] =
    c.close_containers.ensures.kept.ready d (tables_of c.loop-ix.pass.allocs) [] refl (λ m low high. refl) here in
    ready_finish d (tables_of c.loop-ix.pass.allocs) now (all_closed c) closed

pub returns-clause-derived : goal.returns-clause-derived
returns-clause-derived c =
    rw (c.sort_tables.ensures.names, ap tables_in c.sort_tables.ensures.entries) (derived c)

pub returns-clause-only : goal.returns-clause-only
returns-clause-only c =
    only_derived c.args.text.now c.args.options (names_of c.sort_tables.new.self) c.close_containers.new.state.tree.nodes (tables_of c.sort_tables.new.self)
    (returns-clause-derived c)

pub returns-clause-tables : goal.returns-clause-tables
returns-clause-tables c =
    derived_whole _ c.close_containers.new.state.tree.nodes (tables_of c.sort_tables.new.self) (returns-clause-derived c)

pub returns-clause-labels : goal.returns-clause-labels
returns-clause-labels c =
    labels_stay c.loop-ix.pass.allocs c.sort_tables.new.self c.loop-ix.pass.state.tree.nodes c.close_containers.new.state.tree.nodes
    (extends_equal _ _ c.sort_tables.ensures.names) c.close_containers.ensures.kept.state.footnotes
    (ap (λ (e : Entries). e.footnotes) c.sort_tables.ensures.entries) c.loop-ix.invariant.read.labels

pub returns-clause-settled : goal.returns-clause-settled
returns-clause-settled c =
    derived_settled _ c.close_containers.new.state.tree.nodes (tables_of c.loop-ix.pass.allocs) (derived c)

pub returns-clause-order : goal.returns-clause-order
returns-clause-order c =
    let text = c.args.text.now in
    let i = c.loop-ix.invariant.read in
    let n = length text in
    let last = IsCharBoundary-end text in
    let now : PassState = c.close_containers.new.state in
    let read : PassState = c.loop-ix.pass.state in
    let past = past_end c in
    let order = at_end c.args.options text read c.loop-ix.ix (omega arith) i.order in
    let within = order.0.within in
    let same : c.loop-ix.ix ≡ n = omega arith in
    let closes = c.close_containers.ensures.kept.state.order text in
    let here : IsReadTo text now n = closes (omega arith) last (subst (IsReadTo text read) same order) in
    ordered_whole text now.tree (reached now.begin_list_item n) (all_closed c) here.0.ordered

pub returns-clause-counted : goal.returns-clause-counted
returns-clause-counted c =
    let read = c.loop-ix.invariant.read.node_bound in
    let within = c.loop-ix.invariant.read.boundary.0 in
    let closed = c.close_containers.ensures.kept.state.count in
    omega arith

pub returns-clause-node_bound : goal.returns-clause-node_bound
returns-clause-node_bound c =
    let counted = returns-clause-counted c in
    let all = all_nodes (names_of c.sort_tables.new.self) c.close_containers.new.state.tree.nodes (returns-clause-tables c) in
    omega arith
