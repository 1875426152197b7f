use Rattle.std.proofs.Common.{◌≡◌, refl, sym, ap, subst, ◌∙◌}
use Rattle.first_pass_grammar.proofs.Common.{Item, appended, pushed}
use Rattle.first_pass_leaves.proofs.Common.{path_of, with_child, open_are_in, names_of, marked_chain, opened_is, container_is, IsFrontAt}
use Rattle.first_pass_leaves.proofs.ParagraphLemmas.{path_of-paragraph}
use Rattle.first_pass_grammar.proofs.Names.MoreNames.{extends_both}
use Rattle.first_pass_leaves.proofs.OrderPlain.{plain_fits}
use Rattle.first_pass_leaves.proofs.PlainTexts.{StandsOpen, whole_chain, opened_item, innermost, its_item, text_open, closed_paragraph, heading_open}
use Rattle.first_pass_leaves.proofs.PlainTexts.{closed_heading}
use Rattle.first_pass_kinds.specs.declared.next_front.NextFront.{NextFront}
use Rattle.first_pass_leaves.proofs.ClosedFronts.{closed_front}
use Rattle.first_pass_leaves.proofs.paragraph.parse_paragraph.Goals as goal
use Rattle.first_pass_leaves.proofs.paragraph.parse_paragraph.Goals.{In_ok-end}

-- The paragraph is open, with its marker and the chain of its lines.
stands_open : (c : In_ok-end) → StandsOpen c.args.source.now.text.now c.args.source.now.options (names_of c.append_text_lines.new.allocs) c.args.text.at
    c.args.text.marker.now c.args.tree.now c.append_text_lines.new.tree c.in_ok-node_ix.node_ix c.in_ok-end.end
stands_open c =
    let text = c.args.source.now.text.now in
    let options = c.args.source.now.options in
    let start = c.args.text.at in
    let marker = c.args.text.marker.now in
    let g = c.args.tree.now in
    let m = c.append_item.new.tree in
    let ix = c.in_ok-node_ix.node_ix in
    let end = c.in_ok-end.end in
    let at = c.in_ok-node_ix.ensures.index in
    let read = c.in_ok-end.ensures.lines in
    let x : Item = opened_item start in
    let opened = opened_is g c.open_block.new.tree x ix at c.in_ok-node_ix.ensures.tree in
    let there : m ≡ with_child (pushed (appended g x) ix) marker = c.in_ok-append_item.ensures ∙ ap (λ f. with_child f marker) opened in
    let same : path_of options m ≡ path_of options g =
    path_of-paragraph options g c.open_block.new.tree m x ix marker refl opened c.in_ok-append_item.ensures at
    (open_are_in g.nodes g.spine c.recall_forest.ensures.opened) in
    record {
      chain = read.chain;
      at = at;
      tree_is = marked_chain (pushed (appended g x) ix) m c.append_text_lines.new.tree marker read.chain there read.tree_is;
      plain = c.requires.marker;
      are = λ more e. rw same at (read.are more e);
      said = rw same at read.underline;
      later = read.later;
      boundary = read.boundary;
    }

pub close_block-requires : goal.close_block-requires
close_block-requires c = text_open (stands_open (goal.at.close_block-requires c).In_ok-end) c.in_ok-append_last_backslash.ensures

pub returns-in_default-clause-more : goal.returns-in_default-clause-more
returns-in_default-clause-more c = c.in_ok-end.ensures.more

pub returns-in_default-clause-block : goal.returns-in_default-clause-block
returns-in_default-clause-block c =
    closed_paragraph (stands_open (goal.at.returns-in_default-clause-block c).In_ok-end) c.in_ok-append_last_backslash.ensures (sym c.in_default.is)
    c.close_block.ensures.tree

pub returns-in_default-clause-fits : goal.returns-in_default-clause-fits
returns-in_default-clause-fits c = plain_fits (returns-in_default-clause-block c) c.in_ok-end.ensures.utf8 c.requires.boundary

pub returns-in_default-clause-front : goal.returns-in_default-clause-front
returns-in_default-clause-front c = λ known.
    let source = c.args.source.now in
    let t = stands_open (goal.at.returns-in_default-clause-front c).In_ok-end in
    let ix = c.in_ok-node_ix.node_ix in
    let x : Item = opened_item c.args.text.at in
    let block = returns-in_default-clause-block c in
    let found : NextFront = c.append_text_lines.new.next_front in
    let kept : IsFrontAt source c.append_text_lines.new.tree c.in_ok-end.end.next found.continued found.rest =
    c.in_ok-end.ensures.front (ap (λ (z : NextFront). z.is_known) (sym c.limit_to_open.ensures) ∙ known) in
    subst (λ (z : NextFront). IsFrontAt source c.close_block.new.tree c.in_ok-end.end.next z.continued z.rest) (sym c.limit_to_open.ensures)
    (closed_front source c.args.tree.now x ix (whole_chain t) block.items t.tree_is block.tree_is
    (container_is source.options c.append_text_lines.new.tree.nodes ix x (its_item t))
    (open_are_in c.args.tree.now.nodes c.args.tree.now.spine c.recall_forest.ensures.opened) kept)

pub make_heading-requires-clause-open : goal.make_heading-requires-clause-open
make_heading-requires-clause-open c = innermost (stands_open (goal.at.make_heading-requires-clause-open c).In_ok-end)

pub make_heading-requires-clause-start : goal.make_heading-requires-clause-start
make_heading-requires-clause-start c =
    rw (its_item (stands_open (goal.at.make_heading-requires-clause-start c).In_ok-end)) c.requires.boundary.0

pub close_block-requires-2 : goal.close_block-requires-2
close_block-requires-2 c =
    heading_open (stands_open (goal.at.close_block-requires-2 c).In_ok-end) c.in_ok-make_heading.ensures.more.names c.is_by_backslash.ensures
    c.in_ok-make_heading.ensures.heading c.in_ok-append_last_backslash-2.ensures

pub returns-clause-block : goal.returns-clause-block
returns-clause-block c =
    closed_heading (stands_open (goal.at.returns-clause-block c).In_ok-end) c.in_ok-make_heading.ensures.more.names c.is_by_backslash.ensures
    c.in_ok-make_heading.ensures.heading c.in_ok-append_last_backslash-2.ensures (sym c.in-Some.is)
    (rw c.as_bytes.ensures.value at c.next_line-next.ensures.value) c.in_ok-end.ensures.utf8 c.close_block-2.ensures.tree

pub returns-clause-fits : goal.returns-clause-fits
returns-clause-fits c = plain_fits (returns-clause-block c) c.in_ok-end.ensures.utf8 c.requires.boundary

pub returns-clause-more : goal.returns-clause-more
returns-clause-more c =
    let heading = c.in_ok-make_heading.ensures.more in
    let lines = c.in_ok-end.ensures.more in
    record { names = extends_both _ _ _ heading.names lines.names; entries = heading.entries ∙ lines.entries }
