use Rattle.std.proofs.Common.{◌≡◌, ℕ, ◌≤◌, false, length, None, refl, sym, ap, subst, ◌∙◌}
use Rattle.first_pass_grammar.proofs.Common.{offset, lines_from}
use Rattle.first_pass.proofs.Common.{IsOrderedFrom, added_outside}
use Rattle.first_pass_blocks.proofs.Common.{path_of, after_line_at, html_to_blank, PassState, names_of, extends_none, first_at, first_is, path_added}
use Rattle.first_pass_blocks.proofs.Common.{block_ordered, IsOrderedAt}
use Rattle.first_pass_lists.specs.Closing.{state_with}
use Rattle.first_pass_blocks.proofs.Leaves.KindBlocks.{html_stops, ordered_stopped, to_blank_between, to_blank_stands, to_blank_few}
use Rattle.first_pass.proofs.Added.{adds_kept}
use Rattle.first_pass.proofs.CallsNamed.{html_named}
use Rattle.first_pass.proofs.Adding.{IsOutside, read_from}
use Rattle.first_pass.proofs.TablesWhole.{html_block_shows, silent_whole}
use Rattle.first_pass.proofs.state.FirstPass.parse_html_block_type_6_or_7.Goals as goal

pub returns : goal.returns
returns c =
    let self = c.args.self.now in
    let text = self.pass.source.text.now in
    let options = self.pass.source.options in
    let names = names_of c.parse_html_block_type_6_or_7.new.allocs in
    let e = c.in_ok-next.ensures in
    let old : PassState = self.pass.state in
    let new : PassState = state_with c.parse_html_block_type_6_or_7.new.tree None false in
    let p = first_at text c.args.start_ix 0 in
    let i = first_is text c.args.start_ix 0 in
    let block = e.block p i in
    let path : path_of options new.tree ≡ path_of options old.tree =
    ap (path_of options) block.tree_is ∙ path_added options old.tree block.items c.recall_forest.ensures in
    let next = c.in_ok-next.next in
    let ends = to_blank_stands text options names old.tree new.tree c.args.start_ix c.in_ok-next.next e.utf8 c.requires.boundary e.boundary.1.0 p i in
    let ordered : (at : ℕ) → at ≤ c.args.start_ix → IsOrderedAt text old at → IsOrderedFrom options text new next =
    λ at low o.
    ordered_stopped options text new (path_of options old.tree) (html_to_blank text (path_of options old.tree) p) next
    e.boundary.1 refl path (html_stops (length text) (path_of options old.tree) p (lines_from text (after_line_at text (offset p)))) block.left_is
    (block_ordered text old new at c.args.start_ix _ o low
    (to_blank_between _ _ _ _ _ c.args.start_ix _ e.utf8 c.requires.boundary e.boundary.1.0 _ p i block) ends.boundary.0 refl) in
    let is = block.are names (extends_none names) in
    record {
      block = rw c.max.ensures at e.block;
      kept = adds_kept {blank = false} block.items (refl, refl, refl) e.more block.tree_is (html_named is) (html_block_shows is);
      whole = silent_whole names (names_of self.pass.allocs) old.tree new.tree block.items e.more.names block.tree_is (html_block_shows is);
      state = refl;
      later = e.boundary.0;
      boundary = e.boundary.1;
      fits = λ p i. to_blank_between _ _ _ _ _ c.args.start_ix _ e.utf8 c.requires.boundary e.boundary.1.0 _ p i (e.block p i);
      order = ordered;
      may_add = λ at low h.
          read_from options text new next
          (subst IsOutside (sym block.tree_is) (added_outside old.tree block.items h.read.1.nested h.outside)) refl (ordered at low h.read.0);
      node_bound = to_blank_few _ _ _ _ _ c.args.start_ix _ e.utf8 c.requires.boundary e.boundary.1.0 _ p i block;
    }
