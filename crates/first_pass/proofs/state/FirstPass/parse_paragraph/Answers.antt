use Rattle.std.proofs.Common.{◌≡◌, None, refl, sym, ap, subst}
use Rattle.first_pass.proofs.Common.{MayAddAt, text_ordered}
use Rattle.first_pass_blocks.proofs.Common.{names_of, PassState, IsOrderedAt, block_added}
use Rattle.first_pass.proofs.CallsNamed.{text_added}
use Rattle.first_pass.proofs.Adding.{may_add_added}
use Rattle.first_pass.proofs.TablesWhole.{text_block_whole}
use Rattle.first_pass.proofs.state.FirstPass.parse_paragraph.Goals as goal

pub returns : goal.returns
returns c =
    let self = c.args.self.now in
    let text = self.pass.source.text.now in
    let next = c.in_ok-next.next in
    let old : PassState = self.pass.state in
    let tree = c.parse_text.new.self.state.tree in
    let new : PassState = record old { tree = tree; begin_list_item = None } in
    let is : (record c.parse_text.new.self.state { begin_list_item = None }) ≡ new =
    ap (λ (r : PassState). record r { begin_list_item = None }) c.parse_text.ensures.state in
    let e = c.in_ok-next.ensures in
    record {
      block = e.block;
      source = c.parse_text.ensures.source;
      more = e.more;
      braces = refl;
      named = λ free h.
          block_added (names_of c.parse_text.new.self.allocs) (names_of self.pass.allocs) old.tree tree e.block.items e.more.names e.block.tree_is
          (text_added e.block c.requires.boundary free) h;
      whole = text_block_whole (names_of self.pass.allocs) e.more.names e.block c.requires.boundary;
      state = is;
      fits = e.fits;
      order = λ inside at stands o. subst (λ (r : PassState). IsOrderedAt text r next) (sym is)
          (text_ordered text old new at c.args.start_ix next c.args.tasklist_marker o stands (e.fits inside) e.block.boundary.0 refl);
      may_add = λ inside at stands h. subst (λ (r : PassState). MayAddAt text r next) (sym is)
          (may_add_added text old new at next e.block.items e.block.tree_is h
          (text_ordered text old new at c.args.start_ix next c.args.tasklist_marker h.read.0 stands (e.fits inside) e.block.boundary.0 refl));
    }
