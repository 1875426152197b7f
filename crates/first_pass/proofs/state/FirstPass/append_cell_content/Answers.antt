use Rattle.std.proofs.Common.{None, IfSome, IsCharBoundary, refl}
use Rattle.first_pass_grammar.proofs.Common.{document}
use Rattle.first_pass_blocks.proofs.Common.{no_names, PassState, ordered_none}
use Rattle.first_pass_tokens.proofs.BytesLemmas.{few_of_cell}
use Rattle.first_pass.proofs.CallsNamed.{cell_named}
use Rattle.first_pass.proofs.Adding.{may_add_tokens}
use Rattle.first_pass.proofs.OrderJoin.{IsRange, both_ends, cell_ends, state_before, ordered_cell}
use Rattle.first_pass.proofs.TablesWhole.{cell_whole}
use Rattle.first_pass.proofs.state.FirstPass.append_cell_content.Goals as goal

pub returns : goal.returns
returns c =
    let self = c.args.self.now in
    let text = self.pass.source.text.now in
    let options = self.pass.source.options in
    let old : PassState = self.pass.state in
    let new : PassState = record old { tree = c.append_cell.new.tree; begin_list_item = None } in
    let stop = c.in_ok-stop.stop in
    let e = c.in_ok-stop.ensures in
    let range : IfSome c.args.end (λ e. IsCharBoundary text e) → IsCharBoundary text c.args.start → IsRange text c.args.start c.args.end =
    λ ends boundary. record { utf8 = e.utf8; boundary = boundary; cut = both_ends text c.args.start c.args.end c.requires.1 ends } in
    record {
      line = (record { cell = e.cell; ends = e.ends; names = e.texts }, refl);
      tokens = record {
        kept = record { source = refl; more = record { names = e.names; entries = e.entries }; named = cell_named e.names e.cell };
        whole = cell_whole e.names e.cell;
        state = refl;
        boundary = λ ends boundary.
            cell_ends (document text options no_names) self.braces c.args.start c.args.end old.tree new.tree stop (range ends boundary) e.cell;
        order = λ ends boundary at low o.
            let to = ordered_cell (document text options no_names) self.braces c.args.start c.args.end old.tree new.tree stop (range ends boundary)
            (state_before text old at c.args.start c.recall_forest.ensures o low) e.cell in
            ordered_none text new stop refl to.within to;
        may_add = λ ends boundary at low h.
            let to = ordered_cell (document text options no_names) self.braces c.args.start c.args.end old.tree new.tree stop (range ends boundary)
            (state_before text old at c.args.start c.recall_forest.ensures h.read.0 low) e.cell in
            may_add_tokens text old new at stop e.cell.tokens e.cell.tree_is h (ordered_none text new stop refl to.within to);
        node_bound = few_of_cell e.cell;
      };
      block = tt;
    }
