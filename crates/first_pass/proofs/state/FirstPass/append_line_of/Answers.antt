use Rattle.std.proofs.Common.{◌≤◌, ℕ, List, None, IsCharBoundary, refl}
use Rattle.first_pass_grammar.proofs.Common.{Item, Document, document, IsRawLine, AreInOrder}
use Rattle.first_pass_blocks.proofs.Common.{range_of, RawKind, Code, Html, extends_none, names_of, PassState}
use Rattle.first_pass_leaves.proofs.RawOrder.{text_line_in_order, html_line_in_order}
use Rattle.first_pass.proofs.CallsNamed.{raw_line_named}
use Rattle.first_pass.proofs.Adding.{may_add_tokens}
use Rattle.first_pass.proofs.OrderJoin.{state_before, tokens_ordered}
use Rattle.first_pass.proofs.TablesWhole.{raw_line_whole}
use Rattle.first_pass.proofs.state.FirstPass.append_line_of.Goals as goal

line_in_order : (kind : RawKind) (d : Document) (owed from to : ℕ) (items : List Item) → from ≤ to → IsCharBoundary d.text from → IsCharBoundary d.text to
    → IsRawLine (range_of kind) d owed from to items → AreInOrder d.text from to items
line_in_order Code d owed from to items order b c line = text_line_in_order d owed from to items order b c line
line_in_order Html d owed from to items order b c line = html_line_in_order d owed from to items order b c line

pub returns : goal.returns
returns c =
    let self = c.args.self.now in
    let text = self.pass.source.text.now in
    let from = c.args.start in
    let to = c.args.end in
    let old : PassState = self.pass.state in
    let new : PassState = record old { tree = c.append_raw_line.new.tree; begin_list_item = None } in
    let names = names_of c.append_raw_line.new.allocs in
    let d = document text self.pass.source.options names in
    let e = c.in_ok-append_raw_line.ensures in
    let are = e.line.are self.pass.source.options names (extends_none names) in
    record {
      line = e.line;
      kept = record {
        entries = record {
          source = refl;
          more = e.more;
          named = raw_line_named d c.args.kind c.args.remaining_space from to (names_of self.pass.allocs) old.tree new.tree e.more.names e.line;
        };
        braces = refl;
      };
      whole = raw_line_whole d c.args.kind c.args.remaining_space from to (names_of self.pass.allocs) old.tree new.tree e.more.names e.line;
      state = refl;
      order = λ at low begins ends o.
          tokens_ordered text old new from to e.line.items (state_before text old at from c.recall_forest.ensures o low)
          (line_in_order c.args.kind d c.args.remaining_space from to e.line.items c.requires.range.0 begins ends are) ends.0 e.line.tree_is refl;
      may_add = λ at low begins ends h.
          may_add_tokens text old new at to e.line.items e.line.tree_is h
          (tokens_ordered text old new from to e.line.items (state_before text old at from c.recall_forest.ensures h.read.0 low)
          (line_in_order c.args.kind d c.args.remaining_space from to e.line.items c.requires.range.0 begins ends are) ends.0 e.line.tree_is refl);
    }
