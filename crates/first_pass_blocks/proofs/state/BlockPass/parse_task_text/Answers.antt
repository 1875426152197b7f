use Rattle.std.proofs.Common.{◌≡◌, inl, ℕ, Some, refl, ap, arith}
use Rattle.first_pass_grammar.proofs.Common.{all_taken, unindented, document, offset}
use Rattle.first_pass_blocks.proofs.Common.{AddsBetween, MarkerBetween, with_tree, PassState, all_keep, read_to, block_count, unindented_later, tables_of}
use Rattle.first_pass_blocks.proofs.Common.{tables_in, names_of, line_end_of, Entries, read_block, task_is_no_text, ready_text}
use Rattle.first_pass_blocks.proofs.FootnoteLabels.{labels_stay}
use Rattle.first_pass_blocks.proofs.LinkDefinitions.{written_stay}
use Rattle.first_pass_blocks.proofs.Leaves.TextLemmas.{text_kept, text_unnoted}
use Rattle.first_pass_blocks.proofs.state.BlockPass.parse_task_text.Goals as goal

pub offset-requires : goal.offset-requires
offset-requires c =
    let i = all_keep c.args.self.now.source.text.now c.args.place.line c.args.place.rest c.requires.utf8 c.requires.place in
    let e = read_to all_taken _ c.args.place _ c.scan_indentation.new.line_start refl c.scan_indentation.ensures.rest c.place.view_is in
    let short = c.recall_length.ensures in
    omega (arith, i.within, e)

pub parse_text-requires-clause-boundary : goal.parse_text-requires-clause-boundary
parse_text-requires-clause-boundary c =
    let text = c.args.self.now.source.text.now in
    let i = all_keep text c.args.place.line c.args.place.rest c.requires.utf8 c.requires.place in
    let e = read_to all_taken _ c.args.place _ _ c.offset.ensures c.scan_indentation.ensures.rest c.place.view_is in
    rw e i.boundary

pub parse_text-requires-clause-marker : goal.parse_text-requires-clause-marker
parse_text-requires-clause-marker c = task_is_no_text c.args.marker.body c.requires.after.0

pub returns-clause-block : goal.returns-clause-block
returns-clause-block c =
    let self = c.args.self.now in
    let text = self.source.text.now in
    let options = self.source.options in
    let p = c.args.place in
    let at = c.offset.result in
    let old : PassState = self.state in
    let now = names_of c.parse_text.new.self.allocs in
    let tree = c.parse_text.new.self.state.tree in
    let new : PassState = with_tree old tree in
    let is : c.parse_text.new.self.state ≡ new = c.parse_text.ensures.state in
    let next = c.in_ok-next.next in
    let e = c.in_ok-next.ensures in
    let mark = c.requires.after.0 in
    let none = c.requires.after.1 in
    let i = all_keep text p.line p.rest c.requires.utf8 c.requires.place in
    let there = read_to all_taken _ p _ _ c.offset.ensures c.scan_indentation.ensures.rest c.place.view_is in
    let block = rw there at e.block in
    let kept = text_kept (document text options now) (names_of self.allocs) old.tree tree (unindented p) (Some c.args.marker) next block i
    mark e.more.names in
    let low = unindented_later text p.line p.rest c.requires.utf8 c.requires.place in
    let ends = line_end_of text p i in
    let later = block.later in
    let fits : (from : ℕ) → MarkerBetween text from (offset p) (Some c.args.marker) → AddsBetween text from next old.tree tree =
    λ from stands. let b = stands.1 in let before = b.before in
    e.fits c.requires.after.2 from (stands.0, record { following = b.following; order = b.order; before = omega arith; starts = b.starts; ends = b.ends }) in
    record {
      kept = record {
        source = c.parse_text.ensures.source;
        names = e.more.names;
        named = kept.0;
        written = written_stay text self.allocs c.parse_text.new.self.allocs e.more.entries;
        labels = labels_stay self.allocs c.parse_text.new.self.allocs old.tree.nodes tree.nodes e.more.names
            (text_unnoted (document text options now) old.tree tree (unindented p) (Some c.args.marker) next block i mark)
            (ap (λ (e : Entries). e.footnotes) e.more.entries);
        tables = kept.1;
      };
      later = omega arith;
      boundary = block.boundary;
      ready = λ names more ready. rw (is, ap tables_in e.more.entries)
          (ready_text (document text options names) (tables_of self.allocs) old new p next c.args.marker block.items mark
          (block.is_text names more (unindented p) i refl) (record { tree_is = block.tree_is; none = none; blank = refl }) ready);
      order = λ o. inl (rw is (read_block text old.tree new o.from next o.nested o.plain (fits o.from o.stands) block.boundary.0 none o.ordered));
      node_bound = λ from stands apart. block_count text from next old.tree tree (fits from stands) apart;
    }
