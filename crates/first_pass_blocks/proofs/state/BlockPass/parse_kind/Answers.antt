use Rattle.std.proofs.Common.{◌≡◌, ◌≤◌, inl, length, IsCharBoundary, refl, sym, ap, subst, ◌∙◌, arith}
use Rattle.first_pass_grammar.proofs.Common.{IsForest, Place, offset, line_end, unindented, IsKind, document, lines_from}
use Rattle.first_pass_blocks.proofs.Common.{names_of, tables_of, extends_none, place_end, with_tree, PassState, line_end_at, marked_kind, Says, kind_says}
use Rattle.first_pass_blocks.proofs.Common.{list_finished, line_or, count, list_finished_blank, line_or-below, place_before_end, list_finished_none}
use Rattle.first_pass_blocks.proofs.Common.{ordered_none, blank_named, blank_whole, notes, blank_notes, ready_blank_leaf, blank_count, IsFoundAt, kind_of}
use Rattle.first_pass_kinds.specs.declared.kinds.MarkedLeaf.{MarkedLeaf}
use Rattle.first_pass_blocks.proofs.Leaves.KindBlocks.{html_read, leaf_read, marked_leaf, columns_are, stands_at, AddsHtml}
use Rattle.first_pass_order.proofs.PopOrder.{read_blank_read}
use Rattle.first_pass_blocks.proofs.BlockRead.{state_at}
use Rattle.first_pass_blocks.proofs.FootnoteLabels.{labels_stay}
use Rattle.first_pass_blocks.proofs.state.BlockPass.parse_kind.Goals as goal

pub next_line-requires : goal.next_line-requires
next_line-requires c =
    let i = (stands_at c.requires.here.utf8 c.requires.here.place c.requires.found.at_is).boundary.0 in
    let l = ap length c.as_bytes.ensures.value in
    omega arith

pub returns-in-Blank-clause-block : goal.returns-in-Blank-clause-block
returns-in-Blank-clause-block c =
    let self = c.args.self.now in
    let text = self.source.text.now in
    let p = c.args.place in
    let old : PassState = self.state in
    let next = c.next_line.result in
    let i = stands_at c.requires.here.utf8 c.requires.here.place c.requires.found.at_is in
    let ends : next ≡ line_end p = c.next_line.ensures.value ∙ ap (λ t. line_end_at t c.args.at) c.as_bytes.ensures.value ∙ i.ends in
    let last = subst (IsCharBoundary text) (sym ends) (place_end text p c.requires.here.utf8 c.requires.here.place) in
    let from = line_or old.tree p.line (offset p) in
    let below : from ≤ offset p = line_or-below old.tree p.line (offset p) (omega arith) in
    let here = place_before_end p in
    let high = last.0 in
    let same = ap count c.read_blank_line.ensures in
    let unchanged = blank_count old in
    record {
      kept = record {
        source = refl;
        names = extends_none _;
        named = λ h. rw c.read_blank_line.ensures (blank_named (names_of self.allocs) old h);
        written = λ h. h;
        labels = labels_stay self.allocs self.allocs old.tree.nodes c.read_blank_line.new.self.tree.nodes (extends_none _)
            (ap notes c.read_blank_line.ensures ∙ blank_notes old) refl;
        tables = λ h k. rw c.read_blank_line.ensures (blank_whole (names_of self.allocs) old k);
      };
      later = omega arith;
      boundary = last;
      ready = λ names more ready. rw (c.read_blank_line.ensures, ends)
          (ready_blank_leaf (document text self.source.options names) (tables_of self.allocs) old p (lines_from text (line_end p))
          (subst (IsKind self.source.options p.rest) (ap kind_of c.in-Blank.is) c.requires.found.kind) c.requires.here.no_empty ready);
      order = λ o. inl (rw c.read_blank_line.ensures
          (read_blank_read text old from next (omega arith) high (ordered_none text old from c.requires.here.no_empty (omega arith) o.1.0, o.1.1)));
      node_bound = omega arith;
    }

pub parse_html_block_type_6_or_7-requires : goal.parse_html_block_type_6_or_7-requires
parse_html_block_type_6_or_7-requires c = record {
  boundary = (stands_at c.requires.here.utf8 c.requires.here.place c.requires.found.at_is).boundary;
  columns = (columns_are _ _ c.requires.found.columns_are (subst (Says c.args.place.rest) (ap kind_of c.in-HtmlToBlank.is)
      (kind_says c.args.self.now.source.options c.args.place.rest (kind_of c.args.found) c.requires.found.kind))).1;
}

pub returns-in_ok-next-in-HtmlToBlank-clause-block : goal.returns-in_ok-next-in-HtmlToBlank-clause-block
returns-in_ok-next-in-HtmlToBlank-clause-block c =
    let self = c.args.self.now in
    let p = c.args.place in
    let old : PassState = self.state in
    let q : PassState = list_finished p.line old in
    let f : PassState = c.finish_list.new.self in
    let rem : f ≡ q = c.finish_list.ensures ∙ ap (λ (z : Place). list_finished z.line old) c.place-in-HtmlToBlank.view_is in
    let e = c.in_ok-next-in-HtmlToBlank.ensures in
    let tree = c.parse_html_block_type_6_or_7.new.tree in
    html_read self _ p c.args.at c.args.columns c.in_ok-next-in-HtmlToBlank.next
    (state_at c.requires.here c.recall_forest.ensures)
    (subst (λ (z : PassState). IsForest z.tree) rem c.recall_forest-in-HtmlToBlank.ensures)
    (subst (λ x. IsFoundAt self.source.options p x c.args.columns c.args.at) c.in-HtmlToBlank.is c.requires.found)
    (record {
      source = refl;
      more = e.more;
      state = ap (λ (z : PassState). with_tree z tree) rem;
      following = e.boundary;
      block = subst (λ (z : PassState). AddsHtml self.source.text.now self.source.options (names_of c.parse_html_block_type_6_or_7.new.allocs) c.args.at
          c.args.columns (unindented p) z.tree tree c.in_ok-next-in-HtmlToBlank.next) rem
          (e.block (unindented p) (stands_at c.requires.here.utf8 c.requires.here.place c.requires.found.at_is).here);
    })

pub append_marked-requires : goal.append_marked-requires
append_marked-requires c =
    let self = c.args.self.now in
    let p = c.args.place in
    let old : PassState = self.state in
    let f : PassState = c.finish_list-in-Marked.new.self in
    let rem : f ≡ list_finished p.line old = c.finish_list-in-Marked.ensures ∙ ap (λ (z : Place). list_finished z.line old) c.place-in-Marked.view_is in
    record {
      utf8 = c.requires.here.utf8;
      place = c.requires.here.place;
      found = subst (λ x. IsFoundAt self.source.options p x c.args.columns c.args.at) c.in-Marked.is c.requires.found;
      not_blank = ap (λ (r : PassState). r.blank) rem ∙ list_finished_blank p.line old;
      no_empty = ap (λ (r : PassState). r.begin_list_item) rem ∙ list_finished_none p.line old;
    }

pub returns-in_ok-next-in-Marked-clause-block : goal.returns-in_ok-next-in-Marked-clause-block
returns-in_ok-next-in-Marked-clause-block c =
    let self = c.args.self.now in
    let options = self.source.options in
    let p = c.args.place in
    let old : PassState = self.state in
    let f : PassState = c.finish_list-in-Marked.new.self in
    let rem : f ≡ list_finished p.line old = c.finish_list-in-Marked.ensures ∙ ap (λ (z : Place). list_finished z.line old) c.place-in-Marked.view_is in
    let leaf : MarkedLeaf = c.in-Marked.leaf in
    let next = c.in_ok-next-in-Marked.next in
    let e = c.in_ok-next-in-Marked.ensures in
    leaf_read self _ p (marked_kind leaf) next (state_at c.requires.here c.recall_forest.ensures)
    (marked_leaf options p leaf (subst (IsKind options p.rest) (ap kind_of c.in-Marked.is) c.requires.found.kind))
    (rw (sym rem) (record {
      source = e.source;
      front = e.front;
      more = e.more;
      begin_list_item = e.begin_list_item;
      block = e.block;
      later = e.later;
      boundary = e.boundary;
      fits = e.fits;
    }))
