use Rattle.std.proofs.Common.{◌≡◌, ◌<◌, ◌≤◌, false, is_some, IsCharBoundary, ◌+◌, refl, ap, sym, subst, ◌∙◌, arith}
use Rattle.first_pass_grammar.proofs.Common.{Item, IndentCodeBlock, Forest, IsForest, blank_len, joins_none-fresh, document, range_text}
use Rattle.first_pass_leaves.proofs.Common.{path_of, has_quote_after, opened_block, names_of, AppendsRaw, after_line_at}
use Rattle.first_pass_names.proofs.NameLemmas.{extends_none, extends_both}
use Rattle.first_pass_leaves.proofs.IndentedLemmas.{ContinuesCode, place_line_end, next_end, first_at, first_is, so_far_first, so_far_next, kept_child}
use Rattle.first_pass_leaves.proofs.IndentedLemmas.{next_read, next_rest, next_quotes, code_open, code_added}
use Rattle.first_pass_leaves.proofs.ExtentLemmas.{first_read}
use Rattle.first_pass_leaves.proofs.indented_code.parse_indented_code_block.Goals as goal
use Rattle.first_pass_leaves.proofs.indented_code.parse_indented_code_block.Goals.{In_ok-next-2}

pub lines-init : goal.lines-init
lines-init c =
    let e = c.in_ok-next.ensures.«end» in
    let opened : Forest Item = opened_block c.args.tree.now c.args.start.now.at IndentCodeBlock in
    let line = subst (λ (f : Forest Item).
    AppendsRaw range_text c.args.source.now.text.now (names_of c.append_code_line.new.allocs) c.args.start.now.owed c.args.start.now.at c.in_ok-next.next f
    c.append_code_line.new.tree)
    c.in_ok-open_block.ensures.tree c.in_ok-next.ensures.line in
    record {
      boundary = (first_read c.args.source.now.text.now _ c.args.start.now.at c.in_ok-next.next c.append_code_line.ensures.utf8 c.requires.boundary refl e).1;
      from = omega arith;
      named = c.in_ok-next.ensures.more.names;
      same_entries = c.in_ok-next.ensures.more.entries;
      read = λ p at o. so_far_first (document c.args.source.now.text.now c.args.source.now.options (names_of c.append_code_line.new.allocs)) p opened
          c.args.start.now.at c.cur.result
          (record {
            new = c.append_code_line.new.tree;
            named = names_of c.append_code_line.new.allocs;
            owed = c.args.start.now.owed;
            from = c.args.start.now.at;
            to = c.in_ok-next.next;
            extends = extends_none (names_of c.append_code_line.new.allocs);
            line = line;
            owed_is = sym o;
            from_is = sym at.offset_is;
            to_is = e ∙ sym (place_line_end c.args.source.now.text.now c.args.start.now.at p at);
          })
          at c.requires.code (joins_none-fresh opened refl) c.cur.ensures;
    }

pub indented_line-requires-clause-quotes : goal.indented_line-requires-clause-quotes
indented_line-requires-clause-quotes c =
    let text = c.args.source.now.text.now in
    let opened : Forest Item = opened_block c.args.tree.now c.args.start.now.at IndentCodeBlock in
    let forest = subst (IsForest {T = Item}) c.in_ok-open_block.ensures.tree c.recall_forest-2.ensures in
    let first = c.lines.invariant.read (first_at text c.args.start.now.at c.args.start.now.owed)
    (first_is text c.args.start.now.at c.args.start.now.owed) refl in
    next_quotes _ _ _ _ _ _ _ _ first forest
    (subst (λ (f : Forest Item). has_quote_after c.args.source.now.options f c.nodes_to_quote-nodes_to_quote.result ≡ false) c.in_ok-open_block.ensures.tree
    (c.nodes_to_quote-nodes_to_quote.ensures c.args.source.now.options))

-- The next line continues the code.
continues : (c : In_ok-next-2) → ContinuesCode (document c.args.source.now.text.now c.args.source.now.options (names_of c.lines.allocs))
    (opened_block c.args.tree.now c.args.start.now.at IndentCodeBlock) c.lines.next c.in-Some.line_start
continues c =
    let text = c.args.source.now.text.now in
    let forest = subst (IsForest {T = Item}) c.in_ok-open_block.ensures.tree c.recall_forest-2.ensures in
    let first = c.lines.invariant.read (first_at text c.args.start.now.at c.args.start.now.owed)
    (first_is text c.args.start.now.at c.args.start.now.owed) refl in
    record {
      utf8 = c.append_code_line.ensures.utf8;
      boundary = c.lines.invariant.boundary;
      goes = sym (next_rest _ _ _ _ _ _ _ c.indented_line.result first forest c.indented_line.ensures.value) ∙ c.in-Some.is;
      place = c.in-Some.ensures.place;
    }

-- its end
line_ends : (c : In_ok-next-2) → (c.in_ok-next-2.next ≡ after_line_at c.args.source.now.text.now c.lines.next) × (c.lines.next < c.in_ok-next-2.next)
    × IsCharBoundary c.args.source.now.text.now c.in_ok-next-2.next
line_ends c =
    let goes = continues c in
    next_read c.args.source.now.text.now (path_of c.args.source.now.options (opened_block c.args.tree.now c.args.start.now.at IndentCodeBlock)) c.lines.next _
    c.in_ok-next-2.next c.in-Some.line_start goes.utf8 goes.boundary goes.goes goes.place c.bytes_scanned.ensures c.in_ok-next-2.ensures.«end»

pub lines-preserved : goal.lines-preserved
lines-preserved c =
    let i = c.lines.invariant in
    let text = c.args.source.now.text.now in
    let opened : Forest Item = opened_block c.args.tree.now c.args.start.now.at IndentCodeBlock in
    let goes = continues (goal.at.lines-preserved c).In_ok-next-2 in
    let read = line_ends (goal.at.lines-preserved c).In_ok-next-2 in
    let later : c.lines.next < c.in_ok-next-2.next = read.1 in
    let from : after_line_at text c.args.start.now.at ≤ c.lines.next = i.from in
    record {
      boundary = read.2;
      from = omega arith;
      named = extends_both _ _ _ c.in_ok-next-2.ensures.more.names i.named;
      same_entries = c.in_ok-next-2.ensures.more.entries ∙ i.same_entries;
      read = λ p at o. so_far_next (joins_none-fresh opened refl) (i.read p at o) goes
          (record {
            new = c.append_code_line-in-Some.new.tree;
            named = names_of c.append_code_line-in-Some.new.allocs;
            owed = c.remaining_space.result;
            from = c.lines.next + c.bytes_scanned.result;
            to = c.in_ok-next-2.next;
            extends = c.in_ok-next-2.ensures.more.names;
            line = c.in_ok-next-2.ensures.line;
            owed_is = c.remaining_space.ensures.value;
            from_is = ap (λ n. c.lines.next + n) c.bytes_scanned.ensures;
            to_is = read.0
                ∙ sym (next_end text (path_of c.args.source.now.options opened) c.lines.next c.in-Some.line_start goes.utf8 goes.boundary goes.goes);
          })
          c.is_some-blank.result c.kept_line-kept.result
          (c.is_some-blank.ensures ∙ ap is_some (c.scan_blank_line.ensures.value ∙ ap blank_len c.left.ensures)) c.kept_line-kept.ensures;
    }

pub lines-smaller : goal.lines-smaller
lines-smaller c = grind (arith, line_ends)

pub cut_after-requires : goal.cut_after-requires
cut_after-requires c =
    let text = c.args.source.now.text.now in
    kept_child c.args.tree.now c.args.start.now.at (c.lines.invariant.read (first_at text c.args.start.now.at c.args.start.now.owed)
    (first_is text c.args.start.now.at c.args.start.now.owed) refl)

pub close_block-requires : goal.close_block-requires
close_block-requires c =
    let text = c.args.source.now.text.now in
    code_open c.args.tree.now c.args.start.now.at (c.lines.invariant.read (first_at text c.args.start.now.at c.args.start.now.owed)
    (first_is text c.args.start.now.at c.args.start.now.owed) refl) c.cut_after.new.tree c.cut_after.ensures

pub returns-clause-block : goal.returns-clause-block
returns-clause-block c p at o =
    let forest = subst (IsForest {T = Item}) c.in_ok-open_block.ensures.tree c.recall_forest-2.ensures in
    let s = c.lines.invariant.read p at o in
    let stops = sym (next_rest _ _ _ _ _ _ _ c.indented_line.result s forest c.indented_line.ensures.value) ∙ c.in_default.is in
    code_added c.args.tree.now c.args.start.now.at s c.cut_after.new.tree c.cut_after.ensures c.close_block.new.tree c.recall_forest.ensures at.offset_is
    c.lines.invariant.boundary.0 stops c.close_block.ensures.tree
