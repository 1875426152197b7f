use Rattle.std.proofs.Common.{◌≡◌, ◌≤◌, ℕ, Option, Some, None, IfSome, IsCharBoundary, false, refl, sym, ap, ◌∙◌}
use Rattle.first_pass_grammar.proofs.Common.{none-some, AreNamed, HasWholeTables, IsForest}
use Rattle.first_pass.proofs.Common.{FootnoteDefinition, MayAddAt, top_begun, empty_item_closed, footnote_left, gap_marked, list_closed, footnote_keeps_order}
use Rattle.first_pass.proofs.Common.{more_whole, note_whole}
use Rattle.first_pass_items.specs.declared.item.CowIndex.{CowIndex}
use Rattle.first_pass_lists.specs.Closing.{footnote_begun}
use Rattle.first_pass_blocks.proofs.Common.{is_list, names_of, top_body, IsReadTo, PassState, StaysSame, allocs_of, state_of, source_text, tree_of}
use Rattle.first_pass_blocks.specs.declared.state.BlockPass.{BlockPass}
use Rattle.first_pass_blocks.specs.OpenedFootnotes.{ReadsFootnote}
use Rattle.first_pass_grammar.proofs.Names.MoreNames.{extends_named}
use Rattle.first_pass_lists.proofs.NoEmptyItem.{footnote_begun_none}
use Rattle.first_pass_blocks.proofs.FootnoteOpened.{IsRead, opened_named}
use Rattle.first_pass_blocks.proofs.LinkDefinitions.{found_by, none_by}
use Rattle.first_pass.proofs.state.FirstPass.parse_footnote.Goals as goal

-- no footnote definition begins there, and nothing changed
abbrev NoneRead : BlockPass → BlockPass → Option ℕ → Type 0
NoneRead old new size = (size ≡ None) × StaysSame old new

none_read : (old new : BlockPass) (start : ℕ) (size : Option ℕ) → ReadsFootnote old new start size → size ≡ None → StaysSame old new
none_read old new start None reads none = (none_by _ None (NoneRead old new None) (IsRead old new start) reads refl).1.1
none_read old new start (Some n) reads none = absurd (none-some n (sym none))

footnote_outside : (start : ℕ) (index : CowIndex) (r : PassState) → is_list (top_body (footnote_begun start index r).tree) ≡ false
unfolding footnote_begun
footnote_outside start index r =
    ap is_list (top_begun start (FootnoteDefinition index) (gap_marked (footnote_left start (list_closed start (empty_item_closed r)))))

-- a footnote definition is opened at an offset, or none begins there: each index names an entry if each did, and order is kept
named_by : (old new : BlockPass) (start : ℕ) (size : Option ℕ) → ReadsFootnote old new start size → AreNamed (names_of (allocs_of old)) (tree_of old).nodes
    → AreNamed (names_of (allocs_of new)) (tree_of new).nodes
named_by old new start None reads h =
    let same = (none_by _ None (NoneRead old new None) (IsRead old new start) reads refl).1.1 in rw (same.2, same.1) h
named_by old new start (Some n) reads h =
    opened_named (found_by _ (Some n) n (NoneRead old new (Some n)) (IsRead old new start) reads (λ none. none.0) refl).2.1 h

whole_by : (old new : BlockPass) (start : ℕ) (size : Option ℕ) → IsForest (tree_of old) → ReadsFootnote old new start size
    → AreNamed (names_of (allocs_of old)) (tree_of old).nodes → HasWholeTables (names_of (allocs_of old)) (tree_of old)
    → HasWholeTables (names_of (allocs_of new)) (tree_of new)
whole_by old new start None forest reads named h =
    let same = (none_by _ None (NoneRead old new None) (IsRead old new start) reads refl).1.1 in rw (same.2, same.1) h
whole_by old new start (Some n) forest reads named h =
    let opened = (found_by _ (Some n) n (NoneRead old new (Some n)) (IsRead old new start) reads (λ none. none.0) refl).2.1 in
    let more = extends_named (names_of (allocs_of old)) (names_of (allocs_of new)) opened.text opened.names in
    rw opened.opened (note_whole (names_of (allocs_of new)) start opened.index (state_of old) forest
    (more_whole (names_of (allocs_of new)) (names_of (allocs_of old)) (tree_of old) more named h))

may_add_by : (old new : BlockPass) (start : ℕ) (size : Option ℕ) → IsCharBoundary (source_text old) start → ReadsFootnote old new start size
    → IfSome size (λ n. (at : ℕ) → at ≤ start → IsReadTo (source_text old) (state_of old) at → MayAddAt (source_text old) (state_of new) start)
may_add_by old new start None boundary reads = tt
may_add_by old new start (Some n) boundary reads = λ at low o.
    let opened = (found_by _ (Some n) n (NoneRead old new (Some n)) (IsRead old new start) reads (λ none. none.0) refl).2.1 in
    record {
      read = footnote_keeps_order (source_text old) (state_of old) (state_of new) at start opened.index opened.opened low boundary.0 boundary
          (footnote_begun_none start opened.index (state_of old)) o;
      outside = ap (λ (r : PassState). is_list (top_body r.tree)) opened.opened ∙ footnote_outside start opened.index (state_of old);
    }

pub returns : goal.returns
returns c =
    let old : BlockPass = c.args.self.now.pass in
    let new : BlockPass = c.parse_footnote.new.self in
    let e = c.in_ok-size.ensures in
    record {
      source = e.source;
      footnote = record {
        braces = refl;
        named = named_by old new c.args.start c.in_ok-size.size e.head;
        whole = whole_by old new c.args.start c.in_ok-size.size c.recall_forest.ensures e.head;
        head = e.head;
        none = none_read old new c.args.start c.in_ok-size.size e.head;
        within = e.within;
        may_add = may_add_by old new c.args.start c.in_ok-size.size c.requires e.head;
      };
    }
