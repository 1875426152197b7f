-- A state at a place of a text, and order at each step of reading a line: the line is entered, containers are opened, and
-- a block follows them.
use Rattle.std.proofs.Common.{◌≡◌, inl, inr, ℕ, ◌+◌, ◌<◌, ◌≤◌, Bool, true, false, List, length, drop, Some, None, IsUtf8, IsCharBoundary, refl, sym, ap, subst}
use Rattle.std.proofs.Common.{◌∙◌, arith, if◌then◌else◌, is_some, ◌⊎◌, [], ◌∷◌, Option, length-append, option_map}
use Rattle.first_pass_grammar.proofs.Common.{cases_lt, Item, Forest, IsForest, added, at_depth, line_len, blank_len, Rest, indent, after_columns, past_quote}
use Rattle.first_pass_grammar.proofs.Common.{place_at, line_rest, offset, line_end, line_place, Place, IsPlaceOf, line_len-within, lines_at-line, line_is_place}
use Rattle.first_pass_grammar.proofs.Common.{place_length, columns_keep, columns_shorter, after, in_old_footnote, prefix, is_blank_rest, all_taken, unindented}
use Rattle.first_pass_grammar.proofs.Common.{Options, Document, document, lines_from, Names, HasWholeTables, BlockQuoteKind, ItemBody, CowIndex, task_of}
use Rattle.first_pass_grammar.proofs.Common.{task_by, task_after, after_task, node_of, IsOrderedTo}
use Rattle.first_pass_containers.proofs.Common.{path_in, path_of, outer, PassState, Container, get_front, AddsBetween, MarkerBetween, finished_none}
use Rattle.first_pass_containers.proofs.Common.{list_finished_none, list_continued_none, item_opened, Source, BlockQuote, ready_blank_line, quote_less}
use Rattle.first_pass_containers.proofs.Common.{IsOrderedAtBlankLine, AreNested, IsReadTo, IsReadFrom, reached, CanClose, IsOrderedAt, outer-all, title_later}
use Rattle.first_pass_containers.proofs.Common.{after_keeps, line_start_end, all_keep, task_keeps, option_on, with_child, popped_named, KeepsState, OrderedUpTo}
use Rattle.first_pass_containers.proofs.Common.{LineAt, ReadsTo, line_or, OrderedIn, OrderedOn, ends_here, open_are_in, path_in-append}
use Rattle.first_pass_lists.specs.Closing.{top_body, is_list, list_closed, empty_item_closed, gap_tree, list_finished, blank_read, popped, state_with, is_item}
use Rattle.first_pass_lists.specs.Closing.{may_begin_definition, empty_item_closed_by, begun, list_continued, definition_begun, footnote_begun}
use Rattle.first_pass_order.proofs.Nests.{tree_closes, list_continued_settled, list_finished_outside, footnote_begun_settled, begun_settled, begun_outside}
use Rattle.first_pass_order.proofs.Nests.{child_outside, added_outside, settled_closes, outside_closes}
use Rattle.first_pass_order.proofs.OrderLemmas.{ordered_none, ordered_later, ordered_appended, ordered_added, ordered_begun}
use Rattle.first_pass_order.proofs.PopOrder.{read_blank_read, read_empty_item_closed, read_popped, ordered_list_finished, ordered_list_continued, ordered_note}
use Rattle.first_pass_ready.specs.State.{Ready}
use Rattle.first_pass_order.proofs.CountLemmas.{count, popped_count}
use Rattle.first_pass_order.proofs.FootnotesKept.{popped_notes}
use Rattle.first_pass_items.specs.declared.item.ItemBody.TheVariants.{BlockQuote as BlockQuoteBody, ListItem as ListItemBody}
use Rattle.first_pass_containers.specs.Starts.{after_at}
use Rattle.first_pass_ready.proofs.BegunLemmas.{with_open, top_opened}
use Rattle.first_pass_order.proofs.DefinitionBegun.{ordered_definition}

-- A state is at a place of a text, and no item is empty.
pub record IsStateAtPlace (text : List ℕ) (r : PassState) (p : Place) : Type 0 where
  pub utf8 : IsUtf8 text
  pub place : IsPlaceOf text p
  pub forest : IsForest r.tree
  pub none : r.begin_list_item ≡ None

-- the shorter the rest, the later the place
pub offset_later : (text : List ℕ) (line : ℕ) (r s : Rest)
    → IsPlaceOf text (place_at line r) → IsPlaceOf text (place_at line s) → length s.left ≤ length r.left → offset (place_at line r) ≤ offset (place_at line s)
offset_later text line r s i j less =
    let a = place_length text (place_at line r) i in
    let b = place_length text (place_at line s) j in
    omega arith

-- order and closing in order up to an offset hold up to a later one
pub upto_later : (text : List ℕ) (f : Forest Item) (a b : ℕ) → a ≤ b → b ≤ length text → OrderedUpTo text f a → OrderedUpTo text f b
upto_later text f a b low high (o, c) =
    (ordered_later text f a b low high o, record { nested = c.nested; last = c.last; title = title_later text f a b low c.title })

-- not after the place
pub line_or-below : (f : Forest Item) (line at : ℕ) → line ≤ at → line_or f line at ≤ at
line_or-below f line at h = grind arith

-- order up to the start of a line is order at a place in it; the line begins at a character boundary
pub ordered_at_place : (text : List ℕ) (f : Forest Item) (start : ℕ) (p : Place) → p.line ≡ start → IsCharBoundary text start → IsPlaceOf text p
    → OrderedUpTo text f start → OrderedIn text f p
ordered_at_place text f start p line boundary i o =
    let within = i.within in
    let high = line_or-below f p.line (offset p) (omega arith) in
    let low : p.line ≤ line_or f p.line (offset p) = grind arith in
    (subst (IsCharBoundary text) (sym line) boundary, upto_later text f start (line_or f p.line (offset p)) (omega arith) (omega arith) o)

-- an offset after the start of a line that is before the end of the text
pub line_later : (text : List ℕ) (start far next : ℕ)
    → start < length text → far ≡ start + line_len (drop start text) → far ≤ next → IsCharBoundary text next → (start < next) × (next ≤ length text)
line_later text start far next within ends later boundary = grind (arith, line_len-within)

line_or-list : (f : Forest Item) (line at : ℕ) → is_list (top_body f) ≡ true → line_or f line at ≤ line
line_or-list f line at h = (let e : line_or f line at ≡ line = rw h refl in omega arith)

-- order further on if no list is innermost
pub ordered_on : (text : List ℕ) (f : Forest Item) (line a at : ℕ)
    → is_list (top_body f) ≡ false → a ≤ at → at ≤ length text → OrderedUpTo text f a → OrderedUpTo text f (line_or f line at)
ordered_on text f line a at none low high o = rw none (upto_later text f a at low high o)

-- the state is in order if no item is empty
pub ordered_tree : (text : List ℕ) (r : PassState) (at : ℕ) → r.begin_list_item ≡ None → IsOrderedAt text r at → IsOrderedTo text r.tree at
ordered_tree text r at none o = subst (IsOrderedTo text r.tree) (ap (λ z. reached z at) none) o.ordered

-- the innermost open node after one is opened
pub top_begun : (start : ℕ) (body : ItemBody) (r : PassState) → top_body (begun start body r).tree ≡ Some body
top_begun start body r = top_opened r.tree (node_of start 0 body)

-- the same with a task list item marker in that node
pub marked_open : (g : Forest Item) (x : Item) (marker : Option Item) → top_body (with_child (with_open g x) marker) ≡ Some x.body
marked_open g x None = top_opened g x
marked_open g x (Some y) =
    let f : Forest Item = with_open g x in
    let within : length g.nodes < length f.nodes = omega (arith, length-append g.nodes ((length g.spine + 1, x) ∷ [])) in
    ap (option_map (λ (n : ℕ × Item). n.1.body)) (get_front f.nodes ((length f.spine + 1, y) ∷ []) (length g.nodes) within) ∙ top_opened g x

-- an item is opened at a place in a line
pub ordered_item : (text : List ℕ) (r : PassState) (line start byte number columns : ℕ)
    → line ≤ start → start ≤ length text → IsCharBoundary text start → r.begin_list_item ≡ None
    → OrderedUpTo text r.tree (line_or r.tree line start) → OrderedUpTo text (item_opened start byte number columns r).tree start
ordered_item text r line start byte number columns low high boundary none (o, c) =
    let at : ℕ = line_or r.tree line start in
    let below : at ≤ start = line_or-below r.tree line start low in
    let before = ordered_none text r at none (omega arith) o in
    let list : PassState = list_continued start byte number r in
    let on = ordered_list_continued text r at start byte number c.title below high boundary before in (
      ordered_begun text list start start (ListItemBody columns) (omega arith) high boundary
          (ordered_tree text list start (list_continued_none start byte number r) on),
      settled_closes text (begun start (ListItemBody columns) list) start
          (begun_settled start (ListItemBody columns) list refl (λ list. refl) (list_continued_settled start byte number r c.nested).nested),
    )

-- a definition is opened at a place in a line
pub ordered_definition_in : (text : List ℕ) (r : PassState) (line start columns : ℕ) → IsForest r.tree → may_begin_definition r.tree ≡ true
    → line ≤ start → start ≤ length text → IsCharBoundary text start
    → OrderedUpTo text r.tree (line_or r.tree line start) → OrderedUpTo text (definition_begun start columns r).tree start
ordered_definition_in text r line start columns forest takes low high boundary (o, c) =
    let d = ordered_definition text r (line_or r.tree line start) start columns forest takes (line_or-below r.tree line start low) high boundary o c.nested in
    (d.0, settled_closes text (definition_begun start columns r) start d.1)

-- A new block starts at an offset, after a place in its line up to which a state is in order. An innermost list ends at
-- the start of the line or at the block's first byte. No item is empty.
pub record NewBlock (text : List ℕ) (r : PassState) (line at e start : ℕ) : Type 0 where
  pub low : line ≤ at
  pub later : at ≤ start
  pub ends : (e ≡ line) × IsCharBoundary text line ⊎ (e ≡ start)
  pub boundary : IsCharBoundary text start
  pub none : r.begin_list_item ≡ None
  pub order : OrderedUpTo text r.tree (line_or r.tree line at)

-- the start of a new block is in order, after what it ends
pub ordered_finished : (text : List ℕ) (r : PassState) (line at e start : ℕ) → NewBlock text r line at e start → IsReadTo text (list_finished e r) start
unfolding empty_item_closed
ordered_finished text r line at e start b =
    let low = b.low in
    let mid = b.later in
    let high = b.boundary.0 in
    let c = b.order.1 in
    let a : ℕ = line_or r.tree line at in
    let below : a ≤ at = line_or-below r.tree line at low in
    let before = ordered_none text r a b.none (omega arith) b.order.0 in
    let same : empty_item_closed_by r r.begin_list_item ≡ r = ap (empty_item_closed_by r) b.none in
    let on : IsOrderedAt text (list_finished e r) start = elim b.ends [
      | inl (is, first) ↦
          rw is (ordered_list_finished text r a line start c.title (omega arith) (omega arith) high first
          (λ h. line_or-list r.tree line at (sym (ap (λ (q : PassState). is_list (top_body q.tree)) same) ∙ h)) before)
      | inr is ↦
          rw is (ordered_list_finished text r a start start c.title (omega arith) (omega arith) high b.boundary (λ h. omega arith) before)
    ] in
    (on, outside_closes text (list_finished e r) start (list_finished_outside e r c.nested))

-- a block quote is opened at a place in a line
pub ordered_quote : (text : List ℕ) (r : PassState) (line at start : ℕ) (kind : Option BlockQuoteKind) → NewBlock text r line at line start
    → OrderedUpTo text (begun start (BlockQuoteBody kind) (list_finished line r)).tree start
ordered_quote text r line at start kind b =
    let q : PassState = list_finished line r in (
      ordered_begun text q start start (BlockQuoteBody kind) (omega arith) b.boundary.0 b.boundary
          (ordered_tree text q start (list_finished_none line r) (ordered_finished text r line at line start b).0),
      settled_closes text (begun start (BlockQuoteBody kind) q) start
          (begun_outside start (BlockQuoteBody kind) q refl (list_finished_outside line r b.order.1.nested)),
    )

-- a footnote definition is opened at a place in a line
pub ordered_note_in : (text : List ℕ) (r : PassState) (at start : ℕ) (index : CowIndex) → at ≤ start → start ≤ length text
    → IsCharBoundary text start → r.begin_list_item ≡ None → OrderedUpTo text r.tree at → OrderedUpTo text (footnote_begun start index r).tree start
ordered_note_in text r at start index low high boundary none (o, c) = (
  ordered_note text r at start index c.title low high boundary (ordered_none text r at none (omega arith) o),
  settled_closes text (footnote_begun start index r) start (footnote_begun_settled start index r c.nested),
)

-- a task list item marker, if there is one, is after an item's own
mark_by : (text : List ℕ) (line : ℕ) (r : Rest) (o : Option (Bool × Rest)) (from : ℕ) → IsUtf8 text
    → ((task : Bool × Rest) → o ≡ Some task → task_of r ≡ Some task) → IsPlaceOf text (place_at line r) → from ≤ offset (place_at line r)
    → MarkerBetween text from (offset (place_at line (task_by line r o).1)) (task_by line r o).0
mark_by text line r None from u h i low = low
mark_by text line r (Some task) from u h i low =
    let k = task_keeps text line r task u (h task refl) i in
    let order = offset_later text line r task.1 i k.0 k.2 in
    (refl, record { following = low; order = order; before = omega arith; starts = i.boundary; ends = k.0.boundary })

pub mark_stands : (text : List ℕ) (options : Options) (line : ℕ) (r : Rest) (from : ℕ) → IsUtf8 text → IsPlaceOf text (place_at line r)
    → from ≤ offset (place_at line r) → MarkerBetween text from (offset (place_at line (task_after options line r).1)) (task_after options line r).0
mark_stands text options line r from u i low = grind (arith, mark_by, option_on)

-- a marker that is between two offsets is between any before and after them
pub stands_between : (text : List ℕ) (a b c e : ℕ) (marker : Option Item) → a ≤ b → c ≤ e → MarkerBetween text b c marker → MarkerBetween text a e marker
stands_between text a b c e None low high h = let t : b ≤ c = h in let wider : a ≤ e = omega arith in wider
stands_between text a b c e (Some x) low high h = grind arith

-- an item with something after its markers
pub ordered_container : (options : Options) (text : List ℕ) (q : PassState) (start e : ℕ) (p : Place) (marker : Option Item)
    → is_list (top_body q.tree) ≡ false → offset p ≤ length text → IsCharBoundary text p.line → OrderedUpTo text q.tree start
    → MarkerBetween text start (offset p) marker → OrderedOn options text q (after_at p e (after_task marker))
ordered_container options text q start e p None none high boundary o stands =
    (boundary, ordered_on text q.tree p.line start (offset p) none stands high o)
ordered_container options text q start e p (Some x) none high boundary (o, c) stands = grind arith

marked_by : (text : List ℕ) (f : Forest Item) (start next : ℕ) (marker : Option Item) → next ≤ length text → IsOrderedTo text f start
    → MarkerBetween text start next marker → IsOrderedTo text (with_child f marker) next
marked_by text f start next None high o stands = ordered_later text f start next stands high o
marked_by text f start next (Some x) high o stands = ordered_appended text f start next x stands.1 high o

item_no_list : (body : ItemBody) → is_item (Some body) ≡ true → is_list (Some body) ≡ false
item_no_list body item = grind (arith, item)

-- an item or a definition with nothing after its markers
pub ordered_empty_item : (text : List ℕ) (start next : ℕ) (body : ItemBody) (r : PassState) (marker : Option Item) (blank : Bool)
    → is_item (Some body) ≡ true → IsCharBoundary text next → OrderedUpTo text (begun start body r).tree start → MarkerBetween text start next marker
    → IsReadTo text (state_with (with_child (begun start body r).tree marker) (Some next) blank) next
ordered_empty_item text start next body r marker blank item boundary (o, c) stands =
    let f : Forest Item = (begun start body r).tree in
    let outside = child_outside f marker c.nested (ap is_list (top_begun start body r) ∙ item_no_list body item) in (
      record {
        ordered = marked_by text f start next marker boundary.0 o stands;
        later = omega arith;
        within = boundary.0;
        innermost = λ e is. (
          ap is_item (marked_open r.tree (node_of start 0 body) marker) ∙ item,
          let same : next ≡ e = cc in subst (IsCharBoundary text) same boundary,
        );
      },
      tree_closes text (with_child f marker) next outside.0 outside.1,
    )

-- a block is added
pub ordered_block : (text : List ℕ) (old : Forest Item) (r : PassState) (from next : ℕ)
    → AddsBetween text from next old r.tree → next ≤ length text → r.begin_list_item ≡ None → IsOrderedTo text old from → IsOrderedAt text r next
ordered_block text old r from next a high none o = grind (arith, ordered_none, ordered_added)

-- the same if the innermost open node is no list
pub read_block : (text : List ℕ) (old : Forest Item) (r : PassState) (from next : ℕ) → AreNested old.nodes old.spine → is_list (top_body old) ≡ false
    → AddsBetween text from next old r.tree → next ≤ length text → r.begin_list_item ≡ None → IsOrderedTo text old from → IsReadTo text r next
read_block text old r from next nested plain a high none o =
    let outside = added_outside old a.items nested plain in (
      ordered_block text old r from next a high none o,
      subst (λ f. CanClose text f next) (sym a.tree_is) (tree_closes text (added old a.items) next outside.0 outside.1),
    )

-- a block is added to a state in order: an item that it is added to is not empty after that
pub block_ordered : (text : List ℕ) (old new : PassState) (at start next : ℕ) → IsOrderedAt text old at → at ≤ start
    → ((from : ℕ) → from ≤ start → AddsBetween text from next old.tree new.tree) → next ≤ length text → new.begin_list_item ≡ None → IsOrderedAt text new next
block_ordered text old new at start next o low fits within none =
    let before = o.later in
    let e : ℕ = reached old.begin_list_item at in
    let low' : e ≤ at = before in
    ordered_block text old.tree new e next (fits e (omega arith)) within none o.ordered

-- the same for a paragraph, after a task list item marker or not
pub text_ordered : (text : List ℕ) (old new : PassState) (at start next : ℕ) (marker : Option Item) → IsOrderedAt text old at
    → MarkerBetween text at start marker
    → ((from : ℕ) → MarkerBetween text from start marker → AddsBetween text from next old.tree new.tree) → next ≤ length text → new.begin_list_item ≡ None
    → IsOrderedAt text new next
text_ordered text old new at start next marker o stands fits within none =
    let e : ℕ = reached old.begin_list_item at in
    ordered_block text old.tree new e next (fits e (stands_between text e at start start marker o.later (omega arith) stands)) within none o.ordered

-- the start of a block quote is between the place where it begins and the place inside it
pub quote_stands : (text : List ℕ) (line at : ℕ) (r s : Rest)
    → IsUtf8 text → prefix (BlockQuote None) r ≡ Some s → IsPlaceOf text (place_at line r) → IsPlaceOf text (place_at line s) → at ≡ (after_columns 3 r).taken
    → (offset (place_at line r) ≤ line + at) × (line + at ≤ offset (place_at line s)) × IsCharBoundary text (line + at)
unfolding prefix
quote_stands text line at r s u is i j at_is =
    let q : Rest = after_columns 3 r in
    let k = columns_keep text 3 (place_at line r) u i in
    let a = offset_later text line r q i k (columns_shorter 3 r) in
    let less = quote_less q s (past_quote q) refl is in
    let b = offset_later text line q s k j (omega arith) in
    (omega arith, omega arith, subst (λ n. IsCharBoundary text (line + n)) (sym at_is) k.boundary)

-- a place is not after the end of its line
pub place_before_end : (p : Place) → offset p ≤ line_end p
place_before_end p = omega arith

-- a leaf block is added at its place
pub ordered_leaf : (text : List ℕ) (r new : PassState) (line at e start next : ℕ) → NewBlock text r line at e start
    → AddsBetween text start next (list_finished e r).tree new.tree → next ≤ length text → new.begin_list_item ≡ None → IsReadTo text new next
ordered_leaf text r new line at e start next b adds fits none =
    let q : PassState = list_finished e r in
    let outside = list_finished_outside e r b.order.1.nested in
    read_block text q.tree new start next outside.0 outside.1 adds fits none
    (ordered_tree text q start (list_finished_none e r) (ordered_finished text r line at e start b).0)

-- the place after the indentation at another
pub unindented_later : (text : List ℕ) (line : ℕ) (r : Rest)
    → IsUtf8 text → IsPlaceOf text (place_at line r) → offset (place_at line r) ≤ offset (unindented (place_at line r))
unindented_later text line r u i = offset_later text line r (all_taken r) i (all_keep text line r u i) (columns_shorter (indent r) r)

-- ---- a line that is entered

-- an added block changes no path
pub path_added : (options : Options) (f : Forest Item) (items : List (ℕ × Item)) → IsForest f → path_of options (added f items) ≡ path_of options f
path_added options f items forest = path_in-append options f.nodes (at_depth (length f.spine + 1) items) f.spine (open_are_in f.nodes f.spine forest.opened)

-- a counting blank line that is noted in the tree no longer counts; an empty item stays one
pub noted : (r : PassState) (f : Forest Item) (t : Bool) → r.blank ≡ t
    → (let q : PassState = if t then record r { tree = f; blank = false } else r in (q.blank ≡ false) × (q.begin_list_item ≡ r.begin_list_item))
noted r f true is = (refl, refl)
noted r f false is = (is, refl)

pub list_finished_blank : (at : ℕ) (r : PassState) → (list_finished at r).blank ≡ false
unfolding list_finished
list_finished_blank at r = let q : PassState = list_closed at (empty_item_closed r) in (noted q (gap_tree q.tree q.tree.spine) q.blank refl).0

-- what is kept if no node is closed, if nodes are closed after others, and if one is
pub state_kept : (r : PassState) (e : ℕ) → KeepsState r r e
state_kept r e =
    record { order = λ text within boundary h. h; count = omega arith; named = λ names h. h; footnotes = refl; tables = λ names h. h }

pub kept_both : (a b c : PassState) (e : ℕ) → KeepsState a b e → KeepsState b c e → KeepsState a c e
kept_both a b c e one two = record {
  order = λ text within boundary h. two.order text within boundary (one.order text within boundary h);
  count = (let first = one.count in let more = two.count in omega arith);
  named = λ names h. two.named names (one.named names h);
  footnotes = two.footnotes ∙ one.footnotes;
  tables = λ names h. two.tables names (one.tables names h);
}

pub popped_kept : (e : ℕ) (r : PassState) → ((names : Names) → HasWholeTables names r.tree → HasWholeTables names (popped e r).tree)
    → KeepsState r (popped e r) e
popped_kept e r tables = record {
  order = λ text within boundary h. read_popped text r e e (omega arith) within boundary h;
  count = popped_count e (count r) r (omega arith);
  named = λ names h. popped_named names e r h;
  footnotes = popped_notes e r;
  tables = tables;
}

-- A blank line at which an HTML block ended continues all open containers, and its rest is blank.
pub entered_whole : (options : Options) (text : List ℕ) (r : PassState) (at kept : ℕ) (line left : Rest)
    → line ≡ line_rest (drop at text) → kept ≤ length r.tree.spine → after (path_in options r.tree.nodes (outer kept r.tree.spine)) line ≡ Some left
    → ((m : ℕ) → kept < m → m ≤ length r.tree.spine → after (path_in options r.tree.nodes (outer m r.tree.spine)) line ≡ None)
    → IsOrderedAtBlankLine options text r at
    → (kept ≡ length r.tree.spine) × (is_blank_rest left ≡ true)
entered_whole options text r at kept line left is within took stops h = grind (arith, outer-all, cases_lt)

-- After such a blank line is read, the state is in order up to its end.
blank_line_read : (options : Options) (text : List ℕ) (r : PassState) (at : ℕ)
    → IsUtf8 text → IsCharBoundary text at → IsOrderedAtBlankLine options text r at → AreNested r.tree.nodes r.tree.spine → is_list (top_body r.tree) ≡ false
    → IsReadTo text (blank_read r) (at + line_len (drop at text))
blank_line_read options text r at u b h nested plain =
    let k = after_keeps text at (path_of options r.tree) (line_rest (drop at text)) h.rest u h.taken (line_is_place text at b) in
    let ends : line_end (place_at at h.rest) ≡ at + line_len (drop at text) = k.1 ∙ line_start_end text at in
    let before = place_before_end (place_at at h.rest) in
    let within = (line_len-within text at h.within).1 in
    read_blank_read text r (offset (place_at at h.rest)) (at + line_len (drop at text)) (omega arith) within
    (ordered_none text r (offset (place_at at h.rest)) h.none (omega arith) h.ordered, tree_closes text r.tree (offset (place_at at h.rest)) nested plain)

-- A line is entered after the containers that it does not continue were closed. If it is blank, it is read.
pub ordered_blank_line : (options : Options) (text : List ℕ) (old closed : PassState) (at : ℕ) → IsUtf8 text → at < length text → IsCharBoundary text at
    → (IsReadTo text old at → IsReadTo text closed at)
    → (IsOrderedAtBlankLine options text old at → (in_old_footnote (path_of options old.tree) ≡ true → old.blank ≡ false) → closed ≡ old)
    → IsReadFrom options text old at → IsReadTo text (blank_read closed) (at + line_len (drop at text))
ordered_blank_line options text old closed at u w b closes same (inl o) =
    let n = line_len-within text at w in
    read_blank_read text closed at (at + line_len (drop at text)) (omega arith) n.1 (closes o)
ordered_blank_line options text old closed at u w b closes same (inr (h, nested, plain, uncounted)) =
    subst (λ r. IsReadTo text (blank_read r) (at + line_len (drop at text))) (sym (same h uncounted)) (blank_line_read options text old at u b h nested plain)

-- Before any other line, at which no block has ended in this way, an empty item that blank lines ended is closed.
pub ordered_other_line : (options : Options) (text : List ℕ) (old closed : PassState) (at : ℕ) → (IsReadTo text old at → IsReadTo text closed at)
    → (IsOrderedAtBlankLine options text old at → ⊥) → IsReadFrom options text old at → OrderedUpTo text (empty_item_closed closed).tree at
ordered_other_line options text old closed at closes none (inl o) =
    let read = read_empty_item_closed text closed at (closes o) in
    (ordered_tree text (empty_item_closed closed) at (finished_none closed) read.0, read.1)
ordered_other_line options text old closed at closes none (inr h) = absurd (none h.0)

-- the line at an offset is blank after the prefixes of a path
pub record IsBlankAt (text : List ℕ) (path : List Container) (at : ℕ) : Type 0 where
  pub rest : Rest
  pub taken : after path (line_rest (drop at text)) ≡ Some rest
  pub blank : is_some (blank_len rest.left) ≡ true

-- one more line
pub one_read : (source : Source) (start at : ℕ) (r : PassState) → IsUtf8 source.text.now → blank_read r ≡ r
    → ends_here source.options r.tree r.blank ≡ false → at < length source.text.now → IsCharBoundary source.text.now at
    → IsBlankAt source.text.now (path_of source.options r.tree) at → ReadsTo source start r r (LineAt start) (LineAt at)
    → ReadsTo source start r r (LineAt start) (LineAt (at + line_len (drop at source.text.now)))
one_read source start at r u kept stays within boundary line s =
    let text = source.text.now in
    let options = source.options in
    let next = at + line_len (drop at text) in
    record {
      ready = λ names defined ready.
          let d : Document = document text options names in
          subst (λ (q : PassState). Ready d defined q (lines_from text next)) kept
          (ready_blank_line d defined r (line_place at (drop at text)) (lines_from text next) line.rest line.taken stays line.blank
          (subst (Ready d defined r) (lines_at-line text at within) (s.ready names defined ready)));
      order = λ ordered. inl (subst (λ (q : PassState). IsReadTo text q next) kept
          (ordered_blank_line options text r r at u within boundary (λ o. o) (λ h uncounted. refl) (s.order ordered)));
      node_bound = λ first grows. let g = s.node_bound first grows in omega arith;
      named = λ names h. h;
      footnotes = refl;
      tables = λ names h. h;
    }
