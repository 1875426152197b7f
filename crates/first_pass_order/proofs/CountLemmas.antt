-- The number of counted nodes: closing nodes and noting blank lines adds none, and opening a container adds one
-- or two, with a byte for each.
use Rattle.std.proofs.Common.{◌≡◌, ℕ, zero, suc, ◌+◌, ◌<◌, ◌≤◌, Bool, false, if◌then◌else◌, List, [], ◌∷◌, ◌++◌, length, map, take, drop, Option, Some, None}
use Rattle.std.proofs.Common.{is_some, refl, ap, ◌∙◌, arith}
use Rattle.first_pass_grammar.proofs.Common.{cases_Bool, Options, Item, ItemBody, Paragraph, TreeIndex, Forest, body_at, map_from, deeper, shallower, with_end}
use Rattle.first_pass_grammar.proofs.Common.{body_of, blank_len, task_of, Rest, Place, place_at, offset, line_end, IsPlaceOf, line_len-some, place_length, Kind}
use Rattle.first_pass_grammar.proofs.Common.{Blank, first_kind, IsKind, task_by, task_after, is_cell, is_row, is_inserted_after, own, counted_nodes, GrowsBy}
use Rattle.first_pass_grammar.proofs.Common.{CowIndex}
use Rattle.first_pass_order.proofs.Common.{PassState, with_child, begun_item, item_opened, option_on, task_shorter, AddsBetween}
use Rattle.first_pass_grammar.specs.Counting.{last_cell}
use Rattle.first_pass_grammar.proofs.Count.CountedNodes.{alike_first, own_first, own_ended, own_changed, own_one, own_added}
use Rattle.first_pass_lists.specs.Closing.{popped_at, popped, empty_item_closed, list_finished, begun, blank_read, footnote_begun, current_body, current_moved}
use Rattle.first_pass_lists.specs.Closing.{definitions_closed, definitions_left, title_begun, definitions_opened, definition_begun}
use Rattle.first_pass_order.proofs.AlikeNodes.{AreAlike, NoNodes, OneMore, titled, opened_both, current_like, like_blank}
use Rattle.first_pass_order.proofs.PropertyKept.{Property, HoldsAt, HoldsBefore, popped_at_keeps, popped_keeps, empty_item_closed_keeps, noted_keeps}
use Rattle.first_pass_order.proofs.PropertyKept.{list_finished_keeps, quote_keeps, item_keeps, note_keeps, definition_keeps}

-- the number of counted nodes in the state
abbrev pub count : PassState → ℕ
count r = counted_nodes r.tree.nodes

-- nodes at other depths count the same
pub own_from : (g : ℕ × Item → ℕ × Item) → ((n : ℕ × Item) → (g n).1 ≡ n.1) → (place : ℕ) (cell : Option ℕ) (nodes : List (ℕ × Item))
    → own cell (map_from g place nodes) ≡ own cell nodes
own_from g same zero cell [] = refl
own_from g same zero cell (n ∷ nodes) =
    alike_first cell n.0 (g n).0 n.1 (g n).1 nodes (map g nodes)
    (record { start = ap (λ x. x.start) (same n); cell = ap (λ x. is_cell x.body) (same n); row = ap (λ x. is_row x.body) (same n) })
    (λ after. own_from g same zero after nodes)
own_from g same (suc place) cell [] = refl
own_from g same (suc place) cell (n ∷ nodes) = own_first cell n nodes (map_from g place nodes) (λ after. own_from g same place after nodes)

pub own_alike : (cell : Option ℕ) (old new : List (ℕ × Item)) → AreAlike old new → own cell new ≡ own cell old
own_alike cell old new NoNodes = refl
own_alike cell old new (OneMore n m xs ys a h) =
    alike_first cell n.0 m.0 n.1 m.1 xs ys (record { start = a.start; cell = ap (λ t. t.1) a.body.0; row = ap (λ t. t.0) a.body.0 })
    (λ after. own_alike after xs ys h)

-- at most this many, and one more for each node that is opened
abbrev pub count_kept : Property
count_kept = record {
  Holds = λ a k f. counted_nodes f.nodes ≤ k;
  Goes = λ a b. Unit {0};
  Bounds = λ e. Unit {0};
  MovesOut = λ a e f c. Unit {0};
  Opens = λ b. Unit {0};
  more = λ a k f h. omega arith;
  later = λ a b k f goes h. h;
  like = λ a k f g l h. (let same = own_alike None f.nodes g.nodes l.nodes in omega arith);
  closed = λ a e k f ix rest spine goes ends h. (let same = own_ended f.nodes ix.0 e in omega arith);
  left = λ a e k f g c l leaves h.
      let same = ap counted_nodes l.nodes ∙ own_from shallower (λ n. refl) c.0 None l.mid ∙ own_alike None _ l.mid l.alike ∙ own_ended f.nodes l.list.0 e in
      omega arith;
  opened = λ a start k f body goes ends opens h. (let one = own_one None f.nodes (length f.spine + 1, begun_item start body) in omega arith);
}

counted : (r : PassState) → HoldsAt count_kept 0 (count r) r
counted r = record { holds = (let same : count r ≤ count r = omega arith in same); goes = tt; marked = λ e is. (tt, tt) }

counted_before : (r : PassState) → HoldsBefore count_kept 0 (count r) r
counted_before r = record { held = counted r; leaves = λ t is. tt }

pub popped_count : (e most : ℕ) (r : PassState) → count r ≤ most → count (popped e r) ≤ most
popped_count e most r h = popped_keeps count_kept 0 e most r (λ t is. tt) tt tt h

pub empty_item_closed_count : (r : PassState) → count (empty_item_closed r) ≤ count r
empty_item_closed_count r = empty_item_closed_keeps count_kept 0 (count r) r (counted r)

pub list_finished_count : (e : ℕ) (r : PassState) → count (list_finished e r) ≤ count r
list_finished_count e r = list_finished_keeps count_kept 0 e 0 (count r) r (counted_before r) ((λ list. tt), tt, tt, tt)

pub blank_count : (r : PassState) → count (blank_read r) ≤ count r
blank_count r = count_kept.like 0 (count r) r.tree (blank_read r).tree (like_blank r) (omega arith)

pub item_count : (start byte number columns : ℕ) (r : PassState) → count (item_opened start byte number columns r) ≤ count r + 2
item_count start byte number columns r =
    omega (arith, item_keeps count_kept 0 start byte number columns (count r) r (counted_before r) (tt, tt, tt, tt) tt tt)

pub quote_count : (line start : ℕ) (body : ItemBody) (r : PassState) → count (begun start body (list_finished line r)) ≤ count r + 1
quote_count line start body r =
    omega (arith, quote_keeps count_kept 0 line 0 start (count r) body r (counted_before r) ((λ list. tt), tt, tt, tt) tt tt tt)

pub note_count : (start : ℕ) (index : CowIndex) (r : PassState) → count (footnote_begun start index r) ≤ count r + 1
note_count start index r = omega (arith, note_keeps count_kept 0 start (count r) index r (counted_before r) tt tt tt tt)

-- ending a definition list before a heading or a table adds none
closed_count : (e : ℕ) (r : PassState) (o : Option TreeIndex) → count (current_moved (popped_at e r r.tree.spine) o) ≤ count r
closed_count e r None = popped_at_keeps count_kept 0 e (count r) r r.tree.spine refl tt tt (omega arith)
closed_count e r (Some c) =
    let same = own_from shallower (λ n. refl) c.0 None (popped_at e r r.tree.spine).tree.nodes in
    let h : count (popped_at e r r.tree.spine) ≤ count r = popped_at_keeps count_kept 0 e (count r) r r.tree.spine refl tt tt (omega arith) in
    omega arith

pub definitions_left_count : (e : ℕ) (r : PassState) → count (definitions_left e r) ≤ count r
unfolding definitions_left definitions_closed
definitions_left_count e r = noted_keeps count_kept 0 (count r) (definitions_closed e r) (closed_count e r r.tree.current)

end_count : (f : Forest Item) (e : ℕ) (o : Option TreeIndex) → counted_nodes (with_end f e o).nodes ≡ counted_nodes f.nodes
end_count f e None = refl
end_count f e (Some c) = own_ended f.nodes c.0 e

pub title_begun_count : (e : ℕ) (r : PassState) → current_body r.tree ≡ Some Paragraph → count (title_begun e r) ≡ count r
unfolding title_begun
title_begun_count e r is = grind (arith, end_count, own_alike, current_like)

inserted_one : (t : Bool) (m : ℕ) → (if t then 0 else 1) + m ≤ m + 1
inserted_one t m = grind arith

own_wrapped : (cell : Option ℕ) (nodes : List (ℕ × Item)) (j d : ℕ) (x : Item) → is_cell x.body ≡ false → is_row x.body ≡ false
    → own cell (take j nodes ++ (d, x) ∷ map deeper (drop j nodes)) ≤ own cell nodes + 1
unfolding own
own_wrapped cell nodes zero d x cells rows =
    let same : last_cell cell x ≡ cell = rw (rows, cells) refl in
    let e : own (last_cell cell x) (map deeper nodes) ≡ own cell nodes = cc (own_from deeper (λ n. refl) zero cell nodes) in
    let most = inserted_one (is_inserted_after cell x) (own (last_cell cell x) (map deeper nodes)) in
    omega arith
own_wrapped cell [] (suc j) d x cells rows = (let most = inserted_one (is_inserted_after cell x) 0 in omega arith)
own_wrapped cell (n ∷ nodes) (suc j) d x cells rows = (let h = own_wrapped (last_cell cell n.1) nodes j d x cells rows in omega arith)

titled_count : (f : Forest Item) (c : TreeIndex) (y : Item) → body_at f.nodes c.0 ≡ Some Paragraph
    → counted_nodes (titled f c y).nodes ≤ counted_nodes f.nodes + 1
titled_count f c y is = grind (arith, own_changed, own_wrapped)

-- a definition adds one node; with a new list, whose title was a paragraph, two
pub definition_count : (start columns : ℕ) (r : PassState) → count (definition_begun start columns r) ≤ count r + 2
definition_count start columns r =
    let list : counted_nodes (definitions_opened r.tree r.tree.current).nodes ≤ suc (count r) =
    opened_both r.tree (λ g. counted_nodes g.nodes ≤ suc (count r)) (λ g l. (let same = own_alike None r.tree.nodes g.nodes l.nodes in omega arith))
    (λ c y current here body. (let one = titled_count r.tree c y (body_of r.tree c y here ∙ ap (λ z. Some z) body) in omega arith)) in
    omega (arith, definition_keeps count_kept 0 start columns (suc (count r)) r tt tt tt list)

-- a task list item marker adds one
pub child_count : (f : Forest Item) (marker : Option Item) → counted_nodes (with_child f marker).nodes ≤ counted_nodes f.nodes + 1
child_count f None = omega arith
child_count f (Some x) = own_one None f.nodes (length f.spine + 1, x)

-- a block that is added between two different offsets
pub block_count : (text : List ℕ) (from to : ℕ) (old new : Forest Item) → AddsBetween text from to old new → from < to → GrowsBy from to old.nodes new.nodes
block_count text from to old new adds apart = grind (arith, own_added)

-- a line that is not blank has a byte
some_left : (bs : List ℕ) → is_some (blank_len bs) ≡ false → 0 < length bs
some_left [] h = cc
some_left (b ∷ bs) h = omega arith

-- so has the line of a leaf block that is no blank line
pub leaf_left : (options : Options) (r : Rest) (k : Kind) → IsKind options r k → (k ≡ Blank → ⊥) → 0 < length r.left
unfolding first_kind
leaf_left options r k h other = grind (arith, cases_Bool, some_left)

pub left_before : (p : Place) → 0 < length p.rest.left → offset p < line_end p
left_before p some = (let more = line_len-some p.rest.left some in omega arith)

-- the shorter the rest, the later the place
pub offset_before : (text : List ℕ) (line : ℕ) (r s : Rest)
    → IsPlaceOf text (place_at line r) → IsPlaceOf text (place_at line s) → length s.left < length r.left → offset (place_at line r) < offset (place_at line s)
offset_before text line r s i j less =
    let a = place_length text (place_at line r) i in
    let b = place_length text (place_at line s) j in
    omega arith

-- a task list item marker has a byte
mark_by : (line : ℕ) (r : Rest) (o : Option (Bool × Rest)) (x : Item)
    → ((task : Bool × Rest) → o ≡ Some task → task_of r ≡ Some task) → (task_by line r o).0 ≡ Some x → length (task_by line r o).1.left < length r.left
mark_by line r None x h is = cc
mark_by line r (Some task) x h is = task_shorter r task (h task refl)

pub mark_shorter : (options : Options) (line : ℕ) (r s : Rest) (marker : Option Item) (x : Item)
    → marker ≡ (task_after options line r).0 → s ≡ (task_after options line r).1 → marker ≡ Some x → length s.left < length r.left
mark_shorter options line r s marker x is rest some = grind (arith, mark_by, option_on)
