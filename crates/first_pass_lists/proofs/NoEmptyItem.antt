-- If the state records no empty item, it still records none after nodes are closed or opened.
use Rattle.std.proofs.Common.{◌≡◌, ℕ, Bool, true, false, List, ◌∷◌, Option, Some, None, [], refl, ap, if◌then◌else◌, arith}
use Rattle.first_pass_grammar.proofs.Common.{Item, ItemBody, TreeIndex, Forest, with_body_at, body_at, list_flags, CowIndex}
use Rattle.first_pass_items.specs.declared.item.ItemBody.TheVariants.{List as ListBody, ListItem as ListItemBody, Paragraph as ParagraphBody}
use Rattle.first_pass_open.specs.OpenBlock.{closed_by}
use Rattle.first_pass_lists.specs.Closing.{top_end, possible_title, current_moved, definitions_closed, with_tree, popped_after}
use Rattle.first_pass_lists.specs.Closing.{popped_by, popped_at, popped, empty_item_closed_by, empty_item_closed, list_closed, gap_marked, list_finished}
use Rattle.first_pass_lists.specs.Closing.{loosened_top, list_kept, begun, list_continued, footnote_begun}
use Rattle.first_pass_lists.specs.declared.state.PassState.{PassState}

none_by : (r : PassState) (o : Option ℕ) → r.begin_list_item ≡ o → (empty_item_closed_by r o).begin_list_item ≡ None
none_by r o h = grind (arith, h)

-- after an empty item is closed, the state records none
pub finished_none : (r : PassState) → (empty_item_closed r).begin_list_item ≡ None
unfolding empty_item_closed
finished_none r = none_by r r.begin_list_item refl

closed_by_none : (r : PassState) (o : Option ℕ) → o ≡ None → empty_item_closed_by r o ≡ r
closed_by_none r o h = rw h refl

-- without an empty item, closing it changes nothing
pub closed_unchanged : (r : PassState) → r.begin_list_item ≡ None → empty_item_closed r ≡ r
unfolding empty_item_closed
closed_unchanged r none = closed_by_none r r.begin_list_item none

-- after an empty item is closed, a list ends as it does where none is recorded
pub continued_anew : (e : ℕ) (r : PassState) → list_finished e (empty_item_closed r) ≡ gap_marked (list_closed e (empty_item_closed r))
unfolding list_finished
continued_anew e r = ap (λ q. gap_marked (list_closed e q)) (closed_unchanged (empty_item_closed r) (finished_none r))

popped_by_none : (r : PassState) (f : Forest Item) (ix : TreeIndex) (b : Option ItemBody) → r.begin_list_item ≡ None
    → (popped_by r f ix b).begin_list_item ≡ None
popped_by_none r f ix b none = grind (arith, none)

pub popped_at_none : (e : ℕ) (r : PassState) (s : List TreeIndex) → r.begin_list_item ≡ None → (popped_at e r s).begin_list_item ≡ None
popped_at_none e r [] none = none
popped_at_none e r (ix ∷ rest) none = popped_by_none r (closed_by r.tree e (ix ∷ rest)) ix (body_at (closed_by r.tree e (ix ∷ rest)).nodes ix.0) none

moved_none : (r : PassState) (c : Option TreeIndex) → r.begin_list_item ≡ None → (current_moved r c).begin_list_item ≡ None
moved_none r c none = grind (arith, none)

pub closed_none : (e : ℕ) (r : PassState) → r.begin_list_item ≡ None → (definitions_closed e r).begin_list_item ≡ None
unfolding definitions_closed
closed_none e r none = moved_none (popped_at e r r.tree.spine) r.tree.current (popped_at_none e r r.tree.spine none)

after_none : (e : ℕ) (r : PassState) (title : Option TreeIndex) → r.begin_list_item ≡ None → (popped_after e r title).begin_list_item ≡ None
after_none e r None none = popped_at_none e r r.tree.spine none
after_none e r (Some title) none = closed_none (top_end r.tree) (with_tree r (with_body_at r.tree title ParagraphBody)) none

popped_none : (e : ℕ) (r : PassState) → r.begin_list_item ≡ None → (popped e r).begin_list_item ≡ None
unfolding popped
popped_none e r none = after_none e r (possible_title r.tree) none

left_none : (t : Bool) (e : ℕ) (r : PassState) → r.begin_list_item ≡ None → (if t then popped e r else r).begin_list_item ≡ None
left_none true e r none = popped_none e r none
left_none false e r none = none

noted_none : (t : Bool) (r : PassState) (f : Forest Item) → r.begin_list_item ≡ None
    → (if t then record r { tree = f; blank = false } else r).begin_list_item ≡ None
noted_none t r f none = grind (arith, none)

pub list_finished_none : (e : ℕ) (r : PassState) → (list_finished e r).begin_list_item ≡ None
unfolding list_finished
list_finished_none e r = grind (arith, noted_none, left_none, finished_none)

pub footnote_begun_none : (start : ℕ) (label : CowIndex) (r : PassState) → (footnote_begun start label r).begin_list_item ≡ None
unfolding footnote_begun
footnote_begun_none start label r = grind (arith, noted_none, left_none, finished_none)

continued_by : (t : Bool) (start byte number : ℕ) (r : PassState)
    → r.begin_list_item ≡ None → (if t then list_kept r
    else begun start (ListBody (list_flags true) byte number) (list_finished start r)).begin_list_item ≡ None
continued_by true start byte number r none = noted_none r.blank r (loosened_top r.tree r.tree.spine) none
continued_by false start byte number r none = list_finished_none start r

pub list_continued_none : (start byte number : ℕ) (r : PassState) → (list_continued start byte number r).begin_list_item ≡ None
unfolding list_continued
list_continued_none start byte number r = grind (arith, continued_by, finished_none)

-- an item with this byte, number and indent is opened at an offset, in the list that continues or in a new one
abbrev pub item_opened : ℕ → ℕ → ℕ → ℕ → PassState → PassState
item_opened start byte number columns r = begun start (ListItemBody columns) (list_continued start byte number r)
