-- Closing the state's nodes keeps order where lists and items end, and so does noting blank lines.
use Rattle.std.proofs.Common.{◌≡◌, ◌⊎◌, inl, inr, ℕ, ◌≤◌, true, List, [], ◌∷◌, length, Option, Some, None, IsCharBoundary, refl, sym, subst, ◌∙◌, arith}
use Rattle.first_pass_grammar.proofs.Common.{cond_both, ItemBody, Paragraph, TreeIndex, with_body_at, IsOrderedTo, CowIndex, body-kept}
use Rattle.first_pass_order.proofs.Common.{PassState, finished_none, popped_at_none, closed_none, list_finished_none, list_continued_none, top_of, reached}
use Rattle.first_pass_order.proofs.Common.{IsOrderedAt, EndsBeforeTitle, CanClose, IsReadTo}
use Rattle.first_pass_items.specs.declared.item.ItemBody.TheVariants.{ListItem as ListItemBody}
use Rattle.first_pass_lists.specs.Closing.{with_tree, top_body, is_list, is_item, popped_at, top_end, popped, empty_item_closed, list_finished, list_continued}
use Rattle.first_pass_lists.specs.Closing.{blank_read_by, blank_read, gap_marked, footnote_begun}
use Rattle.first_pass_order.proofs.AlikeNodes.{like_blank}
use Rattle.first_pass_order.proofs.Nests.{title_no_item, item_settled, popped_both, popped_settled, popped_nested, finished_both, like_nested, blank_both}
use Rattle.first_pass_order.proofs.Nests.{blank_item, settled_closes, outside_closes, list_finished_outside, list_continued_settled, footnote_begun_settled}
use Rattle.first_pass_order.proofs.LeftOrder.{title_later, order_kept, ordered_at, ordered_before, may_leave}
use Rattle.first_pass_order.proofs.PropertyKept.{popped_here, empty_item_closed_keeps, list_finished_keeps, list_continued_keeps, note_keeps}
use Rattle.first_pass_order.proofs.OrderLemmas.{ordered_none, ordered_at_later, popped_empty}

pub noted_empty : (r : PassState) → (gap_marked r).begin_list_item ≡ r.begin_list_item
noted_empty r = grind (arith, cond_both)

empty_by : (text : List ℕ) (r : PassState) (at : ℕ) (o : Option ℕ)
    → r.begin_list_item ≡ o → IsOrderedAt text r at → (r.begin_list_item ≡ None) ⊎ (is_item (top_body r.tree) ≡ true)
empty_by text r at None is h = inl is
empty_by text r at (Some e) is h = inr (h.innermost e is).0

item_closed : (e : ℕ) (r : PassState) (s : List TreeIndex) → is_item (top_of r.tree.nodes s) ≡ true → (popped_at e r s).begin_list_item ≡ None
item_closed e r [] item = cc
item_closed e r (ix ∷ rest) item = grind (arith, body-kept, popped_empty)

closes_empty : (e : ℕ) (r : PassState) → (r.begin_list_item ≡ None) ⊎ (is_item (top_body r.tree) ≡ true) → (popped e r).begin_list_item ≡ None
closes_empty e r (inl none) =
    popped_both e r (λ q. q.begin_list_item ≡ None) (λ t. popped_at_none e r r.tree.spine none)
    (λ title is. closed_none (top_end r.tree) (with_tree r (with_body_at r.tree title Paragraph)) none)
closes_empty e r (inr item) =
    popped_both e r (λ q. q.begin_list_item ≡ None) (λ t. item_closed e r r.tree.spine item) (λ title is. absurd (title_no_item r.tree title is item))

-- a list is finished before a block
pub ordered_list_finished : (text : List ℕ) (r : PassState) (at e b : ℕ) → EndsBeforeTitle text r.tree at → at ≤ b → e ≤ b → b ≤ length text
    → IsCharBoundary text e → (is_list (top_body (empty_item_closed r).tree) ≡ true → at ≤ e) → IsOrderedAt text r at → IsOrderedAt text (list_finished e r) b
ordered_list_finished text r at e b closes later short within ends order h =
    ordered_none text (list_finished e r) b (list_finished_none e r) within
    (list_finished_keeps (order_kept text) at e b 0 r (ordered_before text r at h closes)
    ((λ t. (order t, omega arith)), ends, (short, within), (later, within)))

-- a footnote definition is opened where the innermost open nodes end
pub ordered_note : (text : List ℕ) (r : PassState) (at start : ℕ) (index : CowIndex) → EndsBeforeTitle text r.tree at → at ≤ start → start ≤ length text
    → IsCharBoundary text start → IsOrderedAt text r at → IsOrderedTo text (footnote_begun start index r).tree start
ordered_note text r at start index closes later within starts h =
    note_keeps (order_kept text) at start 0 index r (ordered_before text r at h closes) (later, within) (omega arith, within) starts tt

-- a list that continues, or a new one
pub ordered_list_continued : (text : List ℕ) (r : PassState) (at start byte number : ℕ) → EndsBeforeTitle text r.tree at
    → at ≤ start → start ≤ length text → IsCharBoundary text start → IsOrderedAt text r at → IsOrderedAt text (list_continued start byte number r) start
ordered_list_continued text r at start byte number closes later within starts h =
    ordered_none text (list_continued start byte number r) start (list_continued_none start byte number r) within
    (list_continued_keeps (order_kept text) at start byte number 0 r (ordered_before text r at h closes)
    ((omega arith, h.within), (later, within), (omega arith, within), starts) tt)

-- a blank line is read
blank_by_empty : (r : PassState) (b : Option ItemBody) → (blank_read_by r b).begin_list_item ≡ r.begin_list_item
blank_by_empty r (Some (ListItemBody columns)) = refl
blank_by_empty r b = refl

blank_empty : (r : PassState) → (blank_read r).begin_list_item ≡ r.begin_list_item
unfolding blank_read
blank_empty r = blank_by_empty r (top_body r.tree)

pub read_blank_read : (text : List ℕ) (r : PassState) (at b : ℕ) → at ≤ b → b ≤ length text → IsReadTo text r at → IsReadTo text (blank_read r) b
read_blank_read text r at b later within (o, c) =
    let same = blank_empty r in (
      ordered_at_later text (blank_read r) at b later within
          (record {
            ordered = rw same ((order_kept text).like (reached r.begin_list_item at) 0 r.tree _ (like_blank r) o.ordered);
            later = rw same o.later;
            within = o.within;
            innermost = λ e is. (let inner = o.innermost e (sym same ∙ is) in (blank_item r ∙ inner.0, inner.1));
          }),
      blank_both r (λ f. CanClose text f b) (record { nested = c.nested; last = c.last; title = title_later text r.tree at b later c.title })
          (λ item. settled_closes text (blank_read r) b
          (item_settled (blank_read r) (like_nested r.tree (blank_read r).tree (like_blank r) c.nested) (blank_item r ∙ item))),
    )

-- the innermost open node is closed
pub read_popped : (text : List ℕ) (r : PassState) (at e : ℕ)
    → at ≤ e → e ≤ length text → IsCharBoundary text e → IsReadTo text r at → IsReadTo text (popped e r) e
read_popped text r at e later within ends (o, c) =
    let low : reached r.begin_list_item at ≤ at = o.later in (
      ordered_none text (popped e r) e (closes_empty e r (empty_by text r at r.begin_list_item refl o)) within
          (popped_here (order_kept text) at e 0 r (ordered_at text r at o) (may_leave text r.tree at c.title) (λ x is. (o.innermost x is).0)
          (omega arith, within) ends),
      settled_closes text (popped e r) e (popped_settled e r c.nested c.last),
    )

-- an item that began with two blank lines is finished
pub read_empty_item_closed : (text : List ℕ) (r : PassState) (at : ℕ) → IsReadTo text r at → IsReadTo text (empty_item_closed r) at
read_empty_item_closed text r at (o, c) = (
  ordered_none text (empty_item_closed r) at (finished_none r) o.within (empty_item_closed_keeps (order_kept text) at 0 r (ordered_at text r at o)),
  finished_both r (λ f. CanClose text f at) c (λ e is item. settled_closes text (popped e r) at (popped_nested e r item c.nested)),
)

-- the state after a call of pop
pub pop_keeps_order : (text : List ℕ) (r q : PassState) (at e : ℕ) → q ≡ popped e r → at ≤ e → e ≤ length text → IsCharBoundary text e → IsReadTo text r at
    → IsReadTo text q e
pop_keeps_order text r q at e is later within ends h = subst (λ (s : PassState). IsReadTo text s e) (sym is) (read_popped text r at e later within ends h)

-- the state after a call of finish_empty_list_item
pub finish_item_keeps_order : (text : List ℕ) (r q : PassState) (at : ℕ) → q ≡ empty_item_closed r → IsReadTo text r at → IsReadTo text q at
finish_item_keeps_order text r q at is h = subst (λ (s : PassState). IsReadTo text s at) (sym is) (read_empty_item_closed text r at h)

-- the state after a call of finish_list
pub finish_list_keeps_order : (text : List ℕ) (r q : PassState) (at e : ℕ) → q ≡ list_finished e r → at ≤ e → e ≤ length text → IsCharBoundary text e
    → IsReadTo text r at → IsReadTo text q e
finish_list_keeps_order text r q at e is later within ends (o, c) =
    subst (λ (s : PassState). IsReadTo text s e) (sym is) (
      ordered_list_finished text r at e e c.title later (omega arith) within ends (λ list. later) o,
      outside_closes text (list_finished e r) e (list_finished_outside e r c.nested),
    )

-- the state after a call of continue_list
pub continue_list_keeps_order : (text : List ℕ) (r q : PassState) (at start byte number : ℕ) → q ≡ list_continued start byte number r → at ≤ start
    → start ≤ length text → IsCharBoundary text start → IsReadTo text r at → IsReadTo text q start
continue_list_keeps_order text r q at start byte number is later within starts (o, c) =
    subst (λ (s : PassState). IsReadTo text s start) (sym is) (
      ordered_list_continued text r at start byte number c.title later within starts o,
      settled_closes text (list_continued start byte number r) start (list_continued_settled start byte number r c.nested),
    )

-- the state after a call that opens a footnote definition
pub footnote_keeps_order : (text : List ℕ) (r q : PassState) (at start : ℕ) (index : CowIndex) → q ≡ footnote_begun start index r → at ≤ start
    → start ≤ length text → IsCharBoundary text start → (footnote_begun start index r).begin_list_item ≡ None → IsReadTo text r at → IsReadTo text q start
footnote_keeps_order text r q at start index is later within starts none (o, c) =
    subst (λ (s : PassState). IsReadTo text s start) (sym is) (
      ordered_none text (footnote_begun start index r) start none within (ordered_note text r at start index c.title later within starts o),
      settled_closes text (footnote_begun start index r) start (footnote_begun_settled start index r c.nested),
    )
