-- Only items are open directly in lists, as nodes are opened and closed and blank lines are noted. After a node is
-- closed, no possible title is last.
use Rattle.std.proofs.Common.{◌≡◌, ℕ, zero, suc, ◌+◌, ◌<◌, ◌≤◌, true, false, List, [], ◌∷◌, ◌++◌, length, Option, Some, None, refl, sym, ap, subst, ◌∙◌, arith}
use Rattle.std.proofs.Common.{length-append, true≢false, option_and_then, option_map, IsSomeAnd}
use Rattle.first_pass_grammar.proofs.Common.{cond_both, and_parts, false_from_ne_true, none-some, cond_some, CowIndex, Item, ItemBody, Paragraph}
use Rattle.first_pass_grammar.proofs.Common.{DefinitionList, DefinitionListDefinition, MaybeDefinitionListTitle, TreeIndex, body-kept, Forest, empty_forest}
use Rattle.first_pass_grammar.proofs.Common.{with_end_at, modify, with_body_at, body_at, map_from, shallower, added, length-modify, list_flags, is_task_marker}
use Rattle.first_pass_grammar.proofs.Common.{item_on_top}
use Rattle.first_pass_order.proofs.Common.{PassState, closed_by, with_child, top_of, AreNested, HasDefinition, CanClose, AreIn, other_list, get_front}
use Rattle.first_pass_items.specs.declared.item.ItemBody.TheVariants.{List as ListBody, ListItem as ListItemBody, FootnoteDefinition as FootnoteDefinitionBody}
use Rattle.first_pass_lists.specs.Closing.{state_with, with_tree, top_body, is_definition_list, is_list, is_list_of, is_item, is_footnote, popped_at}
use Rattle.first_pass_lists.specs.Closing.{current_moved, definitions_closed, title_by, possible_title, title_closed, top_end, popped_after, popped}
use Rattle.first_pass_lists.specs.Closing.{empty_item_closed_by, empty_item_closed, list_closed, footnote_left, gap_marked, list_finished, list_kept, begun}
use Rattle.first_pass_lists.specs.Closing.{footnote_begun, list_continued, blank_read_by, blank_read}
use Rattle.first_pass_lists.proofs.MovedLemmas.{lower_length}
use Rattle.first_pass_order.proofs.OrderLemmas.{get_mid}
use Rattle.first_pass_order.proofs.AlikeNodes.{class_of, AreAlike, NoNodes, OneMore, LooksAlike, like_body, like_popped, like_noted, like_kept, like_blank}

-- as many nodes, of the same classes
pub record AreClassed (old new : List (ℕ × Item)) : Type 0 where
  pub size : length new ≡ length old
  pub same : (i : ℕ) → class_of (body_at new i) ≡ class_of (body_at old i)

length_alike : (old new : List (ℕ × Item)) → AreAlike old new → length new ≡ length old
length_alike old new NoNodes = refl
length_alike old new (OneMore n m xs ys a h) = ap suc (length_alike xs ys h)

class_alike : (old new : List (ℕ × Item)) (i : ℕ) → AreAlike old new → class_of (body_at new i) ≡ class_of (body_at old i)
class_alike old new i NoNodes = refl
class_alike old new zero (OneMore n m xs ys a h) = ap (λ t. t.3) a.body.0
class_alike old new (suc i) (OneMore n m xs ys a h) = class_alike xs ys i h

classed_alike : (old new : List (ℕ × Item)) → AreAlike old new → AreClassed old new
classed_alike old new h = record { size = length_alike old new h; same = λ i. class_alike old new i h }

top_classed : (old new : List (ℕ × Item)) (spine : List TreeIndex) → AreClassed old new → class_of (top_of new spine) ≡ class_of (top_of old spine)
top_classed old new [] c = refl
top_classed old new (ix ∷ spine) c = c.same ix.0

-- open nodes before an offset have the same nesting if the nodes before it keep their classes
pub top_before : (old new : List (ℕ × Item)) (n : ℕ) (spine : List TreeIndex) → ((i : ℕ) → i < n → class_of (body_at new i) ≡ class_of (body_at old i))
    → AreIn n spine → class_of (top_of new spine) ≡ class_of (top_of old spine)
top_before old new n [] same h = refl
top_before old new n (ix ∷ spine) same h = same ix.0 h.0

pub nested_before : (old new : List (ℕ × Item)) (n : ℕ) (spine : List TreeIndex) → ((i : ℕ) → i < n → class_of (body_at new i) ≡ class_of (body_at old i))
    → n ≤ length new → AreIn n spine → AreNested old spine → AreNested new spine
nested_before old new n [] same more h k = tt
nested_before old new n (ix ∷ spine) same more h k = (
  (let w = h.0 in omega arith),
  λ list. ap (λ t. t.1) (same ix.0 h.0) ∙ k.1 (sym (ap (λ t. t.0) (top_before old new n spine same h.1)) ∙ list),
  nested_before old new n spine same more h.1 k.2,
)

nested_within : (nodes : List (ℕ × Item)) (spine : List TreeIndex) → AreNested nodes spine → AreIn (length nodes) spine
nested_within nodes [] h = tt
nested_within nodes (ix ∷ spine) h = (h.0, nested_within nodes spine h.2)

pub nested_classed : (old new : List (ℕ × Item)) (spine : List TreeIndex) → AreClassed old new → AreNested old spine → AreNested new spine
nested_classed old new spine c h = grind (arith, nested_before, nested_within)

-- more nodes after them
pub nested_front : (nodes more : List (ℕ × Item)) (spine : List TreeIndex) → AreNested nodes spine → AreNested (nodes ++ more) spine
nested_front nodes more spine h =
    nested_before nodes (nodes ++ more) (length nodes) spine (λ i low. ap (λ o. class_of (option_map (λ n. n.1.body) o)) (get_front nodes more i low))
    (let n = length-append nodes more in omega arith) (nested_within nodes spine h) h

pub top_front : (nodes more : List (ℕ × Item)) (spine : List TreeIndex) → AreNested nodes spine → top_of (nodes ++ more) spine ≡ top_of nodes spine
top_front nodes more [] h = refl
top_front nodes more (ix ∷ spine) h = ap (option_map (λ n. n.1.body)) (get_front nodes more ix.0 h.0)

-- changes that keep the classes
pub classed_ended : (nodes : List (ℕ × Item)) (k e : ℕ) → AreClassed nodes (modify nodes k (λ x. record x { «end» = e }))
classed_ended nodes k e = grind (arith, length-modify, body-kept)

pub body-moved : (place : ℕ) (nodes : List (ℕ × Item)) (i : ℕ) → body_at (map_from shallower place nodes) i ≡ body_at nodes i
body-moved zero [] i = refl
body-moved zero (n ∷ nodes) zero = refl
body-moved zero (n ∷ nodes) (suc i) = body-moved zero nodes i
body-moved (suc place) [] i = refl
body-moved (suc place) (n ∷ nodes) zero = refl
body-moved (suc place) (n ∷ nodes) (suc i) = body-moved place nodes i

-- trees that look alike
pub like_nested : (f g : Forest Item) → LooksAlike f g → AreNested f.nodes f.spine → AreNested g.nodes g.spine
like_nested f g a h = subst (AreNested g.nodes) (sym a.spine) (nested_classed f.nodes g.nodes f.spine (classed_alike f.nodes g.nodes a.nodes) h)

pub like_class : (f g : Forest Item) → LooksAlike f g → class_of (top_body g) ≡ class_of (top_body f)
like_class f g a = ap (λ s. class_of (top_of g.nodes s)) a.spine ∙ top_classed f.nodes g.nodes f.spine (classed_alike f.nodes g.nodes a.nodes)

-- a definition list is a list, no item, no footnote definition, and has no item on top
pub definitions_are : (b : Option ItemBody) → is_definition_list b ≡ true
    → (is_list b ≡ true) × (is_item b ≡ false) × (is_footnote b ≡ false) × (item_on_top b ≡ false)
definitions_are None h = cc
definitions_are (Some (DefinitionList flags)) h = (refl, refl, refl, refl)
definitions_are (Some b) h = cc

-- an item is neither a list nor a footnote definition, nor a task list item marker
item_is : (b : Option ItemBody) → is_item b ≡ true → (is_list b ≡ false) × (is_footnote b ≡ false) × IsSomeAnd b (λ c. is_task_marker c ≡ false)
item_is None h = cc
item_is (Some (ListItemBody columns)) h = (refl, refl, refl)
item_is (Some (DefinitionListDefinition columns)) h = (refl, refl, refl)
item_is (Some b) h = cc

-- the current node, a possible title in an open definition list
pub record TitleThere (f : Forest Item) (title : TreeIndex) : Type 0 where
  pub current : f.current ≡ Some title
  pub body : body_at f.nodes title.0 ≡ Some MaybeDefinitionListTitle
  pub list : is_definition_list (top_body f) ≡ true

title_is : (top : Option ItemBody) (c : TreeIndex) (b : Option ItemBody) (title : TreeIndex) → title_by top c b ≡ Some title
    → (c ≡ title) × (b ≡ Some MaybeDefinitionListTitle) × (is_definition_list top ≡ true)
title_is top c (Some MaybeDefinitionListTitle) title is = (let both = cond_some (is_definition_list top) c title is in (both.1, refl, both.0))
title_is top c None title is = cc
title_is top c (Some b) title is = cc

there_with : (f : Forest Item) (o : Option TreeIndex) (title : TreeIndex) → f.current ≡ o
    → option_and_then (λ ix. title_by (top_body f) ix (body_at f.nodes ix.0)) o ≡ Some title → TitleThere f title
there_with f None title current is = cc
there_with f (Some c) title current is = grind (arith, title_is)

pub title_there : (f : Forest Item) (title : TreeIndex) → possible_title f ≡ Some title → TitleThere f title
title_there f title is = there_with f f.current title refl is

-- no possible title is last if there is none
untitled_by : (f : Forest Item) (o : Option TreeIndex) → possible_title f ≡ o → ((title : TreeIndex) → TitleThere f title → ⊥) → possible_title f ≡ None
untitled_by f None is none = is
untitled_by f (Some title) is none = absurd (none title (title_there f title is))

untitled : (f : Forest Item) → ((title : TreeIndex) → TitleThere f title → ⊥) → possible_title f ≡ None
untitled f none = untitled_by f (possible_title f) refl none

pub note_untitled : (f : Forest Item) → is_footnote (top_body f) ≡ true → possible_title f ≡ None
note_untitled f note = untitled f (λ title t. true≢false (sym note ∙ (definitions_are (top_body f) t.list).2))

item_untitled : (f : Forest Item) (ix : TreeIndex) → f.current ≡ Some ix → (is_list (top_body f) ≡ true → is_item (body_at f.nodes ix.0) ≡ true)
    → possible_title f ≡ None
item_untitled f ix current item = grind (arith, untitled, definitions_are)

-- The innermost open node is closed: the nodes keep their classes, and it is current.
pub record PopsTo (r q : PassState) (ix : TreeIndex) (rest : List TreeIndex) : Type 0 where
  pub same : AreClassed r.tree.nodes q.tree.nodes
  pub spine : q.tree.spine ≡ rest
  pub current : q.tree.current ≡ Some ix

pub pops_at : (e : ℕ) (r : PassState) (ix : TreeIndex) (rest : List TreeIndex) → PopsTo r (popped_at e r (ix ∷ rest)) ix rest
pops_at e r ix rest =
    let f : Forest Item = closed_by r.tree e (ix ∷ rest) in
    let like = like_popped r f ix (body_at f.nodes ix.0) in
    let alike = classed_alike f.nodes _ like.nodes in
    let ended = classed_ended r.tree.nodes ix.0 e in
    record {
      same = record { size = alike.size ∙ ended.size; same = λ i. alike.same i ∙ ended.same i };
      spine = like.spine;
      current = like.current;
    }

-- nested; no possible title is last; and an innermost definition list has a last child
pub record IsSettled (r : PassState) : Type 0 where
  pub nested : AreNested r.tree.nodes r.tree.spine
  pub none : possible_title r.tree ≡ None
  pub last : HasDefinition r.tree

-- nested, and the innermost open node is no list
abbrev pub IsOutside : PassState → Type 0
IsOutside r = AreNested r.tree.nodes r.tree.spine × (is_list (top_body r.tree) ≡ false)

-- nested, and the innermost open node is no definition list
other_settled : (r : PassState) → AreNested r.tree.nodes r.tree.spine → is_definition_list (top_body r.tree) ≡ false → IsSettled r
other_settled r h other = grind (arith, untitled)

pub outside_settled : (r : PassState) → IsOutside r → IsSettled r
outside_settled r h = other_settled r h.0 (other_list (top_body r.tree) h.1)

pub item_settled : (r : PassState) → AreNested r.tree.nodes r.tree.spine → is_item (top_body r.tree) ≡ true → IsSettled r
item_settled r h item = grind (arith, other_settled, false_from_ne_true, definitions_are)

pops_nested : (r q : PassState) (ix : TreeIndex) (rest : List TreeIndex) → AreNested r.tree.nodes (ix ∷ rest) → PopsTo r q ix rest
    → AreNested q.tree.nodes q.tree.spine
pops_nested r q ix rest h p = grind (arith, nested_classed)

pops_top : (r q : PassState) (ix : TreeIndex) (rest : List TreeIndex) → PopsTo r q ix rest → is_list (top_body q.tree) ≡ is_list (top_of r.tree.nodes rest)
pops_top r q ix rest p = grind (arith, top_classed)

-- a node that is no item is closed: the innermost open node is then no list
at_outside : (e : ℕ) (r : PassState) (spine : List TreeIndex) → r.tree.spine ≡ spine → AreNested r.tree.nodes r.tree.spine
    → (is_item (top_of r.tree.nodes spine) ≡ true → ⊥) → IsOutside (popped_at e r spine)
at_outside e r [] is h other = (h, ap (λ s. is_list (top_of r.tree.nodes s)) is)
at_outside e r (ix ∷ rest) is h other =
    let p = pops_at e r ix rest in
    let nested = subst (AreNested r.tree.nodes) is h in (
      pops_nested r (popped_at e r (ix ∷ rest)) ix rest nested p,
      pops_top r (popped_at e r (ix ∷ rest)) ix rest p ∙ false_from_ne_true (is_list (top_of r.tree.nodes rest)) (λ list. other (nested.1 list)),
    )

-- The innermost definition list is closed, and its possible title is moved out of it: the innermost open node is then
-- no list.
moved_outside : (q : PassState) (o : Option TreeIndex) → IsOutside q → IsOutside (current_moved q o)
moved_outside q None h = h
moved_outside q (Some c) h =
    let moved : List (ℕ × Item) = map_from shallower c.0 q.tree.nodes in
    let same : AreClassed q.tree.nodes moved = record {
      size = lower_length q.tree.nodes c.0;
      same = λ i. ap class_of (body-moved c.0 q.tree.nodes i);
    } in
    (nested_classed q.tree.nodes moved q.tree.spine same h.0, ap (λ t. t.0) (top_classed q.tree.nodes moved q.tree.spine same) ∙ h.1)

pub definitions_closed_outside : (e : ℕ) (r : PassState) → AreNested r.tree.nodes r.tree.spine → is_definition_list (top_body r.tree) ≡ true
    → IsOutside (definitions_closed e r)
unfolding definitions_closed
definitions_closed_outside e r h list =
    moved_outside (popped_at e r r.tree.spine) r.tree.current
    (at_outside e r r.tree.spine refl h (λ item. true≢false (sym item ∙ (definitions_are (top_body r.tree) list).1)))

-- a possible title becomes a paragraph first
pub title_closed_outside : (r : PassState) (title : TreeIndex) → TitleThere r.tree title → AreNested r.tree.nodes r.tree.spine
    → IsOutside (title_closed r title)
title_closed_outside r title t h =
    let g : Forest Item = with_body_at r.tree title Paragraph in
    let like : LooksAlike r.tree g = like_body r.tree title MaybeDefinitionListTitle Paragraph t.body (refl, λ k. refl) in
    definitions_closed_outside (top_end r.tree) (with_tree r g) (like_nested r.tree g like h) (ap (λ k. k.2) (like_class r.tree g like) ∙ t.list)

-- what holds after the innermost open node is closed: there was no possible title, or it was moved out of its list
after_both : (e : ℕ) (r : PassState) (P : PassState → Type 0) (o : Option TreeIndex) → possible_title r.tree ≡ o
    → (possible_title r.tree ≡ None → P (popped_at e r r.tree.spine))
    → ((title : TreeIndex) → possible_title r.tree ≡ Some title → P (title_closed r title)) → P (popped_after e r o)
after_both e r P None is none some = none is
after_both e r P (Some title) is none some = some title is

pub popped_both : (e : ℕ) (r : PassState) (P : PassState → Type 0) → (possible_title r.tree ≡ None → P (popped_at e r r.tree.spine))
    → ((title : TreeIndex) → possible_title r.tree ≡ Some title → P (title_closed r title)) → P (popped e r)
unfolding popped
popped_both e r P none some = after_both e r P (possible_title r.tree) refl none some

at_settled : (e : ℕ) (r : PassState) (spine : List TreeIndex) → r.tree.spine ≡ spine → IsSettled r → IsSettled (popped_at e r spine)
at_settled e r [] is h = h
at_settled e r (ix ∷ rest) is h =
    let q : PassState = popped_at e r (ix ∷ rest) in
    let p = pops_at e r ix rest in
    let nested = subst (AreNested r.tree.nodes) is h.nested in
    let item : is_list (top_body q.tree) ≡ true → is_item (body_at q.tree.nodes ix.0) ≡ true =
    λ list. ap (λ t. t.1) (p.same.same ix.0) ∙ nested.1 (sym (pops_top r q ix rest p) ∙ list) in
    record {
      nested = pops_nested r q ix rest nested p;
      none = item_untitled q.tree ix p.current item;
      last = λ list. subst (λ o. IsSomeAnd (option_and_then (λ c. body_at q.tree.nodes c.0) o) (λ b. is_task_marker b ≡ false)) (sym p.current)
          (item_is (body_at q.tree.nodes ix.0) (item (definitions_are (top_body q.tree) list).0)).2;
    }

pub popped_settled : (e : ℕ) (r : PassState) → AreNested r.tree.nodes r.tree.spine → HasDefinition r.tree → IsSettled (popped e r)
popped_settled e r h last =
    popped_both e r IsSettled (λ none. at_settled e r r.tree.spine refl (record { nested = h; none = none; last = last }))
    (λ title is. outside_settled (title_closed r title) (title_closed_outside r title (title_there r.tree title is) h))

-- closing an item
at_item : (e : ℕ) (r : PassState) (spine : List TreeIndex) → is_item (top_of r.tree.nodes spine) ≡ true → possible_title (popped_at e r spine).tree ≡ None
at_item e r [] item = cc
at_item e r (ix ∷ rest) item =
    let p = pops_at e r ix rest in
    item_untitled (popped_at e r (ix ∷ rest)).tree ix p.current (λ list. ap (λ t. t.1) (p.same.same ix.0) ∙ item)

pub title_no_item : (f : Forest Item) (title : TreeIndex) → possible_title f ≡ Some title → is_item (top_body f) ≡ true → ⊥
title_no_item f title is item = true≢false (sym item ∙ (definitions_are (top_body f) (title_there f title is).list).1)

pub popped_item : (e : ℕ) (r : PassState) → is_item (top_body r.tree) ≡ true → possible_title (popped e r).tree ≡ None
popped_item e r item =
    popped_both e r (λ q. possible_title q.tree ≡ None) (λ none. at_item e r r.tree.spine item) (λ title is. absurd (title_no_item r.tree title is item))

-- the same for a list or a footnote definition: no list is innermost then
pub popped_outside : (e : ℕ) (r : PassState) → AreNested r.tree.nodes r.tree.spine → (is_item (top_body r.tree) ≡ true → ⊥) → IsOutside (popped e r)
popped_outside e r h other =
    popped_both e r IsOutside (λ none. at_outside e r r.tree.spine refl h other)
    (λ title is. title_closed_outside r title (title_there r.tree title is) h)

-- what holds after an item that began with two blank lines is closed, if there is one
finished_by : (r : PassState) (P : Forest Item → Type 0) (o : Option ℕ) → r.begin_list_item ≡ o → P r.tree
    → ((e : ℕ) → r.begin_list_item ≡ Some e → is_item (top_body r.tree) ≡ true → P (popped e r).tree) → P (empty_item_closed_by r o).tree
finished_by r P None is same closed = same
finished_by r P (Some e) is same closed = grind (arith, cond_both, and_parts)

pub finished_both : (r : PassState) (P : Forest Item → Type 0) → P r.tree
    → ((e : ℕ) → r.begin_list_item ≡ Some e → is_item (top_body r.tree) ≡ true → P (popped e r).tree) → P (empty_item_closed r).tree
unfolding empty_item_closed
finished_both r P same closed = finished_by r P r.begin_list_item refl same closed

pub popped_nested : (e : ℕ) (r : PassState) → is_item (top_body r.tree) ≡ true → AreNested r.tree.nodes r.tree.spine → IsSettled (popped e r)
popped_nested e r item h = popped_settled e r h (item_settled r h item).last

pub empty_item_closed_nested : (r : PassState) → AreNested r.tree.nodes r.tree.spine
    → AreNested (empty_item_closed r).tree.nodes (empty_item_closed r).tree.spine
empty_item_closed_nested r h = finished_both r (λ f. AreNested f.nodes f.spine) h (λ e is item. (popped_nested e r item h).nested)

-- closing an innermost list or footnote definition
pub list_left_outside : (e : ℕ) (r : PassState) → AreNested r.tree.nodes r.tree.spine → IsOutside (list_closed e r)
list_left_outside e r h =
    cond_both (is_list (top_body r.tree)) (popped e r) r IsOutside
    (λ list. popped_outside e r h (λ item. true≢false (sym list ∙ (item_is (top_body r.tree) item).0))) (λ none. (h, none))

pub footnote_left_outside : (e : ℕ) (r : PassState) → IsOutside r → IsOutside (footnote_left e r)
footnote_left_outside e r h =
    cond_both (is_footnote (top_body r.tree)) (popped e r) r IsOutside
    (λ note. popped_outside e r h.0 (λ item. true≢false (sym note ∙ (item_is (top_body r.tree) item).1))) (λ none. h)

pub noted_outside : (r : PassState) → IsOutside r → IsOutside (gap_marked r)
noted_outside r h =
    (like_nested r.tree (gap_marked r).tree (like_noted r) h.0, ap (λ t. t.0) (like_class r.tree (gap_marked r).tree (like_noted r)) ∙ h.1)

-- before a block that ends a list
pub list_finished_outside : (e : ℕ) (r : PassState) → AreNested r.tree.nodes r.tree.spine → IsOutside (list_finished e r)
unfolding list_finished
list_finished_outside e r h = noted_outside (list_closed e (empty_item_closed r)) (list_left_outside e (empty_item_closed r) (empty_item_closed_nested r h))

-- opening a container
pub first_there : (nodes : List (ℕ × Item)) (n : ℕ × Item) (more : List (ℕ × Item)) → body_at (nodes ++ n ∷ more) (length nodes) ≡ Some n.1.body
first_there nodes n more = ap (option_map (λ n. n.1.body)) (get_mid nodes n more)

pub begun_nested : (start : ℕ) (body : ItemBody) (r : PassState) → (is_list (top_body r.tree) ≡ true → is_item (Some body) ≡ true)
    → AreNested r.tree.nodes r.tree.spine → AreNested (begun start body r).tree.nodes (begun start body r).tree.spine
begun_nested start body r may h =
    let n : ℕ × Item = (length r.tree.spine + 1, record { start = start; «end» = 0; body = body }) in (
      (let more = length-append r.tree.nodes (n ∷ []) in omega arith),
      λ list. ap is_item (first_there r.tree.nodes n []) ∙ may (sym (ap is_list (top_front r.tree.nodes (n ∷ []) r.tree.spine h)) ∙ list),
      nested_front r.tree.nodes (n ∷ []) r.tree.spine h,
    )

pub begun_settled : (start : ℕ) (body : ItemBody) (r : PassState) → is_definition_list (Some body) ≡ false
    → (is_list (top_body r.tree) ≡ true → is_item (Some body) ≡ true) → AreNested r.tree.nodes r.tree.spine → IsSettled (begun start body r)
begun_settled start body r other may h =
    other_settled (begun start body r) (begun_nested start body r may h)
    (ap is_definition_list (first_there r.tree.nodes (length r.tree.spine + 1, record { start = start; «end» = 0; body = body }) []) ∙ other)

-- the same outside lists
pub begun_outside : (start : ℕ) (body : ItemBody) (r : PassState) → is_definition_list (Some body) ≡ false → IsOutside r → IsSettled (begun start body r)
begun_outside start body r other h = begun_settled start body r other (λ list. absurd (true≢false (sym list ∙ h.1))) h.0

-- a list of items is no definition list
list_of_other : (ch : ℕ) (b : Option ItemBody) → is_list_of ch b ≡ true → is_definition_list b ≡ false
list_of_other ch None h = cc
list_of_other ch (Some (ListBody flags byte number)) h = refl
list_of_other ch (Some b) h = cc

pub list_continued_settled : (start byte number : ℕ) (r : PassState) → AreNested r.tree.nodes r.tree.spine → IsSettled (list_continued start byte number r)
unfolding list_continued
list_continued_settled start byte number r h =
    let s : PassState = empty_item_closed r in
    let k = empty_item_closed_nested r h in
    let body : ItemBody = ListBody (list_flags true) byte number in
    let kept : is_list_of byte (top_body s.tree) ≡ true → IsSettled (list_kept s) =
    λ list. other_settled (list_kept s) (like_nested s.tree (list_kept s).tree (like_kept s) k)
    (ap (λ t. t.2) (like_class s.tree (list_kept s).tree (like_kept s)) ∙ list_of_other byte (top_body s.tree) list) in
    cond_both (is_list_of byte (top_body s.tree)) (list_kept s) (begun start body (list_finished start s)) IsSettled kept
    (λ b. begun_outside start body (list_finished start s) refl (list_finished_outside start s k))

pub footnote_begun_settled : (start : ℕ) (index : CowIndex) (r : PassState) → AreNested r.tree.nodes r.tree.spine → IsSettled (footnote_begun start index r)
unfolding footnote_begun
footnote_begun_settled start index r h =
    let s : PassState = empty_item_closed r in
    let q : PassState = footnote_left start (list_closed start s) in
    begun_outside start (FootnoteDefinitionBody index) (gap_marked q) refl
    (noted_outside q (footnote_left_outside start (list_closed start s) (list_left_outside start s (empty_item_closed_nested r h))))

-- a task list item marker, and a block that is added
pub child_outside : (f : Forest Item) (marker : Option Item) → AreNested f.nodes f.spine → is_list (top_body f) ≡ false
    → AreNested (with_child f marker).nodes (with_child f marker).spine × (is_list (top_body (with_child f marker)) ≡ false)
child_outside f None h none = (h, none)
child_outside f (Some x) h none =
    (nested_front f.nodes _ f.spine h, ap is_list (top_front f.nodes _ f.spine h) ∙ none)

pub added_outside : (f : Forest Item) (items : List (ℕ × Item)) → AreNested f.nodes f.spine → is_list (top_body f) ≡ false
    → AreNested (added f items).nodes (added f items).spine × (is_list (top_body (added f items)) ≡ false)
added_outside f items h none = (nested_front f.nodes _ f.spine h, ap is_list (top_front f.nodes _ f.spine h) ∙ none)

-- the nodes can then be closed in order
pub settled_closes : (text : List ℕ) (r : PassState) (at : ℕ) → IsSettled r → CanClose text r.tree at
settled_closes text r at h = record { nested = h.nested; last = h.last; title = λ title is. absurd (none-some title (sym h.none ∙ is)) }

pub outside_closes : (text : List ℕ) (r : PassState) (at : ℕ) → IsOutside r → CanClose text r.tree at
outside_closes text r at h = settled_closes text r at (outside_settled r h)

pub tree_closes : (text : List ℕ) (f : Forest Item) (at : ℕ) → AreNested f.nodes f.spine → is_list (top_body f) ≡ false → CanClose text f at
tree_closes text f at nested none = outside_closes text (state_with f None false) at (nested, none)

-- what holds after a blank line is read: the tree is the same, or an item is innermost
blank_by_both : (r : PassState) (P : Forest Item → Type 0) (b : Option ItemBody) → top_body r.tree ≡ b → P r.tree
    → (is_item (top_body r.tree) ≡ true → P (blank_read_by r b).tree) → P (blank_read_by r b).tree
blank_by_both r P (Some (ListItemBody columns)) is same item = item (ap is_item is)
blank_by_both r P (Some (DefinitionListDefinition columns)) is same item = item (ap is_item is)
blank_by_both r P b is same item = same

pub blank_both : (r : PassState) (P : Forest Item → Type 0) → P r.tree → (is_item (top_body r.tree) ≡ true → P (blank_read r).tree) → P (blank_read r).tree
unfolding blank_read
blank_both r P same item = blank_by_both r P (top_body r.tree) refl same item

pub blank_item : (r : PassState) → is_item (top_body (blank_read r).tree) ≡ is_item (top_body r.tree)
blank_item r = ap (λ t. t.1) (like_class r.tree (blank_read r).tree (like_blank r))

-- before the first block
pub first_closes : (text : List ℕ) (tree : Forest Item) (root : TreeIndex) (e at : ℕ) → tree ≡ with_end_at empty_forest root e → CanClose text tree at
first_closes text tree root e at is = grind (arith, tree_closes)
