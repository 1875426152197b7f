-- Each index in nodes names an entry: closing nodes and noting blank lines changes no index, and opening a container
-- adds none.
use Rattle.std.proofs.Common.{◌≡◌, ℕ, zero, suc, ◌+◌, ◌<◌, Bool, true, false, List, [], ◌∷◌, ◌++◌, length, Option, Some, map, take, drop, None, refl, sym, ap}
use Rattle.std.proofs.Common.{subst, arith}
use Rattle.first_pass_grammar.proofs.Common.{Item, ItemBody, TaskListMarker, DefinitionList, MaybeDefinitionListTitle, TreeIndex, Forest, modify, empty_forest}
use Rattle.first_pass_grammar.proofs.Common.{with_end_at, with_end, with_body_at, is_text, added, at_depth, map_from, deeper, shallower, Names, Extends}
use Rattle.first_pass_grammar.proofs.Common.{index_of, NamesEntry, AreNamed, list_flags, is_task_marker, Options, Place, line_end, Kind, document, lines_from}
use Rattle.first_pass_grammar.proofs.Common.{CowIndex}
use Rattle.first_pass_order.proofs.Common.{PassState, with_child, begun_item, item_opened, path_of, extends_none, AddsKind}
use Rattle.first_pass_grammar.proofs.Names.TextsNamed.{opens_named}
use Rattle.first_pass_grammar.proofs.Names.NamedItems.{IsNamed, named_more, named_both, named_deeper, named_modified}
use Rattle.first_pass_order.proofs.AlikeNodes.{AreAlike, NoNodes, OneMore, opened_both, like_blank}
use Rattle.first_pass_order.proofs.PropertyKept.{Property, HoldsAt, HoldsBefore, popped_keeps, empty_item_closed_keeps, list_finished_keeps}
use Rattle.first_pass_order.proofs.PropertyKept.{list_continued_keeps, quote_keeps, item_keeps, note_keeps, definition_keeps}
use Rattle.first_pass_lists.specs.Closing.{list_continued, popped, empty_item_closed, list_finished, begun, blank_read, footnote_begun, with_current}
use Rattle.first_pass_lists.specs.Closing.{title_begun, definition_begun}

-- a task list item marker is no text and has no index
pub task_is_no_text : (body : ItemBody) → is_task_marker body ≡ true → is_text body ≡ false
task_is_no_text (TaskListMarker checked) h = refl
task_is_no_text body h = cc

pub task_has_none : (body : ItemBody) → is_task_marker body ≡ true → index_of body ≡ None
task_has_none (TaskListMarker checked) h = refl
task_has_none body h = cc

module _ (names : Names) where
  -- the nodes of the state
  abbrev pub AreReadNamed : PassState → Type 0
  AreReadNamed r = AreNamed names r.tree.nodes

  -- nodes at other depths, and those that are moved out of a closed one
  pub from_named : (g : ℕ × Item → ℕ × Item) → ((n : ℕ × Item) → (g n).1 ≡ n.1) → (place : ℕ) (nodes : List (ℕ × Item)) → AreNamed names nodes
      → AreNamed names (map_from g place nodes)
  unfolding AreNamed
  from_named g same zero [] h = tt
  from_named g same zero (n ∷ nodes) h = (subst (IsNamed names) (sym (same n)) h.0, from_named g same zero nodes h.1)
  from_named g same (suc place) [] h = tt
  from_named g same (suc place) (n ∷ nodes) h = (h.0, from_named g same place nodes h.1)

  -- another body without an index
  body_named : (f : Forest Item) (c : TreeIndex) (b : ItemBody) → NamesEntry names (index_of b) → AreNamed names f.nodes
      → AreNamed names (with_body_at f c b).nodes
  body_named f c b none h = named_modified names f.nodes c.0 (λ x. record x { body = b }) (λ x k. none) h

  pub named_alike : (old new : List (ℕ × Item)) → AreAlike old new → AreNamed names old → AreNamed names new
  unfolding AreNamed
  named_alike old new NoNodes h = tt
  named_alike old new (OneMore n m xs ys a l) h = (subst (NamesEntry names) (sym (ap (λ t. t.4) a.body.0)) h.0, named_alike xs ys l h.1)

  pub one_named : (nodes : List (ℕ × Item)) (n : ℕ × Item) → IsNamed names n.1 → AreNamed names nodes → AreNamed names (nodes ++ n ∷ [])
  unfolding AreNamed
  one_named nodes n own h = named_both names nodes (n ∷ []) h (own, tt)

  pub ended_named : (nodes : List (ℕ × Item)) (i e : ℕ) → AreNamed names nodes → AreNamed names (modify nodes i (λ x. record x { «end» = e }))
  ended_named nodes i e h = named_modified names nodes i (λ x. record x { «end» = e }) (λ x k. k) h

  abbrev pub named_kept : Property
  named_kept = record {
    Holds = λ a k f. AreNamed names f.nodes;
    Goes = λ a b. Unit {0};
    Bounds = λ e. Unit {0};
    MovesOut = λ a e f c. Unit {0};
    Opens = λ b. NamesEntry names (index_of b);
    more = λ a k f h. h;
    later = λ a b k f goes h. h;
    like = λ a k f g l h. named_alike f.nodes g.nodes l.nodes h;
    closed = λ a e k f ix rest spine goes ends h. ended_named f.nodes ix.0 e h;
    left = λ a e k f g c l leaves h.
        subst (AreNamed names) (sym l.nodes)
        (from_named shallower (λ n. refl) c.0 l.mid (named_alike _ l.mid l.alike (ended_named f.nodes l.list.0 e h)));
    opened = λ a start k f body goes ends opens h. one_named f.nodes (length f.spine + 1, begun_item start body) opens h;
  }

  named_at : (r : PassState) → AreReadNamed r → HoldsAt named_kept 0 0 r
  named_at r h = record { holds = h; goes = tt; marked = λ e is. (tt, tt) }

  named_before : (r : PassState) → AreReadNamed r → HoldsBefore named_kept 0 0 r
  named_before r h = record { held = named_at r h; leaves = λ t is. tt }

  pub popped_named : (e : ℕ) (r : PassState) → AreReadNamed r → AreReadNamed (popped e r)
  popped_named e r h = popped_keeps named_kept 0 e 0 r (λ t is. tt) tt tt h

  pub empty_item_closed_named : (r : PassState) → AreReadNamed r → AreReadNamed (empty_item_closed r)
  empty_item_closed_named r h = empty_item_closed_keeps named_kept 0 0 r (named_at r h)

  pub list_finished_named : (e : ℕ) (r : PassState) → AreReadNamed r → AreReadNamed (list_finished e r)
  list_finished_named e r h = list_finished_keeps named_kept 0 e 0 0 r (named_before r h) ((λ list. tt), tt, tt, tt)

  pub blank_named : (r : PassState) → AreReadNamed r → AreReadNamed (blank_read r)
  blank_named r h = named_alike r.tree.nodes (blank_read r).tree.nodes (like_blank r).nodes h

  pub continued_named : (start byte number : ℕ) (r : PassState) → AreReadNamed r → AreReadNamed (list_continued start byte number r)
  continued_named start byte number r h = list_continued_keeps named_kept 0 start byte number 0 r (named_before r h) (tt, tt, tt, tt) tt

  pub item_named : (start byte number columns : ℕ) (r : PassState) → AreReadNamed r → AreReadNamed (item_opened start byte number columns r)
  item_named start byte number columns r h = item_keeps named_kept 0 start byte number columns 0 r (named_before r h) (tt, tt, tt, tt) tt tt

  pub quote_named : (line start : ℕ) (body : ItemBody) (r : PassState)
      → NamesEntry names (index_of body) → AreReadNamed r → AreReadNamed (begun start body (list_finished line r))
  quote_named line start body r own h =
      quote_keeps named_kept 0 line 0 start 0 body r (named_before r h) ((λ list. tt), tt, tt, tt) tt tt own

  pub note_named : (start : ℕ) (index : CowIndex) (r : PassState) → index.0 < length names.texts → AreReadNamed r → AreReadNamed (footnote_begun start index r)
  note_named start index r own h = note_keeps named_kept 0 start 0 index r (named_before r h) tt tt tt own

  end_named : (f : Forest Item) (e : ℕ) (o : Option TreeIndex) → AreNamed names f.nodes → AreNamed names (with_end f e o).nodes
  end_named f e None h = h
  end_named f e (Some c) h = named_modified names f.nodes c.0 (λ x. record x { «end» = e }) (λ x k. k) h

  title_named : (f : Forest Item) (o : Option TreeIndex) → AreNamed names f.nodes → AreNamed names (with_current f MaybeDefinitionListTitle o).nodes
  title_named f None h = h
  title_named f (Some c) h = body_named f c MaybeDefinitionListTitle tt h

  pub title_begun_named : (e : ℕ) (r : PassState) → AreReadNamed r → AreReadNamed (title_begun e r)
  unfolding title_begun
  title_begun_named e r h = grind (arith, end_named, title_named)

  wrapped_named : (nodes : List (ℕ × Item)) (j : ℕ) (t : ℕ × Item) → IsNamed names t.1 → AreNamed names nodes
      → AreNamed names (take j nodes ++ t ∷ map deeper (drop j nodes))
  unfolding AreNamed
  wrapped_named nodes zero t own h = (own, from_named deeper (λ n. refl) zero nodes h)
  wrapped_named [] (suc j) t own h = (own, tt)
  wrapped_named (n ∷ nodes) (suc j) t own h = (h.0, wrapped_named nodes j t own h.1)

  -- a definition, in the open list or in a new one
  pub definition_named : (start columns : ℕ) (r : PassState) → AreReadNamed r → AreReadNamed (definition_begun start columns r)
  definition_named start columns r h =
      definition_keeps named_kept 0 start columns 0 r tt tt tt
      (opened_both r.tree (λ g. AreNamed names g.nodes) (λ g l. named_alike r.tree.nodes g.nodes l.nodes h)
      (λ c y current here body.
      wrapped_named (with_body_at r.tree c (DefinitionList (list_flags true))).nodes (c.0 + 1) _ tt
      (body_named r.tree c (DefinitionList (list_flags true)) tt h)))

  -- a task list item marker
  pub child_named : (f : Forest Item) (marker : Option Item)
      → ((x : Item) → marker ≡ Some x → is_task_marker x.body ≡ true) → AreNamed names f.nodes → AreNamed names (with_child f marker).nodes
  child_named f None mark h = h
  child_named f (Some x) mark h =
      one_named f.nodes (length f.spine + 1, x) (subst (NamesEntry names) (sym (task_has_none x.body (mark x refl))) tt) h

  -- a block that is added, under further names
  pub block_added : (old : Names) (f new : Forest Item) (items : List (ℕ × Item))
      → Extends names old → new ≡ added f items → AreNamed names items → AreNamed old f.nodes → AreNamed names new.nodes
  unfolding AreNamed
  block_added old f new items more is own h =
      subst (λ (g : Forest Item). AreNamed names g.nodes) (sym is)
      (named_both names f.nodes (at_depth (length f.spine + 1) items) (named_more names old f.nodes more h) (named_deeper names (length f.spine + 1) items own))

-- an added leaf block of a kind
pub kind_named : (text : List ℕ) (options : Options) (names : Names) (p : Place) (kind : Kind) (gap : Bool) (old new : Forest Item) (next : ℕ)
    → (a : AddsKind (document text options names) p kind gap old new next) → AreNamed names a.items
kind_named text options names p kind gap old new next a =
    opens_named (document text options names) (path_of options old) p (lines_from text (line_end p)) kind a.items gap (lines_from text next)
    (a.opens names (extends_none names))

-- the root has no index
pub first_named : (names : Names) (tree : Forest Item) (root : TreeIndex) (e : ℕ) → tree ≡ with_end_at empty_forest root e → AreNamed names tree.nodes
unfolding AreNamed
first_named names tree root e is = rw is (named_modified names empty_forest.nodes root.0 (λ x. record x { «end» = e }) (λ x k. k) (tt, tt))
