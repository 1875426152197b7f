-- The effect of a step on the tree, proved once for each property that is kept.
use Rattle.std.proofs.Common.{◌≡◌, ℕ, suc, ◌<◌, ◌≤◌, arith, Bool, true, false, if◌then◌else◌, List, [], ◌∷◌, length, slice_get, Option, Some, None, refl, sym}
use Rattle.std.proofs.Common.{ap, subst, ◌∙◌, option_and_then}
use Rattle.first_pass_grammar.proofs.Common.{cond_both, none-some, slice_get_within, CowIndex, Item, ItemBody, Paragraph, DefinitionListDefinition}
use Rattle.first_pass_grammar.proofs.Common.{MaybeDefinitionListTitle, some_mapped, TreeIndex, Forest, IsForest, modify, with_body_at, body_at, map_from}
use Rattle.first_pass_grammar.proofs.Common.{shallower, moved_from, modified-is, list_flags}
use Rattle.first_pass_order.proofs.Common.{PassState, closed_by, opened_block, finished_none, reached}
use Rattle.first_pass_items.specs.declared.item.ItemBody.TheVariants.{List as ListBody, ListItem as ListItemBody, FootnoteDefinition as FootnoteDefinitionBody}
use Rattle.first_pass_lists.specs.Closing.{with_tree, top_body, is_list, is_list_of, is_item, is_footnote, is_definition_list, popped_at, definitions_closed}
use Rattle.first_pass_lists.specs.Closing.{top_end, possible_title, title_closed, popped, empty_item_closed, list_closed, gap_marked, list_finished, list_kept}
use Rattle.first_pass_lists.specs.Closing.{begun, list_continued, footnote_left, footnote_begun, definitions_opened, definition_begun}
use Rattle.first_pass_lists.proofs.MovedLemmas.{closed_current}
use Rattle.first_pass_order.proofs.Nests.{TitleThere, title_there, title_no_item, note_untitled, popped_both, popped_item, finished_both}
use Rattle.first_pass_order.proofs.AlikeNodes.{AreAlike, alike_ended, alike_both, LooksAlike, like_body, like_popped, like_noted, like_kept}

-- The innermost open node is closed at an offset, and its last child, the current node, is moved out of it.
pub record IsLeft (f g : Forest Item) (e : ℕ) (c : TreeIndex) : Type 0 where
  pub list : TreeIndex
  pub rest : List TreeIndex
  pub mid : List (ℕ × Item)
  pub spine : f.spine ≡ list ∷ rest
  pub current : f.current ≡ Some c
  pub within : c.0 ≤ length f.nodes
  pub alike : AreAlike (modify f.nodes list.0 (λ x. record x { «end» = e })) mid
  pub nodes : g.nodes ≡ map_from shallower c.0 mid
  pub outer : g.spine ≡ rest
  pub last : IsForest f → g.current ≡ Some c

-- A property that trees keep as nodes are opened and closed. It holds of a tree up to an offset, after a number of
-- nodes were opened. Reading moves from one offset to another (`Goes`), and a node starts or ends at an offset
-- (`Bounds`). A last child is moved out of a closed node (`MovesOut`), and a body is opened (`Opens`).
pub record Property : Type 1 where
  pub Holds : ℕ → ℕ → Forest Item → Type 0
  pub Goes : ℕ → ℕ → Type 0
  pub Bounds : ℕ → Type 0
  pub MovesOut : ℕ → ℕ → Forest Item → TreeIndex → Type 0
  pub Opens : ItemBody → Type 0
  pub more : (a k : ℕ) (f : Forest Item) → Holds a k f → Holds a (suc k) f
  pub later : (a b k : ℕ) (f : Forest Item) → Goes a b → Holds a k f → Holds b k f
  pub like : (a k : ℕ) (f g : Forest Item) → LooksAlike f g → Holds a k f → Holds a k g
  pub closed : (a e k : ℕ) (f : Forest Item) (ix : TreeIndex) (rest : List TreeIndex) → f.spine ≡ ix ∷ rest → Goes a e → Bounds e → Holds a k f
      → Holds e k (closed_by f e (ix ∷ rest))
  pub left : (a e k : ℕ) (f g : Forest Item) (c : TreeIndex) → IsLeft f g e c → MovesOut a e f c → Holds a k f → Holds a k g
  pub opened : (a start k : ℕ) (f : Forest Item) (body : ItemBody) → Goes a start → Bounds start → Opens body → Holds a k f
      → Holds start (suc k) (opened_block f start body)

-- a possible title becomes a paragraph, and is moved out of its list
abbrev untitled : PassState → TreeIndex → PassState
untitled r title = with_tree r (with_body_at r.tree title Paragraph)

some_top : (f : Forest Item) (s : List TreeIndex) → f.spine ≡ s → is_definition_list (option_and_then (λ ix. body_at f.nodes ix.0) (slice_get s 0)) ≡ true
    → (ix : TreeIndex) × (rest : List TreeIndex) × (f.spine ≡ ix ∷ rest)
some_top f [] is list = cc
some_top f (ix ∷ rest) is list = (ix, rest, is)

pub body_inside : (nodes : List (ℕ × Item)) (k : ℕ) (b : ItemBody) → body_at nodes k ≡ Some b → k < length nodes
body_inside nodes k b is = (let there = some_mapped (λ (n : ℕ × Item). n.1.body) (slice_get nodes k) b is in slice_get_within nodes k there.0 there.1)

closed_parts : (q : PassState) (e : ℕ) (s : List TreeIndex) (c : TreeIndex) → q.tree.spine ≡ s → q.tree.current ≡ Some c
    → (definitions_closed e q).tree ≡ moved_from (popped_at e q s).tree c.0
unfolding definitions_closed
closed_parts q e s c spine current = grind arith

pub is_left : (f : Forest Item) (r : PassState) (e : ℕ) (c ix : TreeIndex) (rest : List TreeIndex) → LooksAlike f r.tree → f.spine ≡ ix ∷ rest
    → f.current ≡ Some c → c.0 ≤ length f.nodes → (IsForest f → IsForest r.tree) → IsLeft f (definitions_closed e r).tree e c
is_left f r e c ix rest same spine current within forest =
    let g : Forest Item = closed_by r.tree e (ix ∷ rest) in
    let like = like_popped r g ix (body_at g.nodes ix.0) in
    let parts = closed_parts r e (ix ∷ rest) c (same.spine ∙ spine) (same.current ∙ current) in
    record {
      list = ix;
      rest = rest;
      mid = (popped_at e r (ix ∷ rest)).tree.nodes;
      spine = spine;
      current = current;
      within = within;
      alike = alike_both _ _ _ (alike_ended f.nodes r.tree.nodes ix.0 e same.nodes) like.nodes;
      nodes = ap (λ (z : Forest Item). z.nodes) parts;
      outer = ap (λ (z : Forest Item). z.spine) parts ∙ like.spine;
      last = λ h. closed_current r e ix c rest (forest h) (same.spine ∙ spine) (same.current ∙ current);
    }

pub title_is_left : (r : PassState) (title : TreeIndex) → TitleThere r.tree title → IsLeft r.tree (title_closed r title).tree (top_end r.tree) title
title_is_left r title t =
    let top = some_top r.tree r.tree.spine refl t.list in
    is_left r.tree (untitled r title) (top_end r.tree) title top.0 top.1 (like_body r.tree title MaybeDefinitionListTitle Paragraph t.body (refl, λ h. refl))
    top.2 t.current (let low = body_inside r.tree.nodes title.0 MaybeDefinitionListTitle t.body in omega arith)
    (modified-is r.tree title.0 (λ x. record x { body = Paragraph }))

module _ (p : Property) where
  -- the last child, a possible title, may be moved out of its list
  abbrev pub MayLeave : ℕ → Forest Item → Type 0
  MayLeave a f = (title : TreeIndex) → possible_title f ≡ Some title → p.MovesOut a (top_end f) f title

  item_leaves : (a : ℕ) (f : Forest Item) → is_item (top_body f) ≡ true → MayLeave a f
  item_leaves a f item title is = absurd (title_no_item f title is item)

  pub none_leaves : (a : ℕ) (f : Forest Item) → possible_title f ≡ None → MayLeave a f
  none_leaves a f none title is = absurd (none-some title (sym none ∙ is))

  -- the innermost open node is closed
  pub popped_at_keeps : (a e k : ℕ) (r : PassState) (s : List TreeIndex) → r.tree.spine ≡ s → p.Goes a e → p.Bounds e → p.Holds a k r.tree
      → p.Holds e k (popped_at e r s).tree
  popped_at_keeps a e k r [] spine goes ends h = p.later a e k r.tree goes h
  popped_at_keeps a e k r (ix ∷ rest) spine goes ends h =
      let f : Forest Item = closed_by r.tree e (ix ∷ rest) in
      p.like e k f (popped_at e r (ix ∷ rest)).tree (like_popped r f ix (body_at f.nodes ix.0)) (p.closed a e k r.tree ix rest spine goes ends h)

  pub popped_keeps : (a e k : ℕ) (r : PassState) → MayLeave a r.tree → p.Goes a e → p.Bounds e → p.Holds a k r.tree → p.Holds e k (popped e r).tree
  popped_keeps a e k r leaves goes ends h =
      popped_both e r (λ q. p.Holds e k q.tree) (λ none. popped_at_keeps a e k r r.tree.spine refl goes ends h)
      (λ title is. p.later a e k (title_closed r title).tree goes
      (p.left a (top_end r.tree) k r.tree (title_closed r title).tree title (title_is_left r title (title_there r.tree title is)) (leaves title is) h))

  -- The property holds of the state up to the offset at which reading continues; with an empty item, up to the end of
  -- its marker's line.
  pub record HoldsAt (a k : ℕ) (r : PassState) : Type 0 where
    pub holds : p.Holds (reached r.begin_list_item a) k r.tree
    pub goes : p.Goes (reached r.begin_list_item a) a
    pub marked : (e : ℕ) → r.begin_list_item ≡ Some e → p.Goes e e × p.Bounds e

  -- The property holds of the state, and the last child may be moved out of its list.
  pub record HoldsBefore (a k : ℕ) (r : PassState) : Type 0 where
    pub held : HoldsAt a k r
    pub leaves : MayLeave a r.tree

  -- an item that began with two blank lines is closed at the end of its marker's line
  pub empty_item_closed_keeps : (a k : ℕ) (r : PassState) → HoldsAt a k r → p.Holds a k (empty_item_closed r).tree
  empty_item_closed_keeps a k r h =
      finished_both r (λ f. p.Holds a k f) (p.later (reached r.begin_list_item a) a k r.tree h.goes h.holds)
      (λ e is item.
      let goes : p.Goes e a = subst (λ o. p.Goes (reached o a) a) is h.goes in
      let holds : p.Holds e k r.tree = subst (λ o. p.Holds (reached o a) k r.tree) is h.holds in
      p.later e a k (popped e r).tree goes (popped_keeps e e k r (item_leaves e r.tree item) (h.marked e is).0 (h.marked e is).1 holds))

  pub empty_item_closed_leaves : (a : ℕ) (r : PassState) → MayLeave a r.tree → MayLeave a (empty_item_closed r).tree
  empty_item_closed_leaves a r h = finished_both r (MayLeave a) h (λ e is item. none_leaves a (popped e r).tree (popped_item e r item))

  empty_item_closed_before : (a k : ℕ) (r : PassState) → p.Goes a a → HoldsBefore a k r → HoldsBefore a k (empty_item_closed r)
  empty_item_closed_before a k r here h =
      let none = finished_none r in
      record {
        held = record {
          holds = rw none (empty_item_closed_keeps a k r h.held);
          goes = rw none here;
          marked = λ e is. absurd (none-some e (sym none ∙ is));
        };
        leaves = empty_item_closed_leaves a r h.leaves;
      }

  -- the innermost open node is closed, an empty item if there is one
  popped_with : (b e k : ℕ) (r : PassState) (o : Option ℕ) → ((x : ℕ) → o ≡ Some x → is_item (top_body r.tree) ≡ true) → MayLeave b r.tree
      → p.Goes (reached o b) e → p.Bounds e → p.Holds (reached o b) k r.tree → p.Holds e k (popped e r).tree
  popped_with b e k r None item leaves goes ends h = popped_keeps b e k r leaves goes ends h
  popped_with b e k r (Some x) item leaves goes ends h = popped_keeps x e k r (item_leaves x r.tree (item x refl)) goes ends h

  pub popped_here : (b e k : ℕ) (r : PassState) → HoldsAt b k r → MayLeave b r.tree → ((x : ℕ) → r.begin_list_item ≡ Some x → is_item (top_body r.tree) ≡ true)
      → p.Goes (reached r.begin_list_item b) e → p.Bounds e → p.Holds e k (popped e r).tree
  popped_here b e k r h leaves item goes ends = popped_with b e k r r.begin_list_item item leaves goes ends h.holds

  -- a blank line is noted, or a list continues
  pub noted_keeps : (a k : ℕ) (r : PassState) → p.Holds a k r.tree → p.Holds a k (gap_marked r).tree
  noted_keeps a k r h = p.like a k r.tree (gap_marked r).tree (like_noted r) h

  pub kept_keeps : (a k : ℕ) (r : PassState) → p.Holds a k r.tree → p.Holds a k (list_kept r).tree
  kept_keeps a k r h = p.like a k r.tree (list_kept r).tree (like_kept r) h

  -- an innermost list or footnote definition is closed
  left_by : (a e b k : ℕ) (r : PassState) (t : Bool) → (t ≡ true → MayLeave a r.tree × p.Goes a e) → p.Bounds e → p.Goes e b → p.Goes a b
      → p.Holds a k r.tree → p.Holds b k (if t then popped e r else r).tree
  left_by a e b k r true may ends short goes h = p.later e b k (popped e r).tree short (popped_keeps a e k r (may refl).0 (may refl).1 ends h)
  left_by a e b k r false may ends short goes h = p.later a b k r.tree goes h

  -- Reading moves from one offset to another, past the end of an innermost list.
  abbrev pub PassesList : (a e b : ℕ) (r : PassState) → Type 0
  PassesList a e b r = (is_list (top_body (empty_item_closed r).tree) ≡ true → p.Goes a e) × p.Bounds e × p.Goes e b × p.Goes a b

  -- Reading moves from an offset to the start of a node, where a list may end.
  abbrev pub GoesToItem : (a start : ℕ) → Type 0
  GoesToItem a start = p.Goes a a × p.Goes a start × p.Goes start start × p.Bounds start

  -- before a block that ends a list
  pub list_finished_keeps : (a e b k : ℕ) (r : PassState) → HoldsBefore a k r → PassesList a e b r → p.Holds b k (list_finished e r).tree
  unfolding list_finished
  list_finished_keeps a e b k r h (closes, ends, short, later) =
      let q : PassState = empty_item_closed r in
      noted_keeps b k (list_closed e q)
      (left_by a e b k q (is_list (top_body q.tree)) (λ t. (empty_item_closed_leaves a r h.leaves, closes t)) ends short later
      (empty_item_closed_keeps a k r h.held))

  -- a container is opened there
  pub quote_keeps : (a e b start k : ℕ) (body : ItemBody) (r : PassState) → HoldsBefore a k r → PassesList a e b r → p.Goes b start → p.Bounds start
      → p.Opens body → p.Holds start (suc k) (begun start body (list_finished e r)).tree
  quote_keeps a e b start k body r h g goes starts opens = grind (arith, list_finished_keeps)

  -- an item is opened, in the list that continues or in a new one
  pub list_continued_keeps : (a start byte number k : ℕ) (r : PassState) → HoldsBefore a k r → GoesToItem a start
      → p.Opens (ListBody (list_flags true) byte number) → p.Holds start (suc k) (list_continued start byte number r).tree
  unfolding list_continued
  list_continued_keeps a start byte number k r h (here, goes, there, starts) lists =
      let s : PassState = empty_item_closed r in
      let list : ItemBody = ListBody (list_flags true) byte number in
      cond_both (is_list_of byte (top_body s.tree)) (list_kept s) (begun start list (list_finished start s)) (λ (q : PassState). p.Holds start (suc k) q.tree)
      (λ b. p.later a start (suc k) (list_kept s).tree goes (kept_keeps a (suc k) s (p.more a k s.tree (empty_item_closed_keeps a k r h.held))))
      (λ b. quote_keeps a start start start k list s (empty_item_closed_before a k r here h) ((λ t. goes), starts, there, goes) there starts lists)

  pub item_keeps : (a start byte number columns k : ℕ) (r : PassState) → HoldsBefore a k r → GoesToItem a start
      → p.Opens (ListBody (list_flags true) byte number) → p.Opens (ListItemBody columns)
      → p.Holds start (suc (suc k)) (begun start (ListItemBody columns) (list_continued start byte number r)).tree
  item_keeps a start byte number columns k r h (here, goes, there, starts) lists opens =
      p.opened start start (suc k) (list_continued start byte number r).tree (ListItemBody columns) there starts opens
      (list_continued_keeps a start byte number k r h (here, goes, there, starts) lists)

  -- before a footnote definition is opened
  pub note_left_keeps : (a start k : ℕ) (r : PassState) → HoldsBefore a k r → p.Goes a start → p.Goes start start → p.Bounds start
      → p.Holds start k (gap_marked (footnote_left start (list_closed start (empty_item_closed r)))).tree
  note_left_keeps a start k r h goes there starts =
      let s : PassState = empty_item_closed r in
      let l : PassState = list_closed start s in
      noted_keeps start k (footnote_left start l)
      (left_by start start start k l (is_footnote (top_body l.tree)) (λ note. (none_leaves start l.tree (note_untitled l.tree note), there)) starts there there
      (left_by a start start k s (is_list (top_body s.tree)) (λ list. (empty_item_closed_leaves a r h.leaves, goes)) starts there goes
      (empty_item_closed_keeps a k r h.held)))

  -- a footnote definition is opened
  pub note_keeps : (a start k : ℕ) (index : CowIndex) (r : PassState) → HoldsBefore a k r → p.Goes a start → p.Goes start start → p.Bounds start
      → p.Opens (FootnoteDefinitionBody index) → p.Holds start (suc k) (footnote_begun start index r).tree
  unfolding footnote_begun
  note_keeps a start k index r h goes there starts opens =
      let q : PassState = footnote_left start (list_closed start (empty_item_closed r)) in
      p.opened start start k (gap_marked q).tree (FootnoteDefinitionBody index) there starts opens (note_left_keeps a start k r h goes there starts)

  -- a definition is opened, in a list that is open
  pub definition_keeps : (a start columns k : ℕ) (r : PassState) → p.Goes a start → p.Bounds start → p.Opens (DefinitionListDefinition columns)
      → p.Holds a k (definitions_opened r.tree r.tree.current) → p.Holds start (suc k) (definition_begun start columns r).tree
  unfolding definition_begun
  definition_keeps a start columns k r goes starts opens h =
      let q : PassState = with_tree r (definitions_opened r.tree r.tree.current) in
      p.opened a start k (list_kept q).tree (DefinitionListDefinition columns) goes starts opens (kept_keeps a k q h)
