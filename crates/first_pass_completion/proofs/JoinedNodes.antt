-- Nodes with one more definition, and nodes of an open list.
use Rattle.std.proofs.Common.{◌≡◌, ℕ, suc, ◌<◌, Bool, false, not, ◌||◌, List, ◌∷◌, ◌++◌, length, Option, Some, None, refl, sym, ap, ◌∙◌, append_assoc, arith}
use Rattle.first_pass_grammar.proofs.Common.{Item, DefinitionListTitle, Before, nothing, after_container, before_end, Skeleton, Node, Head, opened, Joins}
use Rattle.first_pass_grammar.proofs.Common.{Rows, OneOf, Definitions, row_of, any_gap, is_loose, list_until, items_after, list_after, rows_of, node_of}
use Rattle.first_pass_grammar.proofs.Common.{items_of, ended, title_taken, list_closed, OneList, Pending, OneTitle, rows_beyond, after_title, rendered}
use Rattle.first_pass_grammar.proofs.Common.{IsPlain, containers_of, in_quote, is_quote, ItemBody, modify}
use Rattle.first_pass_grammar.proofs.Sequences.Tightening.{list_closed-append, closed_item}
use Rattle.first_pass_completion.proofs.States.{OpenNodes}
use Rattle.first_pass_completion.proofs.TitleNodes.{IsAbsorbed, closed-absorbed, end_absorbed, swapped}
use Rattle.std.proofs.Math.Bool.{or_assoc}

-- a container that opens: its head, the body of its node, the nodes before that node, and the places of the nodes around it
pub record Member : Type 0 where
  pub head : Head
  pub body : ItemBody
  pub nodes : List (ℕ × Item)
  pub places : List ℕ

-- the rows of its blocks; the next definitions: what precedes the block after it, and the nodes with it
abbrev pub rows_in : Member → ℕ → Skeleton → Rows
rows_in m e kids = rows_of (is_quote (opened m.head.opener)) nothing e kids

abbrev pub after_member : Member → Skeleton → Before
after_member m kids = after_container (opened m.head.opener) (before_end (is_quote (opened m.head.opener)) nothing kids)

abbrev pub with_member : Member → ℕ → Skeleton → List (ℕ × Item)
with_member m e kids =
    m.nodes ++ (suc (length m.places), node_of m.head.start e m.body) ∷ items_of (suc (suc (length m.places))) false (rows_in m e kids)

-- the rows in open nodes that begin with it, and the rows after it
abbrev pub rows_with : OpenNodes → Before → Member → ℕ → ℕ → Skeleton → Skeleton → Rows
rows_with w before m e last kids s = rows_of (in_quote (containers_of w.frames)) before last (Node m.head e kids s)

abbrev pub rows_past : OpenNodes → Member → ℕ → Skeleton → Skeleton → Rows
rows_past w m last kids s = rows_of (in_quote (containers_of w.frames)) (after_member m kids) last s

-- In open nodes a container adds its node. Then this list may continue, given the container's end and whether its rows
-- have a gap.
pub record AddsMember (w : OpenNodes) (list : Pending) (before : Before) (m : Member) (later : ℕ → Bool → Pending) : Type 0 where
  pub plain : IsPlain w.frames
  pub items : (e last : ℕ) (kids s : Skeleton) → rendered (suc (length w.places)) last w.nodes list (rows_with w before m e last kids s)
      ≡ rendered (suc (length w.places)) last (with_member m e kids) (later e (any_gap (rows_in m e kids))) (rows_past w m last kids s)
  pub gaps : (e last : ℕ) (kids s : Skeleton) → any_gap (rows_beyond list (rows_with w before m e last kids s))
      ≡ any_gap (rows_beyond (later e (any_gap (rows_in m e kids))) (rows_past w m last kids s))

-- a child of the list at a place, with these nodes before it
abbrev pub child : OpenNodes → ℕ → List (ℕ × Item) → Head → ItemBody → Member
child w place nodes head body = record { head = head; body = body; nodes = nodes; places = place ∷ w.places }

-- the rows of such children: one with this end and these rows in it, and those of the rows after it
abbrev pub children : Head → ℕ → Bool → Rows → Joins → Rows → Rows
children head e gap inner joins next = OneOf (row_of head e gap) inner (items_after joins next)

-- the container is such a child: what rows with it add is what closes that list
pub record IsChild (w : OpenNodes) (list : Pending) (before : Before) (m : Member) (joins : ℕ → Joins) (place : ℕ) (loose : Bool) : Type 0 where
  pub plain : IsPlain w.frames
  pub within : place < length m.nodes
  pub items : (e last : ℕ) (kids s : Skeleton)
      → (let k : ℕ = suc (length w.places) in
      let next : Rows = rows_past w m last kids s in
      let all : Rows = children m.head e before.counted (rows_in m e kids) (joins e) next in
      let now : Bool = loose || is_loose all in
      rendered k last w.nodes list (rows_with w before m e last kids s)
      ≡ list_closed m.nodes place (suc (suc k)) now (list_until (joins e) last next)
      ++ (items_of (suc k) (not now) all ++ items_of k false (list_after (joins e) next)))
  pub gaps : (e last : ℕ) (kids s : Skeleton)
      → any_gap (rows_beyond list (rows_with w before m e last kids s)) ≡ any_gap (list_after (joins e) (rows_past w m last kids s))

-- the items of rows that begin with a container begin with its node
abbrev pub HasNode : Head → ItemBody → Type 0
HasNode head body = (k e : ℕ) (tight gap : Bool) (inner more : Rows)
    → items_of k tight (OneOf (row_of head e gap) inner more) ≡ (k, node_of head.start e body) ∷ (items_of (suc k) tight inner ++ items_of k tight more)

pub joined : (w : OpenNodes) (list : Pending) (before : Before) (head : Head) (body : ItemBody) (nodes : List (ℕ × Item)) (joins : ℕ → Joins) (place : ℕ)
    (loose : Bool)
    → HasNode head body → is_quote (opened head.opener) ≡ false → IsChild w list before (child w place nodes head body) joins place loose
    → AddsMember w list before (child w place nodes head body) (λ e gap. OneList place (joins e) ((loose || before.counted) || gap))
unfolding is_loose rendered
joined w list before head body nodes joins place loose node apart h = record {
  plain = h.plain;
  items = λ e last kids s.
      let k : ℕ = suc (length w.places) in
      let inner : Rows = rows_of false nothing e kids in
      let after : Before = after_container (opened head.opener) (before_end false nothing kids) in
      let next : Rows = rows_of (in_quote (containers_of w.frames)) after last s in
      let more : Rows = items_after (joins e) next in
      let until : ℕ = list_until (joins e) last next in
      let all : Bool = ((loose || before.counted) || any_gap inner) || is_loose more in
      let closed : List (ℕ × Item) = list_closed nodes place (suc (suc k)) all until in
      let x : Item = node_of head.start e body in
      let b : List (ℕ × Item) = items_of (suc k) (not all) more in
      let c : List (ℕ × Item) = items_of k false (list_after (joins e) next) in
      rw apart (rw apart at (h.items e last kids s)
      ∙ ap (λ z. list_closed nodes place (suc (suc k)) z until ++ (items_of (suc k) (not z) (children head e before.counted inner (joins e) next) ++ c))
      (sym (or_assoc (loose || before.counted) (any_gap inner) (is_loose more) ∙ or_assoc loose before.counted (any_gap inner || is_loose more)))
      ∙ ap (λ z. closed ++ (z ++ c)) (node (suc k) e (not all) before.counted inner more)
      ∙ sym (ap (λ z. z ++ (b ++ c)) (list_closed-append nodes ((suc k, x) ∷ items_of (suc (suc k)) false inner) place (suc (suc k)) all until h.within
      ∙ ap (λ z. closed ++ z) (closed_item k e all x kids)) ∙ simp append_assoc));
  gaps = h.gaps;
}

-- The end and the flags in a list's node do not matter after the list is closed.
module _ (k last : ℕ) (nodes : List (ℕ × Item)) (o : ℕ) (g : Item → Item) (h : IsAbsorbed g) (loose : Bool) (r : Rows) where
  pub list-absorbed : (joins : Joins) → rendered k last (modify nodes o g) (OneList o joins loose) r ≡ rendered k last nodes (OneList o joins loose) r
  unfolding rendered
  list-absorbed joins = grind (arith, closed-absorbed, nodes)

  title_absorbed : (at e : ℕ) (ds : Option Definitions)
      → ((x : Item) → g (record x { body = DefinitionListTitle }) ≡ record (g x) { body = DefinitionListTitle })
      → after_title k (modify nodes o g) (o, at, e) loose ds r ≡ after_title k nodes (o, at, e) loose ds r
  unfolding title_taken
  title_absorbed at e None same = grind (arith, closed-absorbed, nodes)
  title_absorbed at e (Some ds) same =
      let now : Bool = loose || is_loose ds.items in
      ap (λ z. z ++ (items_of (suc k) (not now) ds.items ++ items_of k false ds.beside))
      (ap (λ z. list_closed z o (suc (suc k)) now ds.«end») (swapped nodes o at g _ (λ x. sym (same x)))
      ∙ closed-absorbed (title_taken nodes at) o (suc (suc k)) g now ds.«end» h)

pub title-ended : (k last : ℕ) (nodes : List (ℕ × Item)) (o x at e : ℕ) (loose : Bool) (r : Rows)
    → rendered k last (ended nodes o x) (OneTitle o at e loose) r ≡ rendered k last nodes (OneTitle o at e loose) r
unfolding rendered ended
title-ended k last nodes o x at e loose r = title_absorbed k last nodes o _ (end_absorbed x) loose r at e _ (λ y. refl)
