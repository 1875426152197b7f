-- A definition list whose last child is a possible title is closed, and the title becomes a paragraph after it.
use Rattle.std.proofs.Common.{◌≡◌, ℕ, zero, suc, ◌+◌, ◌<◌, ◌==◌, Bool, false, not, List, [], ◌∷◌, length, map, slice_index, Some, refl, sym, ap, subst, ◌∙◌}
use Rattle.std.proofs.Common.{arith, option_and_then, true, None}
use Rattle.first_pass_grammar.proofs.Common.{length-map, nat_tests, Item, ItemBody, Options, DefinitionList, ListFlags, TreeIndex, Forest, IsForest, depths}
use Rattle.first_pass_grammar.proofs.Common.{modify, map_from, shallower, moved_from, with_body_at, body_at, modified-is, body-other, Place, Document}
use Rattle.first_pass_grammar.proofs.Common.{Continues, Inside, Opening, Opens, Tables, list_flags, list_closed, title_left, ParagraphAt, TitleAt}
use Rattle.first_pass_grammar.proofs.Common.{InDefinitions, containers_of, SilentClosed, IsLastAt, IsOpenPath, tightened, last-order, flagged, body-kept}
use Rattle.first_pass_items.specs.declared.item.ItemBody.TheVariants.{Paragraph as ParagraphBody}
use Rattle.first_pass_grammar.proofs.Sequences.Finishes.{CompletesAt}
use Rattle.first_pass_completion.proofs.Extending.{tail}
use Rattle.first_pass_completion.proofs.PoppedLists.{completes-pop_title}
use Rattle.first_pass_completion.proofs.States.{open_nodes}
use Rattle.first_pass_completion.proofs.Closings.{completes-close_title}
use Rattle.first_pass_completion.proofs.SilentNodes.{from_closed, from_left}
use Rattle.first_pass_grammar.proofs.Sequences.Tightening.{length-closed}
use Rattle.first_pass_open.specs.Path.{path_of}
use Rattle.first_pass_lists.specs.Closing.{top_end, state_with, popped_at, popped_by, current_moved, definitions_closed}
use Rattle.first_pass_ready.specs.State.{frame_of, frame_at, closed_in, ReadyAt}
use Rattle.first_pass_ready.proofs.OpenLemmas.{open_below, frame-closed}
use Rattle.first_pass_ready.proofs.ClosedIn.{top_in, level_of, closed_at_body, IsTitle}
use Rattle.first_pass_ready.proofs.PopLemmas.{PlainAfter, OpensOther, list_popped, list_spine, list_nodes, Innermost, PathEnds, end_of, plain_after, at_level}
use Rattle.first_pass_ready.proofs.PopLemmas.{innermost_definitions}
use Rattle.first_pass_lists.proofs.MovedLemmas.{closed_current, current_is_last}
use Rattle.first_pass_completion.proofs.TitleNodes.{swapped}
use Rattle.first_pass_open.specs.OpenBlock.{closed_by}
use Rattle.first_pass_lists.specs.declared.state.PassState.{PassState}

-- the innermost open node and its last child, the current node
record IsLastChild (f : Forest Item) (ix : TreeIndex) (rest : List TreeIndex) (c : TreeIndex) : Type 0 where
  child : IsLastAt (depths f.nodes) (length rest + 2) c.0
  after : ix.0 < c.0

last_child : (f : Forest Item) (ix : TreeIndex) (rest : List TreeIndex) (c : TreeIndex) → IsForest f → f.spine ≡ ix ∷ rest → f.current ≡ Some c
    → IsLastChild f ix rest c
last_child f ix rest c forest spine current =
    let ds : List ℕ = depths f.nodes in
    let opened : IsOpenPath ds (ix ∷ rest) = subst (IsOpenPath ds) spine forest.opened in
    let deep : length f.spine + 1 ≡ length rest + 2 = ap (λ (s : List TreeIndex). length s + 1) spine ∙ omega arith in
    let here : IsLastAt ds (length rest + 2) c.0 = subst (λ d. IsLastAt ds d c.0) deep (current_is_last f c forest current) in
    record { child = here; after = last-order ds (length rest + 1) (length rest + 2) ix.0 c.0 opened.0 here (omega arith) }

-- a change at another depth than the paragraphs that become tight
tight_changed : (nodes : List (ℕ × Item)) (at d : ℕ) (g : Item → Item) → (slice_index (depths nodes) at == d) ≡ false
    → map (tightened d) (modify nodes at g) ≡ modify (map (tightened d) nodes) at g
tight_changed [] at d g h = refl
tight_changed (n ∷ nodes) zero d g h = rw h refl
tight_changed (n ∷ nodes) (suc at) d g h = ap (λ z. tightened d n ∷ z) (tight_changed nodes at d g h)

tight_from : (nodes : List (ℕ × Item)) (o at d : ℕ) (g : Item → Item) → (slice_index (depths nodes) at == d) ≡ false
    → map_from (tightened d) o (modify nodes at g) ≡ modify (map_from (tightened d) o nodes) at g
tight_from nodes zero at d g h = tight_changed nodes at d g h
tight_from (n ∷ nodes) (suc o) (suc at) d g h = ap (λ z. n ∷ z) (tight_from nodes o at d g h)
tight_from nodes (suc o) at d g h = refl

-- a closed list whose last child, which is less deep than the blocks in its items, becomes a paragraph
closed_changed : (nodes : List (ℕ × Item)) (o at d : ℕ) (loose : Bool) (e : ℕ) → (slice_index (depths nodes) at == d) ≡ false
    → list_closed (modify nodes at (λ x. record { start = x.start; «end» = x.«end»; body = ParagraphBody })) o d loose e
    ≡ modify (list_closed nodes o d loose e) at (λ x. record { start = x.start; «end» = x.«end»; body = ParagraphBody })
unfolding list_closed
closed_changed nodes o at d true e h = swapped nodes at o _ _ (λ y. refl)
closed_changed nodes o at d false e h =
    ap (λ z. modify z o (λ x. record { start = x.start; «end» = e; body = flagged false x.body })) (tight_from nodes o at d _ h)
    ∙ swapped (map_from (tightened d) o nodes) at o _ _ (λ y. refl)

-- a definition list is closed, and its last child is moved out of it
pub definitions_closed_is : (e : ℕ) (r : PassState) (ix : TreeIndex) (rest : List TreeIndex) (flags : ListFlags) (c : TreeIndex) → r.tree.spine ≡ ix ∷ rest
    → body_at r.tree.nodes ix.0 ≡ Some (DefinitionList flags) → r.tree.current ≡ Some c
    → definitions_closed e r ≡ record r { tree = moved_from (list_popped r.tree e ix rest flags) c.0 }
unfolding definitions_closed
definitions_closed_is e r ix rest flags c spine is current =
    ap (current_moved (popped_at e r r.tree.spine)) current ∙ ap (λ s. current_moved (popped_at e r s) (Some c)) spine
    ∙ ap (λ b. current_moved (popped_by r (closed_by r.tree e (ix ∷ rest)) ix b) (Some c))
    (body-kept r.tree.nodes ix.0 ix.0 (λ x. record { start = x.start; «end» = e; body = x.body }) (λ x. refl) ∙ is)

-- that child is current then
pub moved_current : (f : Forest Item) (e : ℕ) (ix : TreeIndex) (rest : List TreeIndex) (flags : ListFlags) (c : TreeIndex) → IsForest f → f.spine ≡ ix ∷ rest
    → body_at f.nodes ix.0 ≡ Some (DefinitionList flags) → f.current ≡ Some c → (moved_from (list_popped f e ix rest flags) c.0).current ≡ Some c
moved_current f e ix rest flags c forest spine is current =
    let r : PassState = state_with f None false in
    ap (λ (q : PassState). q.tree.current) (sym (definitions_closed_is e r ix rest flags c spine is current))
    ∙ closed_current r e ix c rest forest spine current

-- the tree after a definition list whose last child is a possible title is closed at an offset
abbrev pub title_popped : Forest Item → ℕ → TreeIndex → List TreeIndex → ListFlags → TreeIndex → Forest Item
title_popped f e ix rest flags title = moved_from (list_popped (with_body_at f title ParagraphBody) e ix rest flags) title.0

-- nodes that move up one level keep their bodies
pub body-moved : (nodes : List (ℕ × Item)) (e i : ℕ) → body_at (map_from shallower e nodes) i ≡ body_at nodes i
body-moved (n ∷ nodes) zero (suc i) = body-moved nodes 0 i
body-moved (n ∷ nodes) (suc e) (suc i) = body-moved nodes e i
body-moved nodes zero i = refl
body-moved nodes (suc e) i = refl

body-set : (nodes : List (ℕ × Item)) (at : ℕ) (b : ItemBody) → at < length nodes
    → body_at (modify nodes at (λ x. record { start = x.start; «end» = x.«end»; body = b })) at ≡ Some b
body-set [] at b h = absurd (omega arith)
body-set (n ∷ nodes) zero b h = refl
body-set (n ∷ nodes) (suc at) b h = body-set nodes at b (omega arith)

frame-left : (options : Options) (nodes : List (ℕ × Item)) (at i : ℕ) → i < at → frame_at options (title_left nodes at) i ≡ frame_at options nodes i
unfolding title_left
frame-left options nodes at i h = ap (option_and_then (frame_of options)) (body-moved (modify nodes at _) at i ∙ body-other nodes at i _ h)

-- The innermost open node is a definition list, and its last child is a possible title.
pub record TitledList (f : Forest Item) : Type 0 where
  pub list : TreeIndex
  pub outer : List TreeIndex
  pub title : TreeIndex
  pub spine : f.spine ≡ list ∷ outer
  pub titled : IsTitle f title

-- The tree after such a list is closed. The recorded end of the list is that of its last definition.
abbrev pub title_closed : (f : Forest Item) → TitledList f → Forest Item
title_closed f l = title_popped f (top_end f) l.list l.outer l.titled.flags l.title

module _ (d : Document) (defined : Tables) (f : Forest Item) (run : Bool) (lines : List Place) (forest : IsForest f) (l : TitledList f) where
  abbrev os : List ℕ
  os = map (λ (i : TreeIndex). i.0) l.outer

  abbrev e : ℕ
  e = top_end f

  abbrev now : Forest Item
  now = title_closed f l

  -- the tree with the paragraph still in the list
  abbrev inside : Forest Item
  inside = with_body_at f l.title ParagraphBody

  child : IsLastChild f l.list l.outer l.title
  child = last_child f l.list l.outer l.title forest l.spine l.titled.current

  is_list : body_at f.nodes l.list.0 ≡ Some (DefinitionList l.titled.flags)
  is_list = ap (top_in f.nodes) (sym l.spine) ∙ l.titled.top

  still_list : body_at inside.nodes l.list.0 ≡ Some (DefinitionList l.titled.flags)
  still_list = body-other f.nodes l.title.0 l.list.0 _ child.after ∙ is_list

  still_forest : IsForest inside
  still_forest = modified-is f l.title.0 _ forest

  -- the innermost open node, a list that is loose so far or not
  abbrev Titled : Continues → Bool → Type 0
  Titled from loose = Innermost d defined f run from lines l.list l.outer (TitleAt e l.title.0) (InDefinitions loose)

  -- the nodes of the closed list
  abbrev closed_nodes : Bool → List (ℕ × Item)
  closed_nodes loose = list_closed f.nodes l.list.0 (suc (suc (suc (length os)))) loose e

  title_nodes : (loose : Bool) → l.titled.flags ≡ list_flags (not loose) → now.nodes ≡ title_left (closed_nodes loose) l.title.0
  unfolding title_left
  title_nodes loose set =
      let at : slice_index (depths f.nodes) l.title.0 ≡ length l.outer + 2 = child.child.depth in
      let n = length-map l.outer (λ (i : TreeIndex). i.0) in
      let other : (slice_index (depths f.nodes) l.title.0 == suc (suc (suc (length os)))) ≡ false = grind (arith, nat_tests, at, n) in
      ap (map_from shallower l.title.0)
      (list_nodes inside e l.list l.outer (DefinitionList l.titled.flags) l.titled.flags loose still_forest l.spine still_list refl set
      ∙ closed_changed f.nodes l.list.0 l.title.0 (suc (suc (suc (length os)))) loose e other)

  moved_body : (loose : Bool) → l.titled.flags ≡ list_flags (not loose) → body_at now.nodes l.title.0 ≡ Some ParagraphBody
  unfolding title_left
  moved_body loose set =
      let n : length (closed_nodes loose) ≡ length f.nodes = length-closed f.nodes l.list.0 (suc (suc (suc (length os)))) loose e in
      let m : length (depths f.nodes) ≡ length f.nodes = length-map f.nodes (λ n. n.0) in
      let w : l.title.0 < length (depths f.nodes) = child.child.within in
      ap (λ z. body_at z l.title.0) (title_nodes loose set) ∙ body-moved (modify (closed_nodes loose) l.title.0 _) l.title.0 l.title.0
      ∙ body-set (closed_nodes loose) l.title.0 ParagraphBody (omega arith)

  titled : (from : Continues) → ReadyAt d defined f run from lines → (loose : Bool) × (l.titled.flags ≡ list_flags (not loose)) × Titled from loose
  titled from ready =
      innermost_definitions d defined f run from lines l.list l.outer l.spine l.titled.flags (TitleAt e l.title.0) is_list l.titled.closed ready

  -- the open nodes that remain
  title_left_open : (from : Continues) (loose : Bool) (i : Titled from loose) → l.titled.flags ≡ list_flags (not loose) → SilentClosed f.nodes (closed_in f)
      → CompletesAt d defined (tail (ParagraphAt l.title.0) run) i.outer (title_left (closed_nodes loose) l.title.0) os from lines
      → PlainAfter d defined now run from lines (ParagraphAt l.title.0)
  title_left_open from loose i set silent k =
      let after : l.list.0 < l.title.0 = child.after in
      let deep : ℕ = suc (suc (suc (length os))) in
      let moved : now.current ≡ Some l.title =
      moved_current inside e l.list l.outer l.titled.flags l.title still_forest l.spine still_list l.titled.current in
      plain_after d defined now run from lines (ParagraphAt l.title.0) (title_left (closed_nodes loose) l.title.0) l.outer i.outer (title_nodes loose set)
      (list_spine inside e l.list l.outer l.titled.flags)
      (open_below d.options f.nodes (title_left (closed_nodes loose) l.title.0) l.list.0 l.outer i.outer
      (λ j h. frame-left d.options (closed_nodes loose) l.title.0 j (omega arith) ∙ frame-closed d.options f.nodes l.list.0 deep loose e j h)
      i.completes.below.1 i.are_open.1) i.completes.shape.0
      (λ none. closed_at_body now l.title ParagraphBody none moved (moved_body loose set))
      (from_left (closed_nodes loose) l.title.0 l.title.0
      (from_closed f.nodes l.list.0 deep loose e l.title.0 (subst (SilentClosed f.nodes) l.titled.closed silent))) k

  -- such a list is closed with the container around it
  pub close_title : (from : Continues) (at : ℕ) → PathEnds d (path_of d.options f) from lines at → ReadyAt d defined f run from lines
      → PlainAfter d defined now run from lines (ParagraphAt l.title.0)
  close_title from at ends ready =
      let w = titled from ready in
      let loose : Bool = w.0 in
      let i = w.2 in
      title_left_open from loose i w.1 ready.silent
      (completes-pop_title d (open_nodes defined i.outer f.nodes os) (record { place = l.list.0; «end» = e; loose = loose }) l.title.0 run
      (end_of d (containers_of i.outer) from lines at (subst (λ z. PathEnds d z from lines at) i.path ends)) i.completes)

  -- such a list is closed before a block that is no definition
  pub leave_title : (p : Place) (opening : Opening) → OpensOther d (path_of d.options f) p opening → Opens d (level_of d.options f run) p lines opening
      → ReadyAt d defined f run (Inside p) lines → PlainAfter d defined now run (Inside p) lines (ParagraphAt l.title.0)
  leave_title p opening begins opens ready =
      let w = titled (Inside p) ready in
      let loose : Bool = w.0 in
      let i = w.2 in
      title_left_open (Inside p) loose i w.1 ready.silent
      (completes-close_title d (open_nodes defined i.outer f.nodes os) (record { place = l.list.0; «end» = e; loose = loose }) l.title.0 run
      (at_level d (path_of d.options f) _ _ p lines opening i.level i.path begins.stays opens) begins.block begins.other i.completes)
