-- Order at the start of a definition: its list is open, a new one in the place of the paragraph that becomes its
-- title.
use Rattle.std.proofs.Common.{◌≡◌, ℕ, zero, suc, ◌+◌, ◌<◌, ◌≤◌, true, false, List, [], ◌∷◌, ◌++◌, length, map, take, drop, Some, IsCharBoundary, refl, sym, ap}
use Rattle.std.proofs.Common.{subst, ◌∙◌, arith, length-append, append_assoc, append-nil, true≢false, length-take-le, option_and_then, option_map}
use Rattle.first_pass_grammar.proofs.Common.{not-true, Item, ItemBody, Paragraph, DefinitionList, DefinitionListTitle, DefinitionListDefinition, TreeIndex}
use Rattle.first_pass_grammar.proofs.Common.{Forest, IsForest, IsOpenPath, IsLastAt, modify, body_at, item_at, deeper, modify-at, body-other, body_of}
use Rattle.first_pass_grammar.proofs.Common.{last-order, length-modify, list_flags, Ranged, extent_of, extents, is_task_marker, is_text_block, Siblings, Empty}
use Rattle.first_pass_grammar.proofs.Common.{laid, laid_open, AreAt, FitsOpen, IsOrderedTo}
use Rattle.first_pass_order.proofs.Common.{PassState, top_of, AreNested, AreIn, other_list}
use Rattle.first_pass_grammar.specs.Order.{is_list_item, is_definition_list, Node}
use Rattle.first_pass_grammar.proofs.Order.Orders.{extents-append, laid_open-popped, laid_open-level, length-places}
use Rattle.first_pass_order.proofs.RowSplits.{current_child, fits_open_titled, as_list, open_definitions, laid-deeper, extents-mapped, extents-split}
use Rattle.first_pass_lists.specs.Closing.{with_tree, top_body, current_body, is_list, precedes_definition, may_begin_definition, list_kept, definitions_opened}
use Rattle.first_pass_lists.specs.Closing.{definition_begun, is_definition_list as is_definitions}
use Rattle.first_pass_order.proofs.AlikeNodes.{class_of, titled, opened_both, like_kept}
use Rattle.first_pass_order.proofs.Nests.{nested_before, top_before, IsSettled, begun_settled, like_nested}
use Rattle.first_pass_order.proofs.OrderLemmas.{ordered_same, list_extent, extents-changed, top_there}
use Rattle.first_pass_order.proofs.LeftOrder.{extents_alike, order_kept}
use Rattle.first_pass_order.proofs.PropertyKept.{body_inside, definition_keeps}

-- a title with the nodes after it, which are one deeper
wrapped_extents : (nodes : List (ℕ × Item)) (front : List (ℕ × Ranged)) (n : ℕ × Ranged) (more : List (ℕ × Ranged)) (j : ℕ) (t : ℕ × Item)
    → extents nodes ≡ front ++ n ∷ more → j ≡ suc (length front)
    → extents (take j nodes ++ t ∷ map deeper (drop j nodes)) ≡ front ++ n ∷ (t.0, extent_of t.1) ∷ map deeper more
wrapped_extents nodes front n more j t is at =
    let size : j ≡ length (front ++ n ∷ []) = (let l = length-append front (n ∷ []) in omega arith) in
    let split = extents-split nodes (front ++ n ∷ []) more j (is ∙ sym (append_assoc front (n ∷ []) more)) size in
    let rest : extents (map deeper (drop j nodes)) ≡ map deeper (extents (drop j nodes)) = extents-mapped (λ d. d + 1) (drop j nodes) in
    cc (extents-append (take j nodes) (t ∷ map deeper (drop j nodes)), append_assoc front (n ∷ []) ((t.0, extent_of t.1) ∷ map deeper more))

-- open nodes are before the current one
open_before : (ds : List ℕ) (spine : List TreeIndex) (c d : ℕ) → IsOpenPath ds spine → IsLastAt ds d c → length spine < d → AreIn c spine
open_before ds [] c d path last deep = tt
open_before ds (ix ∷ spine) c d path last deep =
    (last-order ds (length spine + 1) d ix.0 c path.0 last (omega arith), open_before ds spine c d path.1 last (omega arith))

pub current_past : (f : Forest Item) (c : TreeIndex) → IsForest f → f.current ≡ Some c → AreIn c.0 f.spine
current_past f c forest current = grind (arith, open_before)

-- the innermost open node is no definition list, by its extent
same_list : (b : ItemBody) → is_definitions (Some b) ≡ is_definition_list b
same_list (DefinitionList flags) = refl
same_list b = refl

no_open_list : (nodes : List (ℕ × Item)) (root : Ranged) (levels : List (Siblings × Ranged)) (row : Siblings) (spine : List TreeIndex)
    → extents nodes ≡ laid_open root levels row → AreAt root levels spine → is_list (top_of nodes spine) ≡ false → open_definitions levels ≡ false
no_open_list nodes root [] row spine is at none = refl
no_open_list nodes root (level ∷ levels) row [] is at none = absurd at
no_open_list nodes root (level ∷ levels) row (ix ∷ spine) is at none =
    let (m, here, extent) = top_there nodes root level levels row ix is at.0 in
    sym (ap (λ (n : ℕ × Ranged). n.1.definitions) extent) ∙ sym (same_list m.1.body) ∙ sym (ap (λ o. is_definitions (option_map (λ n. n.1.body) o)) here)
    ∙ other_list (body_at nodes ix.0) none

-- the first of nodes
pub take_front : (nodes more : List (ℕ × Item)) (j i : ℕ) → i < j → j ≤ length nodes → body_at (take j nodes ++ more) i ≡ body_at nodes i
take_front nodes more zero i low within = absurd (omega arith)
take_front [] more (suc j) i low within = absurd (omega arith)
take_front (n ∷ nodes) more (suc j) zero low within = refl
take_front (n ∷ nodes) more (suc j) (suc i) low within = take_front nodes more j i (omega arith) (omega arith)

-- The last child becomes the title of an open definition list: the nodes before it keep their bodies.
module _ (f : Forest Item) (c : TreeIndex) (y : Item) (here : item_at f c ≡ Some y) where
  abbrev listed : List (ℕ × Item)
  listed = modify f.nodes c.0 (λ x. record x { body = DefinitionList (list_flags true) })

  listed_within : c.0 + 1 ≤ length listed
  listed_within = grind (arith, body_inside, body_of, length-modify)

  titled_within : c.0 < length (titled f c y).nodes
  titled_within =
      let n = length-append (take (c.0 + 1) listed)
      ((length f.spine + 2, record { start = y.start; «end» = y.«end»; body = DefinitionListTitle }) ∷ map deeper (drop (c.0 + 1) listed)) in
      let first = length-take-le (c.0 + 1) listed listed_within in
      omega arith

  pub titled_at : (i : ℕ) → i < c.0 + 1 → body_at (titled f c y).nodes i ≡ body_at listed i
  titled_at i low = take_front listed _ (c.0 + 1) i low listed_within

  pub titled_front : (i : ℕ) → i < c.0 → body_at (titled f c y).nodes i ≡ body_at f.nodes i
  titled_front i low = titled_at i (omega arith) ∙ body-other f.nodes c.0 i (λ x. record x { body = DefinitionList (list_flags true) }) low

  titled_nested : IsForest f → f.current ≡ Some c → is_list (top_body f) ≡ false → AreNested f.nodes f.spine
      → AreNested (titled f c y).nodes (titled f c y).spine
  titled_nested forest current outside nested =
      let before = current_past f c forest current in
      let same : (i : ℕ) → i < c.0 → class_of (body_at (titled f c y).nodes i) ≡ class_of (body_at f.nodes i) = λ i low. ap class_of (titled_front i low) in
      let within = titled_within in (
        within,
        λ list. absurd (true≢false (sym list ∙ ap (λ t. t.0) (top_before f.nodes (titled f c y).nodes c.0 f.spine same before) ∙ outside)),
        nested_before f.nodes (titled f c y).nodes c.0 f.spine same (omega arith) before nested,
      )

module _ (text : List ℕ) (f : Forest Item) (a : ℕ) (c : TreeIndex) (y : Item) (forest : IsForest f) (current : f.current ≡ Some c)
    (here : item_at f c ≡ Some y) (body : y.body ≡ Paragraph) (outside : is_list (top_body f) ≡ false) (h : IsOrderedTo text f a) where
  titled_ordered : IsOrderedTo text (titled f c y) a
  unfolding laid
  titled_ordered =
      let d : ℕ = suc (length h.levels) in
      let n = length-places h.root h.levels f.spine h.places in
      let deeper_is : length f.spine + 2 ≡ suc d = omega arith in
      let x : Ranged = extent_of y in
      let l = current_child text f a c y forest current here h in
      let front : List (ℕ × Ranged) = laid_open h.root h.levels l.before in
      let kids : List (ℕ × Ranged) = laid (suc d) l.kids in
      let split : extents f.nodes ≡ front ++ (d, x) ∷ kids =
      h.nodes ∙ ap (laid_open h.root h.levels) l.row_is ∙ laid_open-popped h.root x h.levels l.before l.kids in
      let nodes : List (ℕ × Item) = listed f c y here in
      let t : ℕ × Item = (length f.spine + 2, record { start = y.start; «end» = y.«end»; body = DefinitionListTitle }) in
      let flagged : extents nodes ≡ front ++ (d, as_list x) ∷ kids =
      extents-changed f.nodes c.0 (λ x. record x { body = DefinitionList (list_flags true) }) as_list (λ z. refl)
      ∙ ap (λ (z : List (ℕ × Ranged)). modify z c.0 as_list) split ∙ modify-at front kids (d, x) c.0 as_list l.place_is in
      let all = wrapped_extents nodes front (d, as_list x) kids (c.0 + 1) t flagged (omega (arith, l.place_is)) in
      let title = list_extent y Paragraph DefinitionListTitle body refl in
      let below = append-nil (laid (suc (suc d)) l.kids) in
      let level = laid_open-level h.root (l.before, as_list x) h.levels (Node x l.kids Empty) in
      record {
        root = h.root;
        levels = (l.before, as_list x) ∷ h.levels;
        row = Node x l.kids Empty;
        nodes = cc (laid-deeper (suc d) l.kids);
        places = (l.place_is, h.places);
        fits = fits_open_titled text a h.levels l.before x l.kids
            (record { plain = ap is_task_marker body; other = ap is_list_item body; block = ap is_text_block body })
            (no_open_list f.nodes h.root h.levels h.row f.spine h.nodes h.places outside) (subst (FitsOpen text a h.levels) l.row_is h.fits);
        within = h.within;
        whole = h.whole;
      }

-- A definition begins if one may: the open nodes are then in order and nested.
abbrev IsOpenTo : List ℕ → Forest Item → ℕ → Type 0
IsOpenTo text f a = IsOrderedTo text f a × AreNested f.nodes f.spine

opened_in_order : (text : List ℕ) (f : Forest Item) (a : ℕ) → IsForest f → may_begin_definition f ≡ true → IsOpenTo text f a
    → IsOpenTo text (definitions_opened f f.current) a
opened_in_order text f a forest may (h, nested) =
    opened_both f (λ g. IsOpenTo text g a)
    (λ g l. (ordered_same text f g a (extents_alike f.nodes g.nodes l.nodes) l.spine h, like_nested f g l nested))
    (λ c y current here body.
    let is : current_body f ≡ Some Paragraph =
    ap (λ o. option_and_then (λ ix. body_at f.nodes ix.0) o) current ∙ body_of f c y here ∙ ap (λ z. Some z) body in
    let outside = not-true (is_list (top_body f)) (sym (ap (precedes_definition (top_body f)) is) ∙ may) in
    (titled_ordered text f a c y forest current here body outside h, titled_nested f c y here forest current outside nested))

-- a definition is opened at an offset
pub ordered_definition : (text : List ℕ) (r : PassState) (a start columns : ℕ) → IsForest r.tree → may_begin_definition r.tree ≡ true → a ≤ start
    → start ≤ length text → IsCharBoundary text start → IsOrderedTo text r.tree a → AreNested r.tree.nodes r.tree.spine
    → IsOrderedTo text (definition_begun start columns r).tree start × IsSettled (definition_begun start columns r)
unfolding definition_begun
ordered_definition text r a start columns forest may later within starts h nested =
    let q : PassState = with_tree r (definitions_opened r.tree r.tree.current) in
    let k : PassState = list_kept q in
    let now = opened_in_order text r.tree a forest may (h, nested) in (
      definition_keeps (order_kept text) a start columns 0 r (later, within) starts tt now.0,
      begun_settled start (DefinitionListDefinition columns) k refl (λ list. refl) (like_nested q.tree k.tree (like_kept q) now.1),
    )
