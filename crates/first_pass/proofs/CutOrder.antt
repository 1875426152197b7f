-- The tokens in an open block are cut off at an offset, and the block becomes a heading: a tree in order stays in
-- order.
use Rattle.std.proofs.Common.{◌≡◌, inl, inr, ℕ, suc, ◌+◌, ◌-◌, ◌<◌, ◌≤◌, ◌==◌, ◌&&◌, nat_lt, min, max, Bool, true, false, if◌then◌else◌, List, [], ◌∷◌, ◌++◌}
use Rattle.std.proofs.Common.{append_assoc, length, take, drop, slice_get, slice_index, Option, Some, IsSomeAnd, IsCharBoundary, refl, sym, ap, subst, ◌∙◌}
use Rattle.std.proofs.Common.{arith, option_map, eqb-true, ltb-true, length-take, take-append-drop, length-append}
use Rattle.first_pass_grammar.proofs.Common.{and_parts, cases_lt, cond_both, false≢true, nat_tests, none-some, same_Some, IsCharBoundary-before_ascii}
use Rattle.first_pass_grammar.proofs.Common.{backslash, HeadingIndex, HeadingLevel, Item, ItemBody, Paragraph, Heading, DefinitionListTitle}
use Rattle.first_pass_grammar.proofs.Common.{MaybeDefinitionListTitle, Text, TreeIndex, Forest, body_at, cut_item, cut_siblings, cut_tokens, is_escaped}
use Rattle.first_pass_grammar.proofs.Common.{item_at, open_place, with_body_at, Document, laid_open, AreAt, open_within, FitsOpen, IsOrderedTo, Ranged}
use Rattle.first_pass_grammar.proofs.Common.{extent_of, extents, is_text_block, Siblings, Empty, laid, Within, Elsewhere, InText, below, beyond, IsLead, Fits}
use Rattle.first_pass_grammar.proofs.Common.{body_of, slice_get_within, some_mapped, body-changed, body-other, depths, modify, length-modify}
use Rattle.first_pass.proofs.Common.{TightParagraph, MayAddAt, extents-body, flags_of, top_there, ordered_tree, is_item, top_of, AreNested, nested_before}
use Rattle.first_pass.proofs.Common.{top_before, extents-split, IsOpenPath, popped, StandsAfterBackslash, AreTokens, HoldsChain, HoldsTokens, with_tree}
use Rattle.first_pass_blocks.proofs.Common.{Node, ended_at, length-places, get_front, is_list, top_body, PassState, BecomesHeading, CutsChildren, ordered_none}
use Rattle.first_pass_blocks.proofs.Common.{ordered_same}
use Rattle.first_pass_tree.specs.Forest.{IsForest}
use Rattle.first_pass_open.proofs.PathLemmas.{AreIn}
use Rattle.first_pass_order.proofs.AlikeNodes.{class_of}
use Rattle.first_pass_order.proofs.DefinitionBegun.{current_past}
use Rattle.first_pass_grammar.proofs.Order.Orders.{extents-append, fits-one, fits-order, laid-one}
use Rattle.first_pass.proofs.Chains.{chain_holds}
use Rattle.first_pass.proofs.Adding.{IsOutside, may_add_by, no_empty_item, outside_of}

-- what is made of the first of the nodes that are cut
pub cut_cases : (e d : ℕ) (n : ℕ × Item) (nodes : List (ℕ × Item)) (P : List (ℕ × Item) → Type 0)
    → (nat_lt d n.0 ≡ true → P (n ∷ cut_tokens e d nodes)) → (nat_lt n.1.start e ≡ true → P ((n.0, cut_item e n.1) ∷ cut_tokens e d nodes))
    → ((is_escaped n.1.body && (n.1.start == e)) ≡ true → P ((n.0, record { start = e - 1; «end» = e; body = Text false }) ∷ []))
    → P [] → P (cut_tokens e d (n ∷ nodes))
cut_cases e d n nodes P deeper kept escaped none =
    cond_both _ _ _ P deeper (λ b. cond_both _ _ _ P kept (λ b. cond_both _ _ _ P escaped (λ b. none)))

-- a token has no children
only_leaf : (text : List ℕ) (d low : ℕ) (nodes : List (ℕ × Item)) (kids next : Siblings) → extents nodes ≡ laid (suc d) kids ++ laid d next
    → AreTokens text d low nodes → kids ≡ Empty
unfolding laid
only_leaf text d low nodes Empty next is h = refl
only_leaf text d low [] (Node y more after) next is h = absurd cc
only_leaf text d low (n ∷ nodes) (Node y more after) next is h =
    let e : (n.0, extent_of n.1) ≡ (suc d, y) = cc in
    let deeper : n.0 ≡ suc d = ap (λ (z : ℕ × Ranged). z.0) e in
    let same : n.0 ≡ d = h.0 in
    absurd (omega arith)

-- a marker before the block ends before it
lead_before : (text : List ℕ) (w : Within) (from : ℕ) (x : Ranged) → IsLead text w from x → x.«end» ≤ from
lead_before text (InText before) from x h = h.1.before
lead_before text w from x h = absurd h

-- the minimum of two character boundaries is one
min_boundary : (text : List ℕ) (a b : ℕ) → IsCharBoundary text a → IsCharBoundary text b → IsCharBoundary text (min a b)
min_boundary text a b h k =
    elim (cases_lt a b) [
      | inl less ↦ (let same : a ≡ min a b = omega arith in subst (IsCharBoundary text) same h)
      | inr past ↦ (let same : b ≡ min a b = omega arith in subst (IsCharBoundary text) same k)
    ]

lead_cut : (text : List ℕ) (w : Within) (from e : ℕ) (x : Ranged) → x.start < e → IsCharBoundary text e → IsLead text w from x
    → IsLead text w (min from e) (ended_at x (min x.«end» e))
lead_cut text (InText before) from e x less b (marker, h) = (
  marker,
  record {
    following = h.following;
    order = (let o = h.order in omega arith);
    before = (let o = h.before in omega arith);
    starts = h.starts;
    ends = min_boundary text x.«end» e h.ends b;
  },
)
lead_cut text w from e x less b h = absurd h

-- a token that remains
end_by : (t : Bool) (e : ℕ) (y : Item) → nat_lt e y.«end» ≡ t
    → extent_of (if t then record y { «end» = e } else y) ≡ ended_at (extent_of y) (min y.«end» e)
end_by true e y h = (let same : e ≡ min y.«end» e = grind (arith, nat_tests, h) in ap (ended_at (extent_of y)) same)
end_by false e y h = (let same : y.«end» ≡ min y.«end» e = grind (arith, nat_tests, h) in ap (ended_at (extent_of y)) same)

-- these nodes form a row that fits as before, but ends at the earlier offset
abbrev CutFits : List ℕ → Within → ℕ → ℕ → ℕ → ℕ → List (ℕ × Item) → Type 0
CutFits text w from to e d nodes = (row : Siblings) × (extents nodes ≡ laid d row) × Fits text w (min from e) to row

-- A token is the first of a row, after an offset. The tokens after it stay a row when they are cut.
record FirstToken (text : List ℕ) (w : Within) (from to e d : ℕ) (n : ℕ × Item) (nodes : List (ℕ × Item)) : Type 0 where
  low : ℕ
  next : Siblings
  boundary : IsCharBoundary text e
  later : from ≤ low
  depth : n.0 ≡ d
  fits : Fits text w from to (Node (extent_of n.1) Empty next)
  cut : (v : Within) (f : ℕ) → f ≤ max low n.1.«end» → Fits text v f to next → CutFits text v f to e d (cut_tokens e d nodes)

module _ (text : List ℕ) (w : Within) (from to e d : ℕ) (n : ℕ × Item) (nodes : List (ℕ × Item)) (t : FirstToken text w from to e d n nodes) where
  abbrev z : Ranged
  z = ended_at (extent_of n.1) (min n.1.«end» e)

  laid_as : (row : Siblings) → extents (cut_tokens e d nodes) ≡ laid d row
      → extents ((n.0, cut_item e n.1) ∷ cut_tokens e d nodes) ≡ laid d (Node z Empty row)
  unfolding laid
  laid_as row is =
      ap (λ k. (k, extent_of (cut_item e n.1)) ∷ extents (cut_tokens e d nodes)) t.depth
      ∙ ap (λ (y : Ranged). (d, y) ∷ extents (cut_tokens e d nodes)) (end_by (nat_lt e n.1.«end») e n.1 refl)
      ∙ ap (λ (r : List (ℕ × Ranged)). (d, z) ∷ r) is

  stays : n.1.start < e → CutFits text w from to e d ((n.0, cut_item e n.1) ∷ cut_tokens e d nodes)
  unfolding Fits
  stays less = elim t.fits [
    | inl (between, inside, more) ↦
        let (row, is, f) = t.cut (beyond w) n.1.«end» (omega arith) more in
        let starts = between.following in
        let order = between.order in
        let inner : z.start ≤ z.«end» = omega arith in (
          Node z Empty row,
          laid_as row is,
          inl (
            record {
              following = omega arith;
              order = inner;
              before = fits-order text (beyond w) z.«end» to row f;
              starts = between.starts;
              ends = min_boundary text n.1.«end» e between.ends t.boundary;
            },
            inner,
            f,
          ),
        )
    | inr (lead, inside, more) ↦
        let (row, is, f) = t.cut Elsewhere from (omega (arith, t.later)) more in
        let whole : n.1.start ≤ n.1.«end» = inside in
        let inner : z.start ≤ z.«end» = omega arith in
        (Node z Empty row, laid_as row is, inr (lead_cut text w from e (extent_of n.1) less t.boundary lead, inner, f))
  ]

  -- no token
  none_left : CutFits text w from to e d []
  unfolding Fits laid
  none_left = (let all = fits-order text w from to (Node (extent_of n.1) Empty t.next) t.fits in (Empty, refl, omega arith))

  -- a token that starts within the row's end
  starts_within : t.low < n.1.start → n.1.start ≤ to
  unfolding Fits
  starts_within past = elim t.fits [
    | inl (between, inside, more) ↦ (let o = between.order in let k = between.before in omega arith)
    | inr (lead, inside, more) ↦ (let whole : n.1.start ≤ n.1.«end» = inside in
        let first = lead_before text w from (extent_of n.1) lead in absurd (omega (arith, t.later)))
  ]

  -- the backslash of the first token that is cut
  goes : (is_escaped n.1.body && (n.1.start == e)) ≡ true → StandsAfterBackslash text t.low n.1
      → CutFits text w from to e d ((n.0, record { start = e - 1; «end» = e; body = Text false }) ∷ [])
  goes is stands =
      let parts = and_parts (is_escaped n.1.body) (n.1.start == e) is in
      let at : n.1.start ≡ e = eqb-true n.1.start e parts.1 in
      let (past, byte) = stands parts.0 in
      let within = starts_within past in
      let later = t.later in
      let high = t.boundary.0 in
      let y : Item = record { start = e - 1; «end» = e; body = Text false } in
      let here : slice_index text (e - 1) ≡ backslash = ap (λ k. slice_index text (k - 1)) (sym at) ∙ byte in (
        Node (extent_of y) Empty Empty,
        ap (λ k. (k, extent_of y) ∷ []) t.depth ∙ sym (laid-one d (extent_of y)),
        fits-one text w (min from e) to (extent_of y)
            (record {
              following = omega arith;
              order = omega arith;
              before = omega arith;
              starts = IsCharBoundary-before_ascii text (e - 1) (omega arith) (omega arith);
              ends = t.boundary;
            }),
      )

  cut_first : StandsAfterBackslash text t.low n.1 → CutFits text w from to e d (cut_tokens e d (n ∷ nodes))
  cut_first stands =
      cut_cases e d n nodes (CutFits text w from to e d) (λ b. (let deeper = ltb-true d n.0 b in absurd (omega (arith, t.depth))))
      (λ b. stays (ltb-true n.1.start e b)) (λ b. goes b stands) none_left

-- Tokens at a depth, after an offset, form a row that fits between two others. The first of these is not after it.
record TokenRow (text : List ℕ) (w : Within) (from to d low : ℕ) (nodes : List (ℕ × Item)) (row : Siblings) : Type 0 where
  later : from ≤ low
  extents_are : extents nodes ≡ laid d row
  tokens : AreTokens text d low nodes
  fits : Fits text w from to row

cut_row : (text : List ℕ) (w : Within) (from to e d low : ℕ) (nodes : List (ℕ × Item)) (row : Siblings) → IsCharBoundary text e
    → TokenRow text w from to d low nodes row → CutFits text w from to e d (cut_tokens e d nodes)
unfolding laid Fits
cut_row text w from to e d low [] row b t = (let all = fits-order text w from to row t.fits in (Empty, refl, omega arith))
cut_row text w from to e d low (n ∷ nodes) Empty b t = (let is : extents (n ∷ nodes) ≡ laid d Empty = t.extents_are in absurd cc)
cut_row text w from to e d low (n ∷ nodes) (Node x kids next) b t =
    let is : extents (n ∷ nodes) ≡ laid d (Node x kids next) = t.extents_are in
    let h : AreTokens text d low (n ∷ nodes) = t.tokens in
    let first : (n.0, extent_of n.1) ≡ (d, x) = cc in
    let tail : extents nodes ≡ laid (suc d) kids ++ laid d next = cc in
    let none : kids ≡ Empty = only_leaf text d (max low n.1.«end») nodes kids next tail h.2 in
    let next_is : extents nodes ≡ laid d next = tail ∙ ap (λ (k : Siblings). laid (suc d) k ++ laid d next) none in
    let x_is : extent_of n.1 ≡ x = ap (λ (z : ℕ × Ranged). z.1) first in
    let own : Fits text w from to (Node (extent_of n.1) Empty next) =
    subst (λ (k : Siblings). Fits text w from to (Node (extent_of n.1) k next)) none
    (subst (λ (y : Ranged). Fits text w from to (Node y kids next)) (sym x_is) t.fits) in
    let token : FirstToken text w from to e d n nodes = record {
      low = low;
      next = next;
      boundary = b;
      later = t.later;
      depth = h.0;
      fits = own;
      cut = λ v f low' k. cut_row text v f to e d (max low n.1.«end») nodes next b
          (record { later = low'; extents_are = next_is; tokens = h.2; fits = k });
    } in
    cut_first text w from to e d n nodes token h.1

-- the children of the innermost open node
open_as : (s : List TreeIndex) (block : TreeIndex) → slice_get s 0 ≡ Some block → (rest : List TreeIndex) × (s ≡ block ∷ rest)
open_as [] block e = absurd (none-some block e)
open_as (ix ∷ rest) block e = (rest, ap (λ (i : TreeIndex). i ∷ rest) (same_Some ix block e))

module _ (text : List ℕ) (f : Forest Item) (at e : ℕ) (block : TreeIndex) (rest : List TreeIndex) (x : Item) (spine : f.spine ≡ block ∷ rest)
    (there : item_at f block ≡ Some x) (tokens : AreTokens text (length f.spine + 1) x.start (drop (block.0 + 1) f.nodes)) (low : x.start ≤ e)
    (b : IsCharBoundary text e) where
  by_levels : (root : Ranged) (levels : List (Siblings × Ranged)) (row : Siblings) → extents f.nodes ≡ laid_open root levels row
      → AreAt root levels (block ∷ rest) → FitsOpen text at levels row
      → (row : Siblings) × (extents (cut_siblings f e).nodes ≡ laid_open root levels row) × FitsOpen text at levels row
  unfolding laid_open FitsOpen
  by_levels root [] row nodes places fits = absurd places
  by_levels root (level ∷ levels) row nodes places (from, before, inside, starts, outer) =
      let d : ℕ = suc (suc (length levels)) in
      let front : List (ℕ × Ranged) = laid_open root levels level.0 in
      let mid : ℕ × Ranged = (suc (length levels), level.1) in
      let size = length-places root levels rest places.1 in
      let long : length f.spine ≡ suc (length rest) = ap length spine in
      let depth : length f.spine + 1 ≡ d = omega arith in
      let here : block.0 ≡ length front = places.0 in
      let k : ℕ = suc (length front) in
      let place : open_place f.spine + 1 ≡ k = (let o : open_place f.spine ≡ block.0 = ap open_place spine in omega arith) in
      let next : block.0 + 1 ≡ k = omega arith in
      let (m, is_m, extent) = top_there f.nodes root level levels row block nodes here in
      let same : extent_of x ≡ level.1 =
      ap extent_of (sym (same_Some m.1 x (subst (λ o. option_map (λ (m : ℕ × Item). m.1) o ≡ Some x) is_m there))) ∙ ap (λ (z : ℕ × Ranged). z.1) extent in
      let count = length-append front (mid ∷ []) in
      let parts = extents-split f.nodes (front ++ mid ∷ []) (laid d row) k (nodes ∙ sym (append_assoc front (mid ∷ []) (laid d row))) (omega arith) in
      let start_is : x.start ≡ level.1.start = ap (λ (y : Ranged). y.start) same in
      let all_tokens : AreTokens text d x.start (drop k f.nodes) = rw (← next, ← depth) tokens in
      let w : Within = below (open_within levels) from level.1 in
      let (cut, is, fits) = cut_row text w level.1.start at e d x.start (drop k f.nodes) row b
      (record { later = omega arith; extents_are = parts.1; tokens = all_tokens; fits = inside }) in
      let first : min level.1.start e ≡ level.1.start = omega arith in
      let all : (cut_siblings f e).nodes ≡ take k f.nodes ++ cut_tokens e d (drop k f.nodes) = rw (place, depth) refl in (
        cut,
        ap extents all ∙ extents-append (take k f.nodes) (cut_tokens e d (drop k f.nodes))
            ∙ ap (λ (z : List (ℕ × Ranged)). z ++ extents (cut_tokens e d (drop k f.nodes))) parts.0
            ∙ ap (λ (z : List (ℕ × Ranged)). (front ++ mid ∷ []) ++ z) is ∙ append_assoc front (mid ∷ []) (laid d cut),
        (from, before, subst (λ k. Fits text w k at cut) first fits, starts, outer),
      )

  pub cut_ordered : IsOrderedTo text f at → IsOrderedTo text (cut_siblings f e) at
  cut_ordered o =
      let (row, nodes, fits) = by_levels o.root o.levels o.row o.nodes (subst (AreAt o.root o.levels) spine o.places) o.fits in
      record { root = o.root; levels = o.levels; row = row; nodes = nodes; places = o.places; fits = fits; within = o.within; whole = o.whole }

-- a block with text becomes a heading, and its extent is the same
text_flags : (level : HeadingLevel) (index : Option HeadingIndex) (body : ItemBody) → is_text_block body ≡ true → flags_of body ≡ flags_of (Heading level index)
text_flags level index Paragraph h = refl
text_flags level index TightParagraph h = refl
text_flags level index (Heading other ix) h = refl
text_flags level index DefinitionListTitle h = refl
text_flags level index MaybeDefinitionListTitle h = refl
text_flags level index body h = absurd (false≢true h)

-- the nodes up to the block are the same
cut_front : (f : Forest Item) (e : ℕ) (block : TreeIndex) → slice_get f.spine 0 ≡ Some block → block.0 < length f.nodes → (i : ℕ) → i ≤ block.0
    → (block.0 < length (cut_siblings f e).nodes) × (slice_get (cut_siblings f e).nodes i ≡ slice_get f.nodes i)
cut_front f e block spine within i low =
    let place : open_place f.spine ≡ block.0 = ap open_place (open_as f.spine block spine).1 in
    let k : ℕ = open_place f.spine + 1 in
    let long : length (take k f.nodes) ≡ min k (length f.nodes) = length-take k f.nodes in
    let cut : List (ℕ × Item) = cut_tokens e (length f.spine + 1) (drop k f.nodes) in
    let all = length-append (take k f.nodes) cut in
    let inside : i < length (take k f.nodes) = omega arith in
    let size : block.0 < length (take k f.nodes ++ cut) = omega arith in (
      size,
      get_front (take k f.nodes) cut i inside ∙ sym (get_front (take k f.nodes) (drop k f.nodes) i inside)
          ∙ ap (λ (ns : List (ℕ × Item)). slice_get ns i) (take-append-drop k f.nodes),
    )

-- An open block whose children are cut, or not: the nodes up to it are the same.
record KeepsFront (f g : Forest Item) (block : TreeIndex) : Type 0 where
  spine : g.spine ≡ f.spine
  size : block.0 < length g.nodes
  same : (i : ℕ) → i ≤ block.0 → slice_get g.nodes i ≡ slice_get f.nodes i

children_front : (text : List ℕ) (f cut : Forest Item) (block : TreeIndex) (start : ℕ) → slice_get f.spine 0 ≡ Some block → block.0 < length f.nodes
    → CutsChildren text start f cut → KeepsFront f cut block
children_front text f cut block start spine within (inl same) =
    subst (λ (g : Forest Item). KeepsFront f g block) (sym same) (record { spine = refl; size = within; same = λ i low. refl })
children_front text f cut block start spine within (inr (e, low, b, is)) =
    subst (λ (g : Forest Item). KeepsFront f g block) (sym is) (record {
      spine = refl;
      size = (cut_front f e block spine within block.0 (omega arith)).0;
      same = λ i low. (cut_front f e block spine within i low).1;
    })

node_within : (f : Forest Item) (block : TreeIndex) (x : Item) → item_at f block ≡ Some x → block.0 < length f.nodes
node_within f block x there =
    slice_get_within f.nodes block.0 _ (some_mapped (λ (n : ℕ × Item). n.1) (slice_get f.nodes block.0) x there).1

-- the body of the block stays
block_kept : (f g : Forest Item) (block : TreeIndex) (x : Item) → KeepsFront f g block → item_at f block ≡ Some x → body_at g.nodes block.0 ≡ Some x.body
block_kept f g block x k there = body_of g block x (ap (option_map (λ (m : ℕ × Item). m.1)) (k.same block.0 (omega arith)) ∙ there)

-- the children are cut, or not: the body of the block stays, and the order
children_cut : (text : List ℕ) (f cut : Forest Item) (block : TreeIndex) (at : ℕ) → slice_get f.spine 0 ≡ Some block → (h : HoldsTokens text f block)
    → CutsChildren text h.node.start f cut → IsOrderedTo text f at → (body_at cut.nodes block.0 ≡ Some h.node.body) × IsOrderedTo text cut at
children_cut text f cut block at spine h children o = (
  block_kept f cut block h.node (children_front text f cut block h.node.start spine (node_within f block h.node h.there) children) h.there,
  elim children [
    | inl same ↦ subst (λ (g : Forest Item). IsOrderedTo text g at) (sym same) o
    | inr (e, low, b, is) ↦
        let (rest, spine_is) = open_as f.spine block spine in
        subst (λ (g : Forest Item). IsOrderedTo text g at) (sym is) (cut_ordered text f at e block rest h.node spine_is h.there h.tokens low b o)
  ],
)

-- A block that contains tokens becomes a heading.
pub heading_ordered : {d : Document} {level : HeadingLevel} {broken : Bool} {block : TreeIndex} {old new : Forest Item} {at : ℕ}
    → slice_get old.spine 0 ≡ Some block → BecomesHeading d level broken block old new → HoldsTokens d.text old block → IsOrderedTo d.text old at
    → IsOrderedTo d.text new at
heading_ordered {d = d} {level = level} {block = block} {old = old} {at = at} spine heads h o =
    let children = subst (λ (z : Option Item). IsSomeAnd z (λ x. CutsChildren d.text x.start old heads.cut)) h.there heads.children in
    let (body, cut) = children_cut d.text old heads.cut block at spine h children o in
    rw heads.tree_is (ordered_same d.text heads.cut (with_body_at heads.cut block (Heading level heads.index)) at
    (extents-body heads.cut.nodes block.0 h.node.body (Heading level heads.index) body (text_flags level heads.index h.node.body h.has_text)) refl cut)

-- The nesting stays: a block with text is no item, so it is not directly in a list.
text_no_item : (body : ItemBody) → is_text_block body ≡ true → is_item (Some body) ≡ false
text_no_item Paragraph h = refl
text_no_item TightParagraph h = refl
text_no_item (Heading level ix) h = refl
text_no_item DefinitionListTitle h = refl
text_no_item MaybeDefinitionListTitle h = refl
text_no_item body h = absurd (false≢true h)

-- The innermost open node is a block with text. The open nodes around it are before it.
record IsOpenText (f : Forest Item) (block : TreeIndex) : Type 0 where
  rest : List TreeIndex
  node : Item
  spine : f.spine ≡ block ∷ rest
  inside : AreIn block.0 rest
  there : item_at f block ≡ Some node
  has_text : is_text_block node.body ≡ true

heading_outside : (f g : Forest Item) (block : TreeIndex) (level : HeadingLevel) (index : Option HeadingIndex) → IsOpenText f block → KeepsFront f g block
    → IsOutside f → IsOutside (with_body_at g block (Heading level index))
heading_outside f g block level index t k h =
    let rest : List TreeIndex = t.rest in
    let x : Item = t.node in
    let new : List (ℕ × Item) = modify g.nodes block.0 (λ (y : Item). record y { body = Heading level index }) in
    let heading : body_at new block.0 ≡ Some (Heading level index) =
    body-changed g.nodes block.0 _ x.body (Heading level index) (block_kept f g block x k t.there) (λ y e. refl) in
    let same : (i : ℕ) → i < block.0 → class_of (body_at new i) ≡ class_of (body_at f.nodes i) =
    λ i low. ap class_of
    (body-other g.nodes block.0 i _ low ∙ ap (option_map (λ (n : ℕ × Item). n.1.body)) (k.same i (omega arith))) in
    let size : length new ≡ length g.nodes = length-modify g.nodes block.0 _ in
    let within = k.size in
    let old : AreNested f.nodes (block ∷ rest) = subst (AreNested f.nodes) t.spine h.0 in
    let other : is_item (body_at f.nodes block.0) ≡ false = ap is_item (body_of f block x t.there) ∙ text_no_item x.body t.has_text in
    let around : is_list (top_of new rest) ≡ is_list (top_of f.nodes rest) = ap (λ t. t.0) (top_before f.nodes new block.0 rest same t.inside) in
    let nested : AreNested new (block ∷ rest) = (
      omega arith,
      λ list. absurd (false≢true (sym other ∙ old.1 (sym around ∙ list))),
      nested_before f.nodes new block.0 rest same (omega arith) t.inside old.2,
    ) in
    let now : g.spine ≡ block ∷ rest = k.spine ∙ t.spine in
    (subst (AreNested new) (sym now) nested, ap (λ (s : List TreeIndex). is_list (top_of new s)) now ∙ ap is_list heading)

-- A block that contains a chain becomes a heading: the open nodes can still be closed.
pub heading_may_add : {d : Document} {level : HeadingLevel} {broken : Bool} {block : TreeIndex} (r : PassState) (new : Forest Item) (at to : ℕ)
    → IsForest r.tree → BecomesHeading d level broken block r.tree new → HoldsChain d.text r.tree block to → MayAddAt d.text r at
    → MayAddAt d.text (with_tree r new) at
heading_may_add {d = d} {level = level} {block = block} r new at to forest heads h c =
    let tokens = chain_holds d.text r.tree block to h in
    let x : Item = tokens.node in
    let (rest, spine) = open_as r.tree.spine block h.innermost in
    let path : IsOpenPath (depths r.tree.nodes) (block ∷ rest) = subst (IsOpenPath (depths r.tree.nodes)) spine forest.opened in
    let inside : AreIn block.0 rest =
    current_past (popped r.tree block rest) block (record { preorder = forest.preorder; opened = path.1; at_current = path.0 }) refl in
    let text : IsOpenText r.tree block =
    record { rest = rest; node = x; spine = spine; inside = inside; there = tokens.there; has_text = tokens.has_text } in
    let children = subst (λ (z : Option Item). IsSomeAnd z (λ x. CutsChildren d.text x.start r.tree heads.cut)) tokens.there heads.children in
    let front = children_front d.text r.tree heads.cut block x.start h.innermost (node_within r.tree block x tokens.there) children in
    let top : is_item (top_body r.tree) ≡ false =
    ap (λ (s : List TreeIndex). is_item (top_of r.tree.nodes s)) spine ∙ ap is_item (body_of r.tree block x tokens.there)
    ∙ text_no_item x.body tokens.has_text in
    let none = no_empty_item d.text r at c.read.0 top in
    let ordered : IsOrderedTo d.text r.tree at = ordered_tree d.text r at none c.read.0 in
    may_add_by d.text (with_tree r new) (with_body_at heads.cut block (Heading level heads.index)) at heads.tree_is
    (heading_outside r.tree heads.cut block level heads.index text front (outside_of c))
    (ordered_none d.text (with_tree r new) at none ordered.within (heading_ordered h.innermost heads tokens ordered))
