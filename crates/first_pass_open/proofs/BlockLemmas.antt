-- A block that is opened, filled with a chain, and closed.
use Rattle.std.proofs.Common.{◌≡◌, ℕ, suc, ◌+◌, ◌<◌, List, [], ◌∷◌, ◌++◌, length, slice_get, Option, Some, None, IsSome, refl, sym, ap, subst, ◌∙◌, arith}
use Rattle.std.proofs.Common.{append_assoc, length-append}
use Rattle.first_pass_grammar.proofs.Common.{same_Some, slice_get-get_or, slice_get_within, Item, ItemBody, TreeIndex, Forest, IsForest, item_at, modify}
use Rattle.first_pass_grammar.proofs.Common.{appended, pushed, added, block_of, at_depth, with_body_at, modify-at, chained, leaves, chained-spine}
use Rattle.first_pass_grammar.proofs.Common.{chained-nodes, chained-append, marker_items}
use Rattle.first_pass_tree.proofs.Blocks.{forest-eq}
use Rattle.first_pass_tokens.proofs.ChainLemmas.{chained-current, closed-chained}
use Rattle.first_pass_open.proofs.FrontLemmas.{open_within}
use Rattle.first_pass_open.proofs.PathLemmas.{get_after}
use Rattle.first_pass_open.specs.OpenBlock.{with_child, closed_by, IsJustPushed}

-- The node that was opened follows all earlier nodes, so its index is their number.
pub opened_is : (g p : Forest Item) (x : Item) (ix : TreeIndex) → ix.0 ≡ length g.nodes → p ≡ pushed (appended g x) (record { 0 = length g.nodes })
    → p ≡ pushed (appended g x) ix
opened_is g p x ix at is = is ∙ ap (λ (n : ℕ). pushed (appended g x) (record { 0 = n })) (sym at)

-- Directly after it is opened, a node is as `IsJustPushed` says.
pub just_pushed : (g p : Forest Item) (x : Item) (ix : TreeIndex) → ix.0 ≡ length g.nodes → p ≡ pushed (appended g x) ix → IsJustPushed p ix
just_pushed g p x ix at is =
    let n : length p.nodes ≡ length g.nodes + 1 = ap (λ (v : Forest Item). length v.nodes) is ∙ length-append g.nodes ((length g.spine + 1, x) ∷ []) in
    record {
      rest = g.spine;
      innermost = ap (λ (v : Forest Item). v.spine) is;
      last = omega arith;
      none = ap (λ (v : Forest Item). v.current) is;
    }

-- If a marker is appended before a chain, both are one chain.
pub marked_chain : (p m n : Forest Item) (marker : Option Item) (chain : List Item)
    → m ≡ with_child p marker → n ≡ chained m chain → n ≡ chained p (marker_items marker ++ chain)
marked_chain p m n None chain e f = f ∙ ap (λ v. chained v chain) e
marked_chain p m n (Some x) chain e f = f ∙ ap (λ v. chained v chain) e ∙ chained-append p (x ∷ []) chain

-- The nodes of a tree in which a block is open and has a chain.
opened_nodes : (g : Forest Item) (x : Item) (chain : List Item) (ix : TreeIndex)
    → (chained (pushed (appended g x) ix) chain).nodes ≡ g.nodes ++ (length g.spine + 1, x) ∷ at_depth (length g.spine + 2) (leaves chain)
opened_nodes g x chain ix =
    let deeper : suc (length g.spine) + 1 ≡ length g.spine + 2 = omega arith in
    chained-nodes (pushed (appended g x) ix) chain ∙ append_assoc g.nodes ((length g.spine + 1, x) ∷ []) (at_depth (suc (length g.spine) + 1) (leaves chain))
    ∙ ap (λ (d : ℕ). g.nodes ++ (length g.spine + 1, x) ∷ at_depth d (leaves chain)) deeper

same_current : (g : Forest Item) (x y : Item) (chain : List Item) (ix : TreeIndex)
    → (chained (pushed (appended g x) ix) chain).current ≡ (chained (pushed (appended g y) ix) chain).current
same_current g x y [] ix = refl
same_current g x y (z ∷ zs) ix =
    let same : length (appended g x).nodes + length zs ≡ length (appended g y).nodes + length zs = simp length-append in
    chained-current (pushed (appended g x) ix) z zs ∙ ap (λ (m : ℕ). Some (record { 0 = m })) same ∙ sym (chained-current (pushed (appended g y) ix) z zs)

module _ (g n : Forest Item) (x : Item) (chain : List Item) (ix : TreeIndex) (at : ix.0 ≡ length g.nodes)
    (filled : n ≡ chained (pushed (appended g x) ix) chain) where
  spine_is : n.spine ≡ ix ∷ g.spine
  spine_is = ap (λ (v : Forest Item). v.spine) filled ∙ chained-spine (pushed (appended g x) ix) chain

  pub still_open : IsSome (slice_get n.spine 0)
  still_open = subst (λ s. IsSome (slice_get s 0)) (sym spine_is) refl

  -- If the open block is closed with an end, the whole block is added to the tree as it was before.
  pub block_closed : (new : Forest Item) (e : ℕ) → new ≡ closed_by n e n.spine → new ≡ added g (block_of (record x { «end» = e }) (leaves chain))
  block_closed new e new_is =
      new_is ∙ ap (closed_by n e) spine_is ∙ ap (λ v. closed_by v e (ix ∷ g.spine)) filled ∙ closed-chained g x (λ y. record y { «end» = e }) chain ix at

  pub open_place_of : slice_get n.spine 0 ≡ Some ix
  open_place_of = ap (λ (spine : List TreeIndex). slice_get spine 0) spine_is

  -- The item of the open block is the one that was appended.
  pub open_item_of : item_at n ix ≡ Some x
  open_item_of =
      rw (filled, opened_nodes g x chain ix, get_after g.nodes (at_depth (length g.spine + 2) (leaves chain)) (length g.spine + 1, x) ix.0 at) refl

  -- If the open block gets another body, it is as if it had been opened with that body.
  pub open_named : (body : ItemBody) → with_body_at n ix body ≡ chained (pushed (appended g (record x { body = body })) ix) chain
  open_named body =
      let y : Item = record x { body = body } in
      let kids : List (ℕ × Item) = at_depth (length g.spine + 2) (leaves chain) in
      rw filled (forest-eq (with_body_at (chained (pushed (appended g x) ix) chain) ix body) (chained (pushed (appended g y) ix) chain)
      (ap (λ (ns : List (ℕ × Item)). modify ns ix.0 (λ (z : Item). record z { body = body })) (opened_nodes g x chain ix)
      ∙ modify-at g.nodes kids (length g.spine + 1, x) ix.0 (λ (z : Item). record z { body = body }) at ∙ sym (opened_nodes g y chain ix))
      (chained-spine (pushed (appended g x) ix) chain ∙ sym (chained-spine (pushed (appended g y) ix) chain)) (same_current g x y chain ix))

-- Each open node is among the nodes, also the innermost one.
pub open_node_at : (f : Forest Item) (k : ℕ) (ix : TreeIndex) → IsForest f → slice_get f.spine k ≡ Some ix → ix.0 < length f.nodes
open_node_at f k ix forest e =
    let within = slice_get_within f.spine k ix e in
    let same = same_Some _ _ (sym (slice_get-get_or f.spine k ix within) ∙ e) in
    subst (λ (y : TreeIndex). y.0 < length f.nodes) same (open_within f.nodes f.spine k ix forest.opened within)

pub open_node_in : (f : Forest Item) (ix : TreeIndex) → IsForest f → slice_get f.spine 0 ≡ Some ix → ix.0 < length f.nodes
open_node_in f ix forest e = open_node_at f 0 ix forest e
