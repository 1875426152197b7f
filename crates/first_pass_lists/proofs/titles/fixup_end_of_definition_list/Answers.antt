use Rattle.std.proofs.Common.{◌≡◌, ℕ, zero, suc, ◌+◌, ◌<◌, ◌==◌, Bool, true, false, if◌then◌else◌, List, drop, length, reverse, slice_index, Some}
use Rattle.std.proofs.Common.{refl, sym, ap, subst, ◌∙◌, arith, IsSomeAnd, get_or-drop, length-drop, eqb-true}
use Rattle.first_pass_grammar.proofs.Common.{length-map, length-reverse, and_parts, cond_both, nat_tests, Item, Paragraph, TreeIndex, Forest, depths}
use Rattle.first_pass_grammar.proofs.Common.{last_before, with_end_at, depths-modify}
use Rattle.std.specs.List.{position_or_len}
use Rattle.std.proofs.lemmas.List.Sums.{passes_at_first}
use Rattle.first_pass_tree.specs.Forest.{IsChildOfCurrent}
use Rattle.first_pass_tree.proofs.Keeps.{depth_read, current-within}
use Rattle.first_pass_lists.specs.Titles.{tree_index, is_other_at, first_other, left_untitled}
use Rattle.first_pass_lists.proofs.MovedLemmas.{IsAlike}
use Rattle.first_pass_lists.proofs.titles.fixup_end_of_definition_list.Goals as goal

-- the index r is before n, and the node there has the depth d
record IsFound (ds : List ℕ) (d n r : ℕ) : Type 0 where
  pub within : r < n
  pub depth : slice_index ds r ≡ d

found_by : (t : Bool) (ds : List ℕ) (d k : ℕ) → (slice_index ds k == d) ≡ t → (0 < last_before ds d k → IsFound ds d k (last_before ds d k))
    → 0 < (if t then k else last_before ds d k) → IsFound ds d (suc k) (if t then k else last_before ds d k)
found_by true ds d k is further h = record { within = omega arith; depth = grind (arith, nat_tests) }
found_by false ds d k is further h = let f = further h in record { within = omega arith; depth = f.depth }

found : (ds : List ℕ) (d n : ℕ) → 0 < last_before ds d n → IsFound ds d n (last_before ds d n)
found ds d zero h = absurd (omega arith)
found ds d (suc k) h = found_by (slice_index ds k == d) ds d k refl (found ds d k) h

kept_at : (ds : List ℕ) (d n r list : ℕ) → r ≡ last_before ds d n → list < r → IsFound ds d n r
kept_at ds d n r list is above = subst (IsFound ds d n) (sym is) (found ds d n (omega arith))

-- the index n is that of a node after the list, with the depth of a child of the current node
record IsOther (f : Forest Item) (list n : ℕ) : Type 0 where
  pub within : n < length f.nodes
  pub depth : slice_index (depths f.nodes) n ≡ length f.spine + 2
  pub above : list < n

some_node : ℕ × Item
some_node = (0, record { start = 0; «end» = 0; body = Paragraph })

depth_first : (ns : List (ℕ × Item)) (d from : ℕ) → from + position_or_len (is_other_at d) (drop from ns) < length ns
    → slice_index (depths ns) (from + position_or_len (is_other_at d) (drop from ns)) ≡ d
depth_first ns d from within =
    let at : ℕ = position_or_len (is_other_at d) (drop from ns) in
    let inside : at < length (drop from ns) = omega (arith, within, length-drop from ns) in
    let passes = ap (is_other_at d) (sym (get_or-drop from ns at some_node)) ∙ passes_at_first (is_other_at d) (drop from ns) some_node inside in
    depth_read ns (from + at) some_node within ∙ eqb-true _ d (and_parts _ _ passes).0

other_at : (f : Forest Item) (ns : List (ℕ × Item)) (spine : List TreeIndex) (r list : ℕ)
    → ns ≡ f.nodes → spine ≡ reverse f.spine → r ≡ first_other (length spine + 2) (list + 1) ns → r < length f.nodes → IsOther f list r
other_at f ns spine r list nodes way is within =
    let e : length spine + 2 ≡ length f.spine + 2 = omega (arith, ap (λ (s : List TreeIndex). length s) way, length-reverse f.spine) in
    let first : r ≡ first_other (length f.spine + 2) (list + 1) f.nodes =
    is ∙ ap (λ z. first_other (length spine + 2) (list + 1) z) nodes ∙ ap (λ z. first_other z (list + 1) f.nodes) e in
    record {
      within = within;
      depth = ap (λ k. slice_index (depths f.nodes) k) first ∙ depth_first f.nodes (length f.spine + 2) (list + 1) (omega (arith, first, within));
      above = omega (arith, first);
    }

like_length : (f g : Forest Item) → IsAlike f g → length g.nodes ≡ length f.nodes
like_length f g like = grind (arith, length-map)

untitled : (f g : Forest Item) (n : ℕ) → g ≡ left_untitled f n → IsAlike f g
untitled f g n is = grind (arith, cond_both, depths-modify)

ended : (f g h : Forest Item) (list : TreeIndex) (e : ℕ) → IsAlike f g → h ≡ with_end_at g list e → IsAlike f h
ended f g h list e like is = grind (arith, depths-modify)

child_of : (f g : Forest Item) (list : TreeIndex) (n : ℕ) → IsOther f list.0 n → IsAlike f g → f.current ≡ Some list → IsChildOfCurrent g (tree_index n)
child_of f g list n other like current = record {
  within = omega (arith, other.within, like_length f g like);
  depth = ap (λ ds. slice_index ds n) like.depths_are ∙ other.depth ∙ ap (λ (s : List TreeIndex). length s + 2) (sym like.spine_is);
  current = subst (λ c. IsSomeAnd c (λ c. c.0 < n)) (sym (like.current_is ∙ current)) other.above;
}

pub index-requires : goal.index-requires
index-requires c =
    let o = other_at c.args.tree.now _ _ _ c.args.list_ix.0 c.nodes.ensures c.walk_spine.ensures c.first_other-other.ensures
    (omega (arith, c.node_count.ensures)) in
    let k = kept_at _ _ c.first_other-other.result c.last_of_depth-kept.result c.args.list_ix.0 c.last_of_depth-kept.ensures (omega arith) in
    omega (arith, o.within, k.within, like_length c.args.tree.now _ (untitled c.args.tree.now _ _ c.leave_untitled.ensures))

pub set_end-requires : goal.set_end-requires
set_end-requires c =
    let w = current-within c.args.tree.now c.args.list_ix c.requires c.recall_forest.ensures in
    omega (arith, w, like_length c.args.tree.now _ (untitled c.args.tree.now _ _ c.leave_untitled.ensures))

pub move_out-requires : goal.move_out-requires
move_out-requires c =
    child_of c.args.tree.now c.set_end.new.self c.args.list_ix c.first_other-other.result
    (other_at c.args.tree.now _ _ _ c.args.list_ix.0 c.nodes.ensures c.walk_spine.ensures c.first_other-other.ensures
    (omega (arith, c.node_count.ensures)))
    (ended c.args.tree.now _ _ c.args.list_ix _ (untitled c.args.tree.now _ _ c.leave_untitled.ensures) c.set_end.ensures) c.requires
