-- A heading or a table that was read as the last child of a definition list, and is after that list, as if the list
-- had ended before it.
use Rattle.std.proofs.Common.{◌≡◌, ℕ, zero, suc, ◌+◌, ◌<◌, ◌≤◌, ◌==◌, not, Bool, true, false, List, [], ◌∷◌, ◌++◌, length, map, slice_index}
use Rattle.std.proofs.Common.{Option, Some, None, is_some, refl, sym, ap, subst, ◌∙◌, arith, if◌then◌else◌, bit_and, option_map}
use Rattle.first_pass_grammar.proofs.Common.{length-map, Item, ItemBody, DefinitionList, ListFlags, TreeIndex, Forest, IsForest, added, at_depth, body_at}
use Rattle.first_pass_grammar.proofs.Common.{depths, map_from, moved_from, shallower, with_body_at, tight_at, tight_items, tight_run, depths-modify}
use Rattle.first_pass_grammar.proofs.Common.{list_flags, and_parts, length-modify}
use Rattle.first_pass_items.specs.declared.item.ItemBody.TheVariants.{List as ListBody}
use Rattle.first_pass_completion.proofs.FlatBlocks.{NoParagraph}
use Rattle.first_pass_grammar.proofs.Sequences.Tightening.{modify-append}
use Rattle.first_pass_open.specs.OpenBlock.{closed_by}
use Rattle.first_pass_grammar.proofs.Names.MoreNames.{get_front}
use Rattle.first_pass_open.proofs.PathLemmas.{AreIn, open_are_in}
use Rattle.first_pass_lists.specs.Closing.{with_tree, loosened_by, top_body, is_definition_list, empty_item_closed}
use Rattle.first_pass_lists.specs.Closing.{list_finished, possible_title, is_after_definition, definitions_closed, definitions_left, gap_tree, gap_marked}
use Rattle.first_pass_lists.specs.declared.state.PassState.{PassState}
use Rattle.first_pass_ready.proofs.PopLemmas.{list_popped, list_spine}
use Rattle.first_pass_ready.proofs.TitlePops.{definitions_closed_is, moved_current}
use Rattle.first_pass_ready.proofs.StateLemmas.{popped_list}
use Rattle.first_pass_completion.proofs.TitleNodes.{at_depth-flat, kept_node, shallower_at}
use Rattle.first_pass_ready.proofs.ClosedIn.{definitions_top}
use Rattle.first_pass_lists.proofs.MovedLemmas.{tight_alike}
use Rattle.first_pass_tree.proofs.Blocks.{forest-eq}

run_kept : (depth : ℕ) (more : List (ℕ × Item)) → NoParagraph more → tight_run depth more ≡ more
unfolding tight_run
run_kept depth [] h = refl
run_kept depth (n ∷ more) h = let a = kept_node (depth + 2) n h.0 in let b = run_kept depth more h.1 in grind (arith, a, b)

-- nodes without paragraphs stay as they are when those before them become tight
run_append : (depth : ℕ) (nodes more : List (ℕ × Item)) → NoParagraph more → tight_run depth (nodes ++ more) ≡ tight_run depth nodes ++ more
unfolding tight_run
run_append depth [] more h = run_kept depth more h
run_append depth (n ∷ nodes) more h = let a = run_append depth nodes more h in grind (arith, a)

at_append : (depth i : ℕ) (nodes more : List (ℕ × Item)) → i ≤ length nodes → NoParagraph more
    → tight_at depth i (nodes ++ more) ≡ tight_at depth i nodes ++ more
unfolding tight_at
at_append depth zero nodes more l h = run_append depth nodes more h
at_append depth (suc i) [] more l h = absurd (omega arith)
at_append depth (suc i) (n ∷ nodes) more l h = ap (λ z. n ∷ z) (at_append depth i nodes more (omega arith) h)

depth_front : (nodes more : List (ℕ × Item)) (i : ℕ) → i < length nodes → slice_index (depths (nodes ++ more)) i ≡ slice_index (depths nodes) i
depth_front [] more i h = absurd (omega arith)
depth_front (n ∷ nodes) more zero h = refl
depth_front (n ∷ nodes) more (suc i) h = depth_front nodes more i (omega arith)

-- nodes one less deep from a place on
moved_mid : (nodes more : List (ℕ × Item)) → map_from shallower (length nodes) (nodes ++ more) ≡ nodes ++ map shallower more
moved_mid [] more = refl
moved_mid (n ∷ nodes) more = ap (λ z. n ∷ z) (moved_mid nodes more)

module _ (f : Forest Item) (items : List (ℕ × Item)) (e : ℕ) (ix : TreeIndex) (rest : List TreeIndex) (flags : ListFlags) (spine : f.spine ≡ ix ∷ rest)
    (flat : NoParagraph items) (low : ix.0 < length f.nodes) where
  abbrev more : List (ℕ × Item)
  more = at_depth (length f.spine + 1) items

  -- the nodes of the closed list, and the block that was read in it after them
  tight_by : (t : Bool) → (if t then tight_items (closed_by (added f items) e (ix ∷ rest)) ix else closed_by (added f items) e (ix ∷ rest)).nodes
      ≡ (if t then tight_items (closed_by f e (ix ∷ rest)) ix else closed_by f e (ix ∷ rest)).nodes ++ more
  tight_by true = grind (arith, length-modify, modify-append, depth_front, at_append, at_depth-flat)
  tight_by false = modify-append f.nodes more ix.0 _ low

  closed_length : length (list_popped f e ix rest flags).nodes ≡ length f.nodes
  closed_length =
      sym (length-map (list_popped f e ix rest flags).nodes (λ n. n.0))
      ∙ ap length ((tight_alike (closed_by f e (ix ∷ rest)) ix (bit_and flags.0 1 == 1)).depths_are ∙ depths-modify f.nodes ix.0 _)
      ∙ length-map f.nodes (λ n. n.0)

  -- the block that was read, moved out of the list
  moved_nodes : map_from shallower (length f.nodes) (list_popped (added f items) e ix rest flags).nodes
      ≡ (list_popped f e ix rest flags).nodes ++ at_depth (length rest + 1) items
  moved_nodes =
      let nodes : List (ℕ × Item) = (list_popped f e ix rest flags).nodes in
      let deep : length f.spine + 1 ≡ suc (length rest + 1) = ap (λ (s : List TreeIndex). length s + 1) spine ∙ omega arith in
      ap (map_from shallower (length f.nodes)) (tight_by (bit_and flags.0 1 == 1)) ∙ ap (λ k. map_from shallower k (nodes ++ more)) (sym closed_length)
      ∙ moved_mid nodes more ∙ ap (λ k. nodes ++ map shallower (at_depth k items)) deep ∙ ap (λ z. nodes ++ z) (shallower_at (length rest + 1) items)

  moved_tree : IsForest (added f items) → body_at (added f items).nodes ix.0 ≡ Some (DefinitionList flags)
      → moved_from (list_popped (added f items) e ix rest flags) (length f.nodes) ≡ added (list_popped f e ix rest flags) items
  moved_tree forest is =
      let h : Forest Item = moved_from (list_popped (added f items) e ix rest flags) (length f.nodes) in
      let g : Forest Item = list_popped f e ix rest flags in
      let c : ℕ → TreeIndex = λ n. record { 0 = n } in
      let same : g.spine ≡ rest = list_spine f e ix rest flags in
      forest-eq h (added g items)
      (moved_nodes ∙ ap (λ (s : List TreeIndex). g.nodes ++ at_depth (length s + 1) items) (sym same)) (list_spine (added f items) e ix rest flags ∙ sym same)
      (moved_current (added f items) e ix rest flags (c (length f.nodes)) forest spine is refl ∙ ap (λ n. Some (c n)) (sym closed_length))

-- a definition list is innermost, and its last child is no possible title
pub record IsAfterDefinition (f : Forest Item) : Type 0 where
  pub place : TreeIndex
  pub outer : List TreeIndex
  pub flags : ListFlags
  pub spine : f.spine ≡ place ∷ outer
  pub body : body_at f.nodes place.0 ≡ Some (DefinitionList flags)
  pub none : possible_title f ≡ None

no_title : (o : Option TreeIndex) → not (is_some o) ≡ true → o ≡ None
no_title o h = grind (arith, h)

pub past_definition : (f : Forest Item) → is_after_definition f ≡ true → IsAfterDefinition f
past_definition f h =
    let p = and_parts (is_definition_list (top_body f)) (not (is_some (possible_title f))) h in
    let t = definitions_top f.nodes f.spine p.0 in
    record { place = t.0; outer = t.1; flags = t.2; spine = t.3; body = t.4; none = no_title (possible_title f) p.1 }

-- a list around it becomes loose
body_added : (f : Forest Item) (items : List (ℕ × Item)) (ix : TreeIndex) (b : ItemBody) → ix.0 < length f.nodes
    → with_body_at (added f items) ix b ≡ added (with_body_at f ix b) items
body_added f items ix b low = grind (arith, modify-append, length-modify)

loosened_added : (f : Forest Item) (items : List (ℕ × Item)) (ix : TreeIndex) (b : Option ItemBody) → ix.0 < length f.nodes
    → loosened_by (added f items) ix b ≡ added (loosened_by f ix b) items
loosened_added f items ix None low = refl
loosened_added f items ix (Some (ListBody flags byte number)) low = body_added f items ix (ListBody (list_flags false) byte number) low
loosened_added f items ix (Some (DefinitionList flags)) low = body_added f items ix (DefinitionList (list_flags false)) low
loosened_added f items ix (Some b) low = refl

gap_added : (f : Forest Item) (items : List (ℕ × Item)) (s : List TreeIndex) → AreIn (length f.nodes) s
    → gap_tree (added f items) s ≡ added (gap_tree f s) items
gap_added f items [] low = refl
gap_added f items (ix ∷ []) low = refl
gap_added f items (ix ∷ outer ∷ rest) low = grind (arith, get_front, loosened_added)

noted_by : (q : PassState) (items : List (ℕ × Item)) (t : Bool) → AreIn (length q.tree.nodes) q.tree.spine
    → (let noted : PassState = if t then record q { tree = gap_tree q.tree q.tree.spine; blank = false } else q in
    (if t then record q { tree = gap_tree (added q.tree items) q.tree.spine; blank = false } else with_tree q (added q.tree items))
    ≡ with_tree noted (added noted.tree items))
noted_by q items true low = ap (λ (f : Forest Item). record q { tree = f; blank = false }) (gap_added q.tree items q.tree.spine low)
noted_by q items false low = refl

noted_added : (q : PassState) (items : List (ℕ × Item)) → AreIn (length q.tree.nodes) q.tree.spine
    → gap_marked (with_tree q (added q.tree items)) ≡ with_tree (gap_marked q) (added (gap_marked q).tree items)
noted_added q items low = noted_by q items q.blank low

-- a new block right after a definition closes the list
finished_is : (e : ℕ) (r : PassState) (ix : TreeIndex) (rest : List TreeIndex) (flags : ListFlags) → r.tree.spine ≡ ix ∷ rest
    → body_at r.tree.nodes ix.0 ≡ Some (DefinitionList flags) → possible_title r.tree ≡ None → r.begin_list_item ≡ None
    → list_finished e r ≡ gap_marked (with_tree r (list_popped r.tree e ix rest flags))
unfolding list_finished empty_item_closed
finished_is e r ix rest flags spine body none empty = grind (arith, popped_list)

module _ (r : PassState) (items : List (ℕ × Item)) (e : ℕ) (ix : TreeIndex) (rest : List TreeIndex) (flags : ListFlags) (spine : r.tree.spine ≡ ix ∷ rest)
    (body : body_at r.tree.nodes ix.0 ≡ Some (DefinitionList flags)) (flat : NoParagraph items) (old : IsForest r.tree)
    (new : IsForest (added r.tree items)) where
  are_in : AreIn (length r.tree.nodes) (ix ∷ rest)
  are_in = subst (AreIn (length r.tree.nodes)) spine (open_are_in r.tree.nodes r.tree.spine old.opened)

  -- the closed list, and the block that was read after it
  closed_left : definitions_closed e (with_tree r (added r.tree items)) ≡ (let f : Forest Item = list_popped r.tree e ix rest flags in
      with_tree r (added f items))
  closed_left =
      let g : Forest Item = added r.tree items in
      let there : body_at g.nodes ix.0 ≡ Some (DefinitionList flags) =
      ap (option_map (λ n. n.1.body)) (get_front r.tree.nodes (at_depth (length r.tree.spine + 1) items) ix.0 are_in.0) ∙ body in
      definitions_closed_is e (with_tree r g) ix rest flags (record { 0 = length r.tree.nodes }) spine there refl
      ∙ ap (with_tree r) (moved_tree r.tree items e ix rest flags spine flat are_in.0 new there)

  left_by : possible_title r.tree ≡ None → r.begin_list_item ≡ None
      → definitions_left e (with_tree r (added r.tree items)) ≡ with_tree (list_finished e r) (added (list_finished e r).tree items)
  unfolding definitions_left
  left_by none empty =
      let f : Forest Item = list_popped r.tree e ix rest flags in
      let low : AreIn (length f.nodes) f.spine =
      subst (AreIn (length f.nodes)) (sym (list_spine r.tree e ix rest flags))
      (subst (λ n. AreIn n rest) (sym (closed_length r.tree items e ix rest flags spine flat are_in.0)) are_in.1) in
      ap gap_marked closed_left ∙ noted_added (with_tree r f) items low
      ∙ ap (λ (q : PassState). with_tree q (added q.tree items)) (sym (finished_is e r ix rest flags spine body none empty))

-- a heading or a table right after a definition gives the same as if the list had ended before it
pub left_is : (r : PassState) (items : List (ℕ × Item)) (e : ℕ) → IsForest r.tree → IsForest (added r.tree items) → is_after_definition r.tree ≡ true
    → r.begin_list_item ≡ None → NoParagraph items
    → definitions_left e (with_tree r (added r.tree items)) ≡ with_tree (list_finished e r) (added (list_finished e r).tree items)
left_is r items e old new after empty flat =
    let b = past_definition r.tree after in left_by r items e b.place b.outer b.flags b.spine b.body flat old new b.none empty
