-- The order in a pass between two calls: a block with text begins, and the last block has ended.
use Rattle.std.proofs.Common.{◌≡◌, inl, inr, ℕ, zero, suc, ◌+◌, ◌≤◌, true, false, List, [], ◌∷◌, length, Option, Some, IfSome, slice_get, slice_index, refl}
use Rattle.std.proofs.Common.{sym, ap, subst, ◌∙◌, arith, option_map, IsCharBoundary, length-append}
use Rattle.first_pass_grammar.proofs.Common.{false≢true, Item, ItemBody, TreeIndex, Forest, item_at, modify, with_end_at, depths, Options, IsOrderedTo}
use Rattle.first_pass_grammar.proofs.Common.{FitsOpen, extent_of, is_task_marker, is_text_block}
use Rattle.first_pass.proofs.Common.{ListItem, DefinitionListDefinition, MayAddAt, get_mid, ordered_begun, top_begun, begun, is_item, with_block, top_of}
use Rattle.first_pass.proofs.Common.{begun_nested, tree_closes, current_child, open_last_fits, IsOpenPath, HoldsChain, length-map, with_child}
use Rattle.first_pass_blocks.proofs.Common.{begun_item, is_list, PassState, IsReadFrom, IsReadTo, reached, ordered_later, ordered_none}
use Rattle.first_pass_tree.specs.Forest.{IsForest, IsLastAt}
use Rattle.first_pass_open.specs.Between.{MarkerBetween}
use Rattle.first_pass_open.specs.OpenBlock.{IsJustPushed}
use Rattle.first_pass_lists.specs.Closing.{top_body}
use Rattle.first_pass.proofs.Chains.{chain_in, marked_is}
use Rattle.first_pass.proofs.Adding.{may_add_by}
use Rattle.first_pass.proofs.OrderJoin.{ordered_ended}

-- no node is open if the root is the only one
root_first : (ds : List ℕ) (spine : List TreeIndex) → IsOpenPath ds spine → slice_index ds 0 ≡ 0
root_first ds [] path = path.depth
root_first ds (ix ∷ spine) path = root_first ds spine path.1

none_open : (ds : List ℕ) (spine : List TreeIndex) → length ds ≡ 1 → IsOpenPath ds spine → spine ≡ []
none_open ds [] one path = refl
none_open ds (ix ∷ spine) one path =
    let within = path.0.within in
    let first : ix.0 ≡ 0 = omega arith in
    let root = root_first ds spine path.1 in
    let deep : slice_index ds 0 ≡ length spine + 1 = ap (slice_index ds) (sym first) ∙ path.0.depth in
    absurd (omega arith)

pub new_may_add : (text : List ℕ) (r : PassState) → IsForest r.tree → length r.tree.nodes ≡ 1 → IsReadTo text r 0 → MayAddAt text r 0
new_may_add text r forest one h =
    let closed = none_open (depths r.tree.nodes) r.tree.spine (length-map r.tree.nodes (λ n. n.0) ∙ one) forest.opened in
    record { read = h; outside = ap (λ (s : List TreeIndex). is_list (top_of r.tree.nodes s)) closed }

-- A block is opened.
module _ (start : ℕ) (body : ItemBody) (r : PassState) where
  abbrev block : TreeIndex
  block = record { 0 = length r.tree.nodes }

  abbrev opened_node : ℕ × Item
  opened_node = (length r.tree.spine + 1, begun_item start body)

  -- It is innermost and last.
  pub just_pushed : IsJustPushed (begun start body r).tree block
  just_pushed =
      let size = length-append r.tree.nodes (opened_node ∷ []) in
      record { rest = r.tree.spine; innermost = refl; last = omega arith; none = refl }

  -- It contains an empty chain, after the marker of its task list item if that is appended to it.
  pub chain_begun : (text : List ℕ) (from : ℕ) (marker : Option Item) → is_text_block body ≡ true → IsCharBoundary text start
      → MarkerBetween text from start marker → HoldsChain text (with_child (begun start body r).tree marker) block start
  chain_begun text from marker is_text starts stands =
      let here : start ≤ start = omega arith in
      let tree : Forest Item = (begun start body r).tree in
      chain_in text (with_child tree marker) tree block start []
      (record {
        node = begun_item start body;
        marker = marker;
        from = from;
        opened = just_pushed;
        begun = ap (option_map (λ (n : ℕ × Item). n.1)) (get_mid r.tree.nodes opened_node []);
        has_text = is_text;
        starts = starts;
        stands = stands;
      }) here (sym (marked_is tree marker []))

-- The open nodes can be closed if it is no list, and if it is an item directly in a list.
begun_may_add : (text : List ℕ) (r : PassState) (at start : ℕ) (body : ItemBody) → IsReadTo text r at → at ≤ start → IsCharBoundary text start
    → (is_list (top_body r.tree) ≡ true → is_item (Some body) ≡ true) → is_list (Some body) ≡ false
    → MayAddAt text (begun start body (with_block r r.tree)) start
begun_may_add text r at start body h low starts may other =
    let state : PassState = begun start body (with_block r r.tree) in
    let before = h.0.later in
    let ordered = ordered_begun text (with_block r r.tree) (reached r.begin_list_item at) start body (omega arith) starts.0 starts h.0.ordered in
    may_add_by text state state.tree start refl (
      begun_nested start body (with_block r r.tree) may h.1.nested,
      ap is_list (top_begun start body (with_block r r.tree)) ∙ other,
    )
    (ordered_none text state start refl starts.0 ordered)

pub may_add_begun : (text : List ℕ) (r : PassState) (at start : ℕ) (body : ItemBody) → MayAddAt text r at → at ≤ start
    → IsCharBoundary text start → is_list (Some body) ≡ false → MayAddAt text (begun start body (with_block r r.tree)) start
may_add_begun text r at start body c low starts other =
    begun_may_add text r at start body c.read low starts (λ list. absurd (false≢true (sym c.outside ∙ list))) other

-- an item, in a list or elsewhere
item_no_list : (body : ItemBody) → is_item (Some body) ≡ true → is_list (Some body) ≡ false
item_no_list (ListItem columns) h = refl
item_no_list (DefinitionListDefinition columns) h = refl
item_no_list body h = absurd (false≢true h)

pub item_begun : (text : List ℕ) (r : PassState) (at start : ℕ) (body : ItemBody) → IsReadTo text r at → at ≤ start → IsCharBoundary text start
    → is_item (Some body) ≡ true → MayAddAt text (begun start body (with_block r r.tree)) start
item_begun text r at start body h low starts item = begun_may_add text r at start body h low starts (λ list. item) (item_no_list body item)

-- an end that is the same
same_end : (nodes : List (ℕ × Item)) (i : ℕ) (x : Item) → option_map (λ (n : ℕ × Item). n.1) (slice_get nodes i) ≡ Some x
    → modify nodes i (λ (y : Item). record y { «end» = x.«end» }) ≡ nodes
same_end [] i x is = refl
same_end (n ∷ nodes) zero x is =
    let same : n.1 ≡ x = cc in
    ap (λ (y : Item). (n.0, record n.1 { «end» = y.«end» }) ∷ nodes) (sym same)
same_end (n ∷ nodes) (suc i) x is = ap (λ (ns : List (ℕ × Item)). n ∷ ns) (same_end nodes i x is)

-- The last child of the innermost open node, which is no task list item marker.
record LastBlock (f : Forest Item) (x : Item) : Type 0 where
  forest : IsForest f
  last : TreeIndex
  current : f.current ≡ Some last
  here : item_at f last ≡ Some x
  plain : is_task_marker x.body ≡ false

-- the tree is in order up to an offset that is not before the end of its last block
ended_to : (text : List ℕ) (f : Forest Item) (a at : ℕ) (x : Item) → LastBlock f x → x.«end» ≤ at → at ≤ length text → IsOrderedTo text f a
    → IsOrderedTo text f at
ended_to text f a at x b low within o =
    let child = current_child text f a b.last x b.forest b.current b.here o in
    let (room, ends, longer) =
    open_last_fits text a o.levels child.before (extent_of x) child.kids b.plain (subst (FitsOpen text a o.levels) child.row_is o.fits) in
    let is_last : IsLastAt (depths f.nodes) (length f.spine + 1) b.last.0 =
    subst (λ z. IfSome z (λ c. IsLastAt (depths f.nodes) (length f.spine + 1) c.0)) b.current b.forest.at_current in
    let here_to : x.«end» ≤ x.«end» = omega arith in
    let exact = ordered_ended text f a x.«end» b.last x is_last b.here b.plain here_to ends o in
    let same : with_end_at f b.last x.«end» ≡ f =
    ap (λ (ns : List (ℕ × Item)). record f { nodes = ns }) (same_end f.nodes b.last.0 x b.here) in
    ordered_later text f x.«end» at low within (subst (λ (g : Forest Item). IsOrderedTo text g x.«end») same exact)

-- The open nodes can be closed after the last block.
pub block_ended : (options : Options) (text : List ℕ) (r : PassState) (at : ℕ) (last : TreeIndex) (x : Item) → IsForest r.tree
    → IsReadFrom options text r at → r.tree.current ≡ Some last → item_at r.tree last ≡ Some x → is_task_marker x.body ≡ false → x.«end» ≤ at
    → IsReadTo text r at
block_ended options text r at last x forest (inl h) current here plain low = h
block_ended options text r at last x forest (inr h) current here plain low =
    let before = h.0.within in
    let within : at ≤ length text = omega arith in
    let block : LastBlock r.tree x = record { forest = forest; last = last; current = current; here = here; plain = plain } in (
      ordered_none text r at h.0.none within (ended_to text r.tree _ at x block low within h.0.ordered),
      tree_closes text r.tree at h.1 h.2,
    )
