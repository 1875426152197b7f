-- The entries of a derived tree lie one after the other.
use Rattle.std.proofs.Common.{◌≡◌, ◌⊎◌, inl, inr, ℕ, suc, ◌≤◌, Bool, true, false, List, [], ◌∷◌, ◌++◌, length, Option, Some, None, refl, sym, ap, subst, ◌∙◌}
use Rattle.std.proofs.Common.{if◌then◌else◌, arith, option_map, option_and_then}
use Rattle.first_pass_grammar.proofs.Common.{HeadingLevel, Item, ItemBody, Heading, Tables, Derives, Document, Names, only_kind, read, Ranged, extent_of}
use Rattle.first_pass_grammar.proofs.Common.{extents, Siblings, Empty, laid, IsBetween, Within, Elsewhere, InItem, InText, InFirst, below, beyond, Fits}
use Rattle.first_pass_grammar.proofs.Common.{AreEachNode}
use Rattle.std.specs.List.{cons_option}
use Rattle.first_pass_grammar.specs.Order.{Node, IsOrdered}
use Rattle.first_pass_outline.specs.Outline.{Entry, heading_level_of, id_in}
use Rattle.first_pass_outline.specs.TextOutline.{IsRangeFrom, LieBetween}
use Rattle.first_pass_outline.proofs.HeadingRows.{IsNoHeading, NoneBelow, NoneInside, derived_inside}
use Rattle.first_pass_outline.proofs.Outlines.{entries_of, entries_of-append}

-- entries that lie after an offset also lie after an earlier one; and entries follow other entries
between_from : (text : List ℕ) (a b to : ℕ) (entries : List Entry) → a ≤ b → LieBetween text b to entries → LieBetween text a to entries
unfolding LieBetween
between_from text a b to [] le h = omega arith
between_from text a b to (e ∷ entries) le h =
    (record { following = (let from = h.0.following in omega arith); order = h.0.order; starts = h.0.starts; ends = h.0.ends }, h.1)

between_both : (text : List ℕ) (from mid to : ℕ) (entries more : List Entry) → LieBetween text from mid entries → LieBetween text mid to more
    → LieBetween text from to (entries ++ more)
unfolding LieBetween
between_both text from mid to [] more h k = between_from text from mid to more h k
between_both text from mid to (e ∷ entries) more h k = (h.0, between_both text e.«end» mid to entries more h.1 k)

-- the ranges of a row's first node, of its descendants and of the nodes after it
pub record NodeFits (text : List ℕ) (least to : ℕ) (x : Ranged) (kids next : List Entry) : Type 0 where
  pub range : IsRangeFrom text least x.start x.«end»
  pub inner : LieBetween text least x.«end» kids
  pub after : LieBetween text x.«end» to next

-- a node's level does not depend on its index
kind_level : (b : ItemBody) → heading_level_of (only_kind b) ≡ heading_level_of b
kind_level (Heading level ix) = refl
kind_level b = refl

module _ (names : Names) where
  -- the entry of a node with this level
  abbrev entry_with : Item → Option HeadingLevel → Option Entry
  entry_with x o =
      option_map (λ level. record { level = level; id = option_and_then id_in (read names x).1; start = x.start; «end» = x.«end» }) o

  entries_first : (n : ℕ × Item) (nodes : List (ℕ × Item)) (o : Option HeadingLevel) → heading_level_of n.1.body ≡ o
      → entries_of names (n ∷ nodes) ≡ cons_option (entry_with n.1 o) (entries_of names nodes)
  entries_first n nodes o is = ap (λ (z : Option HeadingLevel). cons_option (entry_with n.1 z) (entries_of names nodes)) (kind_level n.1.body ∙ is)

  no_entries : (nodes : List (ℕ × Item)) → AreEachNode IsNoHeading nodes → entries_of names nodes ≡ []
  no_entries [] h = refl
  no_entries (n ∷ nodes) h = entries_first n nodes None h.0 ∙ no_entries nodes h.1

  module _ (text : List ℕ) where
    -- the entries of a node, of its descendants and of the nodes after it
    node_by : (o : Option HeadingLevel) (from to : ℕ) (n : ℕ × Item) (kids next : List (ℕ × Item)) → heading_level_of n.1.body ≡ o
        → NodeFits text from to (extent_of n.1) (entries_of names kids) (entries_of names next)
        → IsNoHeading n.1.body ⊎ AreEachNode IsNoHeading kids → LieBetween text from to (entries_of names (n ∷ (kids ++ next)))
    unfolding LieBetween
    node_by None from to n kids next is fits leaf =
        subst (LieBetween text from to) (sym (entries_first n (kids ++ next) None is ∙ entries_of-append names kids next))
        (between_both text from n.1.«end» to (entries_of names kids) (entries_of names next) fits.inner fits.after)
    node_by (Some level) from to n kids next is fits (inl other) = absurd (let e : None ≡ Some level = sym other ∙ is in cc)
    node_by (Some level) from to n kids next is fits (inr none) =
        let after : entries_of names (kids ++ next) ≡ entries_of names next =
        entries_of-append names kids next ∙ ap (λ (z : List Entry). z ++ entries_of names next) (no_entries kids none) in
        subst (LieBetween text from to)
        (sym (entries_first n (kids ++ next) (Some level) is ∙ ap (λ (z : List Entry). cons_option (entry_with n.1 (Some level)) z) after))
        (fits.range, fits.after)

-- nodes that are all at least this deep
abbrev AreDeep : ℕ → List (ℕ × Ranged) → Type 0
AreDeep depth [] = Unit {0}
AreDeep depth (n ∷ nodes) = (depth ≤ n.0) × AreDeep depth nodes

deep_both : (depth : ℕ) (xs ys : List (ℕ × Ranged)) → AreDeep depth xs → AreDeep depth ys → AreDeep depth (xs ++ ys)
deep_both depth [] ys h k = k
deep_both depth (x ∷ xs) ys h k = (h.0, deep_both depth xs ys h.1 k)

laid_deep : (least depth : ℕ) (row : Siblings) → least ≤ depth → AreDeep least (laid depth row)
unfolding laid
laid_deep least depth Empty le = tt
laid_deep least depth (Node x kids next) le =
    (le, deep_both least (laid (suc depth) kids) (laid depth next) (laid_deep least (suc depth) kids (omega arith)) (laid_deep least depth next le))

none_deep : (depth : ℕ) (kids next : List (ℕ × Item)) → AreDeep (suc depth) (extents kids) → NoneBelow depth (kids ++ next) → AreEachNode IsNoHeading kids
none_deep depth [] next deep h = tt
none_deep depth (n ∷ kids) next deep h = (let both = h (omega (arith, deep.0)) in (both.0, none_deep depth kids next deep.1 both.1))

none_below_front : (depth : ℕ) (nodes more : List (ℕ × Item)) → NoneBelow depth (nodes ++ more) → NoneBelow depth nodes
none_below_front depth [] more h = tt
none_below_front depth (n ∷ nodes) more h = λ deeper. (let both = h deeper in (both.0, none_below_front depth nodes more both.1))

inside_parts : (nodes more : List (ℕ × Item)) → NoneInside (nodes ++ more) → NoneInside nodes × NoneInside more
inside_parts [] more h = (tt, h)
inside_parts (n ∷ nodes) more (inl other, h) = (let (front, back) = inside_parts nodes more h in ((inl other, front), back))
inside_parts (n ∷ nodes) more (inr none, h) =
    let (front, back) = inside_parts nodes more h in
    ((inr (none_below_front n.0 nodes more none), front), back)

leaf_kids : (n : ℕ × Item) (kids next : List (ℕ × Item)) → AreDeep (suc n.0) (extents kids) → IsNoHeading n.1.body ⊎ NoneBelow n.0 (kids ++ next)
    → IsNoHeading n.1.body ⊎ AreEachNode IsNoHeading kids
leaf_kids n kids next deep (inl other) = inl other
leaf_kids n kids next deep (inr none) = inr (none_deep n.0 kids next deep none)

-- nodes whose extents form two rows
split_nodes : (nodes : List (ℕ × Item)) (xs ys : List (ℕ × Ranged)) → extents nodes ≡ xs ++ ys
    → (kids : List (ℕ × Item)) × (next : List (ℕ × Item)) × (nodes ≡ kids ++ next) × (extents kids ≡ xs) × (extents next ≡ ys)
split_nodes nodes [] ys e = ([], nodes, refl, refl, e)
split_nodes [] (x ∷ xs) ys e = cc
split_nodes (n ∷ nodes) (x ∷ xs) ys e =
    let first : (n.0, extent_of n.1) ≡ x = cc in
    let rest : extents nodes ≡ xs ++ ys = cc in
    let (kids, next, is, a, b) = split_nodes nodes xs ys rest in
    (n ∷ kids, next, ap (λ z. n ∷ z) is, ap (λ z. z ∷ extents kids) first ∙ ap (λ z. x ∷ z) a, b)

-- The first node of a row has this extent. Its descendants follow it, all deeper, and then further nodes.
record FirstOfRow (depth : ℕ) (x : Ranged) (n : ℕ × Item) (nodes : List (ℕ × Item)) : Type 0 where
  kids : List (ℕ × Item)
  next : List (ℕ × Item)
  first : ◌≡◌ {A = ℕ × Ranged} (n.0, extent_of n.1) (depth, x)
  is : nodes ≡ kids ++ next
  deep : AreDeep (suc depth) (extents kids)

split_row : (depth : ℕ) (x : Ranged) (kids next : Siblings) (n : ℕ × Item) (nodes : List (ℕ × Item)) → extents (n ∷ nodes) ≡ laid depth (Node x kids next)
    → (f : FirstOfRow depth x n nodes) × (extents f.kids ≡ laid (suc depth) kids) × (extents f.next ≡ laid depth next)
unfolding laid
split_row depth x kids next n nodes e =
    let first : ◌≡◌ {A = ℕ × Ranged} (n.0, extent_of n.1) (depth, x) = cc in
    let rest : extents nodes ≡ laid (suc depth) kids ++ laid depth next = cc in
    let (ks, ns, is, a, b) = split_nodes nodes (laid (suc depth) kids) (laid depth next) rest in
    let deep = subst (AreDeep (suc depth)) (sym a) (laid_deep (suc depth) (suc depth) kids (omega arith)) in
    (record { kids = ks; next = ns; first = first; is = is; deep = deep }, a, b)

-- the earliest offset that a row with this context may reach
abbrev reach : Within → ℕ → ℕ
reach Elsewhere from = from
reach InItem from = from
reach (InText before) from = before
reach (InFirst before) from = before

abbrev Reaches : ℕ → Within → ℕ → Type 0
Reaches least within from = (least ≤ reach within from) × (reach within from ≤ from)

unless_reaches : (least from : ℕ) (t : Bool) (u v : Within) → Reaches least u from → Reaches least v from → Reaches least (if t then u else v) from
unless_reaches least from true u v h k = h
unless_reaches least from false u v h k = k

-- the descendants of a node reach no earlier offset than the node's own row
below_reaches : (within : Within) (from : ℕ) (x : Ranged) → reach within from ≤ from → from ≤ x.start
    → Reaches (reach within from) (below within from x) x.start
below_reaches Elsewhere from x h le = unless_reaches from x.start x.item InItem Elsewhere (omega arith, omega arith) (omega arith, omega arith)
below_reaches InItem from x h le =
    unless_reaches from x.start x.item InItem (if x.text_block then InText from else (if x.definitions then InFirst from else Elsewhere))
    (omega arith, omega arith)
    (unless_reaches from x.start x.text_block (InText from) (if x.definitions then InFirst from else Elsewhere) (omega arith, omega arith)
    (unless_reaches from x.start x.definitions (InFirst from) Elsewhere (omega arith, omega arith) (omega arith, omega arith)))
below_reaches (InText before) from x h le =
    unless_reaches before x.start x.item InItem Elsewhere (omega arith, omega arith) (omega arith, omega arith)
below_reaches (InFirst before) from x h le =
    unless_reaches before x.start x.item InItem (if x.text_block then InText before else Elsewhere) (omega arith, omega arith)
    (unless_reaches before x.start x.text_block (InText before) Elsewhere (omega arith, omega arith) (omega arith, omega arith))

beyond_reach : (within : Within) (from : ℕ) → reach (beyond within) from ≡ from
beyond_reach Elsewhere from = refl
beyond_reach _ from = refl

range_from : (text : List ℕ) (least from to : ℕ) (x : Ranged) → least ≤ from → IsBetween text from to x → IsRangeFrom text least x.start x.«end»
range_from text least from to x le h =
    record { following = (let a = h.following in omega arith); order = h.order; starts = h.starts; ends = h.ends }

module _ (names : Names) (text : List ℕ) where
  node_entries : (least to depth : ℕ) (x : Ranged) (n : ℕ × Item) (nodes : List (ℕ × Item)) → (f : FirstOfRow depth x n nodes)
      → NodeFits text least to x (entries_of names f.kids) (entries_of names f.next) → NoneInside (n ∷ nodes)
      → LieBetween text least to (entries_of names (n ∷ nodes))
  node_entries least to depth x n nodes f fits none =
      let own : NodeFits text least to (extent_of n.1) (entries_of names f.kids) (entries_of names f.next) =
      subst (λ (z : ℕ × Ranged). NodeFits text least to z.1 (entries_of names f.kids) (entries_of names f.next)) (sym f.first) fits in
      let below : AreDeep (suc n.0) (extents f.kids) = subst (λ (z : ℕ × Ranged). AreDeep (suc z.0) (extents f.kids)) (sym f.first) f.deep in
      let leaf = leaf_kids n f.kids f.next below (subst (λ (z : List (ℕ × Item)). IsNoHeading n.1.body ⊎ NoneBelow n.0 z) f.is none.0) in
      subst (λ (z : List (ℕ × Item)). LieBetween text least to (entries_of names (n ∷ z))) (sym f.is)
      (node_by names text (heading_level_of n.1.body) least to n f.kids f.next refl own leaf)

  -- the entries of a row
  row_entries : (within : Within) (from to : ℕ) (row : Siblings) (depth : ℕ) (nodes : List (ℕ × Item)) → reach within from ≤ from
      → Fits text within from to row → extents nodes ≡ laid depth row → NoneInside nodes
      → LieBetween text (reach within from) to (entries_of names nodes)
  unfolding Fits laid LieBetween
  row_entries within from to Empty depth [] back fits e none = omega arith
  row_entries within from to Empty depth (n ∷ nodes) back fits e none = cc
  row_entries within from to (Node x kids next) depth [] back fits e none = cc
  row_entries within from to (Node x kids next) depth (n ∷ nodes) back (inl (between, inner, after)) e none =
      let (f, a, b) = split_row depth x kids next n nodes e in
      let (front, rest) = inside_parts f.kids f.next (subst NoneInside f.is none.1) in
      let reaches = below_reaches within from x back between.following in
      let kids_in = row_entries (below within from x) x.start x.«end» kids (suc depth) f.kids reaches.1 inner a front in
      let beyond_is = beyond_reach within x.«end» in
      let next_in = row_entries (beyond within) x.«end» to next depth f.next (omega (arith, beyond_is)) after b rest in
      node_entries (reach within from) to depth x n nodes f
      (record {
        range = range_from text (reach within from) from to x back between;
        inner = between_from text (reach within from) (reach (below within from x) x.start) x.«end» (entries_of names f.kids) reaches.0 kids_in;
        after = subst (λ (z : ℕ). LieBetween text z to (entries_of names f.next)) beyond_is next_in;
      }) none
  row_entries (InText before) from to (Node x kids next) depth (n ∷ nodes) back (inr (lead, inner, after)) e none =
      let (f, a, b) = split_row depth x kids next n nodes e in
      let (front, rest) = inside_parts f.kids f.next (subst NoneInside f.is none.1) in
      let kids_in = row_entries Elsewhere x.start x.«end» kids (suc depth) f.kids (omega arith) inner a front in
      let next_in = row_entries Elsewhere from to next depth f.next (omega arith) after b rest in
      node_entries before to depth x n nodes f
      (record {
        range = range_from text before before from x (omega arith) lead.1;
        inner = between_from text before x.start x.«end» (entries_of names f.kids) lead.1.following kids_in;
        after = between_from text x.«end» from to (entries_of names f.next) lead.1.before next_in;
      }) none
  row_entries _ from to (Node x kids next) depth (n ∷ nodes) back (inr (lead, inner, after)) e none = absurd lead

-- the entries of a derived tree
pub derived_between : (d : Document) (nodes : List (ℕ × Item)) (tables : Tables) → Derives d nodes tables → IsOrdered d.text nodes
    → LieBetween d.text 0 (length d.text) (entries_of d.names nodes)
derived_between d nodes tables derives (whole, e, fits) =
    row_entries d.names d.text Elsewhere 0 (length d.text) whole 0 nodes (omega arith) fits e (derived_inside d nodes tables derives)
