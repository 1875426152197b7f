-- Making the paragraphs of a list tight, one node after the other.
use Rattle.std.proofs.Common.{◌≡◌, ◌≢◌, ℕ, zero, suc, ◌+◌, ◌<◌, ◌≤◌, ◌-◌, ◌==◌, nat_lt, true, false, List, ◌∷◌, length, slice_index, Some, refl, sym, ap, subst}
use Rattle.std.proofs.Common.{◌∙◌, arith, []}
use Rattle.first_pass_tree.proofs.Common.{Forest, depths, modify, body_at, end_of, Item, length-map, ItemBody, nat_tests, Paragraph}
use Rattle.first_pass_tree.specs.Tight.{tight_body, tightened, tight_run, tight_at, tight_node, with_tight_node, tight_from}
use Rattle.first_pass_tree.proofs.Depths.{at-end, before-end}
use Rattle.first_pass_tree.proofs.Keeps.{run-within}
use Rattle.first_pass_tree.proofs.BodyLemmas.{not_changed}

abbrev node_of : ℕ → ℕ → ItemBody → Item
node_of start «end» body = record { start = start; «end» = «end»; body = body }

tight_run_depths : (depth : ℕ) (ns : List (ℕ × Item)) → depths (tight_run depth ns) ≡ depths ns
unfolding tight_run
tight_run_depths depth [] = refl
tight_run_depths depth (n ∷ ns) = grind (arith, tight_run_depths depth ns)

-- tightening changes no depth
tight_at_depths : (depth i : ℕ) (ns : List (ℕ × Item)) → depths (tight_at depth i ns) ≡ depths ns
unfolding tight_at
tight_at_depths depth zero ns = tight_run_depths depth ns
tight_at_depths depth (suc i) [] = refl
tight_at_depths depth (suc i) (n ∷ ns) = ap (λ ds. n.0 ∷ ds) (tight_at_depths depth i ns)

tight_node_depths : (depth i : ℕ) (ns : List (ℕ × Item)) → depths (tight_node depth i ns) ≡ depths ns
unfolding tight_node
tight_node_depths depth i [] = refl
tight_node_depths depth zero (n ∷ ns) = refl
tight_node_depths depth (suc i) (n ∷ ns) = ap (λ ds. n.0 ∷ ds) (tight_node_depths depth i ns)

-- one more node before those that are tight
tight_more : (depth i : ℕ) (ns : List (ℕ × Item))
    → i < length ns → depth < slice_index (depths ns) i → tight_node depth i (tight_at depth (i + 1) ns) ≡ tight_at depth i ns
unfolding tight_node tight_at tight_run
tight_more depth i [] h deep = absurd (omega arith)
tight_more depth zero (n ∷ ns) h deep = (let t : nat_lt depth n.0 ≡ true = grind (arith, nat_tests, deep) in rw t refl)
tight_more depth (suc i) (n ∷ ns) h deep = grind (arith, tight_more depth i ns (omega arith) deep)

-- a node that is not two levels deeper
pub node_stays : (depth i : ℕ) (ns : List (ℕ × Item)) → ((slice_index (depths ns) i == (depth + 2)) ≡ false) → tight_node depth i ns ≡ ns
unfolding tight_node
node_stays depth i [] h = refl
node_stays depth zero (n ∷ ns) h = rw h refl
node_stays depth (suc i) (n ∷ ns) h = ap (λ ms. n ∷ ms) (node_stays depth i ns h)

-- a node that is too deep is unchanged
tight_past : (depth i : ℕ) (ns : List (ℕ × Item)) → i < length ns → depth + 2 < slice_index (depths ns) i → tight_at depth (i + 1) ns ≡ tight_at depth i ns
tight_past depth i ns h deep =
    let e = ap (λ ds. slice_index ds i) (tight_at_depths depth (i + 1) ns) in
    let u : (slice_index (depths (tight_at depth (i + 1) ns)) i == (depth + 2)) ≡ false = grind (arith, nat_tests, deep, e) in
    sym (node_stays depth i (tight_at depth (i + 1) ns) u) ∙ tight_more depth i ns h (omega arith)

-- and so are nodes that are all too deep
tight_over : (depth i gap : ℕ) (ns : List (ℕ × Item))
    → i + gap ≤ length ns → ((k : ℕ) → i ≤ k → k < i + gap → depth + 2 < slice_index (depths ns) k) → tight_at depth (i + gap) ns ≡ tight_at depth i ns
tight_over depth i zero ns h deep = (let e : i + 0 ≡ i = omega arith in ap (λ k. tight_at depth k ns) e)
tight_over depth i (suc gap) ns h deep =
    let e : i + suc gap ≡ i + gap + 1 = omega arith in
    ap (λ k. tight_at depth k ns) e
    ∙ tight_past depth (i + gap) ns (omega arith) (deep (i + gap) (omega arith) (omega arith))
    ∙ tight_over depth i gap ns (omega arith) (λ k a b. deep k a (omega arith))

-- a step of the walk back, over nodes that are too deep
pub tight_back : (depth place at : ℕ) (ns : List (ℕ × Item))
    → place < at → at ≤ length ns → depth < slice_index (depths ns) place → ((k : ℕ) → place < k → k < at → depth + 2 < slice_index (depths ns) k)
    → tight_node depth place (tight_at depth at ns) ≡ tight_at depth place ns
tight_back depth place at ns l w deep over =
    let e : place + 1 + (at - (place + 1)) ≡ at = omega arith in
    let o = tight_over depth (place + 1) (at - (place + 1)) ns (omega arith) (λ k a b. over k (omega arith) (omega arith)) in
    ap (λ k. tight_node depth place (tight_at depth k ns)) (sym e) ∙ ap (tight_node depth place) o ∙ tight_more depth place ns (omega arith) deep

-- at the end of the nodes, or where a node is not below the list
tight_none : (depth i : ℕ) (ns : List (ℕ × Item)) → (i < length ns → slice_index (depths ns) i ≤ depth) → tight_at depth i ns ≡ ns
unfolding tight_at tight_run
tight_none depth zero [] h = refl
tight_none depth (suc i) [] h = refl
tight_none depth zero (n ∷ ns) h = (let w = h (omega arith) in let t : nat_lt depth n.0 ≡ false = grind (arith, nat_tests, w) in rw t refl)
tight_none depth (suc i) (n ∷ ns) h = ap (λ ms. n ∷ ms) (tight_none depth i ns (λ l. h (omega arith)))

tightened_two : (n : ℕ × Item) (depth : ℕ) (b c : ItemBody)
    → (n.0 == depth) ≡ true → n.1.body ≡ b → tight_body b ≡ c → tightened depth n ≡ (n.0, record { start = n.1.start; «end» = n.1.«end»; body = c })
tightened_two n depth b c two is t = rw two (ap (λ x. (n.0, node_of n.1.start n.1.«end» x)) (ap tight_body is ∙ t))

-- a node that is two levels deeper
pub node_tight : (depth i : ℕ) (ns : List (ℕ × Item)) (b c : ItemBody)
    → (slice_index (depths ns) i == (depth + 2)) ≡ true → body_at ns i ≡ Some b → tight_body b ≡ c
    → tight_node depth i ns ≡ modify ns i (λ x. record { start = x.start; «end» = x.«end»; body = c })
unfolding tight_node
node_tight depth i [] b c two is t = refl
node_tight depth zero (n ∷ ns) b c two is t = (let e : n.1.body ≡ b = cc in ap (λ m. m ∷ ns) (tightened_two n (depth + 2) b c two e t))
node_tight depth (suc i) (n ∷ ns) b c two is t = ap (λ ms. n ∷ ms) (node_tight depth i ns b c two is t)

-- a depth whose difference to another is two
pub two_deeper : (a b d : ℕ) → a ≡ b → d < b → a - d ≡ 2 → (b == (d + 2)) ≡ true
two_deeper a b d e l h = (let s : b ≡ d + 2 = omega arith in grind (arith, nat_tests, s))

pub not_two_deeper : (a b d : ℕ) → a ≡ b → (a - d ≡ 2 → ⊥) → (b == (d + 2)) ≡ false
not_two_deeper a b d e h = (let s : b ≢ d + 2 = λ q. h (omega arith) in grind (arith, nat_tests, s))

-- writing the same body at an index
pub tight_same_body : (ns : List (ℕ × Item)) (i : ℕ) (b : ItemBody)
    → body_at ns i ≡ Some b → modify ns i (λ x. record { start = x.start; «end» = x.«end»; body = b }) ≡ ns
tight_same_body ns i b is = not_changed ns i _ b is (λ x e. ap (λ z. node_of x.start x.«end» z) (sym e))

-- any body except a paragraph
pub other_tight : (b : ItemBody) → (b ≡ Paragraph → ⊥) → tight_body b ≡ b
other_tight b h = grind arith

pub tight_from_depths : (f g : Forest Item) (depth at : ℕ) → g ≡ tight_from f depth at → depths g.nodes ≡ depths f.nodes
tight_from_depths f g depth at e = ap (λ (v : Forest Item). depths v.nodes) e ∙ tight_at_depths depth at f.nodes

same_count : (f g : Forest Item) → depths g.nodes ≡ depths f.nodes → length g.nodes ≡ length f.nodes
same_count f g e = sym (length-map g.nodes (λ n. n.0)) ∙ ap length e ∙ length-map f.nodes (λ n. n.0)

-- a walk back over nodes below a list, one node after the other
pub record IsTightening (old : Forest Item) (depth from to at : ℕ) (now : Forest Item) : Type 0 where
  pub before : from ≤ at
  pub within : at ≤ to
  pub depths_stay : depths now.nodes ≡ depths old.nodes
  pub tight : (f : Forest Item) → old ≡ tight_from f depth to → now ≡ tight_from f depth at

-- the walk one node further back
pub tightening_next : (old now next : Forest Item) (depth from to at : ℕ) → to ≤ length old.nodes
    → ((j : ℕ) → from ≤ j → j < to → depth < slice_index (depths old.nodes) j) → from < at → IsTightening old depth from to at now
    → next ≡ with_tight_node now depth (record { 0 = at - 1 }) → IsTightening old depth from to (at - 1) next
tightening_next old now next depth from to at l deep b h e = grind (arith, tight_node_depths, tight_from_depths, same_count, tight_more)

-- the walk back over all nodes below a list of a depth: the paragraphs from an index on are tight
pub record IsTightFrom (f : Forest Item) (list depth at : ℕ) (g : Forest Item) : Type 0 where
  pub there : list < length f.nodes
  pub depth_is : depth ≡ slice_index (depths f.nodes) list
  pub following : list < at
  pub within : at ≤ end_of (depths f.nodes) list
  pub tight : g ≡ tight_from f depth at

-- at their end, no paragraph is tight yet
pub walk_begins : (f : Forest Item) (list depth at : ℕ)
    → list < length f.nodes → depth ≡ slice_index (depths f.nodes) list → at ≡ end_of (depths f.nodes) list → IsTightFrom f list depth at f
walk_begins f list depth at l d e = grind (arith, length-map, tight_none, at-end)

-- its index is among the nodes, or at their end
pub walk_within : (f g : Forest Item) (list depth at : ℕ) → IsTightFrom f list depth at g → at ≤ length g.nodes
walk_within f g list depth at h = grind (arith, same_count, tight_from_depths, run-within)

-- every node below the list is deeper than it
pub walk_deeper : (f g : Forest Item) (list depth at k : ℕ) → IsTightFrom f list depth at g → list < k → k < at → depth < slice_index (depths g.nodes) k
walk_deeper f g list depth at k h a b = grind (arith, before-end, tight_from_depths)

-- the nodes after an inner list are tight too
pub walk_over : (f g same h : Forest Item) (list depth at past : ℕ) → IsTightFrom f list depth at g → (list < past) × (past ≤ at)
    → same ≡ g → ((v : Forest Item) → same ≡ tight_from v depth at → h ≡ tight_from v depth past) → IsTightFrom f list depth past h
walk_over f g same h list depth at past from a e t = grind arith

-- a step over an inner list, from the nodes after it to its index
pub walk_next : (f h next : Forest Item) (list depth place past : ℕ)
    → IsTightFrom f list depth past h → list < place → place < past → ((k : ℕ) → place < k → k < past → depth + 2 < slice_index (depths f.nodes) k)
    → next ≡ with_tight_node h depth (record { 0 = place }) → IsTightFrom f list depth place next
walk_next f h next list depth place past from a b over e =
    let v = from.within in
    let s = tight_from_depths f h depth past from.tight in
    let w = walk_within f h list depth past from in
    let n = same_count f h s in
    let deep : depth < slice_index (depths f.nodes) place =
    subst (λ (ds : List ℕ). depth < slice_index ds place) s (walk_deeper f h list depth past place from a b) in
    record {
      there = from.there;
      depth_is = from.depth_is;
      following = a;
      within = omega arith;
      tight = e
          ∙ ap (λ (v : Forest Item). with_tight_node v depth (record { 0 = place })) from.tight
          ∙ ap (λ (ns : List (ℕ × Item)). record f { nodes = ns }) (tight_back depth place past f.nodes b (omega arith) deep over);
    }
