-- The chains of nodes side by side, at another depth, and with other bodies.
use Rattle.std.proofs.Common.{◌≡◌, ℕ, suc, ◌+◌, ◌-◌, ◌≤◌, ◌<◌, ◌==◌, IsCharBoundary, slice_index, nat_lt, Bool, true, false, List, [], ◌∷◌, ◌++◌, map}
use Rattle.std.proofs.Common.{take, refl, sym, ap, subst, ◌∙◌}
use Rattle.std.proofs.Common.{arith, if◌then◌else◌, lt-ltb, le-ltb, inl, inr}
use Rattle.std.specs.List.{prefix_len}
use Rattle.first_pass_grammar.proofs.Common.{Item, ItemBody, at_depth, block_of, AreInOrder, leaves, tight_body, tightened, block_with, as_title}
use Rattle.first_pass_grammar.proofs.Common.{begins_paragraph}
use Rattle.first_pass_grammar.proofs.Common.{is_paragraph_body, side_by_side, cond_both, cond-false, false≢true, DefinitionListTitle, cases_lt, backslash}
use Rattle.first_pass_reports.specs.Pairs.{is_escaped}
use Rattle.first_pass_content.specs.Chains.{IsChainIn, IsChain, has_chain, chain_after, AreChains}
use Rattle.first_pass_chains.proofs.Backslashes.{FollowBackslashes}

-- the nodes at the start of these that are deeper than a depth
abbrev deeper_run : ℕ → List (ℕ × Item) → List (ℕ × Item)
deeper_run k [] = []
deeper_run k (n ∷ nodes) = if nat_lt k n.0 then n ∷ deeper_run k nodes else []

run_by : (t : Bool) (size : ℕ) (n : ℕ × Item) (nodes run : List (ℕ × Item)) → take size nodes ≡ run
    → take (if t then 1 + size else 0) (n ∷ nodes) ≡ (if t then n ∷ run else [])
run_by true size n nodes run h =
    let one : 1 + size ≡ suc size = omega arith in
    ap (λ (k : ℕ). take k (n ∷ nodes)) one ∙ ap (λ (z : List (ℕ × Item)). n ∷ z) h
run_by false size n nodes run h = refl

run_is : (k : ℕ) (nodes : List (ℕ × Item)) → take (prefix_len (λ (m : ℕ × Item). nat_lt k m.0) nodes) nodes ≡ deeper_run k nodes
run_is k [] = refl
run_is k (n ∷ nodes) = run_by (nat_lt k n.0) _ n nodes _ (run_is k nodes)

-- the chain of a node, in that form
abbrev ChainOf : List ℕ → ℕ × Item → List (ℕ × Item) → Type 0
ChainOf text n nodes = IsChain text (if has_chain n.1.body then deeper_run n.0 nodes else [])

chain_of : (text : List ℕ) (n : ℕ × Item) (nodes : List (ℕ × Item)) → ChainOf text n nodes → IsChain text (chain_after n nodes)
chain_of text n nodes h = subst (λ (run : List (ℕ × Item)). IsChain text (if has_chain n.1.body then run else [])) (sym (run_is n.0 nodes)) h

of_chain : (text : List ℕ) (n : ℕ × Item) (nodes : List (ℕ × Item)) → IsChain text (chain_after n nodes) → ChainOf text n nodes
of_chain text n nodes h = subst (λ (run : List (ℕ × Item)). IsChain text (if has_chain n.1.body then run else [])) (run_is n.0 nodes) h

no_chain : (text : List ℕ) → IsChain text []
no_chain text = (0, 0, omega arith)

-- each of these nodes has at least a depth
abbrev pub AreDeep : ℕ → List (ℕ × Item) → Type 0
AreDeep d [] = Unit {0}
AreDeep d (n ∷ nodes) = (d ≤ n.0) × AreDeep d nodes

-- there are no nodes, or the first of them has at most a depth
abbrev pub Stops : ℕ → List (ℕ × Item) → Type 0
Stops d [] = Unit {0}
Stops d (n ∷ nodes) = n.0 ≤ d

pub deep_both : (d : ℕ) (xs ys : List (ℕ × Item)) → AreDeep d xs → AreDeep d ys → AreDeep d (xs ++ ys)
deep_both d [] ys h k = k
deep_both d (n ∷ xs) ys h k = (h.0, deep_both d xs ys h.1 k)

pub deep_less : (c d : ℕ) (xs : List (ℕ × Item)) → c ≤ d → AreDeep d xs → AreDeep c xs
deep_less c d [] less h = tt
deep_less c d (n ∷ xs) less h = (omega (arith, h.0), deep_less c d xs less h.1)

pub deep_at : (d : ℕ) (xs : List (ℕ × Item)) → AreDeep d (at_depth d xs)
deep_at d [] = tt
deep_at d (n ∷ xs) = (omega arith, deep_at d xs)

pub deep_none : (xs : List (ℕ × Item)) → AreDeep 0 xs
deep_none [] = tt
deep_none (n ∷ xs) = (omega arith, deep_none xs)

-- the run of a node ends before nodes that are not deeper
run_stops : (k : ℕ) (ys : List (ℕ × Item)) → Stops k ys → deeper_run k ys ≡ []
run_stops k [] h = refl
run_stops k (n ∷ ys) h = cond-false _ _ _ (le-ltb k n.0 h)

run_both : (k : ℕ) (xs ys : List (ℕ × Item)) → Stops k ys → deeper_run k (xs ++ ys) ≡ deeper_run k xs
run_both k [] ys h = run_stops k ys h
run_both k (n ∷ xs) ys h = ap (λ (run : List (ℕ × Item)). if nat_lt k n.0 then n ∷ run else []) (run_both k xs ys h)

stops_more : (d k : ℕ) (ys : List (ℕ × Item)) → d ≤ k → Stops d ys → Stops k ys
stops_more d k [] more h = tt
stops_more d k (n ∷ ys) more h = omega arith

-- nodes side by side
pub chains_both : (text : List ℕ) (d : ℕ) (xs ys : List (ℕ × Item)) → AreDeep d xs → Stops d ys → AreChains text xs → AreChains text ys
    → AreChains text (xs ++ ys)
chains_both text d [] ys deep stops h k = k
chains_both text d (n ∷ xs) ys deep stops h k =
    let same = run_both n.0 xs ys (stops_more d n.0 ys deep.0 stops) in (
      chain_of text n (xs ++ ys) (subst (λ (run : List (ℕ × Item)). IsChain text (if has_chain n.1.body then run else [])) (sym same)
          (of_chain text n xs h.0)),
      chains_both text d xs ys deep.1 stops h.1 k,
    )

-- a node without a chain, before nodes
pub chains_after : (text : List ℕ) (n : ℕ × Item) (nodes : List (ℕ × Item)) → has_chain n.1.body ≡ false → AreChains text nodes → AreChains text (n ∷ nodes)
chains_after text n nodes none h = (subst (IsChain text) (sym (cond-false (has_chain n.1.body) _ _ none)) (no_chain text), h)

-- nodes at another depth
chain_deeper : (text : List ℕ) (d from to : ℕ) (xs : List (ℕ × Item)) → IsChainIn text from to xs → IsChainIn text from to (at_depth d xs)
chain_deeper text d from to [] h = h
chain_deeper text d from to (n ∷ xs) h = (h.0, h.1, h.2, h.3, h.4, chain_deeper text d n.1.«end» to xs h.5)

less_deeper : (d k m : ℕ) → nat_lt (d + k) (d + m) ≡ nat_lt k m
less_deeper d k m = elim (cases_lt k m) [
  | inl less ↦ lt-ltb (d + k) (d + m) (omega arith) ∙ sym (lt-ltb k m less)
  | inr more ↦ le-ltb (d + k) (d + m) (omega arith) ∙ sym (le-ltb k m more)
]

deeper_by : (t : Bool) (d : ℕ) (n : ℕ × Item) (run nodes : List (ℕ × Item)) → run ≡ at_depth d nodes
    → (if t then (d + n.0, n.1) ∷ run else []) ≡ at_depth d (if t then n ∷ nodes else [])
deeper_by true d n run nodes same = ap (λ (z : List (ℕ × Item)). (d + n.0, n.1) ∷ z) same
deeper_by false d n run nodes same = refl

run_deeper : (d k : ℕ) (xs : List (ℕ × Item)) → deeper_run (d + k) (at_depth d xs) ≡ at_depth d (deeper_run k xs)
run_deeper d k [] = refl
run_deeper d k (n ∷ xs) =
    ap (λ (t : Bool). if t then (d + n.0, n.1) ∷ deeper_run (d + k) (at_depth d xs) else []) (less_deeper d k n.0)
    ∙ deeper_by (nat_lt k n.0) d n (deeper_run (d + k) (at_depth d xs)) (deeper_run k xs) (run_deeper d k xs)

chain_kept : (text : List ℕ) (t : Bool) (d : ℕ) (run : List (ℕ × Item)) → IsChain text (if t then run else []) → IsChain text (if t then at_depth d run else [])
chain_kept text true d run (from, to, h) = (from, to, chain_deeper text d from to run h)
chain_kept text false d run h = h

pub chains_deeper : (text : List ℕ) (d : ℕ) (xs : List (ℕ × Item)) → AreChains text xs → AreChains text (at_depth d xs)
chains_deeper text d [] h = tt
chains_deeper text d (n ∷ xs) h = (
  chain_of text (d + n.0, n.1) (at_depth d xs)
      (subst (λ (run : List (ℕ × Item)). IsChain text (if has_chain n.1.body then run else [])) (sym (run_deeper d n.0 xs))
      (chain_kept text (has_chain n.1.body) d (deeper_run n.0 xs) (of_chain text n xs h.0))),
  chains_deeper text d xs h.1,
)

-- a block without a chain of its own, with nodes below it
pub chains_below : (text : List ℕ) (x : Item) (kids : List (ℕ × Item)) → has_chain x.body ≡ false → AreChains text kids → AreChains text (block_of x kids)
chains_below text x kids none h = chains_after text (0, x) (at_depth 1 kids) none (chains_deeper text 1 kids h)

-- tokens have no nodes below them
leaves_none : (chain : List Item) → deeper_run 0 (leaves chain) ≡ []
leaves_none [] = refl
leaves_none (x ∷ chain) = refl

pub leaves_chains : (text : List ℕ) (chain : List Item) → AreChains text (leaves chain)
leaves_chains text [] = tt
leaves_chains text (x ∷ chain) = (
  chain_of text (0, x) (leaves chain)
      (cond_both (has_chain x.body) (deeper_run 0 (leaves chain)) [] (IsChain text) (λ b. subst (IsChain text) (sym (leaves_none chain)) (no_chain text))
      (λ b. no_chain text)),
  leaves_chains text chain,
)

-- a block whose nodes are these tokens: they are in order, and each follows its backslash
chain_is : (text : List ℕ) (d from to : ℕ) (chain : List Item) → AreInOrder text from to chain → FollowBackslashes text from chain
    → IsChainIn text from to (at_depth d (leaves chain))
chain_is text d from to [] h k = h
chain_is text d from to (x ∷ chain) h k = (h.0, h.1, h.2, h.3, k.0, chain_is text d x.«end» to chain h.4 k.1)

whole_run : (chain : List Item) → deeper_run 0 (at_depth 1 (leaves chain)) ≡ at_depth 1 (leaves chain)
whole_run [] = refl
whole_run (x ∷ chain) = ap (λ (run : List (ℕ × Item)). (1, x) ∷ run) (whole_run chain)

pub chain_block : (text : List ℕ) (start stop from to : ℕ) (body : ItemBody) (chain : List Item) → AreInOrder text from to chain
    → FollowBackslashes text from chain → AreChains text (block_with start stop body chain)
chain_block text start stop from to body chain h k =
    let x : Item = record { start = start; «end» = stop; body = body } in (
      chain_of text (0, x) (at_depth 1 (leaves chain))
          (cond_both (has_chain body) (deeper_run 0 (at_depth 1 (leaves chain))) [] (IsChain text)
          (λ b. (from, to, subst (IsChainIn text from to) (sym (whole_run chain)) (chain_is text 1 from to chain h k))) (λ b. no_chain text)),
      chains_deeper text 1 (leaves chain) (leaves_chains text chain),
    )

-- blocks side by side
abbrev pub AreBlocks : List ℕ → List (List (ℕ × Item)) → Type 0
AreBlocks text [] = Unit {0}
AreBlocks text (block ∷ blocks) = AreChains text block × Stops 0 block × AreBlocks text blocks

pub side_stops : (text : List ℕ) (blocks : List (List (ℕ × Item))) → AreBlocks text blocks → Stops 0 (side_by_side blocks)
side_stops text [] h = tt
side_stops text ([] ∷ blocks) h = side_stops text blocks h.2
side_stops text ((n ∷ block) ∷ blocks) h = h.1

pub side_chains : (text : List ℕ) (blocks : List (List (ℕ × Item))) → AreBlocks text blocks → AreChains text (side_by_side blocks)
side_chains text [] h = tt
side_chains text (block ∷ blocks) h =
    chains_both text 0 block (side_by_side blocks) (deep_none block) (side_stops text blocks h.2) h.0 (side_chains text blocks h.2)

-- Nodes with other bodies: each has a chain, or follows a backslash, exactly if it did before.
module _ (text : List ℕ) (change : ℕ × Item → ℕ × Item) (depth_is : (n : ℕ × Item) → (change n).0 ≡ n.0)
    (start_is : (n : ℕ × Item) → (change n).1.start ≡ n.1.start)
    (end_is : (n : ℕ × Item) → (change n).1.«end» ≡ n.1.«end») (marked_is : (n : ℕ × Item) → is_escaped (change n).1.body ≡ is_escaped n.1.body)
    (has_is : (n : ℕ × Item) → has_chain (change n).1.body ≡ has_chain n.1.body) where
  chain_changed : (from to : ℕ) (xs : List (ℕ × Item)) → IsChainIn text from to xs → IsChainIn text from to (map change xs)
  chain_changed from to [] h = h
  chain_changed from to (n ∷ xs) h =
      let s : n.1.start ≡ (change n).1.start = sym (start_is n) in
      let e : n.1.«end» ≡ (change n).1.«end» = sym (end_is n) in (
        subst (λ (k : ℕ). from ≤ k) s h.0,
        subst (λ (k : ℕ). (change n).1.start ≤ k) e (subst (λ (k : ℕ). k ≤ n.1.«end») s h.1),
        subst (IsCharBoundary text) s h.2,
        subst (IsCharBoundary text) e h.3,
        (λ marked. let follows = h.4 (sym (marked_is n) ∙ marked) in
            (subst (λ (k : ℕ). from < k) s follows.0, subst (λ (k : ℕ). slice_index text (k - 1) ≡ backslash) s follows.1)),
        subst (λ (k : ℕ). IsChainIn text k to (map change xs)) e (chain_changed n.1.«end» to xs h.5),
      )

  changed_by : (t : Bool) (n : ℕ × Item) (run nodes : List (ℕ × Item)) → run ≡ map change nodes
      → (if t then change n ∷ run else []) ≡ map change (if t then n ∷ nodes else [])
  changed_by true n run nodes same = ap (λ (z : List (ℕ × Item)). change n ∷ z) same
  changed_by false n run nodes same = refl

  run_changed : (k : ℕ) (xs : List (ℕ × Item)) → deeper_run k (map change xs) ≡ map change (deeper_run k xs)
  run_changed k [] = refl
  run_changed k (n ∷ xs) =
      ap (λ (m : ℕ). if nat_lt k m then change n ∷ deeper_run k (map change xs) else []) (depth_is n)
      ∙ changed_by (nat_lt k n.0) n (deeper_run k (map change xs)) (deeper_run k xs) (run_changed k xs)

  kept_by : (t : Bool) (run : List (ℕ × Item)) → IsChain text (if t then run else []) → IsChain text (if t then map change run else [])
  kept_by true run (from, to, h) = (from, to, chain_changed from to run h)
  kept_by false run h = h

  pub chains_changed : (xs : List (ℕ × Item)) → AreChains text xs → AreChains text (map change xs)
  chains_changed [] h = tt
  chains_changed (n ∷ xs) h =
      let run : deeper_run (change n).0 (map change xs) ≡ map change (deeper_run n.0 xs) =
      ap (λ (k : ℕ). deeper_run k (map change xs)) (depth_is n) ∙ run_changed n.0 xs in (
        chain_of text (change n) (map change xs)
            (subst (λ (r : List (ℕ × Item)). IsChain text (if has_chain (change n).1.body then r else [])) (sym run)
            (subst (λ (t : Bool). IsChain text (if t then map change (deeper_run n.0 xs) else [])) (sym (has_is n))
            (kept_by (has_chain n.1.body) (deeper_run n.0 xs) (of_chain text n xs h.0)))),
        chains_changed xs h.1,
      )

-- nodes of a tight list
tight_escaped : (body : ItemBody) → is_escaped (tight_body body) ≡ is_escaped body
tight_escaped body = grind arith

tight_has : (body : ItemBody) → has_chain (tight_body body) ≡ has_chain body
tight_has body = grind arith

tight_by : {A : Type 0} (depth : ℕ) (n : ℕ × Item) (of : Item → A) → of (record n.1 { body = tight_body n.1.body }) ≡ of n.1 → of (tightened depth n).1 ≡ of n.1
tight_by depth n of same =
    cond_both (n.0 == depth) (record n.1 { body = tight_body n.1.body }) n.1 (λ (x : Item). of x ≡ of n.1) (λ b. same) (λ b. refl)

pub chains_tight : (text : List ℕ) (depth : ℕ) (xs : List (ℕ × Item)) → AreChains text xs → AreChains text (map (tightened depth) xs)
chains_tight text depth xs h =
    chains_changed text (tightened depth) (λ n. refl) (λ n. tight_by depth n (λ (x : Item). x.start) refl) (λ n. tight_by depth n (λ (x : Item). x.«end») refl)
    (λ n. tight_by depth n (λ (x : Item). is_escaped x.body) (tight_escaped n.1.body))
    (λ n. tight_by depth n (λ (x : Item). has_chain x.body) (tight_has n.1.body)) xs h

pub deep_tight : (d depth : ℕ) (xs : List (ℕ × Item)) → AreDeep d xs → AreDeep d (map (tightened depth) xs)
deep_tight d depth [] h = tt
deep_tight d depth (n ∷ xs) h = (h.0, deep_tight d depth xs h.1)

-- a paragraph that becomes a title
paragraph_has : (body : ItemBody) → is_paragraph_body body ≡ true → has_chain body ≡ true
paragraph_has body h = grind (arith, false≢true)

pub chains_title : (text : List ℕ) (items : List (ℕ × Item)) → begins_paragraph items ≡ true → AreChains text items → AreChains text (as_title items)
chains_title text [] is h = tt
chains_title text (x ∷ items) is h =
    let whole = subst (λ (t : Bool). IsChain text (if t then deeper_run x.0 items else [])) (paragraph_has x.1.body is) (of_chain text x items h.0) in
    (chain_of text (x.0, record x.1 { body = DefinitionListTitle }) items whole, h.1)
