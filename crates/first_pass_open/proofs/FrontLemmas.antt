-- How far a line continues the open nodes.
use Rattle.std.proofs.Common.{◌≡◌, ℕ, zero, suc, ◌+◌, ◌-◌, ◌<◌, ◌≤◌, List, [], ◌∷◌, length, get_or, drop, reverse, Option, Some, None, inl, inr, refl, sym, ap}
use Rattle.std.proofs.Common.{◌∙◌, subst, arith, option_map, option_and_then, slice_get}
use Rattle.first_pass_grammar.proofs.Common.{cases_lt, drop_more, drop_all, get_or-reverse, length-map, length-reverse, Item, TreeIndex, IsOpenPath, depths}
use Rattle.first_pass_grammar.proofs.Common.{Rest, after, front, Options, body_of}
use Rattle.first_pass_open.proofs.Common.{Container, container_of, container_at, prefix_of, with_container, path_in, outer}

pub after_step : (c : Option Container) (path : List Container) (r q : Rest) → after path r ≡ Some q → after (with_container c path) r ≡ prefix_of c q
unfolding after
after_step None path r q e = e
after_step (Some c) path r q e = rw e refl

after_short : (c : Option Container) (path : List Container) (r : Rest) → after path r ≡ None → after (with_container c path) r ≡ None
unfolding after
after_short None path r e = e
after_short (Some c) path r e = rw e refl

front_taken : (path : List Container) (r q : Rest) → after path r ≡ Some q → front path r ≡ q
unfolding after front
front_taken [] r q e = ap (λ o. elim o [ None ↦ r | Some x ↦ x ]) e
front_taken (c ∷ path) r q e = rw e refl

front_short : (c : Option Container) (path : List Container) (r : Rest)
    → after (with_container c path) r ≡ None → front (with_container c path) r ≡ front path r
unfolding after front
front_short None path r e = refl
front_short (Some c) path r e = rw e refl

pub outer-more : (spine : List TreeIndex) (i : ℕ) (x : TreeIndex) → i < length spine → outer (i + 1) spine ≡ get_or (reverse spine) i x ∷ outer i spine
outer-more spine i x h =
    let z : length spine - (i + 1) + 1 ≡ length spine - i = omega arith in
    let y : length spine - 1 - i ≡ length spine - (i + 1) = omega arith in
    rw (drop_more spine (length spine - (i + 1)) x (omega arith), get_or-reverse spine i x h, z, y) refl

pub outer-none : (spine : List TreeIndex) → outer 0 spine ≡ []
outer-none spine = let z : length spine - 0 ≡ length spine = omega arith in ap (λ k. drop k spine) z ∙ drop_all (length spine) spine (omega arith)

pub outer-all : (spine : List TreeIndex) → outer (length spine) spine ≡ spine
outer-all spine = let z : length spine - length spine ≡ 0 = omega arith in ap (λ k. drop k spine) z

-- the containers among the outermost m open nodes, the innermost first
abbrev pub path_to : (options : Options) → List (ℕ × Item) → List TreeIndex → ℕ → List Container
path_to options ns spine m = path_in options ns (outer m spine)

pub path_to-more : (options : Options) (ns : List (ℕ × Item)) (spine : List TreeIndex) (i : ℕ) (x : TreeIndex)
    → i < length spine → path_to options ns spine (i + 1) ≡ with_container (container_at options ns (get_or (reverse spine) i x)) (path_to options ns spine i)
path_to-more options ns spine i x h = ap (path_in options ns) (outer-more spine i x h)

-- If the line continues the outermost i open nodes, the prefix of the next is what decides for one more.
pub taken_more : (options : Options) (ns : List (ℕ × Item)) (spine : List TreeIndex) (i : ℕ) (x : TreeIndex) (r q : Rest)
    → i < length spine → after (path_to options ns spine i) r ≡ Some q
    → after (path_to options ns spine (i + 1)) r ≡ prefix_of (container_at options ns (get_or (reverse spine) i x)) q
taken_more options ns spine i x r q h e = grind (arith, path_to-more, after_step)

-- What holds at i, and each step from i on keeps, holds at each later number.
pub kept_from : (P : ℕ → Type 0) (i n : ℕ) → i ≤ n → P i → ((m : ℕ) → i ≤ m → m < n → P m → P (m + 1)) → P n
kept_from P i zero h here more = let z : i ≡ 0 = omega arith in subst P z here
kept_from P i (suc n) h here more = elim (cases_lt n i) [
  | inl below ↦ (let z : i ≡ suc n = omega arith in subst P z here)
  | inr within ↦ (
      let z : n + 1 ≡ suc n = omega arith in
      subst P z (more n within (omega arith) (kept_from P i n within here (λ m low high. more m low (omega arith)))))
]

-- A line that does not continue the outermost i + 1 open nodes does not continue more of them.
pub stops : (options : Options) (ns : List (ℕ × Item)) (spine : List TreeIndex) (i : ℕ) (x : TreeIndex) (r : Rest)
    → after (path_to options ns spine (i + 1)) r ≡ None
    → (m : ℕ) → i < m → m ≤ length spine → after (path_to options ns spine m) r ≡ None
stops options ns spine i x r e m low high =
    kept_from (λ k. after (path_to options ns spine k) r ≡ None) (i + 1) m (omega arith) e (λ k l h none.
    ap (λ c. after c r) (path_to-more options ns spine k x (omega arith))
    ∙ after_short (container_at options ns (get_or (reverse spine) k x)) (path_to options ns spine k) r none)

-- If the line continues the outermost i open nodes and no more, the rest after their prefixes is the front.
pub front_is : (options : Options) (ns : List (ℕ × Item)) (spine : List TreeIndex) (i : ℕ) (r q : Rest)
    → i ≤ length spine → after (path_to options ns spine i) r ≡ Some q
    → ((m : ℕ) → i < m → m ≤ length spine → after (path_to options ns spine m) r ≡ None) → front (path_in options ns spine) r ≡ q
front_is options ns spine i r q h e s =
    ap (λ c. front (path_in options ns c) r) (sym (outer-all spine))
    ∙ kept_from (λ k. front (path_to options ns spine k) r ≡ q) i (length spine) h (front_taken (path_to options ns spine i) r q e) (λ k low high same.
    let more = path_to-more options ns spine k (record { 0 = 0 }) high in
    let none = subst (λ c. after c r ≡ None) more (s (k + 1) (omega arith) (omega arith)) in
    ap (λ c. front c r) more
    ∙ front_short (container_at options ns (get_or (reverse spine) k (record { 0 = 0 }))) (path_to options ns spine k) r none ∙ same)

-- Each open node is among the nodes of the tree.
pub open_within : (ns : List (ℕ × Item)) (spine : List TreeIndex) (k : ℕ) (x : TreeIndex)
    → IsOpenPath (depths ns) spine → k < length spine → (get_or spine k x).0 < length ns
open_within ns [] k x o h = absurd (omega arith)
open_within ns (ix ∷ spine) zero x o h = subst (λ n. ix.0 < n) (length-map ns (λ n. n.0)) o.0.within
open_within ns (ix ∷ spine) (suc k) x o h = open_within ns spine k x o.1 (omega arith)

-- The container at a place is that of the item there.
pub container_is : (options : Options) (ns : List (ℕ × Item)) (ix : TreeIndex) (item : Item)
    → option_map (λ n. n.1) (slice_get ns ix.0) ≡ Some item → container_at options ns ix ≡ container_of options item.body
container_is options ns ix item e = ap (option_and_then (container_of options)) (body_of (record { nodes = ns; spine = []; current = None }) ix item e)

-- Every line continues the outermost 0 open nodes, and nothing is taken.
pub taken_none : (options : Options) (ns : List (ℕ × Item)) (spine : List TreeIndex) (r : Rest) → after (path_in options ns (outer 0 spine)) r ≡ Some r
unfolding after
taken_none options ns spine r = ap (λ s. after (path_in options ns s) r) (outer-none spine)

abbrev pub root : TreeIndex
root = record { 0 = 0 }

pub in_spine : (spine places : List TreeIndex) (i : ℕ) → places ≡ reverse spine → i < length places → i < length spine
in_spine spine places i e h = subst (λ n. i < n) (ap length e ∙ length-reverse spine) h

-- Each open node is among the nodes, if the open nodes are listed from the outermost on.
pub place_within : (ns : List (ℕ × Item)) (spine places : List TreeIndex) (i : ℕ)
    → IsOpenPath (depths ns) spine → places ≡ reverse spine → i < length places → (get_or places i root).0 < length ns
place_within ns spine places i o e h =
    let within = in_spine spine places i e h in
    rw (e, get_or-reverse spine i root within) (open_within ns spine (length spine - 1 - i) root o (omega arith))

-- The rest after one more open node is what the prefix of its item leaves.
pub node_taken : (options : Options) (ns : List (ℕ × Item)) (spine places : List TreeIndex) (i : ℕ) (item : Item) (r q : Rest)
    → places ≡ reverse spine → i < length places
    → option_map (λ n. n.1) (slice_get ns (get_or places i root).0) ≡ Some item → after (path_in options ns (outer i spine)) r ≡ Some q
    → after (path_in options ns (outer (i + 1) spine)) r ≡ prefix_of (container_of options item.body) q
node_taken options ns spine places i item r q e h is so_far =
    taken_more options ns spine i root r q (in_spine spine places i e h) so_far
    ∙ ap (λ o. prefix_of o q) (container_is options ns (get_or (reverse spine) i root) item (rw e at is))
