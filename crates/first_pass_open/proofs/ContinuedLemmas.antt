-- How a line continues the open containers, from the number of open nodes that it continues.
use Rattle.std.proofs.Common.{◌≡◌, inl, inr, ℕ, ◌+◌, ◌<◌, ◌≤◌, ◌==◌, List, ◌∷◌, length, get_or, reverse, Option, Some, None, is_some, refl, sym, ap, ◌∙◌, arith}
use Rattle.first_pass_grammar.proofs.Common.{and-true, cases_lt, nat_tests, length-reverse, slice_get-get_or, slice_get_past, Item, Options, Forest, Rest}
use Rattle.first_pass_grammar.proofs.Common.{after, prefix, continued}
use Rattle.first_pass_open.proofs.Common.{Container, container_at, prefix_of, with_container, path_in, outer, is_definition_node, definition_at_depth}
use Rattle.first_pass_open.proofs.Common.{continued_to}
use Rattle.first_pass_grammar.specs.Containers.{is_definition, at_definition}
use Rattle.first_pass_grammar.proofs.Sequences.FootnoteHeads.{whole_none}
use Rattle.first_pass_open.proofs.FrontLemmas.{kept_from, path_to, path_to-more, taken_more, outer-all, root}

stop_by : (c : Container) (path : List Container) (r q : Rest) → after path r ≡ Some q → prefix c q ≡ None → at_definition (c ∷ path) r ≡ is_definition c
unfolding at_definition after
stop_by c path r q some none = rw some (rw none (and-true (is_definition c)))

-- If the line continues a path, but not the node directly inside it, this node alone decides whether the line stops at
-- a definition.
stop_at : (o : Option Container) (path : List Container) (r q : Rest)
    → after path r ≡ Some q → prefix_of o q ≡ None → at_definition (with_container o path) r ≡ is_definition_node o
stop_at None path r q some none = cc
stop_at (Some c) path r q some none = stop_by c path r q some none

-- If the line does not continue a path, a node inside the path makes no difference to that.
stop_kept : (o : Option Container) (path : List Container) (r : Rest) → after path r ≡ None → at_definition (with_container o path) r ≡ at_definition path r
unfolding at_definition
stop_kept None path r none = refl
stop_kept (Some c) path r none = rw none refl

-- A line continues the outermost i open nodes and no more, and q is the rest after their prefixes.
pub record IsKept (options : Options) (f : Forest Item) (i : ℕ) (r q : Rest) : Type 0 where
  pub within : i ≤ length f.spine
  pub taken : after (path_in options f.nodes (outer i f.spine)) r ≡ Some q
  pub stops : (m : ℕ) → i < m → m ≤ length f.spine → after (path_in options f.nodes (outer m f.spine)) r ≡ None

-- If the line continues all open nodes, `continued_to` is as the grammar has it.
all_kept : (options : Options) (f : Forest Item) (i : ℕ) (r q : Rest) → IsKept options f i r q → length f.spine ≤ i
    → continued_to options f i ≡ continued (path_in options f.nodes f.spine) r
all_kept options f i r q k h =
    let path = path_in options f.nodes f.spine in
    let within = k.within in
    let all : i ≡ length f.spine = omega arith in
    let some : after path r ≡ Some q = rw (all, outer-all f.spine) at k.taken in
    let whole : (i == length f.spine) ≡ is_some (after path r) = rw some (grind (arith, nat_tests, all)) in
    let none = slice_get_past (reverse f.spine) i (omega (arith, length-reverse f.spine)) in
    let stop : definition_at_depth options f i ≡ at_definition path r = rw none (sym (whole_none path r (ap is_some some))) in
    cc

-- If it does not continue all of them, `continued_to` is as the grammar has it too.
some_kept : (options : Options) (f : Forest Item) (i : ℕ) (r q : Rest) → IsKept options f i r q → i < length f.spine
    → continued_to options f i ≡ continued (path_in options f.nodes f.spine) r
some_kept options f i r q k h =
    let path = path_in options f.nodes f.spine in
    let outermost : ℕ → List Container = path_to options f.nodes f.spine in
    let container : ℕ → Option Container = λ m. container_at options f.nodes (get_or (reverse f.spine) m root) in
    let last : after path r ≡ None = rw (outer-all f.spine) at (k.stops (length f.spine) h (omega arith)) in
    let whole : (i == length f.spine) ≡ is_some (after path r) = rw last (grind (arith, nat_tests, h)) in
    let here = slice_get-get_or (reverse f.spine) i root (omega (arith, length-reverse f.spine)) in
    let next = sym (taken_more options f.nodes f.spine i root r q h k.taken) ∙ k.stops (i + 1) (omega arith) (omega arith) in
    let more = λ (m : ℕ) (h : m < length f.spine). ap (λ c. at_definition c r) (path_to-more options f.nodes f.spine m root h) in
    let all : at_definition (outermost (length f.spine)) r ≡ is_definition_node (container i) =
    kept_from (λ m. at_definition (outermost m) r ≡ is_definition_node (container i)) (i + 1) (length f.spine) (omega arith)
    (more i h ∙ stop_at (container i) (outermost i) r q k.taken next)
    (λ m low high same. more m high ∙ stop_kept (container m) (outermost m) r (k.stops m (omega arith) (omega arith)) ∙ same) in
    let stop : definition_at_depth options f i ≡ at_definition path r = rw here (sym (rw (outer-all f.spine) at all)) in
    cc

pub kept_continued : (options : Options) (f : Forest Item) (i : ℕ) (r q : Rest) → IsKept options f i r q
    → continued_to options f i ≡ continued (path_in options f.nodes f.spine) r
kept_continued options f i r q k = elim (cases_lt i (length f.spine)) [
  | inl fewer ↦ some_kept options f i r q k fewer
  | inr all ↦ all_kept options f i r q k all
]
