-- A line of which only its end is left continues every open node that is no block quote.
use Rattle.std.proofs.Common.{◌≡◌, ℕ, zero, suc, ◌+◌, ◌-◌, ◌<◌, ◌≤◌, ◌||◌, false, List, [], ◌∷◌, ◌++◌, length, get_or, take, reverse, Option, Some, None, refl}
use Rattle.std.proofs.Common.{sym, ap, ◌∙◌, arith, option_map, slice_get, take-append-drop}
use Rattle.first_pass_grammar.proofs.Common.{or_parts, take_more, get_or-reverse, Item, Options, TreeIndex, Forest, at_depth, Rest, chained, leaves}
use Rattle.first_pass_grammar.proofs.Common.{chained-spine, chained-nodes, is_quote, after}
use Rattle.first_pass_open.proofs.Common.{Container, container_of, container_at, with_container, path_in, path_of, outer, inner, is_quote_node, has_quote}
use Rattle.first_pass_open.proofs.Common.{has_quote_after}
use Rattle.first_pass_open.proofs.PathLemmas.{AreIn, path_in-append, IsOver, passed}
use Rattle.first_pass_open.proofs.FrontLemmas.{after_step, container_is, root, in_spine}

-- If a line that is over is left after a path, it continues also containers inside the path, if none is a block quote.
path_passed : (p path : List Container) (r s : Rest) → after path r ≡ Some s → IsOver s → has_quote p ≡ false → after (p ++ path) r ≡ Some s
path_passed [] path r s taken o h = taken
path_passed (c ∷ p) path r s taken o h =
    let none = or_parts (is_quote c) (has_quote p) h in
    after_step (Some c) (p ++ path) r s (path_passed p path r s taken o none.1) ∙ passed c s o none.0

with_append : (o : Option Container) (p q : List Container) → with_container o (p ++ q) ≡ with_container o p ++ q
with_append None p q = refl
with_append (Some c) p q = refl

path_in-both : (options : Options) (ns : List (ℕ × Item)) (a b : List TreeIndex) → path_in options ns (a ++ b) ≡ path_in options ns a ++ path_in options ns b
path_in-both options ns [] b = refl
path_in-both options ns (ix ∷ a) b = grind (arith, with_append, path_in-both options ns a b)

quote_append : (p q : List Container) → has_quote p ≡ false → has_quote q ≡ false → has_quote (p ++ q) ≡ false
quote_append [] q h k = k
quote_append (c ∷ p) q h k =
    let none = or_parts (is_quote c) (has_quote p) h in
    ap (λ t. t || has_quote (p ++ q)) none.0 ∙ quote_append p q none.1 k

-- If no block quote is among some open nodes, none is among fewer of them.
with_fewer : (o : Option Container) (p q : List Container) → has_quote (with_container o p) ≡ false → (has_quote p ≡ false → has_quote q ≡ false)
    → has_quote (with_container o q) ≡ false
with_fewer None p q h k = k h
with_fewer (Some c) p q h k = let none = or_parts (is_quote c) (has_quote p) h in ap (λ t. t || has_quote q) none.0 ∙ k none.1

fewer : (options : Options) (ns : List (ℕ × Item)) (spine : List TreeIndex) (k n : ℕ) → k ≤ n → has_quote (path_in options ns (take n spine)) ≡ false
    → has_quote (path_in options ns (take k spine)) ≡ false
fewer options ns [] zero n h none = refl
fewer options ns [] (suc k) n h none = refl
fewer options ns (ix ∷ spine) zero n h none = refl
fewer options ns (ix ∷ spine) (suc k) zero h none = absurd (omega arith)
fewer options ns (ix ∷ spine) (suc k) (suc n) h none =
    with_fewer (container_at options ns ix) (path_in options ns (take n spine)) (path_in options ns (take k spine)) none
    (λ bound. fewer options ns spine k n (omega arith) bound)

-- Suppose that only the end of a line is left after the prefixes of the outermost i open nodes, and that no block quote
-- is open inside those. Then the line continues all open nodes, and nothing more is taken.
pub rest_passed : (options : Options) (f : Forest Item) (n i : ℕ) (r s : Rest) → has_quote_after options f n ≡ false → n ≤ i
    → after (path_in options f.nodes (outer i f.spine)) r ≡ Some s → IsOver s → after (path_of options f) r ≡ Some s
rest_passed options f n i r s none h taken o =
    let bound : has_quote (path_in options f.nodes (inner i f.spine)) ≡ false =
    fewer options f.nodes f.spine (length f.spine - i) (length f.spine - n) (omega arith) none in
    let parts : path_of options f ≡ path_in options f.nodes (inner i f.spine) ++ path_in options f.nodes (outer i f.spine) =
    ap (path_in options f.nodes) (sym (take-append-drop (length f.spine - i) f.spine)) ∙ path_in-both options f.nodes (inner i f.spine) (outer i f.spine) in
    ap (λ p. after p r) parts ∙ path_passed (path_in options f.nodes (inner i f.spine)) (path_in options f.nodes (outer i f.spine)) r s taken o bound

one_none : (o : Option Container) → is_quote_node o ≡ false → has_quote (with_container o []) ≡ false
one_none None h = refl
one_none (Some c) h = ap (λ t. t || false) h

-- If no block quote is open inside the outermost n + 1 open nodes, and the innermost of these is none, then none is
-- open inside the outermost n.
pub none_after_more : (options : Options) (f : Forest Item) (places : List TreeIndex) (n : ℕ) (item : Item) → places ≡ reverse f.spine → n < length places
    → option_map (λ n. n.1) (slice_get f.nodes (get_or places n root).0) ≡ Some item → is_quote_node (container_of options item.body) ≡ false
    → has_quote_after options f (n + 1) ≡ false → has_quote_after options f n ≡ false
none_after_more options f places n item e h is other none =
    let inside = in_spine f.spine places n e h in
    let z : length f.spine - n ≡ (length f.spine - (n + 1)) + 1 = omega arith in
    let y : length f.spine - 1 - n ≡ length f.spine - (n + 1) = omega arith in
    let x : TreeIndex = get_or f.spine (length f.spine - (n + 1)) root in
    let same : get_or places n root ≡ x = rw (e, get_or-reverse f.spine n root inside, y) refl in
    let node = container_is options f.nodes x item (rw same at is) in
    let parts : inner n f.spine ≡ inner (n + 1) f.spine ++ x ∷ [] = rw z (take_more f.spine (length f.spine - (n + 1)) root (omega arith)) in
    let one : has_quote (path_in options f.nodes (x ∷ [])) ≡ false = one_none (container_at options f.nodes x) (ap is_quote_node node ∙ other) in
    rw (parts, path_in-both options f.nodes (inner (n + 1) f.spine) (x ∷ []))
    (quote_append (path_in options f.nodes (inner (n + 1) f.spine)) (path_in options f.nodes (x ∷ [])) none one)

are_in-take : (n k : ℕ) (spine : List TreeIndex) → AreIn n spine → AreIn n (take k spine)
are_in-take n zero spine a = tt
are_in-take n (suc k) [] a = tt
are_in-take n (suc k) (ix ∷ spine) a = (a.0, are_in-take n k spine a.1)

-- A chain in the innermost open node does not change whether a block quote is open inside the outermost n.
pub quote_after-chained : (options : Options) (f : Forest Item) (chain : List Item) (n : ℕ) → AreIn (length f.nodes) f.spine
    → has_quote_after options (chained f chain) n ≡ has_quote_after options f n
quote_after-chained options f chain n a =
    rw (chained-spine f chain, chained-nodes f chain) (ap has_quote (path_in-append options f.nodes (at_depth (length f.spine + 1) (leaves chain))
    (inner n f.spine) (are_in-take (length f.nodes) (length f.spine - n) f.spine a)))
