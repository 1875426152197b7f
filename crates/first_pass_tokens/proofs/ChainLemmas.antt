-- Chains and trees: the token that is added or joined, the chain after a cut, and the block that a chain closes to.
use Rattle.std.proofs.Common.{ℕ, suc, zero, ◌≡◌, ◌+◌, ◌≤◌, ◌<◌, ◌==◌, ◌&&◌, Bool, true, false, List, ◌∷◌, ◌++◌, length, take, Option, Some, None, nat_lt}
use Rattle.std.proofs.Common.{slice_get, slice_index, refl, sym, ap, ◌∙◌, inl, inr, arith, length-append, append_assoc, option_map, append-nil, lt-ltb, le-ltb}
use Rattle.std.proofs.Common.{ltb-true, ltb-false, eq-eqb, ne_eqb, []}
use Rattle.first_pass_tokens.proofs.Common.{Item, cond-true, cond-false, cond_both, cases_Bool, cases_lt, and_parts, and_from, and_left, and_right, false≢true}
use Rattle.first_pass_tokens.proofs.Common.{Forest, depths, item_at, modify, modified, appended, pushed, popped, childless, is_text, cut_tokens, cut_siblings}
use Rattle.first_pass_tokens.proofs.Common.{last_before, last_child, open_place, HasLeaves, ends_text_at, joins_at, with_end, with_end_at, with_text, at_depth}
use Rattle.first_pass_tokens.proofs.Common.{added, block_of, text_between, text_token, touches, AreApart, add_token, add_tokens, add_text, cut, with_token}
use Rattle.first_pass_tokens.proofs.Common.{with_tokens, chained, leaves, JoinsNone, TreeIndex, take-append_seam, drop-append_seam}
use Rattle.first_pass_tree.proofs.Blocks.{modify-at, forest-eq, block-built}

-- a text that is empty, and one that is not
pub add_text-none : (from to : ℕ) (escaped : Bool) (chain : List Item) → to ≤ from → add_text from to escaped chain ≡ chain
add_text-none from to escaped chain none = cond-false _ _ _ (le-ltb from to none)

pub add_text-some : (from to : ℕ) (escaped : Bool) (chain : List Item)
    → from < to → add_text from to escaped chain ≡ add_token chain (text_token from to escaped)
add_text-some from to escaped chain some = cond-true _ _ _ (lt-ltb from to some)

-- a chain of only a text as nodes
pub leaves_text : (from to : ℕ) → leaves (add_text from to false []) ≡ text_between from to
leaves_text from to = elim (cases_Bool (nat_lt from to)) [ inl some ↦ rw some refl | inr none ↦ rw none refl ]

-- A relation holds between each chain and the chain with one more token if it holds for the empty chain and for a
-- text that is joined, and if a token at the front of both keeps it.
pub add_token-by : (R : List Item → List Item → Type 0) (y : Item) → R [] (y ∷ [])
    → ((x : Item) → touches x y ≡ true → is_text x.body ≡ true → is_text y.body ≡ true → x.«end» ≡ y.start → R (x ∷ []) (record x { «end» = y.«end» } ∷ []))
    → ((x : Item) (xs ys : List Item) → R xs ys → R (x ∷ xs) (x ∷ ys)) → (chain : List Item) → R chain (add_token chain y)
add_token-by R y none joined more [] = none
add_token-by R y none joined more (x ∷ []) = grind (arith, cond_both, and_parts)
add_token-by R y none joined more (x ∷ z ∷ zs) = more x (z ∷ zs) (add_token (z ∷ zs) y) (add_token-by R y none joined more (z ∷ zs))

-- the first token of a chain stays at its place
add_token-cons : (x z : Item) (zs : List Item) (t u : Item) → add_token (x ∷ add_token (z ∷ zs) t) u ≡ x ∷ add_token (add_token (z ∷ zs) t) u
add_token-cons x z zs t u = grind (arith, cond_both)

-- a text lengthened by the one after it
add_token-longer : (x : Item) (at to : ℕ)
    → is_text x.body ≡ true → add_token (record x { «end» = at } ∷ []) (text_token at to false) ≡ record x { «end» = to } ∷ []
add_token-longer x at to text = cond-true (is_text x.body && (at == at)) _ _ (and_from _ _ text (eq-eqb at at refl))

add_token-joined : (chain : List Item) (from mid to : ℕ) (escaped : Bool)
    → add_token (add_token chain (text_token from mid escaped)) (text_token mid to false) ≡ add_token chain (text_token from to escaped)
add_token-joined [] from mid to escaped = cond-true _ _ _ (eq-eqb mid mid refl)
add_token-joined (x ∷ []) from mid to escaped = grind (arith, cases_Bool, add_token-longer, and_parts, cond-true)
add_token-joined (x ∷ z ∷ zs) from mid to escaped = grind (arith, add_token-cons, add_token-joined (z ∷ zs) from mid to escaped)

-- a text that is not empty and the text directly after it are one text
pub add_text-joined : (from mid to : ℕ) (escaped : Bool) (chain : List Item)
    → from < mid → mid ≤ to → add_text mid to false (add_text from mid escaped chain) ≡ add_text from to escaped chain
add_text-joined from mid to escaped chain first order = grind (arith, cases_lt, add_text-some, add_token-joined, add_text-none)

-- a chain in which no token touches another
apart_past : (x z : Item) (zs : List Item) (t : Item) → touches x z ≡ false → AreApart (add_token (z ∷ zs) t) → AreApart (x ∷ add_token (z ∷ zs) t)
apart_past x z [] t apart = grind (arith, cond_both)
apart_past x z (w ∷ ws) t apart = λ h. (apart, h)

pub add_token-apart : (chain : List Item) (t : Item) → AreApart chain → AreApart (add_token chain t)
add_token-apart [] t h = tt
add_token-apart (x ∷ []) t h = cond_both (touches x t) (record x { «end» = t.«end» } ∷ []) (x ∷ t ∷ []) AreApart (λ b. tt) (λ b. (b, tt))
add_token-apart (x ∷ z ∷ zs) t h = apart_past x z zs t h.0 (add_token-apart (z ∷ zs) t h.1)

-- a token that does not touch the last one is appended to the chain
add_token-following : (front : List Item) (x y : Item) → touches x y ≡ false → add_token (front ++ x ∷ []) y ≡ (front ++ x ∷ []) ++ y ∷ []
add_token-following [] x y apart = cond-false _ _ _ apart
add_token-following (p ∷ []) x y apart = ap (λ (ys : List Item). p ∷ ys) (add_token-following [] x y apart)
add_token-following (p ∷ q ∷ qs) x y apart = ap (λ (ys : List Item). p ∷ ys) (add_token-following (q ∷ qs) x y apart)

add_tokens-following : (front : List Item) (x : Item) (xs : List Item) → AreApart (x ∷ xs) → add_tokens (front ++ x ∷ []) xs ≡ front ++ x ∷ xs
add_tokens-following front x [] h = refl
add_tokens-following front x (y ∷ ys) h = grind (arith, add_token-following, append_assoc, add_tokens-following (front ++ x ∷ []) y ys h.1)

-- tokens of which none touches the one before it, appended to the empty chain
pub add_tokens-none : (tokens : List Item) → AreApart tokens → add_tokens [] tokens ≡ tokens
add_tokens-none [] h = refl
add_tokens-none (x ∷ xs) h = add_tokens-following [] x xs h

pub add_tokens-append : (chain xs ys : List Item) → add_tokens chain (xs ++ ys) ≡ add_tokens (add_tokens chain xs) ys
add_tokens-append chain [] ys = refl
add_tokens-append chain (x ∷ xs) ys = add_tokens-append (add_token chain x) xs ys

-- two writes to a node, one after the other
pub modify-modify : (ns : List (ℕ × Item)) (i : ℕ) (g h : Item → Item) → modify (modify ns i g) i h ≡ modify ns i (λ x. h (g x))
modify-modify [] i g h = refl
modify-modify (n ∷ ns) zero g h = refl
modify-modify (n ∷ ns) (suc i) g h = ap (λ (ms : List (ℕ × Item)). n ∷ ms) (modify-modify ns i g h)

-- the item of a node after a write to it
pub item_modified : (ns : List (ℕ × Item)) (i : ℕ) (g : Item → Item)
    → option_map (λ n. n.1) (slice_get (modify ns i g) i) ≡ option_map g (option_map (λ n. n.1) (slice_get ns i))
item_modified [] i g = refl
item_modified (n ∷ ns) zero g = refl
item_modified (n ∷ ns) (suc i) g = item_modified ns i g

-- a text with another end
ends_moved : (at e next : ℕ) (o : Option Item)
    → ends_text_at at o ≡ true → (e == next) ≡ true → ends_text_at next (option_map {T = Item} (λ x. record x { «end» = e }) o) ≡ true
ends_moved at e next o h same = grind (arith, false≢true, and_from, and_parts)

pub slice_get-following : {X : Type 0} (xs : List X) (y : X) → slice_get (xs ++ y ∷ []) (length xs) ≡ Some y
slice_get-following [] y = refl
slice_get-following (x ∷ xs) y = slice_get-following xs y

-- texts that can be joined to a node that was just appended
joins_appended : (f : Forest Item) (y : Item) (at : ℕ) → joins_at (appended f y) at (appended f y).current ≡ (is_text y.body && (y.«end» == at))
joins_appended f y at = ap (λ (o : Option (ℕ × Item)). ends_text_at at (option_map (λ n. n.1) o)) (slice_get-following f.nodes (length f.spine + 1, y))

touches_appended : (f : Forest Item) (y x : Item) → (is_text x.body && joins_at (appended f y) x.start (appended f y).current) ≡ touches y x
touches_appended f y x = ap (λ (b : Bool). is_text x.body && b) (joins_appended f y x.start)

joined_last : (f : Forest Item) (y x : Item) → touches y x ≡ true → with_token (appended f y) x ≡ appended f (record y { «end» = x.«end» })
joined_last f y x t = grind (arith, cond-true, touches_appended, modify-at)

joined_current : (f : Forest Item) (o : Option TreeIndex) (y x : Item)
    → f.current ≡ o → joins_at f y.start o ≡ true → touches y x ≡ true → with_token (with_end f y.«end» o) x ≡ with_end f x.«end» o
joined_current f None y x is joins t = absurd (false≢true joins)
joined_current f (Some c) y x is joins t =
    let g = with_end_at f c y.«end» in
    let text = and_parts (is_text x.body) (is_text y.body && (y.«end» == x.start)) t in
    let same = and_parts (is_text y.body) (y.«end» == x.start) text.1 in
    let moved : joins_at g x.start (Some c) ≡ true =
    ap (ends_text_at x.start) (item_modified f.nodes c.0 (λ z. record z { «end» = y.«end» })) ∙ ends_moved y.start y.«end» x.start (item_at f c) joins same.1 in
    cond-true _ _ _ (and_from _ _ text.0 (ap (joins_at g x.start) is ∙ moved)) ∙ ap (with_end g x.«end») is
    ∙ ap (λ (ns : List (ℕ × Item)). record f { nodes = ns }) (modify-modify f.nodes c.0 (λ z. record z { «end» = y.«end» }) (λ z. record z { «end» = x.«end» }))

-- two tokens that touch are one
with_token-joined : (f : Forest Item) (y x : Item) → touches y x ≡ true → with_token f (record y { «end» = x.«end» }) ≡ with_token (with_token f y) x
with_token-joined f y x t = grind (arith, cases_Bool, cond-true, joined_current, and_parts, cond-false, joined_last)

-- appending a chain and then a token to the tree is appending the chain with the token
pub with_tokens-add : (f : Forest Item) (chain : List Item) (x : Item) → with_tokens f (add_token chain x) ≡ with_token (with_tokens f chain) x
with_tokens-add f chain x =
    add_token-by (λ ys zs. (g : Forest Item) → with_tokens g zs ≡ with_token (with_tokens g ys) x) x (λ g. refl)
    (λ y t first second place g. with_token-joined g y x t) (λ y ys zs add g. add (with_token g y)) chain f

pub with_tokens-adds : (f : Forest Item) (chain xs : List Item) → with_tokens f (add_tokens chain xs) ≡ with_tokens (with_tokens f chain) xs
with_tokens-adds f chain [] = refl
with_tokens-adds f chain (x ∷ xs) = with_tokens-adds f (add_token chain x) xs ∙ ap (λ (g : Forest Item). with_tokens g xs) (with_tokens-add f chain x)

pub with_tokens-append : (f : Forest Item) (xs ys : List Item) → with_tokens f (xs ++ ys) ≡ with_tokens (with_tokens f xs) ys
with_tokens-append f [] ys = refl
with_tokens-append f (x ∷ xs) ys = with_tokens-append (with_token f x) xs ys

pub with_text-none : (f : Forest Item) (s e : ℕ) (b : Bool) → s ≡ e → with_text f s e b ≡ f
with_text-none f s e b same = cond-true _ _ _ (eq-eqb s e same)

pub with_text-some : (f : Forest Item) (s e : ℕ) (b : Bool) → s < e → with_text f s e b ≡ with_token f (text_token s e b)
with_text-some f s e b some = cond-false _ _ _ (ne_eqb s e (λ same. omega arith))

-- a text appended to the tree with a chain
pub with_tokens-text : (f : Forest Item) (chain : List Item) (s e : ℕ) (b : Bool)
    → s ≤ e → with_tokens f (add_text s e b chain) ≡ with_text (with_tokens f chain) s e b
with_tokens-text f chain s e b order = grind (arith, cond_both, with_tokens-add, with_text-some, with_text-none)

pub with_token-plain : (f : Forest Item) (x : Item) → is_text x.body ≡ false → with_token f x ≡ appended f x
with_token-plain f x plain = cond-false _ _ _ (and_left _ _ plain)

-- if no node is current, or one that is no text, no text is joined
pub joins_none-fresh : (f : Forest Item) → f.current ≡ None → JoinsNone f
joins_none-fresh f none at = ap (joins_at f at) none

pub joins_none-appended : (f : Forest Item) (x : Item) → is_text x.body ≡ false → JoinsNone (appended f x)
joins_none-appended f x plain at = joins_appended f x at ∙ and_left _ _ plain

-- a token after a chain that is not empty
pub with_token-following : (f : Forest Item) (y : Item) (ys : List Item) (x : Item) → with_token (chained f (y ∷ ys)) x ≡ chained f (add_token (y ∷ ys) x)
with_token-following f y [] x = grind (arith, cases_Bool, joined_last, cond-true, cond-false, touches_appended)
with_token-following f y (z ∷ zs) x = with_token-following (appended f y) z zs x

pub with_token-chained : (f : Forest Item) (chain : List Item) (x : Item) → JoinsNone f → with_token (chained f chain) x ≡ chained f (add_token chain x)
with_token-chained f [] x none = cond-false _ _ _ (and_right _ _ (none x.start))
with_token-chained f (y ∷ ys) x none = with_token-following f y ys x

pub with_tokens-chained : (f : Forest Item) (chain tokens : List Item)
    → JoinsNone f → with_tokens (chained f chain) tokens ≡ chained f (add_tokens chain tokens)
with_tokens-chained f chain [] none = refl
with_tokens-chained f chain (x ∷ xs) none = grind (arith, with_token-chained, with_tokens-chained f (add_token chain x) xs none)

pub with_text-chained : (f : Forest Item) (chain : List Item) (s e : ℕ) (b : Bool)
    → JoinsNone f → s ≤ e → with_text (chained f chain) s e b ≡ chained f (add_text s e b chain)
with_text-chained f chain s e b none order =
    cond_both (nat_lt s e) (add_token chain (text_token s e b)) chain (λ (ys : List Item). with_text (chained f chain) s e b ≡ chained f ys)
    (λ some. with_text-some (chained f chain) s e b (ltb-true s e some) ∙ with_token-chained f chain (text_token s e b) none)
    (λ empty. with_text-none (chained f chain) s e b (omega (arith, ltb-false s e empty)))

pub chained-append : (f : Forest Item) (xs ys : List Item) → chained (chained f xs) ys ≡ chained f (xs ++ ys)
chained-append f [] ys = refl
chained-append f (x ∷ xs) ys = chained-append (appended f x) xs ys

pub appended-chained : (f : Forest Item) (chain : List Item) (x : Item) → appended (chained f chain) x ≡ chained f (chain ++ x ∷ [])
appended-chained f chain x = chained-append f chain (x ∷ [])

-- the parts of a tree with a chain
pub chained-spine : (f : Forest Item) (chain : List Item) → (chained f chain).spine ≡ f.spine
chained-spine f [] = refl
chained-spine f (x ∷ xs) = chained-spine (appended f x) xs

pub chained-nodes : (f : Forest Item) (chain : List Item) → (chained f chain).nodes ≡ f.nodes ++ at_depth (length f.spine + 1) (leaves chain)
chained-nodes f [] = sym (append-nil f.nodes)
chained-nodes f (x ∷ xs) = grind (arith, append_assoc, chained-nodes (appended f x) xs)

pub length-leaves : (d : ℕ) (chain : List Item) → length (at_depth d (leaves chain)) ≡ length chain
length-leaves d [] = refl
length-leaves d (x ∷ xs) = ap suc (length-leaves d xs)

pub chained-length : (f : Forest Item) (chain : List Item) → length (chained f chain).nodes ≡ length f.nodes + length chain
chained-length f chain = grind (arith, chained-nodes, length-append, length-leaves)

abbrev place_at : ℕ → TreeIndex
place_at m = record { 0 = m }

-- the last item of a chain is current
pub chained-current : (f : Forest Item) (x : Item) (xs : List Item) → (chained f (x ∷ xs)).current ≡ Some (record { 0 = length f.nodes + length xs })
chained-current f x [] = grind arith
chained-current f x (y ∷ ys) = grind (arith, length-append, chained-current (appended f x) y ys)

-- after a node that was just opened there are no nodes, and none of its children is current
pub pushed-fresh : (g : Forest Item) (x : Item) (ix : TreeIndex) → ix.0 ≡ length g.nodes
    → (open_place (pushed (appended g x) ix).spine + 1 ≡ length (pushed (appended g x) ix).nodes) × ((pushed (appended g x) ix).current ≡ None)
pushed-fresh g x ix at = (omega (arith, at, length-append g.nodes ((length g.spine + 1, x) ∷ [])), refl)

after_depth : (ns : List (ℕ × Item)) (d : ℕ) (chain : List Item) (k : ℕ)
    → length ns ≤ k → k < length (ns ++ at_depth d (leaves chain)) → slice_index (depths (ns ++ at_depth d (leaves chain))) k ≡ d
after_depth [] d [] k low high = absurd (omega arith)
after_depth [] d (x ∷ xs) zero low high = omega arith
after_depth [] d (x ∷ xs) (suc k) low high = after_depth [] d xs k (omega arith) (omega arith)
after_depth (n ∷ ns) d chain zero low high = absurd (omega arith)
after_depth (n ∷ ns) d chain (suc k) low high = after_depth ns d chain k (omega arith) (omega arith)

-- the children are leaves, if the innermost open node was the last node
pub has_leaves-chained : (f : Forest Item) (chain : List Item) → open_place f.spine + 1 ≡ length f.nodes → HasLeaves (chained f chain)
has_leaves-chained f chain last k low high = grind (arith, chained-nodes, chained-spine, after_depth)

-- a cut
pub cut_tokens-leaves : (e d : ℕ) (chain : List Item) → cut_tokens e d (at_depth d (leaves chain)) ≡ at_depth d (leaves (cut e chain))
cut_tokens-leaves e d [] = refl
cut_tokens-leaves e d (x ∷ xs) = grind (arith, cond-false, cases_Bool, cut_tokens-leaves e d xs)

-- the current node of a chain is the last child
last_chained : (f : Forest Item) (chain : List Item)
    → open_place f.spine + 1 ≡ length f.nodes → f.current ≡ None → last_child f.spine (chained f chain).nodes ≡ (chained f chain).current
last_chained f [] last none = cond-false _ _ _ (le-ltb (open_place f.spine + 1) (length f.nodes) (omega arith)) ∙ sym none
last_chained f (x ∷ xs) last none =
    let g = chained f (x ∷ xs) in
    let k = length f.nodes + length xs in
    let len = chained-length f (x ∷ xs) in
    let spine = chained-spine f (x ∷ xs) in
    let leaf = has_leaves-chained f (x ∷ xs) last k (omega (arith, last, ap open_place spine)) (omega (arith, len)) in
    let at : slice_index (depths g.nodes) k ≡ length f.spine + 1 = leaf ∙ ap (λ (is : List TreeIndex). length is + 1) spine in
    let size : length g.nodes ≡ suc k = omega arith in
    let place : last_before (depths g.nodes) (length f.spine + 1) (length g.nodes) ≡ k =
    ap (last_before (depths g.nodes) (length f.spine + 1)) size ∙ cond-true _ _ _ (eq-eqb (slice_index (depths g.nodes) k) _ at) in
    cond-true _ _ _ (lt-ltb (open_place f.spine + 1) (length g.nodes) (omega arith)) ∙ ap (λ (m : ℕ). Some (place_at m)) place ∙ sym (chained-current f x xs)

-- the nodes before a chain
taken_chained : (f : Forest Item) (chain : List Item) (n : ℕ) → n ≡ length f.nodes → take n (chained f chain).nodes ≡ f.nodes
taken_chained f chain n same = grind (arith, chained-nodes, take-append_seam)

pub cut_siblings-chained : (f : Forest Item) (chain : List Item) (e : ℕ)
    → open_place f.spine + 1 ≡ length f.nodes → f.current ≡ None → cut_siblings (chained f chain) e ≡ chained f (cut e chain)
cut_siblings-chained f chain e last none =
    grind (arith, chained-spine, taken_chained, chained-nodes, drop-append_seam, cut_tokens-leaves, forest-eq, last_chained)

-- the innermost open node without its chain
pub childless-chained : (f : Forest Item) (chain : List Item) (ix : TreeIndex)
    → ix.0 + 1 ≡ length f.nodes → f.current ≡ None → childless (chained f chain) ix ≡ f
childless-chained f chain ix last none = forest-eq (childless (chained f chain) ix) f (taken_chained f chain (ix.0 + 1) last) (chained-spine f chain) (sym none)

-- a chain under a node that is opened, and the node closed: the block is added, with any change of its item
pub closed-chained : (g : Forest Item) (x : Item) (h : Item → Item) (chain : List Item) (ix : TreeIndex)
    → ix.0 ≡ length g.nodes → modified (popped (chained (pushed (appended g x) ix) chain) ix g.spine) ix h ≡ added g (block_of (h x) (leaves chain))
closed-chained g x h chain ix at =
    let f = pushed (appended g x) ix in
    block-built g x h (leaves chain) ix (popped (chained f chain) ix g.spine) (record {
      opened = f;
      filled = chained f chain;
      at = at;
      opened_is = refl;
      nodes = chained-nodes f chain;
      spine = chained-spine f chain;
      around = chained-spine f chain;
      closed_is = refl;
    })
