-- The number of counted nodes in a list: no more than there are nodes; the same at another depth, or with
-- changes that closing makes; and no more than its parts have together.
use Rattle.std.proofs.Common.{◌≡◌, ℕ, zero, suc, ◌+◌, ◌≤◌, Bool, true, false, if◌then◌else◌, List, ◌∷◌, ◌++◌, length, Option, Some, None, refl, ap, arith}
use Rattle.std.proofs.Common.{eq-eqb, []}
use Rattle.first_pass_grammar.proofs.Common.{Item, ItemBody, modify, at_depth, body_at, is_row, is_cell, is_inserted_after, own, counted_nodes}
use Rattle.first_pass_grammar.specs.Counting.{last_cell}

-- a node counts at most once
one_at_most : (t : Bool) (m n : ℕ) → m ≤ n → (if t then 0 else 1) + m ≤ 1 + n
one_at_most t m n h = grind arith

-- a list has no more counted nodes than nodes
pub own_at_most : (cell : Option ℕ) (nodes : List (ℕ × Item)) → own cell nodes ≤ length nodes
unfolding own
own_at_most cell [] = omega arith
own_at_most cell (n ∷ nodes) = (let h = one_at_most (is_inserted_after cell n.1) _ _ (own_at_most (last_cell cell n.1) nodes) in omega arith)

-- no more nodes count after a cell than after no cell
fresh_by : (row is : Bool) (start : ℕ) (cell : Option ℕ) (nodes : List (ℕ × Item)) → own cell nodes ≤ own None nodes
    → own (if row then None else (if is then Some start else cell)) nodes ≤ own (if row then None else (if is then Some start else None)) nodes
fresh_by row is start cell nodes h = grind arith

pub own_fresh : (cell : Option ℕ) (nodes : List (ℕ × Item)) → own cell nodes ≤ counted_nodes nodes
unfolding own
own_fresh cell [] = omega arith
own_fresh cell (n ∷ nodes) = grind (arith, one_at_most, fresh_by, own_fresh cell nodes)

-- a list with more after it has no more than both together
join_one : (t : Bool) (m a b : ℕ) → m ≤ a + b → (if t then 0 else 1) + m ≤ (if t then 0 else 1) + a + b
join_one t m a b h = grind arith

pub own_join : (cell : Option ℕ) (nodes more : List (ℕ × Item)) → own cell (nodes ++ more) ≤ own cell nodes + counted_nodes more
unfolding own
own_join cell [] more = (let h = own_fresh cell more in omega arith)
own_join cell (n ∷ nodes) more = join_one (is_inserted_after cell n.1) _ _ _ (own_join (last_cell cell n.1) nodes more)

-- with one more node
pub own_one : (cell : Option ℕ) (nodes : List (ℕ × Item)) (n : ℕ × Item) → own cell (nodes ++ n ∷ []) ≤ own cell nodes + 1
own_one cell nodes n = (let join = own_join cell nodes (n ∷ []) in let most = own_at_most None (n ∷ []) in omega arith)

-- nodes at another depth count the same
pub own_at_depth : (cell : Option ℕ) (depth : ℕ) (nodes : List (ℕ × Item)) → own cell (at_depth depth nodes) ≡ own cell nodes
unfolding own
own_at_depth cell depth [] = refl
own_at_depth cell depth (n ∷ nodes) = ap (λ k. (if is_inserted_after cell n.1 then 0 else 1) + k) (own_at_depth (last_cell cell n.1) depth nodes)

-- a block after other nodes adds at most its own ones
pub own_added : (nodes block : List (ℕ × Item)) (depth : ℕ) → counted_nodes (nodes ++ at_depth depth block) ≤ counted_nodes nodes + counted_nodes block
own_added nodes block depth = (let join = own_join None nodes (at_depth depth block) in let same = own_at_depth None depth block in omega arith)

-- two items that count alike: they start at the same offset, and both are cells or neither is, and both rows or
-- neither
pub record CountAlike (x y : Item) : Type 0 where
  pub start : y.start ≡ x.start
  pub cell : is_cell y.body ≡ is_cell x.body
  pub row : is_row y.body ≡ is_row x.body

-- each item counts the same as itself, and the same with another end
pub alike_ended : (x : Item) (e : ℕ) → CountAlike x (record x { «end» = e })
alike_ended x e = record { start = refl; cell = refl; row = refl }

inserted_alike : (x y : Item) (cell : Option ℕ) → CountAlike x y → is_inserted_after cell y ≡ is_inserted_after cell x
inserted_alike x y cell h = grind arith

last_alike : (x y : Item) (cell : Option ℕ) → CountAlike x y → last_cell cell y ≡ last_cell cell x
last_alike x y cell h = (let s = h.start in let c = h.cell in let r = h.row in cc)

-- an item that counts the same, before nodes that do
pub alike_first : (cell : Option ℕ) (d e : ℕ) (x y : Item) (nodes more : List (ℕ × Item)) → CountAlike x y
    → ((after : Option ℕ) → own after more ≡ own after nodes) → own cell ((e, y) ∷ more) ≡ own cell ((d, x) ∷ nodes)
unfolding own
alike_first cell d e x y nodes more h same = grind (arith, inserted_alike, last_alike)

-- after the same node
pub own_first : (cell : Option ℕ) (n : ℕ × Item) (nodes more : List (ℕ × Item))
    → ((after : Option ℕ) → own after more ≡ own after nodes) → own cell (n ∷ more) ≡ own cell (n ∷ nodes)
own_first cell n nodes more same = alike_first cell n.0 n.0 n.1 n.1 nodes more (record { start = refl; cell = refl; row = refl }) same

-- a change at a place after which the item there counts the same
pub own_modified : (cell : Option ℕ) (nodes : List (ℕ × Item)) (i : ℕ) (g : Item → Item)
    → ((x : Item) → body_at nodes i ≡ Some x.body → CountAlike x (g x)) → own cell (modify nodes i g) ≡ own cell nodes
own_modified cell [] i g alike = refl
own_modified cell (n ∷ nodes) zero g alike = alike_first cell n.0 n.0 n.1 (g n.1) nodes nodes (alike n.1 refl) (λ after. refl)
own_modified cell (n ∷ nodes) (suc i) g alike = own_first cell n nodes (modify nodes i g) (λ after. own_modified after nodes i g alike)

-- with another end at a place
pub own_ended : (nodes : List (ℕ × Item)) (i e : ℕ) → counted_nodes (modify nodes i (λ x. record x { «end» = e })) ≡ counted_nodes nodes
own_ended nodes i e = own_modified None nodes i (λ x. record x { «end» = e }) (λ x at. alike_ended x e)

-- with another body at a place; both bodies or neither are a cell's, and both or neither a row's
pub own_changed : (nodes : List (ℕ × Item)) (i : ℕ) (b c : ItemBody) → body_at nodes i ≡ Some b
    → is_cell c ≡ is_cell b → is_row c ≡ is_row b → counted_nodes (modify nodes i (λ x. record x { body = c })) ≡ counted_nodes nodes
own_changed nodes i b c is cell row = grind (arith, own_modified)

-- cells that all start at the same offset
unfoldable pub AreCellsAt : ℕ → List (ℕ × Item) → Type 0
AreCellsAt start [] = Unit {0}
AreCellsAt start (n ∷ nodes) = (is_cell n.1.body ≡ true) × (n.1.start ≡ start) × AreCellsAt start nodes

cell_no_row : (b : ItemBody) → is_cell b ≡ true → is_row b ≡ false
cell_no_row b h = grind arith

cell_next : (cell : Option ℕ) (start : ℕ) (x : Item) → is_cell x.body ≡ true → x.start ≡ start → last_cell cell x ≡ Some start
cell_next cell start x is at = (let row = cell_no_row x.body is in rw (row, is) (ap Some at))

cell_again : (start : ℕ) (x : Item) → is_cell x.body ≡ true → x.start ≡ start → is_inserted_after (Some start) x ≡ true
cell_again start x is at = (let same = eq-eqb x.start start at in rw (is, same) refl)

-- cells that all start where the cell before them starts count nothing, so the cells that are inserted into a row count
-- at most one
own_reinserted : (start : ℕ) (nodes : List (ℕ × Item)) → AreCellsAt start nodes → own (Some start) nodes ≡ 0
unfolding own AreCellsAt
own_reinserted start [] h = refl
own_reinserted start (n ∷ nodes) h = grind (arith, cell_again, cell_next, own_reinserted start nodes h.2)

pub own_inserted : (cell : Option ℕ) (start : ℕ) (nodes : List (ℕ × Item)) → AreCellsAt start nodes → own cell nodes ≤ 1
unfolding own AreCellsAt
own_inserted cell start [] h = omega arith
own_inserted cell start (n ∷ nodes) h = grind (arith, own_reinserted, cell_next, one_at_most)
