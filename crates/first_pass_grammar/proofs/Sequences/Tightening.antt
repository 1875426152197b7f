-- The nodes after a list is closed are those of a tight list in the grammar.
use Rattle.std.proofs.Common.{◌≡◌, ℕ, zero, suc, ◌+◌, ◌<◌, ◌≤◌, Bool, true, false, not, eqb, List, ◌∷◌, ◌++◌, length, map, Option, refl, ap, arith, eq-eqb}
use Rattle.std.proofs.Common.{if◌then◌else◌, Some, None, option_map, []}
use Rattle.first_pass_grammar.proofs.Common.{option_map_or, map-append, nat_tests, Item, modify, map_from, at_depth, tightened, Before, nothing, after_blank}
use Rattle.first_pass_grammar.proofs.Common.{after_block, LeafBlock, BlankLine, Block, Opener, Skeleton, Nil, Then, Node, What, Row, Rows, End, OneOf, is_loose}
use Rattle.first_pass_grammar.proofs.Common.{list_after, row_of, container_row, rows_of, ATitle, Joins, row_of_leaf, Definitions, apart_after}
use Rattle.first_pass_grammar.proofs.Common.{definitions_of_row, is_untitled, is_run_row, definitions_first, titled, leaf_row, gap_before, row_items, tight_in}
use Rattle.first_pass_grammar.proofs.Common.{items_of, list_closed, length-modify, cond_both}
use Rattle.first_pass_grammar.specs.Rows.{AnItem, ADefinition}
use Rattle.first_pass_tree.proofs.Keeps.{map_from-length}

pub eqb-same : (n : ℕ) → eqb n n ≡ true
eqb-same n = eq-eqb n n refl

eqb-more : (m n : ℕ) → m < n → eqb n m ≡ false
eqb-more m n h = grind (arith, nat_tests)

-- Nodes below this depth do not change.
deep_node : (d e : ℕ) (x : Item) → d < e → tightened d (e, x) ≡ (e, x)
deep_node d e x h = let t = eqb-more d e h in rw t refl

deep_at : (d e : ℕ) (items : List (ℕ × Item)) → d < e → map (tightened d) (at_depth e items) ≡ at_depth e items
deep_at d e [] h = refl
deep_at d e (n ∷ items) h = let t = eqb-more d (e + n.0) (omega arith) in let r = deep_at d e items h in rw t (ap (λ z. (e + n.0, n.1) ∷ z) r)

deep_tight : (d e : ℕ) (items : List (ℕ × Item)) → d < e → map (tightened d) (map (tightened e) (at_depth e items)) ≡ map (tightened e) (at_depth e items)
deep_tight d e [] h = refl
deep_tight d e (n ∷ items) h = let t = eqb-more d (e + n.0) (omega arith) in let r = deep_tight d e items h in rw t (ap (λ z. tightened e (e + n.0, n.1) ∷ z) r)

deep_row : (d e : ℕ) (tight loose : Bool) (start : ℕ) (w : What) → d < e → map (tightened d) (row_items e tight loose start w) ≡ row_items e tight loose start w
deep_row d e tight loose start w h = grind (arith, deep_tight, deep_at, deep_node)

map_parts : (d : ℕ) (x a b x' a' b' : List (ℕ × Item)) → map (tightened d) x ≡ x' → map (tightened d) a ≡ a' → map (tightened d) b ≡ b'
    → map (tightened d) (x ++ (a ++ b)) ≡ x' ++ (a' ++ b')
map_parts d x a b x' a' b' hx ha hb = let e = map-append (tightened d) a b in let f = map-append (tightened d) x (a ++ b) in cc

deep_items : (d e : ℕ) (tight : Bool) (r : Rows) → d < e → map (tightened d) (items_of e tight r) ≡ items_of e tight r
unfolding items_of
deep_items d e tight End h = refl
deep_items d e tight (OneOf row inner next) h =
    grind (arith, map_parts, deep_row, deep_items d (suc e) (tight_in tight (is_loose inner) row.what) inner (omega arith), deep_items d e tight next h)

-- No item of a list, and no title or definition of a definition list, is directly in a container.
abbrev NoItem : What → Type 0
NoItem (AnItem columns e) = ⊥
NoItem (ATitle b) = ⊥
NoItem (ADefinition columns e) = ⊥
NoItem w = Unit {0}

abbrev AreBlocks : Rows → Type 0
AreBlocks End = Unit {0}
AreBlocks (OneOf row inner next) = NoItem row.what × AreBlocks next

blocks_past : (joins : Joins) (r : Rows) → AreBlocks r → AreBlocks (list_after joins r)
blocks_past joins r h = grind (arith, cond_both)

blocks_container : (last : ℕ) (opener : Opener) (line start e : ℕ) (gap : Bool) (inner next : Rows) → AreBlocks next
    → AreBlocks (container_row last opener (row_of (record { opener = opener; line = line; start = start }) e gap) inner next)
blocks_container last opener line start e gap inner next h = grind (arith, blocks_past)

abbrev BlocksBeside : Option Definitions → Type 0
BlocksBeside None = Unit {0}
BlocksBeside (Some ds) = AreBlocks ds.beside

blocks_at : (t u : Bool) (row : Row) (inner next : Rows) (o : Option Definitions) → NoItem row.what → AreBlocks next → BlocksBeside o
    → BlocksBeside (if t then definitions_of_row row inner next else (if u then option_map (apart_after row inner) o else None))
blocks_at t u row inner next o h k l = grind arith

blocks_first : (r : Rows) → AreBlocks r → BlocksBeside (definitions_first r)
unfolding definitions_first
blocks_first End h = tt
blocks_first (OneOf row inner next) h = blocks_at (is_untitled row.what) (is_run_row row.what) row inner next _ h.0 h.1 (blocks_first next h.1)

blocks_titled : (block : LeafBlock) (gap : Bool) (o : Option Definitions) (next : Rows) → BlocksBeside o → AreBlocks next
    → AreBlocks (option_map_or (titled block gap) o (OneOf (row_of_leaf block gap) End next))
blocks_titled block gap o next h k = grind arith

blocks_leaf : (block : LeafBlock) (gap : Bool) (next : Rows) → AreBlocks next → AreBlocks (leaf_row block gap next)
blocks_leaf block gap next h = grind (arith, blocks_titled, cond_both, blocks_first)

are_blocks : (quoted : Bool) (before : Before) (last : ℕ) (s : Skeleton) → AreBlocks (rows_of quoted before last s)
unfolding rows_of
are_blocks quoted before last Nil = tt
are_blocks quoted before last (Then BlankLine next) = are_blocks quoted (after_blank quoted before) last next
are_blocks quoted before last (Then (Block b) next) = blocks_leaf b (gap_before before b) _ (are_blocks quoted (after_block before b) last next)
are_blocks quoted before last (Node head e kids next) =
    blocks_container last head.opener head.line head.start e before.counted _ _ (are_blocks quoted _ last next)

-- tightening the items of a row that is no list item, title or definition gives those of a tight list
tight_row : (d : ℕ) (loose : Bool) (start : ℕ) (w : What) → NoItem w → map (tightened d) (row_items d false loose start w) ≡ row_items d true loose start w
tight_row d loose start w h = grind (arith, eqb-same)

block_in : (loose : Bool) (w : What) → NoItem w → tight_in false loose w ≡ tight_in true loose w
block_in loose w h = grind arith

-- the items of blocks in a tight list are those of the same blocks outside of one, with their paragraphs tightened
tight_items : (d : ℕ) (r : Rows) → AreBlocks r → map (tightened d) (items_of d false r) ≡ items_of d true r
unfolding items_of
tight_items d End h = refl
tight_items d (OneOf row inner next) h = grind (arith, map_parts, tight_row, deep_items, block_in, tight_items d next h.1)

tight_front : (nodes more : List (ℕ × Item)) (o d : ℕ) → o ≤ length nodes
    → map_from (tightened d) o (nodes ++ more) ≡ map_from (tightened d) o nodes ++ map (tightened d) more
tight_front nodes more zero d h = map-append (tightened d) nodes more
tight_front [] more (suc o) d h = absurd (omega arith)
tight_front (x ∷ nodes) more (suc o) d h = ap (λ z. x ∷ z) (tight_front nodes more o d (omega arith))

pub modify-append : (nodes more : List (ℕ × Item)) (k : ℕ) (g : Item → Item) → k < length nodes → modify (nodes ++ more) k g ≡ modify nodes k g ++ more
modify-append [] more k g h = absurd (omega arith)
modify-append (n ∷ nodes) more zero g h = refl
modify-append (n ∷ nodes) more (suc k) g h = ap (λ z. n ∷ z) (modify-append nodes more k g (omega arith))

-- a list that is closed with more nodes after some nodes
pub list_closed-append : (nodes more : List (ℕ × Item)) (o d : ℕ) (loose : Bool) (e : ℕ) → o < length nodes
    → list_closed (nodes ++ more) o d loose e ≡ list_closed nodes o d loose e ++ (if loose then more else map (tightened d) more)
unfolding list_closed
list_closed-append nodes more o d loose e h = grind (arith, modify-append, map_from-length, modify, tight_front)

pub length-closed : (nodes : List (ℕ × Item)) (o d : ℕ) (loose : Bool) (e : ℕ) → length (list_closed nodes o d loose e) ≡ length nodes
unfolding list_closed
length-closed nodes o d loose e = grind (arith, length-modify, map_from-length)

up_node : (d : ℕ) (x : Item) → tightened (suc (suc d)) (suc d, x) ≡ (suc d, x)
up_node d x = let t : eqb (suc d) (suc (suc d)) ≡ false = grind (arith, nat_tests) in rw t refl

-- an item of a list that is closed
pub closed_item : (d last : ℕ) (loose : Bool) (x : Item) (kids : Skeleton)
    → (let inner : Rows = rows_of false nothing last kids in
    let items : List (ℕ × Item) = (suc d, x) ∷ items_of (suc (suc d)) false inner in
    (if loose then items else map (tightened (suc (suc d))) items) ≡ (suc d, x) ∷ items_of (suc (suc d)) (not loose) inner)
closed_item d last loose x kids = grind (arith, up_node, tight_items, are_blocks)
