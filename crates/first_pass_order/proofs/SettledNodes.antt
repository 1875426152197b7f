-- No node of a derived forest may still become a title.
use Rattle.std.proofs.Common.{◌≡◌, ℕ, suc, Bool, true, false, List, [], ◌∷◌, length, refl, sym, subst, true≢false, arith}
use Rattle.first_pass_grammar.proofs.Common.{Item, ItemBody, Paragraph, MaybeDefinitionListTitle, tight_body, nothing, LeafBlock, block_items, as_title}
use Rattle.first_pass_grammar.proofs.Common.{row_items, tight_in, items_of, Tables, Derives, Document, What, ALeaf, ATitle, Rows, End, OneOf, is_loose, rows_of}
use Rattle.first_pass_order.proofs.Common.{both_nodes, deeper_nodes, HoldsOfRow, derived_rows, tight_nodes}
use Rattle.first_pass_grammar.proofs.Each.EachLeaf.{IsBlockOf, begins_block, is_inner}
use Rattle.first_pass_grammar.proofs.Each.EachRow.{HoldsOfEachRow}
use Rattle.first_pass_order.specs.Settled.{IsSettled, AreSettled}

-- no leaf block is a possible title or contains one
block_body : (body : ItemBody) → begins_block body ≡ true → IsSettled body
block_body MaybeDefinitionListTitle h = absurd (true≢false (sym h))
block_body body h = refl

inner_body : (body : ItemBody) → is_inner body ≡ true → IsSettled body
inner_body MaybeDefinitionListTitle h = absurd (true≢false (sym h))
inner_body body h = refl

-- the items of a leaf block, also if its paragraph becomes tight or is a title
abbrev SettledBlock : List (ℕ × Item) → Type 0
SettledBlock items = IsBlockOf IsSettled IsSettled items

items_settled : (items : List (ℕ × Item)) → SettledBlock items → AreSettled items
items_settled [] h = tt
items_settled (x ∷ items) h = (h.1, h.2)

tight_settled : (b : ItemBody) → IsSettled b → IsSettled (tight_body b)
tight_settled Paragraph h = refl
tight_settled b h = h

block_settled : (depth : ℕ) (tight : Bool) (block : LeafBlock) → AreSettled block.items → AreSettled (block_items depth tight block)
block_settled depth true block h = grind (arith, tight_nodes, tight_settled, deeper_nodes)
block_settled depth false block h = deeper_nodes IsSettled depth block.items h

title_settled : (items : List (ℕ × Item)) → SettledBlock items → AreSettled (as_title items)
title_settled [] h = tt
title_settled (x ∷ items) h = (refl, h.2)

-- the items of rows
row_settled : (depth : ℕ) (tight loose : Bool) (start : ℕ) (w : What) (inner : Rows) → HoldsOfRow SettledBlock w inner
    → AreSettled (row_items depth tight loose start w)
row_settled depth tight loose start (ALeaf block) inner h = block_settled depth tight block (items_settled block.items h.0)
row_settled depth tight loose start (ATitle block) inner h = deeper_nodes IsSettled depth (as_title block.items) (title_settled block.items h.0)
row_settled depth tight loose start w inner h = (refl, tt)

forest_settled : (depth : ℕ) (tight : Bool) (rows : Rows) → HoldsOfEachRow SettledBlock rows → AreSettled (items_of depth tight rows)
unfolding HoldsOfEachRow items_of
forest_settled depth tight End h = tt
forest_settled depth tight (OneOf row inner next) h =
    both_nodes IsSettled (row_items depth tight (is_loose inner) row.start row.what) _
    (row_settled depth tight (is_loose inner) row.start row.what inner h.0)
    (both_nodes IsSettled (items_of (suc depth) (tight_in tight (is_loose inner) row.what) inner) (items_of depth tight next)
    (forest_settled (suc depth) (tight_in tight (is_loose inner) row.what) inner h.1) (forest_settled depth tight next h.2))

-- No node that a text derives may still become a title.
pub derived_settled : (d : Document) (forest : List (ℕ × Item)) (tables : Tables) → Derives d forest tables → AreSettled forest
derived_settled d forest tables h =
    let rows = rows_of false nothing (length d.text) h.skeleton in
    let each = derived_rows IsSettled IsSettled d forest tables block_body inner_body h in
    subst AreSettled (sym h.forest_is) (refl, forest_settled 1 false rows each)
