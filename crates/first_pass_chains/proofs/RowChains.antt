-- The chains of the nodes of rows, if those of each leaf block are in order.
use Rattle.std.proofs.Common.{◌≡◌, ℕ, suc, ◌≤◌, Bool, true, false, List, [], ◌∷◌, ◌++◌, length, map, refl, sym, subst, arith, if◌then◌else◌, not}
use Rattle.first_pass_grammar.proofs.Common.{Item, at_depth, Rows, End, OneOf, What, ALeaf, ATitle, is_loose, rows_of, nothing, row_items, tight_in}
use Rattle.first_pass_grammar.proofs.Common.{items_of, tightened, as_title}
use Rattle.first_pass_grammar.proofs.Common.{Document, Tables, Derives, root_of}
use Rattle.first_pass_items.specs.declared.item.ItemBody.TheVariants.{BlockQuote as BlockQuoteBody, List as ListBody, ListItem as ListItemBody}
use Rattle.first_pass_items.specs.declared.item.ItemBody.TheVariants.{FootnoteDefinition as FootnoteDefinitionBody, DefinitionList, DefinitionListDefinition}
use Rattle.first_pass_grammar.specs.Derivation.{node_of, list_flags}
use Rattle.first_pass_grammar.specs.Rows.{AQuote, AList, AnItem, AFootnote, ADefinitionList, ADefinition}
use Rattle.first_pass_grammar.proofs.Each.EachOpening.{HoldsOfEachLeaf}
use Rattle.first_pass_grammar.proofs.Each.EachRow.{HoldsOfRow, HoldsOfEachRow, IsEnd, each_row}
use Rattle.first_pass_content.specs.Chains.{AreChains, has_chain}
use Rattle.first_pass_chains.proofs.NodeChains.{AreDeep, Stops, deep_both, deep_less, deep_at, deep_tight, chains_both, chains_after, chains_deeper}
use Rattle.first_pass_chains.proofs.NodeChains.{chains_tight}
use Rattle.first_pass_chains.proofs.NodeChains.{chains_title}

-- the nodes of a leaf block: none, or the first of them is at depth 0; their chains are in order
abbrev pub IsChained : List ℕ → List (ℕ × Item) → Type 0
IsChained text items = AreChains text items × Stops 0 items

-- nodes of rows at a depth: none of them is less deep, and the first is no deeper
abbrev Stand : List ℕ → ℕ → List (ℕ × Item) → Type 0
Stand text depth nodes = AreChains text nodes × AreDeep depth nodes × Stops depth nodes

stops_at : (depth : ℕ) (items : List (ℕ × Item)) → Stops 0 items → Stops depth (at_depth depth items)
stops_at depth [] h = tt
stops_at depth (n ∷ items) h = (let zero : n.0 ≤ 0 = h in omega arith)

stops_tight : (d depth : ℕ) (items : List (ℕ × Item)) → Stops d items → Stops d (map (tightened depth) items)
stops_tight d depth [] h = tt
stops_tight d depth (n ∷ items) h = h

stops_title : (items : List (ℕ × Item)) → Stops 0 items → Stops 0 (as_title items)
stops_title [] h = tt
stops_title (n ∷ items) h = h

block_stands : (text : List ℕ) (depth : ℕ) (items : List (ℕ × Item)) → IsChained text items → Stand text depth (at_depth depth items)
block_stands text depth items h = (chains_deeper text depth items h.0, deep_at depth items, stops_at depth items h.1)

stops_both : (depth : ℕ) (xs ys : List (ℕ × Item)) → Stops depth xs → Stops depth ys → Stops depth (xs ++ ys)
stops_both depth [] ys h k = k
stops_both depth (n ∷ xs) ys h k = h

both_stand : (text : List ℕ) (depth : ℕ) (xs ys : List (ℕ × Item)) → Stand text depth xs → Stand text depth ys → Stand text depth (xs ++ ys)
both_stand text depth xs ys h k =
    (chains_both text depth xs ys h.1 k.2 h.0 k.0, deep_both depth xs ys h.1 k.1, stops_both depth xs ys h.2 k.2)

-- a leaf block or a title has no rows in it
leaf_stands : (text : List ℕ) (depth : ℕ) (tight : Bool) (items : List (ℕ × Item)) → IsChained text items
    → Stand text depth (if tight then map (tightened depth) (at_depth depth items) else at_depth depth items)
leaf_stands text depth true items h =
    let s = block_stands text depth items h in
    let nodes = at_depth depth items in
    (chains_tight text depth nodes s.0, deep_tight depth depth nodes s.1, stops_tight depth depth nodes s.2)
leaf_stands text depth false items h = block_stands text depth items h

none_inside : (depth : ℕ) (tight : Bool) (inner : Rows) → IsEnd inner → items_of depth tight inner ≡ []
unfolding items_of
none_inside depth tight End h = refl
none_inside depth tight (OneOf row inner next) h = absurd h

-- a container, with the nodes of the rows in it, before those of the next rows
node_stands : (text : List ℕ) (depth : ℕ) (x : Item) (inner next : List (ℕ × Item)) → has_chain x.body ≡ false → Stand text (suc depth) inner
    → Stand text depth next → Stand text depth ((depth, x) ∷ (inner ++ next))
node_stands text depth x inner next none h k =
    let below = deep_less depth (suc depth) inner (omega arith) h.1 in (
      chains_after text (depth, x) (inner ++ next) none (chains_both text depth inner next below k.2 h.0 k.0),
      (omega arith, deep_both depth inner next below k.1),
      omega arith,
    )

ends_inside : (text : List ℕ) (depth : ℕ) (own inner next : List (ℕ × Item)) → inner ≡ [] → Stand text depth own → Stand text depth next
    → Stand text depth (own ++ (inner ++ next))
ends_inside text depth own inner next none h k =
    subst (λ (z : List (ℕ × Item)). Stand text depth (own ++ (z ++ next))) (sym none) (both_stand text depth own next h k)

row_stands : (text : List ℕ) (depth : ℕ) (tight loose : Bool) (start : ℕ) (w : What) (rows : Rows) (next : List (ℕ × Item))
    → HoldsOfRow (IsChained text) w rows → Stand text (suc depth) (items_of (suc depth) (tight_in tight loose w) rows) → Stand text depth next
    → Stand text depth (row_items depth tight loose start w ++ (items_of (suc depth) (tight_in tight loose w) rows ++ next))
row_stands text depth tight loose start (ALeaf block) rows next h inner k =
    ends_inside text depth _ _ next (none_inside (suc depth) false rows h.1) (leaf_stands text depth tight block.items h.0) k
row_stands text depth tight loose start (ATitle block) rows next h inner k =
    let title : IsChained text (as_title block.items) = (chains_title text block.items h.2 h.0.0, stops_title block.items h.0.1) in
    ends_inside text depth _ _ next (none_inside (suc depth) false rows h.1) (block_stands text depth (as_title block.items) title) k
row_stands text depth tight loose start (AQuote kind e) rows next h inner k =
    node_stands text depth (node_of start e (BlockQuoteBody kind)) _ next refl inner k
row_stands text depth tight loose start (AList byte number e) rows next h inner k =
    node_stands text depth (node_of start e (ListBody (list_flags (not loose)) byte number)) _ next refl inner k
row_stands text depth tight loose start (AnItem columns e) rows next h inner k =
    node_stands text depth (node_of start e (ListItemBody columns)) _ next refl inner k
row_stands text depth tight loose start (AFootnote index e) rows next h inner k =
    node_stands text depth (node_of start e (FootnoteDefinitionBody index)) _ next refl inner k
row_stands text depth tight loose start (ADefinitionList t e) rows next h inner k =
    node_stands text depth (node_of start e (DefinitionList (list_flags (not loose)))) _ next refl inner k
row_stands text depth tight loose start (ADefinition columns e) rows next h inner k =
    node_stands text depth (node_of start e (DefinitionListDefinition columns)) _ next refl inner k

rows_stand : (text : List ℕ) (depth : ℕ) (tight : Bool) (rows : Rows) → HoldsOfEachRow (IsChained text) rows → Stand text depth (items_of depth tight rows)
unfolding HoldsOfEachRow items_of
rows_stand text depth tight End h = (tt, tt, tt)
rows_stand text depth tight (OneOf row inner next) h =
    row_stands text depth tight (is_loose inner) row.start row.what inner (items_of depth tight next) h.0
    (rows_stand text (suc depth) (tight_in tight (is_loose inner) row.what) inner h.1) (rows_stand text depth tight next h.2)

-- The chains of a derived tree are in order, if those of each leaf block are.
pub derived_chains : (d : Document) (nodes : List (ℕ × Item)) (tables : Tables) (h : Derives d nodes tables) → HoldsOfEachLeaf (IsChained d.text) h.skeleton
    → AreChains d.text nodes
derived_chains d nodes tables h leaves =
    let rows : Rows = rows_of false nothing (length d.text) h.skeleton in
    let all = rows_stand d.text 1 false rows (each_row (IsChained d.text) false nothing (length d.text) h.skeleton leaves) in
    subst (AreChains d.text) (sym h.forest_is) (chains_after d.text (root_of (length d.text)) (items_of 1 false rows) refl all.0)
