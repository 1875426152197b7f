-- A property of the items of each leaf block in a sequence holds for each leaf block in its rows.
use Rattle.std.proofs.Common.{◌≡◌, ℕ, Bool, true, false, List, ◌∷◌, length, map, Option, Some, None, if◌then◌else◌, option_map, arith, []}
use Rattle.first_pass_grammar.proofs.Common.{option_map_or, cond_both, Item, ItemBody, tight_body, tightened, Before, nothing, after_blank, after_block}
use Rattle.first_pass_grammar.proofs.Common.{begins_paragraph, LeafBlock, BlankLine, Block, Opener, opened, Skeleton, Nil, Then, Node, is_quote, Tables}
use Rattle.first_pass_grammar.proofs.Common.{Derives, Document, What, ALeaf, ATitle, Row, Rows, End, OneOf, gapped, Joins, items_after, list_after, what_of}
use Rattle.first_pass_grammar.proofs.Common.{row_of, container_row, row_of_leaf, Definitions, definitions_of_row, apart_after, is_untitled, is_run_row}
use Rattle.first_pass_grammar.proofs.Common.{definitions_first, titled, rows_of, AreEachNode}
use Rattle.first_pass_grammar.proofs.Each.EachLeaf.{begins_block, is_inner, IsBlockOf, derived_leaves}
use Rattle.first_pass_grammar.proofs.Each.EachOpening.{HoldsOfEachLeaf}

-- no rows
abbrev pub IsEnd : Rows → Type 0
IsEnd End = Unit {0}
IsEnd (OneOf row inner next) = ⊥

-- a leaf block has no rows in it, and its items have the property; a title is a paragraph
abbrev pub HoldsOfRow : (List (ℕ × Item) → Type 0) → What → Rows → Type 0
HoldsOfRow P (ALeaf block) inner = P block.items × IsEnd inner
HoldsOfRow P (ATitle block) inner = P block.items × IsEnd inner × (begins_paragraph block.items ≡ true)
HoldsOfRow P w inner = Unit {0}

-- each row in rows has the property
unfoldable pub HoldsOfEachRow : (List (ℕ × Item) → Type 0) → Rows → Type 0
HoldsOfEachRow P End = Unit {0}
HoldsOfEachRow P (OneOf row inner next) = HoldsOfRow P row.what inner × HoldsOfEachRow P inner × HoldsOfEachRow P next

-- the definitions at the start of rows, if there are any, have the property
abbrev pub HoldsOfFirst : (List (ℕ × Item) → Type 0) → Option Definitions → Type 0
HoldsOfFirst P None = Unit {0}
HoldsOfFirst P (Some ds) = HoldsOfEachRow P ds.items × HoldsOfEachRow P ds.beside

module _ (P : List (ℕ × Item) → Type 0) where
  gapped_rows : (gap : Bool) (rows : Rows) → HoldsOfEachRow P rows → HoldsOfEachRow P (gapped gap rows)
  unfolding HoldsOfEachRow
  gapped_rows gap rows h = grind arith

  -- the further items of a list, and the rows after it
  pub items_rows : (joins : Joins) (rows : Rows) → HoldsOfEachRow P rows → HoldsOfEachRow P (items_after joins rows)
  unfolding HoldsOfEachRow
  items_rows joins rows h = grind (arith, cond_both, gapped_rows)

  pub list_rows : (joins : Joins) (rows : Rows) → HoldsOfEachRow P rows → HoldsOfEachRow P (list_after joins rows)
  unfolding HoldsOfEachRow
  list_rows joins rows h = grind (arith, cond_both)

  -- a container before rows
  container_rows : (last : ℕ) (opener : Opener) (row : Row) (inner next : Rows) → HoldsOfRow P row.what inner → HoldsOfEachRow P inner
      → HoldsOfEachRow P next → HoldsOfEachRow P (container_row last opener row inner next)
  unfolding HoldsOfEachRow
  container_rows last opener row inner next own h k = grind (arith, items_rows, list_rows)

  container_what : (opener : Opener) (e : ℕ) (inner : Rows) → HoldsOfRow P (what_of opener e) inner
  container_what opener e inner = grind arith

  -- definitions at the start of rows
  first_by : (t u : Bool) (row : Row) (inner next : Rows) (o : Option Definitions) → HoldsOfEachRow P (OneOf row inner next) → HoldsOfFirst P o
      → HoldsOfFirst P (if t then definitions_of_row row inner next else (if u then option_map (apart_after row inner) o else None))
  unfolding HoldsOfEachRow
  first_by t u row inner next o h f = grind (arith, gapped_rows)

  pub first_rows : (rows : Rows) → HoldsOfEachRow P rows → HoldsOfFirst P (definitions_first rows)
  unfolding HoldsOfEachRow definitions_first
  first_rows End h = tt
  first_rows (OneOf row inner next) h = first_by (is_untitled row.what) (is_run_row row.what) row inner next _ h (first_rows next h.2)

  -- a leaf block before rows, which may be the title of the definitions at their start
  titled_rows : (block : LeafBlock) (gap p : Bool) (o : Option Definitions) (next : Rows) → begins_paragraph block.items ≡ p → P block.items
      → HoldsOfFirst P o → HoldsOfEachRow P next
      → HoldsOfEachRow P (option_map_or (titled block gap) (if p then o else None) (OneOf (row_of_leaf block gap) End next))
  unfolding HoldsOfEachRow
  titled_rows block gap p o next is h f k = grind arith

  -- the rows of a sequence have the property
  pub each_row : (quoted : Bool) (before : Before) (last : ℕ) (s : Skeleton) → HoldsOfEachLeaf P s → HoldsOfEachRow P (rows_of quoted before last s)
  unfolding HoldsOfEachLeaf HoldsOfEachRow rows_of
  each_row quoted before last Nil h = tt
  each_row quoted before last (Then BlankLine next) h = each_row quoted (after_blank quoted before) last next h.1
  each_row quoted before last (Then (Block block) next) h = grind (arith, titled_rows, first_rows, each_row quoted (after_block before block) last next h.1)
  each_row quoted before last (Node head e kids next) h =
      container_rows last head.opener (row_of head e before.counted) _ _ (container_what head.opener e _)
      (each_row (is_quote (opened head.opener)) nothing e kids h.0) (each_row quoted _ last next h.1)

-- the rows of a derived tree have the property
pub derived_rows : (Own Inner : ItemBody → Type 0) (d : Document) (forest : List (ℕ × Item)) (tables : Tables)
    → ((body : ItemBody) → begins_block body ≡ true → Own body) → ((body : ItemBody) → is_inner body ≡ true → Inner body)
    → (h : Derives d forest tables) → HoldsOfEachRow (IsBlockOf Own Inner) (rows_of false nothing (length d.text) h.skeleton)
derived_rows Own Inner d forest tables own inner h =
    each_row (IsBlockOf Own Inner) false nothing (length d.text) h.skeleton (derived_leaves Own Inner d own inner forest tables h)

-- nodes keep a property that tightening a body keeps
module _ (P : ItemBody → Type 0) (tight : (body : ItemBody) → P body → P (tight_body body)) where
  pub tight_nodes : (depth : ℕ) (nodes : List (ℕ × Item)) → AreEachNode P nodes → AreEachNode P (map (tightened depth) nodes)
  tight_nodes depth [] h = tt
  tight_nodes depth (n ∷ nodes) h = grind (arith, cond_both, Item, tight_nodes depth nodes h.1)
