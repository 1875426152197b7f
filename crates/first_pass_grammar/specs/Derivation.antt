-- The tree that the grammar derives from a text, and what the text defines.
use Rattle.std.specs.Prelude.{◌≡◌, ℕ, suc, not, Bool, false, List, [], ◌∷◌, ◌++◌, length, map, if◌then◌else◌}
use Rattle.first_pass_items.specs.declared.item.Item.{Item}
use Rattle.first_pass_items.specs.declared.item.ItemBody.{ItemBody}
use Rattle.first_pass_items.specs.declared.item.ItemBody.TheVariants.{Root, BlockQuote as BlockQuoteBody, List as ListBody, ListItem as ListItemBody}
use Rattle.first_pass_items.specs.declared.item.ItemBody.TheVariants.{FootnoteDefinition as FootnoteDefinitionBody, DefinitionList, DefinitionListTitle}
use Rattle.first_pass_items.specs.declared.item.ItemBody.TheVariants.{DefinitionListDefinition}
use Rattle.first_pass_items.specs.declared.item.ListFlags.{ListFlags}
use Rattle.first_pass_tree.specs.Forest.{at_depth}
use Rattle.first_pass_tree.specs.Tight.{tightened}
use Rattle.first_pass_lines.specs.Places.{lines_at}
use Rattle.first_pass_items.specs.declared.option_set.Options.{Options}
use Rattle.first_pass_grammar.specs.Names.{Names, read_nodes}
use Rattle.first_pass_grammar.specs.Leaves.{Document, document}
use Rattle.first_pass_grammar.specs.LinkTables.{LinkEntry, with_links, with_label, with_labels}
use Rattle.first_pass_grammar.specs.Blocks.{BlankLine, Block, LeafBlock, label_of, Skeleton, Nil, Then, Node}
use Rattle.first_pass_grammar.specs.Skeleton.{Line, level, Lines, IsSequence}
use Rattle.first_pass_grammar.specs.Before.{nothing}
use Rattle.first_pass_grammar.specs.Rows.{What, ALeaf, AQuote, AList, AnItem, AFootnote, ADefinitionList, ATitle, ADefinition, Rows, End, OneOf, is_loose}
use Rattle.first_pass_grammar.specs.Rows.{rows_of}

abbrev pub node_of : ℕ → ℕ → ItemBody → Item
node_of start «end» body = record { start = start; «end» = «end»; body = body }

-- the flags of a list, tight or loose
abbrev pub list_flags : Bool → ListFlags
list_flags tight = record { 0 = if tight then 1 else 0 }

-- the items of a leaf block at a depth, tightened if they are directly in an item of a tight list
abbrev pub block_items : ℕ → Bool → LeafBlock → List (ℕ × Item)
block_items depth tight block = if tight then map (tightened depth) (at_depth depth block.items) else at_depth depth block.items

-- the items of a paragraph that is the title of a definition list (this project)
abbrev pub as_title : List (ℕ × Item) → List (ℕ × Item)
as_title [] = []
as_title (x ∷ items) = (x.0, record x.1 { body = DefinitionListTitle }) ∷ items

-- the items of a row at a depth; `tight`: the row is directly in an item of a tight list; `loose`: the row is a loose
-- list
abbrev pub row_items : ℕ → Bool → Bool → ℕ → What → List (ℕ × Item)
row_items depth tight loose start (ALeaf block) = block_items depth tight block
row_items depth tight loose start (AQuote kind e) = (depth, node_of start e (BlockQuoteBody kind)) ∷ []
row_items depth tight loose start (AList byte number e) = (depth, node_of start e (ListBody (list_flags (not loose)) byte number)) ∷ []
row_items depth tight loose start (AnItem columns e) = (depth, node_of start e (ListItemBody columns)) ∷ []
row_items depth tight loose start (AFootnote index e) = (depth, node_of start e (FootnoteDefinitionBody index)) ∷ []
row_items depth tight loose start (ADefinitionList t e) = (depth, node_of start e (DefinitionList (list_flags (not loose)))) ∷ []
row_items depth tight loose start (ATitle block) = at_depth depth (as_title block.items)
row_items depth tight loose start (ADefinition columns e) = (depth, node_of start e (DefinitionListDefinition columns)) ∷ []

-- The blocks in a row are directly in an item or a definition of a tight list: the row is such an item or definition,
-- or a tight list.
abbrev pub tight_in : Bool → Bool → What → Bool
tight_in tight loose (ALeaf block) = false
tight_in tight loose (AQuote kind e) = false
tight_in tight loose (AList byte number e) = not loose
tight_in tight loose (AnItem columns e) = tight
tight_in tight loose (AFootnote index e) = false
tight_in tight loose (ADefinitionList t e) = not loose
tight_in tight loose (ATitle block) = false
tight_in tight loose (ADefinition columns e) = tight

-- The items of rows in reading order, each with its depth, which is this one for the rows themselves; `tight`: the
-- rows are directly in an item of a tight list (CommonMark 5.3).
unfoldable pub items_of : ℕ → Bool → Rows → List (ℕ × Item)
items_of depth tight End = []
items_of depth tight (OneOf row inner next) =
    row_items depth tight (is_loose inner) row.start row.what
    ++ (items_of (suc depth) (tight_in tight (is_loose inner) row.what) inner ++ items_of depth tight next)

-- what a text defines: its link reference definitions, and the labels of its footnotes
pub record Tables : Type 0 where
  pub links : List LinkEntry
  pub footnotes : List (List ℕ)

-- nothing is defined
abbrev pub no_tables : Tables
no_tables = record { links = []; footnotes = [] }

-- the tables with these link reference definitions added, in the order of the text
abbrev pub with_definitions : Tables → List LinkEntry → Tables
with_definitions tables definitions = record { links = with_links tables.links definitions; footnotes = tables.footnotes }

-- the tables with the label of a footnote definition added (this project)
abbrev pub with_footnote_label : Tables → List ℕ → Tables
with_footnote_label tables label = record { links = tables.links; footnotes = with_label label tables.footnotes }

-- the link reference definitions in a sequence of blocks, in the order of the text (CommonMark 4.7)
unfoldable pub definitions_of : Skeleton → List LinkEntry
definitions_of Nil = []
definitions_of (Then BlankLine next) = definitions_of next
definitions_of (Then (Block block) next) = block.definitions ++ definitions_of next
definitions_of (Node head e kids next) = definitions_of kids ++ definitions_of next

-- the labels of the footnote definitions in a sequence of blocks, in the order of the text; the label of a definition
-- comes before those inside it (this project)
unfoldable pub footnotes_of : Skeleton → List (List ℕ)
footnotes_of Nil = []
footnotes_of (Then leaf next) = footnotes_of next
footnotes_of (Node head e kids next) = label_of head.opener ++ (footnotes_of kids ++ footnotes_of next)

-- the tables with all that a sequence of blocks defines added
abbrev pub with_all_of : Tables → Skeleton → Tables
with_all_of tables s = record { links = with_links tables.links (definitions_of s); footnotes = with_labels tables.footnotes (footnotes_of s) }

-- the root node of a text of n bytes
abbrev pub root_of : ℕ → ℕ × Item
root_of n = (0, record { start = 0; «end» = n; body = Root })

-- The grammar derives this forest and these tables: the whole text is a sequence of blocks, and both are read off that
-- sequence.
pub record Derives (d : Document) (forest : List (ℕ × Item)) (tables : Tables) : Type 0 where
  pub skeleton : Skeleton
  pub sequence : IsSequence d skeleton (level [] nothing) Line (lines_at 0 d.text) (Lines [])
  pub forest_is : forest ≡ root_of (length d.text) ∷ items_of 1 false (rows_of false nothing (length d.text) skeleton)
  pub tables_are : tables ≡ with_all_of no_tables skeleton

-- The grammar derives nothing else from the text: every derived forest, read through its indices, equals this one, and
-- its tables are these.
pub record IsOnlyDerived (text : List ℕ) (options : Options) (names : Names) (forest : List (ℕ × Item)) (tables : Tables) : Type 0 where
  pub nodes_are : (n : Names) (g : List (ℕ × Item)) (u : Tables) → Derives (document text options n) g u → read_nodes n g ≡ read_nodes names forest
  pub tables_are : (n : Names) (g : List (ℕ × Item)) (u : Tables) → Derives (document text options n) g u → u ≡ tables
