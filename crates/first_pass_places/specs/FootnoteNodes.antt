-- The node of each footnote's first definition (this project).
use Rattle.std.specs.Prelude.{◌≡◌, ℕ, ◌+◌, List, [], ◌∷◌, ◌++◌, map}
use Rattle.first_pass_items.specs.CowText.{text_of}
use Rattle.first_pass_items.specs.declared.cow_str.CowStr.{CowStr}
use Rattle.first_pass_items.specs.declared.item.Item.{Item}
use Rattle.first_pass_items.specs.declared.item.ItemBody.{ItemBody}
use Rattle.first_pass_items.specs.declared.item.ItemBody.TheVariants.{FootnoteDefinition}
use Rattle.first_pass_labels.specs.LabelTables.{table_of, with_all}
use Rattle.first_pass_grammar.specs.Names.{Names, text_named}

-- for a footnote definition, its label and this index; for another node, nothing (this project)
abbrev pub label_with_index : Names → ℕ → ItemBody → List (List ℕ × ℕ)
label_with_index names index (FootnoteDefinition ix) = (text_named names ix, index) ∷ []
label_with_index names index _ = []

-- the labels of the footnote definitions among these nodes, each with the index of its node, in the order of the nodes;
-- the first node has this index (this project)
unfoldable pub labels_from : Names → ℕ → List (ℕ × Item) → List (List ℕ × ℕ)
labels_from names index [] = []
labels_from names index (n ∷ nodes) = label_with_index names index n.1.body ++ labels_from names (index + 1) nodes

-- an entry of a table, with its label as bytes (this project)
abbrev pub entry_bytes : CowStr × ℕ → List ℕ × ℕ
entry_bytes entry = (text_of entry.0, entry.1)

-- the label of an entry as bytes (this project)
abbrev pub entry_label : CowStr × ℕ → List ℕ
entry_label entry = text_of entry.0

-- for each folding that a footnote label of these nodes has, the table has the first such label and the index of its
-- node (this project)
pub record AreFirstFootnotes (names : Names) (nodes : List (ℕ × Item)) (table : List (CowStr × ℕ)) : Type 0 where
  pub definitions : List (CowStr × ℕ)
  pub labels : map entry_bytes definitions ≡ labels_from names 0 nodes
  pub first : table ≡ table_of definitions

-- if the node is a footnote definition, its label is added with this index, unless a label in the table has the same
-- folding (this project)
pub record AddsNode (names : Names) (index : ℕ) (x : Item) (old new : List (CowStr × ℕ)) : Type 0 where
  pub definitions : List (CowStr × ℕ)
  pub labels : map entry_bytes definitions ≡ label_with_index names index x.body
  pub added : new ≡ with_all old definitions
