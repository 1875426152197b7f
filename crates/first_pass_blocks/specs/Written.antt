-- The entries of a pass's tables as the text has them, borrowed from it if nothing changes (CommonMark 4.7, and
-- this project). Also the labels of footnotes as the nodes name them.
use Rattle.std.specs.Prelude.{◌≡◌, ℕ, Bool, List, drop, map, slice_get, Some, All}
use Rattle.std.specs.List.{AllZip}
use Rattle.first_pass_items.specs.declared.cow_str.CowStr.{CowStr}
use Rattle.first_pass_items.specs.declared.item.CowIndex.{CowIndex}
use Rattle.first_pass_items.specs.declared.item.Item.{Item}
use Rattle.first_pass_items.specs.CowText.{text_of}
use Rattle.first_pass_entities.specs.Texts.{Borrows}
use Rattle.first_pass_labels.specs.LabelTables.{table_of}
use Rattle.first_pass_labels.specs.declared.label_table.FootnoteDef.{FootnoteDef}
use Rattle.first_pass_grammar.specs.Containers.{Context}
use Rattle.first_pass_grammar.specs.Footnotes.{footnote_at, label_bytes}
use Rattle.first_pass_grammar.specs.Names.{Names}
use Rattle.first_pass_names.specs.TableEntries.{refdefs_of, footdefs_of, names_of, IsCopy}
use Rattle.first_pass_names.specs.declared.items.Allocations.{Allocations}
use Rattle.first_pass_order.specs.Footnotes.{footnotes_in}
use Rattle.first_pass_definitions.specs.Found.{AreWritten}

-- An entry is the label of a footnote head in the text, read in the lines of some containers, inside a table of the
-- text or not. It is borrowed from the text if nothing in it changes, and no use of it is counted (this project).
pub record IsFootnoteWritten (text : List ℕ) (entry : CowStr × FootnoteDef) : Type 0 where
  pub around : Context
  pub nested : Bool
  pub start : ℕ
  pub head : ℕ × List ℕ
  pub here : footnote_at nested around (drop start text) ≡ Some head
  pub label : text_of entry.0 ≡ head.1
  pub borrowed : text_of entry.0 ≡ label_bytes head.0 (drop start text) → Borrows (label_bytes head.0 (drop start text)) entry.0
  pub unused : entry.1.use_count ≡ 0

-- each entry is such a label (this project)
abbrev pub AreFootnotesWritten : List ℕ → List (CowStr × FootnoteDef) → Type 0
AreFootnotesWritten text entries = All (IsFootnoteWritten text) entries

-- the entries of both tables are written in the text (CommonMark 4.7, and this project)
abbrev pub TablesAreWritten : List ℕ → Allocations → Type 0
TablesAreWritten text a = AreWritten text (refdefs_of a) × AreFootnotesWritten text (footdefs_of a)

-- the copy is one of the string at an index, as `IsCopy` says (this project)
pub record CopiesText (names : Names) (index : CowIndex) (copy : CowStr) : Type 0 where
  pub text : CowStr
  pub named : slice_get names.texts index.0 ≡ Some text
  pub is_copy : IsCopy text copy

-- an entry with this label, of which no use is counted (this project)
abbrev pub unused : CowStr → CowStr × FootnoteDef
unused label = (label, record { use_count = 0 })

-- The table of footnotes has copies of the labels that the footnote definitions among the nodes name. Of labels with
-- the same folding, it has only the first in the order of the nodes (this project).
pub record AreFirstLabels (names : Names) (nodes : List (ℕ × Item)) (entries : List (CowStr × FootnoteDef)) : Type 0 where
  pub copies : List CowStr
  pub are_copies : AllZip (CopiesText names) (footnotes_in nodes) copies
  pub first : entries ≡ table_of (map unused copies)

-- the same of the table of footnotes and the strings in `Allocations` (this project)
abbrev pub HasFirstLabels : Allocations → List (ℕ × Item) → Type 0
HasFirstLabels a nodes = AreFirstLabels (names_of a) nodes (footdefs_of a)
