-- What contracts say about `Allocations`: the entries of its two tables, and the names, which are its three lists.
use Rattle.std.specs.Prelude.{◌≡◌, ℕ, false, List, [], ◌++◌, map, Option, Some}
use Rattle.std.specs.Option.{option_map, option_and_then}
use Rattle.first_pass_items.specs.declared.cow_str.CowStr.{CowStr}
use Rattle.first_pass_items.specs.CowText.{text_of}
pub use Rattle.first_pass_grammar.specs.Names.{Names, with_named, with_alignments, with_heading, Extends}
use Rattle.first_pass_grammar.specs.LinkTables.{LinkEntry}
use Rattle.first_pass_grammar.specs.Derivation.{Tables}
use Rattle.first_pass_attributes.specs.Attributes.{attributes_in}
use Rattle.first_pass_links.specs.Labels.{label_at}
use Rattle.first_pass_entities.specs.Texts.{Borrows}
use Rattle.first_pass_labels.specs.Foldings.{folded}
use Rattle.first_pass_labels.specs.LabelTables.{defined_under, with_first}
use Rattle.first_pass_labels.specs.declared.label_table.LinkDef.{LinkDef}
use Rattle.first_pass_labels.specs.declared.label_table.FootnoteDef.{FootnoteDef}
use Rattle.first_pass_names.specs.declared.items.Allocations.{Allocations}

-- an entry of the table of links as the grammar has it: with each string as its bytes
abbrev pub link_entry : CowStr × LinkDef → LinkEntry
link_entry e = record {
  label = text_of e.0;
  dest = text_of e.1.dest;
  title = option_map text_of e.1.title;
  start = e.1.span.start;
  «end» = e.1.span.«end»;
  places = e.1.places;
}

-- an entry of the table of footnotes as the grammar has it: only the bytes of the label, as it is spelled (this project)
abbrev pub footnote_label : CowStr × FootnoteDef → List ℕ
footnote_label e = text_of e.0

-- the entries of both tables; each string is a `CowStr`, borrowed or owned (this project)
pub record Entries : Type 0 where
  pub links : List (CowStr × LinkDef)
  pub footnotes : List (CowStr × FootnoteDef)

-- the entries of both tables of `Allocations` (this project)
abbrev pub entries : Allocations → Entries
entries a = record { links = a.refdefs; footnotes = a.footdefs }

-- the entries with one more link definition, unless one with a matching label is there (CommonMark 4.7)
abbrev pub with_definition : Entries → CowStr → LinkDef → Entries
with_definition es label definition = record { links = with_first es.links label definition; footnotes = es.footnotes }

-- the entries with one more footnote label, with use count 0, unless a matching label is there (this project)
abbrev pub with_footnote : Entries → CowStr → Entries
with_footnote es label = record { links = es.links; footnotes = with_first es.footnotes label (record { use_count = 0 }) }

-- the copy has the bytes of the string `text`, and is borrowed if the string is borrowed (this project)
pub record IsCopy (text copy : CowStr) : Type 0 where
  pub same : text_of copy ≡ text_of text
  pub borrowed : (bytes : List ℕ) → Borrows bytes text → Borrows bytes copy

-- the new entries are the old ones with a copy of this footnote label added by `with_footnote` (this project)
pub record AddsFootnote (old new : Entries) (label : CowStr) : Type 0 where
  pub copy : CowStr
  pub is_copy : IsCopy label copy
  pub added : new ≡ with_footnote old copy

-- the tables as the grammar has them, from these entries (CommonMark 4.7)
abbrev pub tables_in : Entries → Tables
tables_in es = record { links = map link_entry es.links; footnotes = map footnote_label es.footnotes }

-- the tables of `Allocations` as the grammar has them
abbrev pub tables_of : Allocations → Tables
tables_of a = tables_in (entries a)

-- the entries of the table of links (CommonMark 4.7)
abbrev pub refdefs_of : Allocations → List (CowStr × LinkDef)
refdefs_of a = a.refdefs

-- the entries of the table of footnotes (this project)
abbrev pub footdefs_of : Allocations → List (CowStr × FootnoteDef)
footdefs_of a = a.footdefs

-- What `Allocations::link_at` finds in these entries of the table of links. The bytes are those after a `[`. The result
-- is the length of the label at their start, with its `]`, and the definition that has a matching label. Prefixes of
-- containers count as part of the label (CommonMark 4.7, 6.3).
unfoldable pub link_at : List (CowStr × LinkDef) → List ℕ → Option (ℕ × LinkDef)
link_at links bs =
    option_and_then (λ (label : ℕ × List ℕ). option_map (λ (link : LinkDef). (label.0, link)) (defined_under (folded label.1) links))
    (label_at (λ further. Some 0) false bs)

-- the three lists of `Allocations` that nodes refer to by index: strings, column alignments of tables, and attributes
-- of headings
abbrev pub names_of : Allocations → Names
names_of a = record {
  texts = a.texts.items;
  alignments = map (λ columns. columns.items) a.alignments.items;
  headings = map attributes_in a.headings.items;
}

-- three empty lists
abbrev pub no_names : Names
no_names = record { texts = []; alignments = []; headings = [] }

-- The new names are the old ones with strings added at the end of their list. So each index refers to the same entry
-- as before. The other two lists are equal (this project).
pub record AddsTexts (new old : Names) : Type 0 where
  pub more : List CowStr
  pub texts : new.texts ≡ old.texts ++ more
  pub alignments : new.alignments ≡ old.alignments
  pub headings : new.headings ≡ old.headings

-- From the old to the new `Allocations`, the three lists only got more entries at their ends, and both tables stayed
-- the same. The old value comes first here, but last in `Extends` and `AddsTexts`.
pub record NamesMore (old new : Allocations) : Type 0 where
  pub names : Extends (names_of new) (names_of old)
  pub entries : entries new ≡ entries old
