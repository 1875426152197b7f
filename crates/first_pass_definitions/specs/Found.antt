-- Results for link reference definitions (CommonMark 4.7).
use Rattle.std.specs.Prelude.{◌≡◌, ℕ, ◌+◌, ◌-◌, ◌<◌, ◌≤◌, true, false, Bool, List, All, take, drop, Option, Some, None, ⊤}
use Rattle.std.specs.Str.{IsCharBoundary}
use Rattle.std.specs.List.{list_any}
use Rattle.first_pass_items.specs.declared.cow_str.CowStr.{CowStr}
use Rattle.first_pass_items.specs.CowText.{text_of}
use Rattle.first_pass_labels.specs.declared.label_table.LinkDef.{LinkDef}
use Rattle.first_pass_labels.specs.declared.label_table.LinkPlaces.{LinkPlaces}
use Rattle.first_pass_lines.specs.Lines.{is_line_end}
use Rattle.first_pass_links.specs.Escapes.{unescaped}
use Rattle.first_pass_entities.specs.Texts.{Borrows}
use Rattle.first_pass_links.specs.Labels.{label_at}
use Rattle.first_pass_grammar.specs.Containers.{Context}
use Rattle.first_pass_grammar.specs.Definitions.{Target, LinkReference, prefix_crossed, reference_definition_at}
use Rattle.first_pass_grammar.specs.LinkRuns.{places_of, reference_places}

-- The string is this text, unescaped. It is borrowed if nothing in the text changes (CommonMark 2.4, 2.5).
pub record IsUnescaped (in_table : Bool) (text : List ℕ) (found : CowStr) : Type 0 where
  pub value : text_of found ≡ unescaped in_table text
  pub borrowed : unescaped in_table text ≡ text → Borrows text found

-- the same for a title, which is borrowed if nothing in it changes and it has no line ending (CommonMark 4.7)
pub record IsTitle (in_table : Bool) (text : List ℕ) (found : CowStr) : Type 0 where
  pub value : text_of found ≡ unescaped in_table text
  pub borrowed : list_any is_line_end text ≡ false → unescaped in_table text ≡ text → Borrows text found

-- the definition has this title, or none (CommonMark 4.7)
abbrev pub HasTitle : Bool → Option (List ℕ) → Option CowStr → Type 0
HasTitle in_table None None = ⊤
HasTitle in_table None (Some found) = ⊥
HasTitle in_table (Some text) None = ⊥
HasTitle in_table (Some text) (Some found) = IsTitle in_table text found

-- the definition has this target, this range, and parts at these places (CommonMark 4.7)
pub record IsDefinition (in_table : Bool) (target : Target) (places : LinkPlaces) (from to : ℕ) (found : LinkDef) : Type 0 where
  pub dest : IsUnescaped in_table target.dest found.dest
  pub title : HasTitle in_table target.title found.title
  pub start_is : found.span.start ≡ from
  pub end_is : found.span.«end» ≡ to
  pub places_are : found.places ≡ places

-- The definition begins at the first offset, and its target at the second, directly after `]` and a colon. The number is
-- the length of the target (CommonMark 4.7).
pub record IsTarget (in_table : Bool) (from at : ℕ) (target : ℕ × Target) (found : ℕ × LinkDef) : Type 0 where
  pub size : found.0 ≡ target.0
  pub definition : IsDefinition in_table target.1 (places_of (at - 2) at target.1) from (at + target.0) found.1

-- the result for a definition that begins at an offset: its length, its label, and the definition (CommonMark 4.7)
pub record IsReference (in_table : Bool) (at : ℕ) (reference : LinkReference) (found : ℕ × CowStr × LinkDef) : Type 0 where
  pub size : found.0 ≡ reference.size
  pub label : text_of found.1 ≡ reference.label
  pub definition : IsDefinition in_table reference.target (reference_places at reference) at (at + reference.size) found.2

-- The destination and then the title of a definition are after an offset. Both begin at character boundaries, and the
-- destination also ends at one (CommonMark 4.7).
pub record AreInOrder (text : List ℕ) (from : ℕ) (found : LinkDef) : Type 0 where
  pub dest : from ≤ found.places.dest_start
  pub following : found.places.dest_start ≤ found.places.dest_end
  pub title : found.places.dest_end ≤ found.places.title_start
  pub within : found.places.title_start ≤ found.span.«end»
  pub dest_boundary : IsCharBoundary text found.places.dest_start
  pub after_boundary : IsCharBoundary text found.places.dest_end
  pub title_boundary : IsCharBoundary text found.places.title_start

-- the same for all parts: first the label, then `]` and a colon, then destination and title (CommonMark 4.7)
pub record HasParts (text : List ℕ) (found : LinkDef) : Type 0 where
  pub label : found.span.start < found.places.label_end
  pub boundary : IsCharBoundary text found.places.label_end
  pub target : AreInOrder text (found.places.label_end + 2) found

-- the label at the start of these bytes has this length, without its `]` (CommonMark 4.7)
abbrev pub IsLabelLen : Context → Bool → List ℕ → ℕ → Type 0
IsLabelLen around in_table bs n = (label : List ℕ) × (label_at (prefix_crossed true around) in_table bs ≡ Some (n + 1, label))

-- the label at the start of these bytes is borrowed if it equals the bytes there (CommonMark 4.7, and this project)
abbrev pub BorrowsLabel : Context → Bool → List ℕ → CowStr → Type 0
BorrowsLabel around in_table bs label = (n : ℕ) → IsLabelLen around in_table bs n → text_of label ≡ take n bs → Borrows (take n bs) label

-- For some containers, and either inside or outside a table, the entry is what the definition at its range in the text
-- gives. Its label, its destination and a title of one line are borrowed from the text if nothing in them changes. Its
-- parts have their places in the text (CommonMark 4.7, and this project).
pub record IsWritten (text : List ℕ) (entry : CowStr × LinkDef) : Type 0 where
  pub around : Context
  pub in_table : Bool
  pub reference : LinkReference
  pub here : reference_definition_at in_table around (drop entry.1.span.start text) ≡ Some reference
  pub says : IsReference in_table entry.1.span.start reference (reference.size, entry.0, entry.1)
  pub borrowed : BorrowsLabel around in_table (drop (entry.1.span.start + 1) text) entry.0
  pub parts : HasParts text entry.1

-- the same for each entry
abbrev pub AreWritten : List ℕ → List (CowStr × LinkDef) → Type 0
AreWritten text entries = All (IsWritten text) entries
