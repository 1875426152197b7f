-- The texts, alignments and attributes that items name by their indices.
use Rattle.std.specs.Prelude.{◌≡◌, ℕ, ◌<◌, List, ◌∷◌, ◌++◌, length, map, slice_get, Option, Some, None, unwrap_or, []}
use Rattle.std.specs.Option.{option_map, option_and_then}
use Rattle.first_pass_items.specs.declared.cow_str.CowStr.{CowStr}
use Rattle.first_pass_items.specs.CowText.{text_of}
use Rattle.first_pass_items.specs.declared.item.CowIndex.{CowIndex}
use Rattle.first_pass_items.specs.declared.item.Alignment.{Alignment}
use Rattle.first_pass_items.specs.declared.item.AlignmentIndex.{AlignmentIndex}
use Rattle.first_pass_items.specs.declared.item.HeadingIndex.{HeadingIndex}
use Rattle.first_pass_items.specs.declared.item.Item.{Item}
use Rattle.first_pass_items.specs.declared.item.ItemBody.{ItemBody}
use Rattle.first_pass_items.specs.declared.item.ItemBody.TheVariants.{Heading, SynthesizeText, FencedCodeBlock, Table, FootnoteDefinition}
use Rattle.first_pass_attributes.specs.Attributes.{Attributes}
use Rattle.first_pass_tokens.specs.NamedTexts.{NamesAmong}

-- the texts, the column alignments of tables, and the attributes of headings, which items name by their indices (this
-- project)
pub record Names : Type 0 where
  pub texts : List CowStr
  pub alignments : List (List Alignment)
  pub headings : List Attributes

-- an index names a text (this project)
abbrev pub NamesText : Names → CowIndex → List ℕ → Type 0
NamesText names ix text = NamesAmong names.texts ix text

-- an index names the alignments of a table's columns (GFM 4.10)
abbrev pub NamesAlignments : Names → AlignmentIndex → List Alignment → Type 0
NamesAlignments names ix alignments = slice_get names.alignments ix.0 ≡ Some alignments

-- a heading's index names its attributes; a heading without attributes has no index (this project)
abbrev pub NamesAttributes : Names → Option HeadingIndex → Option Attributes → Type 0
NamesAttributes names None None = Unit {0}
NamesAttributes names None (Some attributes) = ⊥
NamesAttributes names (Some ix) None = ⊥
NamesAttributes names (Some ix) (Some attributes) = slice_get names.headings ix.0 ≡ Some attributes

-- The new names extend the old: more texts, alignments and attributes follow the old ones, so each index names what it
-- named before (this project).
pub record Extends (new old : Names) : Type 0 where
  pub more_texts : List CowStr
  pub texts : new.texts ≡ old.texts ++ more_texts
  pub more_alignments : List (List Alignment)
  pub alignments : new.alignments ≡ old.alignments ++ more_alignments
  pub more_headings : List Attributes
  pub headings : new.headings ≡ old.headings ++ more_headings

-- the names with one more text (this project)
abbrev pub with_named : Names → CowStr → Names
with_named names cow = record { texts = names.texts ++ cow ∷ []; alignments = names.alignments; headings = names.headings }

-- the names with the alignments of one more table (this project)
abbrev pub with_alignments : Names → List Alignment → Names
with_alignments names alignments = record { texts = names.texts; alignments = names.alignments ++ alignments ∷ []; headings = names.headings }

-- the names with the attributes of one more heading (this project)
abbrev pub with_heading : Names → Attributes → Names
with_heading names attributes = record { texts = names.texts; alignments = names.alignments; headings = names.headings ++ attributes ∷ [] }

-- an index in an item: of a text, of the column alignments of a table, or of the attributes of a heading (this
-- project)
pub data Index : Type 0 where
  TextAt : CowIndex → Index
  AlignmentsAt : AlignmentIndex → Index
  AttributesAt : HeadingIndex → Index

-- the value that an index names: a text, the column alignments of a table, or the attributes of a heading (this
-- project)
pub data Named : Type 0 where
  AText : List ℕ → Named
  Alignments : List Alignment → Named
  OfHeading : Attributes → Named

-- the index in the body of an item, if it has one (this project)
abbrev pub index_of : ItemBody → Option Index
index_of (SynthesizeText ix) = Some (TextAt ix)
index_of (FencedCodeBlock ix) = Some (TextAt ix)
index_of (FootnoteDefinition ix) = Some (TextAt ix)
index_of (Table ix) = Some (AlignmentsAt ix)
index_of (Heading level ix) = option_map AttributesAt ix
index_of _ = None

-- the body of an item with any index in it replaced by 0 (this project)
abbrev pub only_kind : ItemBody → ItemBody
only_kind (SynthesizeText ix) = SynthesizeText (record { 0 = 0 })
only_kind (FencedCodeBlock ix) = FencedCodeBlock (record { 0 = 0 })
only_kind (FootnoteDefinition ix) = FootnoteDefinition (record { 0 = 0 })
only_kind (Table ix) = Table (record { 0 = 0 })
only_kind (Heading level ix) = Heading level (option_map (λ at. record { 0 = 0 }) ix)
only_kind body = body

-- the value that an index names, if it names one (this project)
abbrev pub named : Names → Index → Option Named
named names (TextAt ix) = option_map (λ cow. AText (text_of cow)) (slice_get names.texts ix.0)
named names (AlignmentsAt ix) = option_map Alignments (slice_get names.alignments ix.0)
named names (AttributesAt ix) = option_map OfHeading (slice_get names.headings ix.0)

-- an item read through its index: its range, its body without the index, and the value that the index names, if it has
-- one (this project)
abbrev pub read : Names → Item → Item × Option Named
read names x = (record { start = x.start; «end» = x.«end»; body = only_kind x.body }, option_and_then (named names) (index_of x.body))

-- nodes read through their indices, each with its depth (this project)
abbrev pub read_nodes : Names → List (ℕ × Item) → List (ℕ × (Item × Option Named))
read_nodes names nodes = map (λ n. (n.0, read names n.1)) nodes

-- the text that an index names, or the empty text if it names none (this project)
abbrev pub text_named : Names → CowIndex → List ℕ
text_named names ix = unwrap_or (option_map text_of (slice_get names.texts ix.0)) []

-- the alignments that an index names, or no alignments if it names none (this project)
abbrev pub alignments_named : Names → AlignmentIndex → List Alignment
alignments_named names ix = unwrap_or (slice_get names.alignments ix.0) []

-- an index, if there is one, names an entry (this project)
abbrev pub NamesEntry : Names → Option Index → Type 0
NamesEntry names None = Unit {0}
NamesEntry names (Some (TextAt ix)) = ix.0 < length names.texts
NamesEntry names (Some (AlignmentsAt ix)) = ix.0 < length names.alignments
NamesEntry names (Some (AttributesAt ix)) = ix.0 < length names.headings

-- each index in these nodes names an entry (this project)
unfoldable pub AreNamed : Names → List (ℕ × Item) → Type 0
AreNamed names [] = Unit {0}
AreNamed names (n ∷ nodes) = NamesEntry names (index_of n.1.body) × AreNamed names nodes
