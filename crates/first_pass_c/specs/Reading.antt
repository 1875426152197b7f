-- The result of reading a text, in memory of the caller (this project).
use Rattle.std.specs.Prelude.{◌≡◌, ◌<◌, ◌≤◌, ◌⊎◌, ◌^◌, ℕ, List, length, All, IsUtf8}
use Rattle.first_pass_items.specs.declared.item.Item.{Item}
use Rattle.first_pass_grammar.specs.Names.{Names}
use Rattle.first_pass_grammar.specs.Derivation.{Tables}
use Rattle.first_pass_c.specs.FlatForm.{FlatForm, flat_form}
use Rattle.first_pass_c.specs.FlatNodes.{IsShort}
use Rattle.first_pass_c.specs.declared.fault.Fault.{Fault}
use Rattle.first_pass_c.specs.declared.fault.Fault.TheVariants.{OutOfMemory, NotUtf8, BadOptions, TooSmall, TooLong}
use Rattle.first_pass_c.specs.declared.reading.FlatCounts.{FlatCounts}
use Rattle.first_pass_c.specs.Memory.{Memory, BeginsWith}
pub use Rattle.first_pass_c.specs.Parsed.{AreKnown, IsReadable, IsTreeOf}

-- the length that each array needs for a flat form, and the number of its definitions that are link definitions
-- (this project)
abbrev pub counts_of : FlatForm → FlatCounts
counts_of form = record {
  nodes = length form.nodes;
  attributes = length form.attributes;
  definitions = length form.definitions;
  links = form.links;
  string_bytes = length form.names;
}

-- the arrays begin with a flat form, and their rests are unchanged (this project)
pub record IsFormWritten (form : FlatForm) (old new : Memory) : Type 0 where
  pub nodes : BeginsWith form.nodes old.nodes new.nodes
  pub attributes : BeginsWith form.attributes old.attributes new.attributes
  pub definitions : BeginsWith form.definitions old.definitions new.definitions
  pub names : BeginsWith form.names old.names new.names

-- one of the arrays is shorter than a flat form (this project)
abbrev pub HasNoRoom : FlatForm → Memory → Type 0
HasNoRoom form arrays =
    (length arrays.nodes < length form.nodes) ⊎ (length arrays.attributes < length form.attributes)
    ⊎ (length arrays.definitions < length form.definitions) ⊎ (length arrays.names < length form.names)

-- the tree and the tables that the grammar derives from a text, and the entries that indices name (this project)
pub record Reading (text : List ℕ) (bits : ℕ) : Type 0 where
  pub names : Names
  pub nodes : List (ℕ × Item)
  pub tables : Tables
  pub tree : IsTreeOf text bits names nodes tables

-- their flat form (this project)
abbrev pub form_read : {text : List ℕ} → {bits : ℕ} → Reading text bits → FlatForm
form_read r = flat_form r.names r.nodes r.tables

-- the arrays begin with the flat form of a text's tree and tables, and the counts are those of that form
-- (this project)
pub record IsTextRead (text : List ℕ) (bits : ℕ) (old new : Memory) (counts : FlatCounts) : Type 0 where
  pub reading : Reading text bits
  pub counted : counts ≡ counts_of (form_read reading)
  pub written : IsFormWritten (form_read reading) old new

-- the counts are those of the flat form of a text's tree and tables, and one of the arrays is shorter (this project)
pub record IsTooSmall (text : List ℕ) (bits : ℕ) (arrays : Memory) (counts : FlatCounts) : Type 0 where
  pub reading : Reading text bits
  pub counted : counts ≡ counts_of (form_read reading)
  pub no_room : HasNoRoom (form_read reading) arrays

-- a number of a node in the flat form of a text's tree needs more than 32 bits (this project)
pub record HasLongNumber (text : List ℕ) (bits : ℕ) : Type 0 where
  pub reading : Reading text bits
  pub long : All IsShort (form_read reading).nodes → ⊥

-- each bit is the bit of an option, and the text is not UTF-8 (this project)
abbrev pub IsNotUtf8 : List ℕ → ℕ → Type 0
IsNotUtf8 text bits = AreKnown bits × (IsUtf8 text → ⊥)

-- each bit is the bit of an option, and the text is UTF-8 of 2^32 bytes or more (this project)
pub record IsLongText (text : List ℕ) (bits : ℕ) : Type 0 where
  pub known : AreKnown bits
  pub utf8 : IsUtf8 text
  pub long : 2 ^ 32 ≤ length text

-- the text has 2^32 bytes or more, or a number of a node needs more than 32 bits (this project)
abbrev pub IsTooLong : List ℕ → ℕ → Type 0
IsTooLong text bits = IsLongText text bits ⊎ HasLongNumber text bits

-- the reason for which a text is not read (this project)
abbrev pub ReadLeaves : Fault → List ℕ → ℕ → Type 0
ReadLeaves OutOfMemory text bits = IsReadable text bits
ReadLeaves NotUtf8 text bits = IsNotUtf8 text bits
ReadLeaves BadOptions text bits = AreKnown bits → ⊥
ReadLeaves TooSmall text bits = ⊥
ReadLeaves TooLong text bits = IsLongText text bits

-- the reason for which a flat form is not written (this project)
abbrev pub WriteLeaves : Fault → FlatForm → Memory → Type 0
WriteLeaves TooSmall form arrays = HasNoRoom form arrays
WriteLeaves TooLong form arrays = All IsShort form.nodes → ⊥
WriteLeaves _ form arrays = ⊥
