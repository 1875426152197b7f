-- The attributes of headings as records, with the bytes that they name (this project).
use Rattle.std.specs.Prelude.{ℕ, ◌+◌, List, [], ◌∷◌, ◌++◌, length, map, Option, Some, None, is_some, slice_get, unwrap_or}
use Rattle.first_pass_items.specs.declared.item.HeadingIndex.{HeadingIndex}
use Rattle.first_pass_items.specs.declared.item.Item.{Item}
use Rattle.first_pass_items.specs.declared.item.ItemBody.{ItemBody}
use Rattle.first_pass_items.specs.declared.item.ItemBody.TheVariants.{Heading}
use Rattle.first_pass_attributes.specs.Attributes.{Attributes, no_attributes}
use Rattle.first_pass_grammar.specs.Names.{Names}
use Rattle.first_pass_c.specs.Kinds.{flag}
use Rattle.first_pass_c.specs.declared.flat.attributes.AttributeKind.{AttributeKind}
use Rattle.first_pass_c.specs.declared.flat.attributes.AttributeKind.TheVariants.{Id, Class, Key}
use Rattle.first_pass_c.specs.declared.flat.records.FlatAttribute.{FlatAttribute}

-- the number of an attribute's kind (this project)
abbrev pub attribute_kind : AttributeKind → ℕ
attribute_kind Id = 0
attribute_kind Class = 1
attribute_kind Key = 2

-- one attribute of a heading: an id (0), a class (1) or a key (2), and the value of a key that has one (this project)
pub record OneAttribute : Type 0 where
  pub kind : ℕ
  pub name : List ℕ
  pub value : Option (List ℕ)

-- the id, if there is one (this project)
abbrev pub id_attributes : Option (List ℕ) → List OneAttribute
id_attributes None = []
id_attributes (Some id) = record { kind = 0; name = id; value = None } ∷ []

abbrev pub class_attribute : List ℕ → OneAttribute
class_attribute class = record { kind = 1; name = class; value = None }

abbrev pub key_attribute : List ℕ × Option (List ℕ) → OneAttribute
key_attribute pair = record { kind = 2; name = pair.0; value = pair.1 }

-- the attributes of a heading in order: the id, the classes, the keys (this project)
abbrev pub listed : Attributes → List OneAttribute
listed given = id_attributes given.id ++ (map class_attribute given.classes ++ map key_attribute given.attrs)

-- the index of the attributes of a heading that has an attribute block (this project)
abbrev pub heading_index : ItemBody → Option HeadingIndex
heading_index (Heading level ix) = ix
heading_index _ = None

-- the attributes that an index names; none if there is no such entry (this project)
abbrev pub attributes_named : Names → HeadingIndex → Attributes
attributes_named names ix = unwrap_or (slice_get names.headings ix.0) no_attributes

-- the attributes that an index names, in order; none without an index (this project)
abbrev pub attributes_at : Names → Option HeadingIndex → List OneAttribute
attributes_at names None = []
attributes_at names (Some ix) = listed (attributes_named names ix)

-- the attributes that a node names: those of a heading that has an attribute block (this project)
abbrev pub attributes_of_body : Names → ItemBody → List OneAttribute
attributes_of_body names body = attributes_at names (heading_index body)

abbrev pub attributes_by : Names → ℕ × Item → List OneAttribute
attributes_by names node = attributes_of_body names node.1.body

-- the bytes of an attribute: its name, then its value (this project)
abbrev pub attribute_bytes : OneAttribute → List ℕ
attribute_bytes x = x.name ++ unwrap_or x.value []

-- the record of an attribute whose bytes begin at an offset into the names (this project)
abbrev pub flat_attribute : ℕ → OneAttribute → FlatAttribute
flat_attribute at x = record {
  name = at;
  name_length = length x.name;
  value = at + length x.name;
  value_length = length (unwrap_or x.value []);
  has_value = flag (is_some x.value);
  kind = x.kind;
}

-- the records of attributes whose bytes follow one another from an offset on (this project)
unfoldable pub flat_attributes : ℕ → List OneAttribute → List FlatAttribute
flat_attributes at [] = []
flat_attributes at (x ∷ xs) = flat_attribute at x ∷ flat_attributes (at + length (attribute_bytes x)) xs
