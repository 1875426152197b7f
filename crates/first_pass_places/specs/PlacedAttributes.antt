-- The attributes that are written in given ranges (this project).
use Rattle.std.specs.Prelude.{ℕ, Bool, true, false, List, map, filter, Option, None}
use Rattle.std.specs.Option.{option_map}
use Rattle.first_pass_attributes.specs.Attributes.{Attributes, last_or}
use Rattle.first_pass_places.specs.declared.attributes.AttributeKind.{AttributeKind}
use Rattle.first_pass_places.specs.declared.attributes.AttributeKind.TheVariants.{Id, Class, Key}
use Rattle.first_pass_places.specs.declared.attributes.AttributeRanges.{AttributeRanges}
use Rattle.first_pass_places.specs.InfoStrings.{bytes_in}

-- an attribute of this kind is an id (this project)
abbrev pub is_id : AttributeKind → Bool
is_id Id = true
is_id _ = false

-- an attribute of this kind is a class (this project)
abbrev pub is_class : AttributeKind → Bool
is_class Class = true
is_class _ = false

-- an attribute of this kind is a key, with or without a value (this project)
abbrev pub is_key : AttributeKind → Bool
is_key Key = true
is_key _ = false

-- the bytes of an id, a class or a key (this project)
abbrev pub name_at : List ℕ → AttributeRanges → List ℕ
name_at text place = bytes_in text place.name

-- the bytes of a key, and those of its value, if it has one (this project)
abbrev pub key_at : List ℕ → AttributeRanges → List ℕ × Option (List ℕ)
key_at text place = (name_at text place, option_map (bytes_in text) place.value)

-- the attributes written in these ranges: the last id, if there is one, and the classes and the keys in order (this project)
abbrev pub attributes_from_places : List ℕ → List AttributeRanges → Attributes
attributes_from_places text places = record {
  id = last_or None (map (name_at text) (filter (λ place. is_id place.kind) places));
  classes = map (name_at text) (filter (λ place. is_class place.kind) places);
  attrs = map (key_at text) (filter (λ place. is_key place.kind) places);
}
