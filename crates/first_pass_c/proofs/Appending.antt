-- Parts that are appended one after the other.
use Rattle.std.proofs.Common.{◌≡◌, ℕ, ◌+◌, ◌<◌, List, [], ◌∷◌, ◌++◌, length, map, take, get_or, refl, sym, ap, subst, ◌∙◌, append_assoc, length-append}
use Rattle.std.proofs.Common.{add-zero, unwrap_or, arith, is_some, flat_map, append-nil}
use Rattle.first_pass_grammar.proofs.Common.{map-append, take_more, LinkEntry}
use Rattle.std.proofs.lemmas.Grind.{flat_map-append}
use Rattle.first_pass_c.specs.Kinds.{flag}
use Rattle.first_pass_c.specs.FlatAttributes.{OneAttribute, attribute_bytes, flat_attribute, flat_attributes}
use Rattle.first_pass_c.specs.FlatDefinitions.{definition_bytes, flat_definition, flat_definitions}
use Rattle.first_pass_c.specs.Appended.{AppendsAttributes, AppendsDefinitions}
use Rattle.first_pass_c.specs.declared.flat.attributes.NamedAttributes.{NamedAttributes}
use Rattle.first_pass_c.specs.declared.flat.names.NameRange.{NameRange}
use Rattle.first_pass_c.specs.declared.flat.records.FlatAttribute.{FlatAttribute}
use Rattle.first_pass_c.specs.declared.flat.records.FlatDefinition.{FlatDefinition}
use Rattle.first_pass_c.specs.declared.flat.definitions.NamedDefinitions.{NamedDefinitions}

-- offsets after two runs of bytes
two_runs : (at : ℕ) (x y : List ℕ) → (at + length x) + length y ≡ at + length (x ++ y)
two_runs at x y = omega (arith, length-append x y)

pub attributes_after : (at : ℕ) (xs ys : List OneAttribute)
    → flat_attributes at (xs ++ ys) ≡ flat_attributes at xs ++ flat_attributes (at + length (flat_map attribute_bytes xs)) ys
unfolding flat_attributes
attributes_after at [] ys = ap (λ n. flat_attributes n ys) (sym (add-zero at))
attributes_after at (x ∷ xs) ys =
    rw (attributes_after (at + length (attribute_bytes x)) xs ys, two_runs at (attribute_bytes x) (flat_map attribute_bytes xs)) refl

pub definitions_after : (at : ℕ) (xs ys : List LinkEntry)
    → flat_definitions at (xs ++ ys) ≡ flat_definitions at xs ++ flat_definitions (at + length (flat_map definition_bytes xs)) ys
unfolding flat_definitions
definitions_after at [] ys = ap (λ n. flat_definitions n ys) (sym (add-zero at))
definitions_after at (x ∷ xs) ys =
    rw (definitions_after (at + length (definition_bytes x)) xs ys, two_runs at (definition_bytes x) (flat_map definition_bytes xs)) refl

-- lists that grow by two steps
pub two_steps : {X : Type 0} → (a b c x y z : List X) → c ≡ b ++ y → b ≡ a ++ x → x ++ y ≡ z → c ≡ a ++ z
two_steps a b c x y z e f g = e ∙ ap (λ l. l ++ y) f ∙ append_assoc a x y ∙ ap (λ l. a ++ l) g

-- the length of the names after the first step
names_length : (a b : List ℕ) (x : List ℕ) → b ≡ a ++ x → length a + length x ≡ length b
names_length a b x e = sym (ap length e ∙ length-append a x)

pub attributes_none : (a : NamedAttributes) → AppendsAttributes a a []
unfolding flat_attributes
attributes_none a = record { attributes = sym (append-nil a.attributes.items); names = sym (append-nil a.names.items) }

pub attributes_more : (a b c : NamedAttributes) (xs ys : List OneAttribute) → AppendsAttributes a b xs → AppendsAttributes b c ys
    → AppendsAttributes a c (xs ++ ys)
attributes_more a b c xs ys h k = record {
  attributes = two_steps _ _ _ _ _ _ k.attributes h.attributes
      (sym (attributes_after (length a.names.items) xs ys
      ∙ ap (λ n. flat_attributes (length a.names.items) xs ++ flat_attributes n ys) (names_length _ _ _ h.names)));
  names = two_steps _ _ _ _ _ _ k.names h.names (sym (flat_map-append attribute_bytes xs ys));
}

-- a text is appended to the names: its bytes follow them, in this range
pub record TextAppended (old new text : List ℕ) (range : NameRange) : Type 0 where
  pub start : range.start ≡ length old
  pub count : range.length ≡ length text
  pub names : new ≡ old ++ text

-- the same for a text that is equal to the appended one
pub text_appended : (old new text other : List ℕ) (range : NameRange) → text ≡ other → range.start ≡ length old → range.length ≡ length text
    → new ≡ old ++ text → TextAppended old new other range
text_appended old new text other range same start count names =
    record { start = start; count = count ∙ ap length same; names = names ∙ ap (λ x. old ++ x) same }

-- the name and the value of an attribute are appended one after the other
pub record AttributeNamed (old new : List ℕ) (x : OneAttribute) (name value : NameRange) : Type 0 where
  pub between : List ℕ
  pub name_is : TextAppended old between x.name name
  pub value_is : TextAppended between new (unwrap_or x.value []) value

-- the record of an attribute, from the ranges of its name and its value
abbrev pub attribute_at : NameRange → NameRange → ℕ → ℕ → FlatAttribute
attribute_at name value has kind = record {
  name = name.start;
  name_length = name.length;
  value = value.start;
  value_length = value.length;
  has_value = has;
  kind = kind;
}

-- an attribute is appended, from its parts
pub attribute_appended : (a c : NamedAttributes) (x : OneAttribute) (name value : NameRange) (has kind : ℕ)
    → AttributeNamed a.names.items c.names.items x name value → has ≡ flag (is_some x.value) → kind ≡ x.kind
    → c.attributes.items ≡ a.attributes.items ++ attribute_at name value has kind ∷ [] → AppendsAttributes a c (x ∷ [])
unfolding flat_attributes
attribute_appended a c x name value has kind named has_is kind_is is =
    let at = length a.names.items in
    let n = named.name_is in
    let v = named.value_is in
    let name_at = n.start in
    let name_length = n.count in
    let value_at : value.start ≡ at + length x.name = v.start ∙ ap length n.names ∙ length-append a.names.items x.name in
    let value_length = v.count in
    let same : attribute_at name value has kind ≡ flat_attribute at x = cc in
    record {
      attributes = is ∙ ap (λ r. a.attributes.items ++ r ∷ []) same;
      names = two_steps _ _ _ _ _ _ v.names n.names (sym (append-nil (attribute_bytes x)));
    }

pub definitions_none : (a : NamedDefinitions) → AppendsDefinitions a a []
unfolding flat_definitions
definitions_none a = record { definitions = sym (append-nil a.definitions.items); names = sym (append-nil a.names.items) }

pub definitions_more : (a b c : NamedDefinitions) (xs ys : List LinkEntry) → AppendsDefinitions a b xs → AppendsDefinitions b c ys
    → AppendsDefinitions a c (xs ++ ys)
definitions_more a b c xs ys h k = record {
  definitions = two_steps _ _ _ _ _ _ k.definitions h.definitions
      (sym (definitions_after (length a.names.items) xs ys
      ∙ ap (λ n. flat_definitions (length a.names.items) xs ++ flat_definitions n ys) (names_length _ _ _ h.names)));
  names = two_steps _ _ _ _ _ _ k.names h.names (sym (flat_map-append definition_bytes xs ys));
}

-- the label, the destination and the title of a definition are appended one after the other
pub record DefinitionNamed (old new : List ℕ) (e : LinkEntry) (label dest title : NameRange) : Type 0 where
  pub after_label : List ℕ
  pub after_dest : List ℕ
  pub label_is : TextAppended old after_label e.label label
  pub dest_is : TextAppended after_label after_dest e.dest dest
  pub title_is : TextAppended after_dest new (unwrap_or e.title []) title

-- the record of a definition, from the ranges of its label, its destination and its title
abbrev pub definition_at : LinkEntry → NameRange → NameRange → NameRange → ℕ → FlatDefinition
definition_at e label dest title has = record {
  start = e.start;
  «end» = e.«end»;
  label = label.start;
  label_length = label.length;
  destination = dest.start;
  destination_length = dest.length;
  title = title.start;
  title_length = title.length;
  has_title = has;
  label_end = e.places.label_end;
  destination_start = e.places.dest_start;
  destination_end = e.places.dest_end;
  title_start = e.places.title_start;
}

-- a definition is appended, from its parts
pub definition_appended : (a c : NamedDefinitions) (e : LinkEntry) (label dest title : NameRange) (has : ℕ)
    → DefinitionNamed a.names.items c.names.items e label dest title → has ≡ flag (is_some e.title)
    → c.definitions.items ≡ a.definitions.items ++ definition_at e label dest title has ∷ [] → AppendsDefinitions a c (e ∷ [])
unfolding flat_definitions
definition_appended a c e label dest title has named has_is is =
    let at = length a.names.items in
    let l = named.label_is in
    let d = named.dest_is in
    let t = named.title_is in
    let label_at = l.start in
    let label_length = l.count in
    let dest_at : dest.start ≡ at + length e.label = d.start ∙ ap length l.names ∙ length-append a.names.items e.label in
    let dest_length = d.count in
    let title_at : title.start ≡ (at + length e.label) + length e.dest =
    t.start ∙ ap length d.names ∙ length-append named.after_label e.dest ∙ ap (λ n. n + length e.dest) (sym d.start ∙ dest_at) in
    let title_length = t.count in
    let same : definition_at e label dest title has ≡ flat_definition at e = cc in
    record {
      definitions = is ∙ ap (λ r. a.definitions.items ++ r ∷ []) same;
      names = two_steps _ _ _ _ _ _ t.names (two_steps _ _ _ _ _ _ d.names l.names refl) (sym (append-nil (definition_bytes e)));
    }

-- Some of all definitions are appended, and these are the others.
pub record IsPartlyWritten (a b : NamedDefinitions) (others all : List LinkEntry) : Type 0 where
  pub so_far : List LinkEntry
  pub appended : AppendsDefinitions a b so_far
  pub together : so_far ++ others ≡ all

pub none_so_far : (a : NamedDefinitions) (all others : List LinkEntry) → others ≡ all → IsPartlyWritten a a others all
none_so_far a all others e = record { so_far = []; appended = definitions_none a; together = e }

pub one_more : (a b c : NamedDefinitions) (x : LinkEntry) (others rest all : List LinkEntry) → rest ≡ x ∷ others → AppendsDefinitions b c (x ∷ [])
    → IsPartlyWritten a b rest all → IsPartlyWritten a c others all
one_more a b c x others rest all e h w = record {
  so_far = w.so_far ++ x ∷ [];
  appended = definitions_more a b c w.so_far (x ∷ []) w.appended h;
  together = append_assoc w.so_far (x ∷ []) others ∙ ap (λ l. w.so_far ++ l) (sym e) ∙ w.together;
}

pub all_appended : (a b : NamedDefinitions) (others all : List LinkEntry) → others ≡ [] → IsPartlyWritten a b others all → AppendsDefinitions a b all
all_appended a b others all e w =
    subst (AppendsDefinitions a b) (sym (append-nil w.so_far) ∙ ap (λ l. w.so_far ++ l) (sym e) ∙ w.together) w.appended

-- one more element of a list, mapped
pub twice_more : {X Y Z : Type 0} (g : Y → Z) (f : X → Y) (xs : List X) (i : ℕ) (d : X) → i < length xs
    → map g (map f (take i xs)) ++ g (f (get_or xs i d)) ∷ [] ≡ map g (map f (take (i + 1) xs))
twice_more g f xs i d h = simp (take_more xs i d h, map-append)

pub flat_more : {X Y : Type 0} (f : X → List Y) (xs : List X) (i : ℕ) (d : X) → i < length xs
    → flat_map f (take i xs) ++ f (get_or xs i d) ≡ flat_map f (take (i + 1) xs)
flat_more f xs i d h = simp (take_more xs i d h, flat_map-append, append-nil)
