-- The other parts of the flat form, made one after the other.
use Rattle.std.proofs.Common.{◌≡◌, ℕ, suc, ◌+◌, Option, Some, None, List, [], ◌∷◌, ◌++◌, length, map, slice_get, unwrap_or, refl, ap, ◌∙◌, arith, flat_map}
use Rattle.first_pass_grammar.proofs.Common.{slice_get_past, HeadingIndex, Item, no_attributes, LinkEntry, Names, Tables}
use Rattle.first_pass_c.specs.FlatAttributes.{attributes_at, attributes_by, attribute_bytes, heading_index, listed}
use Rattle.first_pass_c.specs.FlatDefinitions.{definition_bytes, flat_definitions, label_entry}
use Rattle.first_pass_c.specs.FlatForm.{node_names, tree_names}
use Rattle.first_pass_c.specs.Appended.{AppendsAttributes, AppendsDefinitions}
use Rattle.first_pass_c.specs.Side.{AreSideTables}
use Rattle.first_pass_c.specs.declared.flat.attributes.NamedAttributes.{NamedAttributes}
use Rattle.first_pass_c.specs.declared.flat.definitions.NamedDefinitions.{NamedDefinitions}
use Rattle.first_pass_c.proofs.Appending.{definitions_more}

-- a list without a first element is empty
none_beyond : {X : Type 0} (xs : List X) (k : ℕ) → slice_get xs 0 ≡ None → slice_get xs k ≡ None
none_beyond [] k none = slice_get_past [] k (omega arith)
none_beyond (x ∷ xs) k none = cc

none_at : (names : Names) (ix : Option HeadingIndex) → slice_get names.headings 0 ≡ None → attributes_at names ix ≡ []
none_at names None none = refl
none_at names (Some ix) none = ap (λ o. listed (unwrap_or o no_attributes)) (none_beyond names.headings ix.0 none)

-- without attribute blocks no node names an attribute
pub no_attributes_named : (names : Names) (nodes : List (ℕ × Item)) → slice_get names.headings 0 ≡ None → flat_map (attributes_by names) nodes ≡ []
no_attributes_named names [] none = refl
no_attributes_named names (x ∷ nodes) none =
    ap (λ l. l ++ flat_map (attributes_by names) nodes) (none_at names (heading_index x.1.body) none) ∙ no_attributes_named names nodes none

definitions_counted : (at : ℕ) (es : List LinkEntry) → length (flat_definitions at es) ≡ length es
unfolding flat_definitions
definitions_counted at [] = refl
definitions_counted at (x ∷ es) = ap suc (definitions_counted (at + length (definition_bytes x)) es)

-- the attributes of all nodes are made, with their bytes after those that the nodes name
pub record AttributesMade (names : Names) (nodes : List (ℕ × Item)) (made : NamedAttributes) : Type 0 where
  pub old : NamedAttributes
  pub none : old.attributes.items ≡ []
  pub names_are : old.names.items ≡ node_names names nodes
  pub appended : AppendsAttributes old made (flat_map (attributes_by names) nodes)

-- the definitions of tables are made, the links first, with their bytes after these names
pub record DefinitionsMade (tables : Tables) (names : List ℕ) (linked made : NamedDefinitions) : Type 0 where
  pub old : NamedDefinitions
  pub none : old.definitions.items ≡ []
  pub names_are : old.names.items ≡ names
  pub links : AppendsDefinitions old linked tables.links
  pub footnotes : AppendsDefinitions linked made (map label_entry tables.footnotes)

-- the side tables are those of the flat form
pub side_made : (names : Names) (nodes : List (ℕ × Item)) (tables : Tables) (b : NamedAttributes) (d e : NamedDefinitions) (n links : ℕ)
    → AttributesMade names nodes b → DefinitionsMade tables b.names.items d e → n ≡ length (node_names names nodes) → links ≡ length d.definitions.items
    → AreSideTables (record { attributes = b.attributes; definitions = e.definitions; links = links; names = e.names; node_names = n }) names nodes tables
side_made names nodes tables b d e n links attributed defined n_is links_is =
    let h = attributed.appended in
    let c = defined.old in
    let both = definitions_more c d e tables.links (map label_entry tables.footnotes) defined.links defined.footnotes in
    let marks = flat_map (attributes_by names) nodes in
    let b_names : b.names.items ≡ tree_names names nodes = h.names ∙ ap (λ x. x ++ flat_map attribute_bytes marks) attributed.names_are in
    let start : c.names.items ≡ tree_names names nodes = defined.names_are ∙ b_names in
    record {
      attributes = h.attributes ∙ rw (attributed.none, attributed.names_are) refl;
      definitions = both.definitions ∙ rw (defined.none, start) refl;
      links = links_is ∙ ap length defined.links.definitions ∙ rw defined.none (definitions_counted (length c.names.items) tables.links);
      names_are = both.names ∙ rw start refl;
      node_names_are = n_is;
    }
