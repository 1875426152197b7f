-- The flat form read back.
use Rattle.std.proofs.Common.{◌≡◌, ℕ, ◌+◌, Option, Some, None, List, [], ◌∷◌, ◌++◌, length, map, take, drop, unwrap_or, refl, sym, ap, ◌∙◌, cond}
use Rattle.std.proofs.Common.{append_assoc, is_some, flat_map, append-nil, drop-drop}
use Rattle.first_pass_grammar.proofs.Common.{take-append_seam, drop-append_seam, Item, Names, Named, AreNamed, read_nodes, LinkEntry, Tables}
use Rattle.first_pass_c.specs.Kinds.{flag}
use Rattle.first_pass_c.specs.FlatAttributes.{OneAttribute, attribute_bytes, attributes_by, attributes_of_body, flat_attributes}
use Rattle.first_pass_c.specs.FlatDefinitions.{definition_bytes, entries_of, flat_definitions, label_entry}
use Rattle.first_pass_c.specs.FlatNodes.{flat_nodes, first_place, name_by, name_of, place_after}
use Rattle.first_pass_c.specs.FlatForm.{FlatForm, flat_form, node_names, tree_names}
use Rattle.first_pass_c.specs.Law.{DeterminesNodes, DeterminesTables}
use Rattle.first_pass_c.specs.declared.flat.kinds.FlatValues.{FlatValues}
use Rattle.first_pass_c.specs.declared.flat.nodes.FlatPlace.{FlatPlace}
use Rattle.first_pass_c.specs.declared.flat.records.FlatAttribute.{FlatAttribute}
use Rattle.first_pass_c.specs.declared.flat.records.FlatDefinition.{FlatDefinition}
use Rattle.first_pass_c.specs.declared.flat.records.FlatNode.{FlatNode}
use Rattle.first_pass_c.proofs.Bodies.{is_set, body_from, body_kept, named_from, named_kept, bytes_named, name_kept, attributes_counted, attributes_kept}

-- a list from an offset on, without its first part
past_first : {X : Type 0} (whole first rest : List X) (at : ℕ) → drop at whole ≡ first ++ rest → drop (at + length first) whole ≡ rest
past_first whole first rest at h = sym (drop-drop (length first) at whole) ∙ ap (drop (length first)) h ∙ drop-append_seam first rest

values_in : FlatNode → FlatValues
values_in r = record { number = r.number; first = r.first; second = r.second; third = r.third }

-- a node from its record, among these bytes and these attributes
node_from : List ℕ → List OneAttribute → FlatNode → ℕ × (Item × Option Named)
node_from bytes xs r = (
  r.depth,
  (
    record { start = r.start; «end» = r.«end»; body = body_from r.kind (values_in r) },
    named_from r.kind r.second (take (bytes_named r.kind r.string_length) (drop r.string_start bytes)) (take (attributes_counted r.kind r.string_length) (drop r.string_start xs)),
  ),
)

nodes_kept : (names : Names) (at : FlatPlace) (nodes : List (ℕ × Item)) (bytes others : List ℕ) (xs more : List OneAttribute)
    → drop at.name bytes ≡ flat_map (name_by names) nodes ++ others → drop at.attribute xs ≡ flat_map (attributes_by names) nodes ++ more
    → AreNamed names nodes → map (node_from bytes xs) (flat_nodes names at nodes) ≡ read_nodes names nodes
unfolding flat_nodes node_from values_in AreNamed
nodes_kept names at [] bytes others xs more h k named = refl
nodes_kept names at (n ∷ nodes) bytes others xs more h k named =
    let body = n.1.body in
    let name : drop at.name bytes ≡ name_of names body ++ (flat_map (name_by names) nodes ++ others) =
    h ∙ append_assoc (name_of names body) (flat_map (name_by names) nodes) others in
    let given : drop at.attribute xs ≡ attributes_of_body names body ++ (flat_map (attributes_by names) nodes ++ more) =
    k ∙ append_assoc (attributes_of_body names body) (flat_map (attributes_by names) nodes) more in
    let rest = nodes_kept names (place_after names body at) nodes bytes others xs more (past_first _ _ _ _ name) (past_first _ _ _ _ given) named.1 in
    rw (body_kept body, name_kept names at body bytes _ name, attributes_kept names at body xs _ given, named_kept names body named.0, rest) refl

-- a text that may be missing, from its mark
text_from : ℕ → List ℕ → Option (List ℕ)
text_from there bytes = cond (is_set there) (Some bytes) None

text_kept : (o : Option (List ℕ)) → text_from (flag (is_some o)) (unwrap_or o []) ≡ o
unfolding text_from
text_kept None = refl
text_kept _ = refl

-- an attribute from its record, among these bytes
attribute_from : List ℕ → FlatAttribute → OneAttribute
attribute_from bytes r =
    record { kind = r.kind; name = take r.name_length (drop r.name bytes); value = text_from r.has_value (take r.value_length (drop r.value bytes)) }

attributes_back : (at : ℕ) (xs : List OneAttribute) (bytes others : List ℕ) → drop at bytes ≡ flat_map attribute_bytes xs ++ others
    → map (attribute_from bytes) (flat_attributes at xs) ≡ xs
unfolding flat_attributes attribute_from
attributes_back at [] bytes others h = refl
attributes_back at (x ∷ xs) bytes others h =
    let v = unwrap_or x.value [] in
    let later = flat_map attribute_bytes xs ++ others in
    let name : drop at bytes ≡ x.name ++ (v ++ later) = h ∙ simp append_assoc in
    let value = past_first bytes x.name (v ++ later) at name in
    let rest = attributes_back (at + length (attribute_bytes x)) xs bytes others
    (past_first bytes (attribute_bytes x) later at (h ∙ append_assoc (attribute_bytes x) (flat_map attribute_bytes xs) others)) in
    rw (name, value, take-append_seam x.name (v ++ later), take-append_seam v later, text_kept x.value, rest) refl

-- a definition from its record, among these bytes
definition_from : List ℕ → FlatDefinition → LinkEntry
definition_from bytes r = record {
  label = take r.label_length (drop r.label bytes);
  dest = take r.destination_length (drop r.destination bytes);
  title = text_from r.has_title (take r.title_length (drop r.title bytes));
  start = r.start;
  «end» = r.«end»;
  places = record { label_end = r.label_end; dest_start = r.destination_start; dest_end = r.destination_end; title_start = r.title_start };
}

definitions_back : (at : ℕ) (es : List LinkEntry) (bytes others : List ℕ) → drop at bytes ≡ flat_map definition_bytes es ++ others
    → map (definition_from bytes) (flat_definitions at es) ≡ es
unfolding flat_definitions definition_from
definitions_back at [] bytes others h = refl
definitions_back at (x ∷ es) bytes others h =
    let t = unwrap_or x.title [] in
    let later = flat_map definition_bytes es ++ others in
    let label : drop at bytes ≡ x.label ++ (x.dest ++ (t ++ later)) = h ∙ simp append_assoc in
    let dest = past_first bytes x.label (x.dest ++ (t ++ later)) at label in
    let title = past_first bytes x.dest (t ++ later) (at + length x.label) dest in
    let rest = definitions_back (at + length (definition_bytes x)) es bytes others
    (past_first bytes (definition_bytes x) later at (h ∙ append_assoc (definition_bytes x) (flat_map definition_bytes es) others)) in
    rw (
      label,
      dest,
      title,
      take-append_seam x.label (x.dest ++ (t ++ later)),
      take-append_seam x.dest (t ++ later),
      take-append_seam t later,
      text_kept x.title,
      rest,
    ) refl

-- the whole form read back
attribute_list : FlatForm → List OneAttribute
attribute_list f = map (attribute_from f.names) f.attributes

tree_read : FlatForm → List (ℕ × (Item × Option Named))
tree_read f = map (node_from f.names (attribute_list f)) f.nodes

entries_read : FlatForm → List LinkEntry
entries_read f = map (definition_from f.names) f.definitions

tables_read : FlatForm → Tables
tables_read f = record { links = take f.links (entries_read f); footnotes = map (λ (e : LinkEntry). e.label) (drop f.links (entries_read f)) }

tree_back : (names : Names) (nodes : List (ℕ × Item)) (tables : Tables) → AreNamed names nodes
    → tree_read (flat_form names nodes tables) ≡ read_nodes names nodes
unfolding tree_read attribute_list
tree_back names nodes tables named =
    let attributes = flat_map (attributes_by names) nodes in
    let definitions = flat_map definition_bytes (entries_of tables) in
    let parts = append_assoc (node_names names nodes) (flat_map attribute_bytes attributes) definitions in
    let given = attributes_back (length (node_names names nodes)) attributes (flat_form names nodes tables).names definitions
    (ap (drop (length (node_names names nodes))) parts ∙ drop-append_seam (node_names names nodes) _) in
    nodes_kept names first_place nodes (flat_form names nodes tables).names _ (attribute_list (flat_form names nodes tables)) [] parts
    (given ∙ sym (append-nil attributes)) named

entries_back : (names : Names) (nodes : List (ℕ × Item)) (tables : Tables) → entries_read (flat_form names nodes tables) ≡ entries_of tables
unfolding entries_read
entries_back names nodes tables =
    let definitions = flat_map definition_bytes (entries_of tables) in
    definitions_back (length (tree_names names nodes)) (entries_of tables) (flat_form names nodes tables).names []
    (drop-append_seam (tree_names names nodes) definitions ∙ sym (append-nil definitions))

labels_kept : (labels : List (List ℕ)) → map (λ (e : LinkEntry). e.label) (map label_entry labels) ≡ labels
labels_kept [] = refl
labels_kept (x ∷ xs) = ap (λ l. x ∷ l) (labels_kept xs)

tables_back : (names : Names) (nodes : List (ℕ × Item)) (tables : Tables) → tables_read (flat_form names nodes tables) ≡ tables
unfolding tables_read
tables_back names nodes tables =
    let links = take-append_seam tables.links (map label_entry tables.footnotes) in
    let footnotes = drop-append_seam tables.links (map label_entry tables.footnotes) in
    rw (entries_back names nodes tables, links, footnotes, labels_kept tables.footnotes) refl

pub nodes_determined : DeterminesNodes
nodes_determined m n f g t u named_f named_g e = sym (tree_back m f t named_f) ∙ ap tree_read e ∙ tree_back n g u named_g

pub tables_determined : DeterminesTables
tables_determined m n f g t u e = sym (tables_back m f t) ∙ ap tables_read e ∙ tables_back n g u
