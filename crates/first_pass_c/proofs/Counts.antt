-- The length that each array needs for a flat form.
use Rattle.std.proofs.Common.{◌≡◌, ℕ, suc, ◌+◌, ◌≤◌, List, [], ◌∷◌, length, refl, sym, ap, subst, ◌∙◌, flat_map}
use Rattle.first_pass_items.specs.declared.item.Item.{Item}
use Rattle.first_pass_names.specs.TableEntries.{names_of}
use Rattle.first_pass_c.specs.FlatForm.{FlatForm}
use Rattle.first_pass_c.specs.FlatAttributes.{OneAttribute, attribute_bytes, attributes_by, flat_attributes}
use Rattle.first_pass_c.specs.FlatNodes.{first_place}
use Rattle.first_pass_c.specs.declared.reading.FlatCounts.{FlatCounts}
use Rattle.first_pass_c.specs.declared.reading.Parsed.{Parsed}
use Rattle.first_pass_c.specs.Parsed.{HasSides, form_of}
use Rattle.first_pass_c.specs.Reading.{counts_of}
use Rattle.first_pass_c.proofs.Filling.{records_counted}

-- a record for each attribute
attributes_counted : (at : ℕ) (xs : List OneAttribute) → length (flat_attributes at xs) ≡ length xs
unfolding flat_attributes
attributes_counted at [] = refl
attributes_counted at (x ∷ xs) = ap suc (attributes_counted (at + length (attribute_bytes x)) xs)

-- a tree that was read and its flat form have equally many nodes
pub tree_counted : (parsed : Parsed) (tree : List (ℕ × Item)) → tree ≡ parsed.tree.nodes → length tree ≡ length (form_of parsed).nodes
tree_counted parsed tree is = ap length is ∙ sym (records_counted (names_of parsed.allocs) first_place parsed.tree.nodes)

-- an array that is at least as long as its count has room for the nodes of the tree
pub tree_fits : (parsed : Parsed) (tree : List (ℕ × Item)) (counts : FlatCounts) (room : ℕ)
    → tree ≡ parsed.tree.nodes → counts ≡ counts_of (form_of parsed) → counts.nodes ≤ room → length tree ≤ room
tree_fits parsed tree counts room is counted fits = subst (λ n. n ≤ room) (ap (λ k. k.nodes) counted ∙ sym (tree_counted parsed tree is)) fits

-- the flat form of a tree has as many attributes as the nodes name
pub sides_counted : (parsed : Parsed) (tree : List (ℕ × Item)) → HasSides parsed → tree ≡ parsed.tree.nodes
    → length parsed.side.attributes.items ≡ length (flat_map (attributes_by (names_of parsed.allocs)) tree)
sides_counted parsed tree sides is =
    ap length sides.attributes ∙ attributes_counted _ _ ∙ sym (ap (λ nodes. length (flat_map (attributes_by (names_of parsed.allocs)) nodes)) is)

-- counts are equal if each number is
pub counted : (form : FlatForm) (n a d l m : ℕ) → n ≡ length form.nodes → a ≡ length form.attributes → d ≡ length form.definitions → l ≡ form.links
    → m ≡ length form.names → ◌≡◌ {A = FlatCounts} (record { nodes = n; attributes = a; definitions = d; links = l; string_bytes = m }) (counts_of form)
counted form n a d l m nodes attributes definitions links names = cc
