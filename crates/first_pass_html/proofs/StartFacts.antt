-- Facts on the tests of the start conditions 1 to 6 of HTML blocks.
use Rattle.std.proofs.Common.{◌↔◌, ℕ, IsTrue, List, take, drop, refl, sym, take-append-drop}
use Rattle.std.specs.List.{prefix_len}
use Rattle.std.specs.Char.{is_ascii_alphanumeric}
use Rattle.std.proofs.lemmas.Bool.{and_parts, and_from}
use Rattle.std.proofs.lemmas.Cmp.{nat_list_eq_equiv}
use Rattle.std.proofs.lemmas.Map.Views.{Contains-from_any, list_any-from_Contains}
use Rattle.std.proofs.lemmas.Slice.Eq.{bytes_eq-Decides}
use Rattle.first_pass_html.specs.Names.{in_lower_case, block_names, IsBlockName, is_block_name}
use Rattle.first_pass_html.specs.Starts.{HasBlockName, begins_block_name}
use Rattle.first_pass_html.proofs.NameFacts.{name_found}

-- the test of a name accepts exactly the names of blocks
pub block_name_iff : (name : List ℕ) → IsTrue (is_block_name name) ↔ IsBlockName name
unfolding is_block_name
block_name_iff name = (
  Contains-from_any (λ x y. (bytes_eq-Decides x y).0) (in_lower_case name) block_names,
  list_any-from_Contains nat_list_eq_equiv (in_lower_case name) block_names,
)

-- the test of a name and its end accepts exactly the bytes that begin with the name of a block and its end
pub block_start_iff : (bs : List ℕ) → IsTrue (begins_block_name bs) ↔ HasBlockName bs
unfolding begins_block_name
block_start_iff bs =
    let n : ℕ = prefix_len is_ascii_alphanumeric bs in
    let name = block_name_iff (take n bs) in (
      λ t. let both = and_parts _ _ t in
          record { name = take n bs; rest = drop n bs; parts = sym (take-append-drop n bs); is_name = name.0 both.0; ends = both.1 },
      λ h. let found = name_found bs n refl h in and_from _ _ (name.1 found.0) found.1,
    )
