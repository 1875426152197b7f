-- Facts on the names of blocks, and on the end of such a name.
use Rattle.std.proofs.Common.{◌≡◌, ◌↔◌, ℕ, ◌<◌, ◌≤◌, Bool, true, false, ◌==◌, ◌&&◌, ◌||◌, IsTrue, List, [], ◌∷◌, ◌++◌, length, take, drop, refl, sym, ap}
use Rattle.std.proofs.Common.{◌∙◌, arith, nat_lt, Contains, take-append-drop, length-take-le}
use Rattle.std.specs.List.{list_all, prefix_len}
use Rattle.std.specs.Char.{to_ascii_lowercase, is_ascii_alphanumeric}
use Rattle.std.proofs.lemmas.Bool.{and_from, and_parts}
use Rattle.std.proofs.lemmas.Bool.Decides.{nat_tests}
use Rattle.std.proofs.lemmas.List.{length-map}
use Rattle.std.proofs.lemmas.List.Sums.{AllPass-from_list_all}
use Rattle.first_pass_items.specs.Bytes.{solidus, greater_than}
use Rattle.first_pass_lines.specs.Lines.{is_white_or_line_end, begins}
use Rattle.first_pass_html.specs.Names.{in_lower_case, block_names, IsBlockName, IsLongestName}
use Rattle.first_pass_html.specs.Starts.{ends_block_name, HasBlockName}
use Rattle.first_pass_html.proofs.ListFacts.{prefix_all, front_size, front_of, rest_after}

-- a property of every text of a list
pub contained_passes : (p : List ℕ → Bool) (texts : List (List ℕ)) (bytes : List ℕ) → list_all p texts ≡ true → Contains texts bytes → p bytes ≡ true
contained_passes p texts bytes all (k, within, same) = rw same at (AllPass-from_list_all p texts all k bytes within)

-- the name of a block is not empty
pub name_some : (name : List ℕ) → IsBlockName name → 0 < length name
name_some name is =
    let some : nat_lt 0 (length (in_lower_case name)) ≡ true = contained_passes (λ other. nat_lt 0 (length other)) block_names (in_lower_case name) refl is in
    grind (arith, nat_tests, some, length-map name to_ascii_lowercase)

-- a property of all bytes of a name that is tested in lower case
pub all_in_lower_case : (p : ℕ → Bool)
    → ((b : ℕ) → p (to_ascii_lowercase b) ≡ true → p b ≡ true) → (name : List ℕ) → list_all p (in_lower_case name) ≡ true → list_all p name ≡ true
all_in_lower_case p lower [] h = refl
all_in_lower_case p lower (b ∷ bs) h =
    let both = and_parts _ (list_all p (in_lower_case bs)) h in
    and_from _ _ (lower b both.0) (all_in_lower_case p lower bs both.1)

-- the name of a block has only letters and digits, and none of these follows its end
block_name_alphanumeric : (name : List ℕ) → IsBlockName name → list_all is_ascii_alphanumeric name ≡ true
block_name_alphanumeric name is =
    all_in_lower_case is_ascii_alphanumeric (λ b h. grind (arith, nat_tests, h)) name
    (contained_passes (list_all is_ascii_alphanumeric) block_names (in_lower_case name) refl is)

ends_alphanumeric : (b : ℕ) (t : Bool) → (is_white_or_line_end b || b == greater_than) || (b == solidus && t) ≡ true → is_ascii_alphanumeric b ≡ false
ends_alphanumeric b t h = grind (arith, nat_tests, h)

no_more_name : (rest : List ℕ) → ends_block_name rest ≡ true → prefix_len is_ascii_alphanumeric rest ≡ 0
no_more_name [] h = refl
no_more_name (b ∷ bs) h = rw (ends_alphanumeric b (begins greater_than bs) h)

name_size : (bs : List ℕ) (h : HasBlockName bs) → prefix_len is_ascii_alphanumeric bs ≡ length h.name
name_size bs h = front_size is_ascii_alphanumeric bs h.name h.rest h.parts (block_name_alphanumeric h.name h.is_name) (no_more_name h.rest h.ends)

-- if the bytes begin with the name of a block that ends there, it is all leading letters and digits
pub name_found : (bs : List ℕ) (n : ℕ)
    → n ≡ prefix_len is_ascii_alphanumeric bs → HasBlockName bs → IsBlockName (take n bs) × (ends_block_name (drop n bs) ≡ true)
name_found bs n e h = grind (arith, name_size, front_of, rest_after)

-- if the bytes begin with the name of a block that ends there, it is the longest one at the start
longest_size : (bs : List ℕ) (n : ℕ) → IsLongestName bs n → 0 < n → (h : HasBlockName bs) → n ≡ length h.name
longest_size bs n found some h =
    let parts = take-append-drop n bs in
    let all = block_name_alphanumeric (take n bs) (found.is_name some) in
    let more = prefix_all is_ascii_alphanumeric (take n bs) (drop n bs) all in
    let whole : prefix_len is_ascii_alphanumeric (take n bs ++ drop n bs) ≡ length h.name = ap (prefix_len is_ascii_alphanumeric) parts ∙ name_size bs h in
    let size = length-take-le n bs found.within in
    let long = found.longest h.name h.rest h.parts h.is_name in
    omega arith

pub has_name_then : (bs : List ℕ) (n : ℕ) (ends : Bool) → IsLongestName bs n → 0 < n → ends ≡ ends_block_name (drop n bs) → IsTrue ends ↔ HasBlockName bs
has_name_then bs n ends found some end = (
  λ t. record { name = take n bs; rest = drop n bs; parts = sym (take-append-drop n bs); is_name = found.is_name some; ends = sym end ∙ t },
  λ h. end ∙ ap ends_block_name (rest_after n bs h.name h.rest h.parts (longest_size bs n found some h)) ∙ h.ends,
)

pub has_name_else : (bs : List ℕ) (n : ℕ) → IsLongestName bs n → n ≤ 0 → IsTrue (nat_lt 0 n) ↔ HasBlockName bs
has_name_else bs n found none = grind (arith, nat_tests, name_some)
