-- Facts on the longest of some names at the start of the bytes.
use Rattle.std.proofs.Common.{◌≡◌, ◌↔◌, IsTrue, ℕ, ◌<◌, ◌≤◌, nat_lt, inl, inr, Bool, true, false, true≢false, not, ◌==◌, ◌&&◌, ◌||◌, List, [], ◌∷◌, ◌++◌}
use Rattle.std.proofs.Common.{length, take, get_or, bytes_eq, refl, sym, ap, ◌∙◌, subst, arith, append-nil, Contains, eqb-true, length-take}
use Rattle.std.specs.List.{list_all, list_any}
use Rattle.std.specs.Char.{to_ascii_lowercase}
use Rattle.std.proofs.lemmas.Bool.{and_parts, cases_lt, cond_both, or_cases}
use Rattle.std.proofs.lemmas.Bool.Decides.{Decides-eqb, nat_tests}
use Rattle.std.proofs.lemmas.List.{length-map, take-map, take-append-le}
use Rattle.std.proofs.lemmas.Map.Views.{Contains-from_any}
use Rattle.std.proofs.Math.Seq.{take-length}
use Rattle.std.proofs.lemmas.Slice.Eq.{bytes_eq-Decides}
use Rattle.first_pass_lines.specs.Lines.{begins}
use Rattle.first_pass_html.specs.Names.{in_lower_case, block_names, IsBlockName, begins_with_name, first_name_len, IsLongestName}
use Rattle.first_pass_html.proofs.ListFacts.{front_of}
use Rattle.first_pass_html.proofs.NameFacts.{contained_passes, name_some}

-- equal names
same_from : (v w : List ℕ) → bytes_eq v w ≡ true → v ≡ w
same_from v w h = (bytes_eq-Decides v w).0 h

eq_from : (v w : List ℕ) → v ≡ w → bytes_eq v w ≡ true
eq_from v w e = (bytes_eq-Decides v w).1 e

pub same_length : (v w : List ℕ) → in_lower_case v ≡ in_lower_case w → length v ≡ length w
same_length v w same = sym (length-map v to_ascii_lowercase) ∙ ap length same ∙ length-map w to_ascii_lowercase

-- facts on a name at the start of the bytes
pub front_within : (name bs : List ℕ) → begins_with_name name bs ≡ true → length name ≤ length bs
front_within name bs h =
    let same = same_length (take (length name) bs) name (same_from _ _ h) in
    omega (arith, length-take (length name) bs)

front_stands : (name bs front rest : List ℕ) → bs ≡ front ++ rest → in_lower_case front ≡ in_lower_case name → begins_with_name name bs ≡ true
front_stands name bs front rest parts same = grind (arith, eq_from, front_of, same_length)

-- all these names are names of blocks
abbrev all_names : List (List ℕ) → Bool
all_names names = list_all (λ name. list_any (bytes_eq (in_lower_case name)) block_names) names

-- the first name at the start of the bytes is a name of a block
found_name : (names : List (List ℕ)) (bs : List ℕ) → all_names names ≡ true
    → (first_name_len names bs ≤ length bs) × (0 < first_name_len names bs → IsBlockName (take (first_name_len names bs) bs))
unfolding first_name_len
found_name [] bs all = (omega arith, λ some. absurd (omega arith))
found_name (name ∷ names) bs all =
    let both = and_parts _ (all_names names) all in
    cond_both (begins_with_name name bs) _ _ (λ n. (n ≤ length bs) × (0 < n → IsBlockName (take n bs)))
    (λ is. (
      front_within name bs is,
      λ some. subst (Contains block_names) (sym (same_from _ _ is)) (Contains-from_any same_from (in_lower_case name) block_names both.0),
    ))
    (λ isnt. found_name names bs both.1)

-- no name is the beginning of a later one
abbrev longer_first : List (List ℕ) → Bool
longer_first [] = true
longer_first (name ∷ names) = list_all (λ other. not (bytes_eq (in_lower_case name) (take (length name) (in_lower_case other)))) names && longer_first names

is_one_of : List (List ℕ) → List ℕ → Bool
is_one_of names name = list_any (λ other. bytes_eq (in_lower_case name) (in_lower_case other)) names

passes_one : (p : List ℕ → Bool) (name : List ℕ) (names : List (List ℕ))
    → list_all (λ other. p (in_lower_case other)) names ≡ true → is_one_of names name ≡ true → p (in_lower_case name) ≡ true
unfolding is_one_of
passes_one p name [] all one = absurd (true≢false (sym one))
passes_one p name (other ∷ names) all one =
    let both = and_parts (p (in_lower_case other)) _ all in
    elim (or_cases _ _ one) [ inl same ↦ ap p (same_from _ _ same) ∙ both.0 | inr more ↦ passes_one p name names both.1 more ]

-- no name at the start of the bytes is therefore longer
none_longer : (name bs front rest : List ℕ) (names : List (List ℕ)) → begins_with_name name bs ≡ true → bs ≡ front ++ rest
    → list_all (λ other. not (bytes_eq (in_lower_case name) (take (length name) (in_lower_case other)))) names ≡ true → is_one_of names front ≡ true
    → length front ≤ length name
none_longer name bs front rest names is parts all one = elim (cases_lt (length name) (length front)) [
  | inl longer ↦ (
      let same : in_lower_case name ≡ take (length name) (in_lower_case front) =
      sym (same_from _ _ is) ∙ ap (λ xs. in_lower_case (take (length name) xs)) parts
      ∙ ap in_lower_case (take-append-le (length name) front rest (omega arith)) ∙ sym (take-map to_ascii_lowercase (length name) front) in
      let differs = passes_one (λ other. not (bytes_eq (in_lower_case name) (take (length name) other))) front names all one in
      absurd (true≢false (sym differs ∙ ap not (eq_from _ _ same))))
  | inr shorter ↦ shorter
]

found_longest : (names : List (List ℕ)) (bs front rest : List ℕ)
    → longer_first names ≡ true → bs ≡ front ++ rest → is_one_of names front ≡ true → length front ≤ first_name_len names bs
unfolding is_one_of first_name_len
found_longest [] bs front rest longer parts one = absurd (true≢false (sym one))
found_longest (name ∷ names) bs front rest longer parts one = elim (or_cases _ _ one) [
  | inl same ↦ (
      let e = same_from _ _ same in
      rw (front_stands name bs front rest parts e) (omega (arith, same_length front name e)))
  | inr more ↦ (
      let both = and_parts _ (longer_first names) longer in
      cond_both (begins_with_name name bs) _ _ (λ n. length front ≤ n) (λ is. none_longer name bs front rest names is parts both.0 more)
      (λ isnt. found_longest names bs front rest both.1 parts more))
]

-- the names include all names of blocks that begin with the letter
abbrev has_all : ℕ → List (List ℕ) → Bool
has_all c names = list_all (λ name. not (begins c name) || list_any (λ other. bytes_eq name (in_lower_case other)) names) block_names

abbrev pub is_group : ℕ → List (List ℕ) → Bool
is_group c names = all_names names && (longer_first names && has_all c names)

-- a name of a block that begins with the letter is one of the names
group_has : (c : ℕ) (names : List (List ℕ)) (front : List ℕ)
    → has_all c names ≡ true → IsBlockName front → begins c (in_lower_case front) ≡ true → is_one_of names front ≡ true
unfolding is_one_of
group_has c names front all block letter = rw letter at (contained_passes
    (λ name. not (begins c name) || list_any (λ other. bytes_eq name (in_lower_case other)) names) block_names (in_lower_case front) all block)

group_at : (c : ℕ) (names : List (List ℕ)) (b : ℕ) (bs front rest : List ℕ) → longer_first names ≡ true → has_all c names ≡ true → to_ascii_lowercase b ≡ c
    → b ∷ bs ≡ front ++ rest → IsBlockName front → length front ≤ first_name_len names (b ∷ bs)
group_at c names b bs [] rest longer all letter parts block = omega arith
group_at c names b bs (d ∷ front) rest longer all letter parts block =
    let same : d ≡ b = cc in
    let begun : begins c (in_lower_case (d ∷ front)) ≡ true = (Decides-eqb (to_ascii_lowercase d) c).1 (ap to_ascii_lowercase same ∙ letter) in
    found_longest names (b ∷ bs) (d ∷ front) rest longer parts (group_has c names (d ∷ front) all block begun)

-- the first of them at the start of the bytes is the longest name of a block there
pub group_longest : (c : ℕ) (names : List (List ℕ)) (bs : List ℕ) (letter n : ℕ)
    → 1 ≤ length bs → letter ≡ to_ascii_lowercase (get_or bs 0 0) → letter ≡ c → n ≡ first_name_len names bs → is_group c names ≡ true → IsLongestName bs n
group_longest c names [] letter n some lower is found group = absurd (omega arith)
group_longest c names (b ∷ bs) letter n some lower is found group = grind (arith, and_parts, found_name, group_at)

-- the first letters of the names of blocks
abbrev pub name_letters : List ℕ
name_letters = 97 ∷ 98 ∷ 99 ∷ 100 ∷ 102 ∷ 104 ∷ 105 ∷ 108 ∷ 109 ∷ 110 ∷ 111 ∷ 112 ∷ 115 ∷ 116 ∷ 117 ∷ []

-- no name of a block begins with another letter
other_at : (b : ℕ) (bs front rest : List ℕ)
    → list_any (λ c. to_ascii_lowercase b == c) name_letters ≡ false → b ∷ bs ≡ front ++ rest → IsBlockName front → length front ≤ 0
other_at b bs [] rest none parts block = omega arith
other_at b bs (d ∷ front) rest none parts block =
    let same : d ≡ b = cc in
    let begun : list_any (λ c. to_ascii_lowercase d == c) name_letters ≡ true =
    contained_passes (λ name. list_any (λ c. begins c name) name_letters) block_names (in_lower_case (d ∷ front)) refl block in
    absurd (true≢false (sym begun ∙ ap (λ a. list_any (λ c. to_ascii_lowercase a == c) name_letters) same ∙ none))

pub other_longest : (bs : List ℕ) (letter : ℕ)
    → 1 ≤ length bs → letter ≡ to_ascii_lowercase (get_or bs 0 0) → list_any (λ c. letter == c) name_letters ≡ false → IsLongestName bs 0
other_longest [] letter some lower none = absurd (omega arith)
other_longest (b ∷ bs) letter some lower none = grind (arith, other_at)

-- the bytes are the name of a block exactly if the longest one at their start has their length
pub whole_name : (name : List ℕ) (n : ℕ) → IsLongestName name n → 0 < n → IsTrue (n == length name) ↔ IsBlockName name
whole_name name n found some = (
  λ t. let size = eqb-true n (length name) t in subst IsBlockName (ap (λ k. take k name) size ∙ take-length name) (found.is_name some),
  λ is. let long = found.longest name [] (sym (append-nil name)) is in let within = found.within in (Decides-eqb n (length name)).1 (omega arith),
)

pub no_name : (name : List ℕ) (n : ℕ) → IsLongestName name n → n ≤ 0 → IsTrue (nat_lt 0 n) ↔ IsBlockName name
no_name name n found none = (
  λ t. absurd (grind (arith, nat_tests, t, none)),
  λ is. let long = found.longest name [] (sym (append-nil name)) is in let some = name_some name is in absurd (omega arith),
)
