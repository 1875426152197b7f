-- Facts on the spaces and tabs at the start of bytes.
use Rattle.std.proofs.Common.{◌≡◌, ℕ, ◌+◌, ◌<◌, ◌≤◌, Bool, true, ◌==◌, List, ◌∷◌, ◌++◌, length, take, drop, get_or, refl, sym, ap, ◌∙◌, arith, [], inl, inr}
use Rattle.std.proofs.Common.{if◌then◌else◌, append-nil, length-take-le, get_or-take, take-append-drop, take-take}
use Rattle.std.specs.List.{list_all}
use Rattle.std.proofs.lemmas.Bool.{cases_lt, and_parts}
use Rattle.std.proofs.lemmas.Bool.Decides.{nat_tests}
use Rattle.std.proofs.lemmas.List.{drop_more}
use Rattle.first_pass_items.specs.Bytes.{tab}
use Rattle.first_pass_lines.specs.Rest.{columns_of}
use Rattle.first_pass_lines.specs.Lines.{is_space_or_tab}
use Rattle.first_pass_scan.specs.LeafLines.{blank_columns, IsIndent, IsLongestIndent}

-- the first n bytes are spaces and tabs of this many columns; `column` is the number of bytes after the last tab in
-- them
pub record IsFront (bs : List ℕ) (n : ℕ) (columns : ℕ) (column : ℕ) : Type 0 where
  pub within : n ≤ length bs
  pub blanks : list_all is_space_or_tab (take n bs) ≡ true
  pub before : (more : List ℕ) → columns_of (take n bs ++ more) 0 ≡ columns + columns_of more column

pub columns_of-blank : (b column : ℕ) (more : List ℕ)
    → 0 < blank_columns b column → columns_of (b ∷ more) column ≡ blank_columns b column + columns_of more (if b == tab then 0 else column + 1)
columns_of-blank b column more h = grind (arith, nat_tests, h)

blank_then : (b column : ℕ) → is_space_or_tab b ≡ true → 0 < blank_columns b column
blank_then b column h = grind (arith, nat_tests, h)

-- the columns of a run are at least those of its first byte
columns_first : (b column : ℕ) (more : List ℕ) → 0 < blank_columns b column → blank_columns b column ≤ columns_of (b ∷ more) column
columns_first b column more h = omega (arith, columns_of-blank b column more h)

list_all-append : (p : ℕ → Bool) (xs : List ℕ) (x : ℕ) (ys : List ℕ) → list_all p (xs ++ x ∷ ys) ≡ true → p x ≡ true
list_all-append p [] x ys h = (and_parts (p x) _ h).0
list_all-append p (y ∷ more) x ys h = list_all-append p more x ys ((and_parts (p y) _ h).1)

-- a longer prefix begins with the shorter one and the next byte
longer : (bs : List ℕ) (n m : ℕ) → n < m → m ≤ length bs → take m bs ≡ take n bs ++ get_or bs n 0 ∷ drop (n + 1) (take m bs)
longer bs n m h l =
    let w = length-take-le m bs l in
    let d : drop n (take m bs) ≡ get_or bs n 0 ∷ drop (n + 1) (take m bs) =
    drop_more (take m bs) n 0 (omega arith) ∙ ap (λ x. x ∷ drop (n + 1) (take m bs)) (get_or-take m bs n 0 h) in
    sym (take-append-drop n (take m bs)) ∙ ap (λ x. x ++ drop n (take m bs)) (take-take n m bs (omega arith)) ∙ ap (λ x. take n bs ++ x) d

no_longer : (bs : List ℕ) (max n columns column m k : ℕ) → IsFront bs n columns column → IsIndent bs max m k → n < m
    → (n < length bs → (w : ℕ) → w ≡ blank_columns (get_or bs n 0) column → 0 < w → max < columns + w) → ⊥
no_longer bs max n columns column m k f i h stop =
    let b : ℕ = get_or bs n 0 in
    let more : List ℕ = drop (n + 1) (take m bs) in
    let t : take m bs ≡ take n bs ++ b ∷ more = longer bs n m h i.within in
    let blank : is_space_or_tab b ≡ true = list_all-append is_space_or_tab (take n bs) b more (ap (list_all is_space_or_tab) (sym t) ∙ i.blanks) in
    let some : 0 < blank_columns b column = blank_then b column blank in
    let wide : k ≡ columns + columns_of (b ∷ more) column = i.wide ∙ ap (λ x. columns_of x 0) t ∙ f.before (b ∷ more) in
    let first = columns_first b column more some in
    let past = stop (let l = i.within in omega arith) (blank_columns b column) refl some in
    let bound = i.bound in
    omega arith

pub front-indent : (bs : List ℕ) (max n columns column : ℕ) → IsFront bs n columns column → columns ≤ max → IsIndent bs max n columns
front-indent bs max n columns column f bound =
    record {
      within = f.within;
      blanks = f.blanks;
      wide = let e : columns_of (take n bs ++ []) 0 ≡ columns + 0 = f.before [] in omega (arith, ap (λ x. columns_of x 0) (append-nil (take n bs)));
      bound = bound;
    }

-- the prefix is the longest if the next byte is no space or tab, or has too many columns
pub front-longest : (bs : List ℕ) (max n columns column : ℕ) → IsFront bs n columns column → columns ≤ max
    → (n < length bs → (w : ℕ) → w ≡ blank_columns (get_or bs n 0) column → 0 < w → max < columns + w) → IsLongestIndent bs max n columns
front-longest bs max n columns column f bound stop =
    record {
      fits = front-indent bs max n columns column f bound;
      longest = λ m k i. elim (cases_lt n m) as (λ _. m ≤ n) [ inl more ↦ absurd (no_longer bs max n columns column m k f i more stop) | inr less ↦ less ];
    }
