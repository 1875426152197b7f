-- Facts on the first byte of a delimiter row, and on its number of alignments.
use Rattle.std.proofs.Common.{◌≡◌, subst, ℕ, zero, suc, ◌+◌, ◌-◌, ◌<◌, ◌≤◌, ◌==◌, ◌&&◌, ◌||◌, Bool, true, false, nat_le, nat_lt, List, ◌∷◌, length, [], map}
use Rattle.std.proofs.Common.{take, drop, Option, Some, None, refl, sym, ap, ◌∙◌, arith, inl, inr, if◌then◌else◌, take_while}
use Rattle.std.specs.List.{prefix_len, suffix_len, position_or_len, list_any, slice_split}
use Rattle.std.proofs.lemmas.Bool.{cases_lt, cond_both, or_parts, or_from}
use Rattle.std.proofs.lemmas.Bool.Decides.{nat_tests}
use Rattle.std.proofs.lemmas.List.Sums.{prefix_len-le-length}
use Rattle.first_pass_items.specs.Bytes.{tab, space, hyphen, colon, pipe}
use Rattle.first_pass_items.specs.declared.item.Alignment.{Alignment}
use Rattle.first_pass_lines.specs.Lines.{is_space_or_tab, is_content, begins, ends}
use Rattle.first_pass_scan.specs.LeafLines.{run_len}
use Rattle.first_pass_lines.proofs.OptionFacts.{some_if, some_mapped}
use Rattle.first_pass_lines.specs.Rest.{Rest, indent, after_columns, columns_of}
use Rattle.first_pass_lines.proofs.PlaceFacts.{all_columns, all_columns_up_to}
use Rattle.first_pass_scan.specs.TableHead.{is_pipe, stripped, without_first, without_last, is_hyphens, delimiter_cell, each_of}
use Rattle.first_pass_scan.specs.TableHead.{delimiter_cells, delimiter_row, delimiter_row_of}
use Rattle.first_pass_scan.proofs.TableFacts.{cells-refused, cells-more, cells-last}

-- the bytes are empty, or this byte is their first
abbrev Fronted : ℕ → List ℕ → Type 0
Fronted b [] = Unit {0}
Fronted b (c ∷ cs) = c ≡ b

fronted-take : (b n : ℕ) (bs : List ℕ) → Fronted b bs → Fronted b (take n bs)
fronted-take b zero bs f = tt
fronted-take b (suc n) [] f = tt
fronted-take b (suc n) (c ∷ cs) f = f

fronted-stripped : (b : ℕ) (bs : List ℕ) → is_space_or_tab b ≡ false → Fronted b bs → Fronted b (stripped bs)
unfolding stripped
fronted-stripped b [] h f = tt
fronted-stripped b (c ∷ cs) h f =
    let none : prefix_len is_space_or_tab (c ∷ cs) ≡ 0 = ap (λ t. if t then 1 + prefix_len is_space_or_tab cs else 0) (ap is_space_or_tab f ∙ h) in
    subst (λ k. Fronted b (let s : List ℕ = drop k (c ∷ cs) in take (length s - suffix_len is_space_or_tab s) s)) (sym none)
    (fronted-take b (length (c ∷ cs) - suffix_len is_space_or_tab (c ∷ cs)) (c ∷ cs) f)

begins-other : (b c : ℕ) (bs : List ℕ) → (b == c) ≡ false → Fronted b bs → begins c bs ≡ false
begins-other b c [] h f = refl
begins-other b c (d ∷ ds) h f = ap (λ (x : ℕ). x == c) f ∙ h

without_first-other : (b c : ℕ) (bs : List ℕ) → (b == c) ≡ false → Fronted b bs → without_first c bs ≡ bs
without_first-other b c bs h f = ap (λ t. if t then drop 1 bs else bs) (begins-other b c bs h f)

last_or_not : (b : ℕ) (bs : List ℕ) (t : Bool) → Fronted b bs → Fronted b (if t then take (length bs - 1) bs else bs)
last_or_not b bs true f = fronted-take b (length bs - 1) bs f
last_or_not b bs false f = f

none_of_some : (n : ℕ) → (nat_le 1 (suc n) && (0 == suc n)) ≡ false
none_of_some n = grind (arith, nat_tests)

no_hyphens : (b : ℕ) (bs : List ℕ) → (b == hyphen) ≡ false → Fronted b bs → is_hyphens bs ≡ false
no_hyphens b [] h f = refl
no_hyphens b (c ∷ cs) h f =
    let no_run : run_len hyphen (c ∷ cs) ≡ 0 = ap (λ t. if t then 1 + run_len hyphen cs else 0) (ap (λ (x : ℕ). x == hyphen) f ∙ h) in
    ap (λ n. nat_le 1 (length (c ∷ cs)) && (n == length (c ∷ cs))) no_run ∙ none_of_some (length cs)

-- bytes that begin with another byte are no delimiter cell
cell-refused : (b : ℕ) (bs : List ℕ) → is_space_or_tab b ≡ false → (b == hyphen) ≡ false → (b == colon) ≡ false → Fronted b bs → delimiter_cell bs ≡ None
unfolding delimiter_cell
cell-refused b bs blank h k f = grind (arith, fronted-stripped, without_first-other, no_hyphens, last_or_not)

cells-refused-at : (b : ℕ) (bs : List ℕ) → is_space_or_tab b ≡ false → (b == hyphen) ≡ false → (b == colon) ≡ false → Fronted b bs → delimiter_cells bs ≡ None
cells-refused-at b bs blank h k f =
    let n : ℕ = position_or_len is_pipe bs in
    cells-refused bs n refl (prefix_len-le-length _ bs) (sym (cell-refused b (take n bs) blank h k (fronted-take b n bs f)))

-- bytes that begin with another byte are no delimiter row
row_refused : (b : ℕ) (bs : List ℕ)
    → is_space_or_tab b ≡ false → (b == pipe) ≡ false → (b == hyphen) ≡ false → (b == colon) ≡ false → Fronted b bs → delimiter_row bs ≡ None
unfolding delimiter_row
row_refused b bs blank p h k f =
    let row : List ℕ = stripped (take_while is_content bs) in
    let front : Fronted b row = fronted-stripped b (take_while is_content bs) blank (fronted-take b (prefix_len is_content bs) bs f) in
    let inner : List ℕ = without_first pipe row in
    let same : inner ≡ row = without_first-other b pipe row p front in
    let inner_front : Fronted b inner = subst (Fronted b) (sym same) front in
    cond_both (nat_le (columns_of bs 0) 3 && list_any is_pipe row) (delimiter_cells (without_last pipe inner)) None (λ o. o ≡ None)
    (λ _. cells-refused-at b (without_last pipe inner) blank h k (last_or_not b inner (ends pipe inner) inner_front)) (λ _. refl)

-- a delimiter row without leading spaces and tabs begins with a pipe, a hyphen or a colon
pub row-refused : (bs : List ℕ)
    → begins space bs ≡ false → begins tab bs ≡ false → (begins pipe bs || begins hyphen bs || begins colon bs) ≡ false → delimiter_row bs ≡ None
row-refused [] no_space no_tab h = row_refused 0 [] refl refl refl refl tt
row-refused (b ∷ bs) no_space no_tab h =
    let some = or_parts ((b == pipe) || (b == hyphen)) (b == colon) h in
    let two = or_parts (b == pipe) (b == hyphen) some.0 in
    row_refused b (b ∷ bs) (or_from (b == tab) (b == space) no_tab no_space) two.0 two.1 some.1 refl

-- the delimiter row after an indentation of fewer than four columns
pub row_of-bound : (r s : Rest) → s ≡ after_columns 4 r → nat_le 4 (indent r) ≡ false → delimiter_row_of r ≡ delimiter_row s.left
unfolding delimiter_row_of
row_of-bound r s e h =
    let bound : nat_lt (indent r) 4 ≡ true = grind (arith, nat_tests, h) in
    let low : indent r ≤ 4 = grind (arith, nat_tests, h) in
    let same : after_columns (indent r) r ≡ s = sym (all_columns_up_to 4 r low) ∙ sym e in
    ap (λ t. if t then delimiter_row (after_columns (indent r) r).left else None) bound ∙ ap (λ q. delimiter_row q.left) same

pub row_of-refused : (r s : Rest) → s ≡ after_columns 4 r → nat_le 4 (indent r) ≡ false
    → (begins pipe s.left || begins hyphen s.left || begins colon s.left) ≡ false → None ≡ delimiter_row_of r
row_of-refused r s e h look =
    let low : indent r ≤ 4 = grind (arith, nat_tests, h) in
    let same : after_columns (indent r) r ≡ s = sym (all_columns_up_to 4 r low) ∙ sym e in
    let front = all_columns r in
    sym (row_of-bound r s e h ∙ row-refused s.left (ap (λ q. begins space q.left) (sym same) ∙ front.1) (ap (λ q. begins tab q.left) (sym same) ∙ front.2) look)

-- each delimiter row has an alignment
each-some : (o : Option Alignment) (os : List (Option Alignment)) (xs : List Alignment) → each_of (o ∷ os) ≡ Some xs → 0 < length xs
each-some None os xs h = absurd cc
each-some (Some x) os xs h = let m = some_mapped (λ ys. x ∷ ys) (each_of os) xs h in omega (arith, ap length m.2)

cells-some : (bs : List ℕ) (xs : List Alignment) → delimiter_cells bs ≡ Some xs → 0 < length xs
cells-some bs xs h =
    let n : ℕ = position_or_len is_pipe bs in
    let o : Option Alignment = delimiter_cell (take n bs) in
    let within : n ≤ length bs = prefix_len-le-length _ bs in
    elim (cases_lt n (length bs)) as (λ _. 0 < length xs) [
      | inl more ↦ each-some o (map delimiter_cell (slice_split is_pipe (drop (n + 1) bs))) xs (sym (cells-more bs n o refl more refl) ∙ h)
      | inr all ↦ each-some o [] xs (sym (cells-last bs n o refl (omega arith) refl) ∙ h)
    ]

row-some : (bs : List ℕ) (xs : List Alignment) → delimiter_row bs ≡ Some xs → 0 < length xs
unfolding delimiter_row
row-some bs xs h = grind (arith, cells-some, some_if)

pub row_of-some : (r : Rest) (xs : List Alignment) → delimiter_row_of r ≡ Some xs → 0 < length xs
unfolding delimiter_row_of
row_of-some r xs h = grind (arith, row-some, some_if)
