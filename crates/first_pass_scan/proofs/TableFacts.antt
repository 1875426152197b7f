-- Facts on the cells of a delimiter row, and on the pipes of a header row.
use Rattle.std.proofs.Common.{◌≡◌, ℕ, ◌+◌, ◌<◌, ◌≤◌, ◌||◌, nat_lt, true, true≢false, List, [], ◌∷◌, ◌++◌, length, map, take, drop, Option, Some, None, refl}
use Rattle.std.proofs.Common.{sym, ap, ◌∙◌, append_assoc, arith, inl, inr, option_map, is_some, take_all}
use Rattle.std.specs.List.{position_or_len, list_any, slice_split}
use Rattle.std.proofs.lemmas.Bool.{cases_lt, false_from_ne_true}
use Rattle.std.proofs.lemmas.Bool.Decides.{nat_tests}
use Rattle.std.proofs.lemmas.List.Sums.{position_or_len_is, fails_before_first}
use Rattle.std.proofs.lemmas.List.Splits.{slice_split_none, slice_split_first}
use Rattle.memchr.specs.Find.{IsFirstByte}
use Rattle.first_pass_items.specs.Bytes.{pipe}
use Rattle.first_pass_items.specs.declared.item.Alignment.{Alignment}
use Rattle.first_pass_lines.specs.Lines.{begins}
use Rattle.first_pass_scan.specs.TableHead.{is_pipe, delimiter_cell, each_of, delimiter_cells, pipes_after}

-- a search for a pipe finds one if there is one
any_before : (bs : List ℕ) → nat_lt (position_or_len is_pipe bs) (length bs) ≡ list_any is_pipe bs
any_before [] = refl
any_before (b ∷ bs) = grind (arith, nat_tests, any_before bs)

pub pipe_found : (bs : List ℕ) (o : Option ℕ) → IsFirstByte is_pipe bs o → is_some o ≡ list_any is_pipe bs
pipe_found bs None h =
    let none : position_or_len is_pipe bs ≡ length bs =
    position_or_len_is is_pipe bs (length bs) 0 (omega arith) (λ k l. false_from_ne_true _ (h k (omega arith) l)) (λ l. absurd (omega arith)) in
    grind (arith, nat_tests, any_before bs, none)
pipe_found bs (Some at) h =
    let high = h.0.high in
    let some : position_or_len is_pipe bs ≡ at =
    position_or_len_is is_pipe bs at 0 (omega arith) (λ k l. false_from_ne_true _ (h.0.before k (omega arith) l)) (λ l. h.1) in
    grind (arith, nat_tests, any_before bs, some, high)

-- the first cell and the others
split_more : (bs : List ℕ) (n : ℕ) → n ≡ position_or_len is_pipe bs → n < length bs → slice_split is_pipe bs ≡ take n bs ∷ slice_split is_pipe (drop (n + 1) bs)
split_more bs n e l = grind (arith, slice_split_first)

split_last : (bs : List ℕ) (n : ℕ) → n ≡ position_or_len is_pipe bs → n ≡ length bs → slice_split is_pipe bs ≡ take n bs ∷ []
split_last bs n e l =
    let all : take n bs ≡ bs = take_all n bs (omega arith) in
    slice_split_none is_pipe bs (λ k d h. fails_before_first is_pipe bs k d (omega arith)) ∙ ap (λ x. x ∷ []) (sym all)

pub cells-more : (bs : List ℕ) (n : ℕ) (o : Option Alignment) → n ≡ position_or_len is_pipe bs → n < length bs → o ≡ delimiter_cell (take n bs)
    → delimiter_cells bs ≡ each_of (o ∷ map delimiter_cell (slice_split is_pipe (drop (n + 1) bs)))
unfolding delimiter_cells
cells-more bs n o e l h = grind (arith, split_more)

pub cells-last : (bs : List ℕ) (n : ℕ) (o : Option Alignment)
    → n ≡ position_or_len is_pipe bs → n ≡ length bs → o ≡ delimiter_cell (take n bs) → delimiter_cells bs ≡ each_of (o ∷ [])
unfolding delimiter_cells
cells-last bs n o e l h = ap (λ parts. each_of (map delimiter_cell parts)) (split_last bs n e l) ∙ ap (λ p. each_of (p ∷ [])) (sym h)

-- a cell that is no delimiter cell
pub cells-refused : (bs : List ℕ) (n : ℕ) → n ≡ position_or_len is_pipe bs → n ≤ length bs → None ≡ delimiter_cell (take n bs) → delimiter_cells bs ≡ None
cells-refused bs n e l h = elim (cases_lt n (length bs)) as (λ _. delimiter_cells bs ≡ None) [
  | inl more ↦ cells-more bs n None e more h
  | inr all ↦ cells-last bs n None e (omega arith) h
]

-- the alignments found so far, before those of the rest
abbrev pub found_before : List Alignment → Option (List Alignment) → Option (List Alignment)
found_before xs o = option_map (λ ys. xs ++ ys) o

pub found-none : (o : Option (List Alignment)) → found_before [] o ≡ o
found-none None = refl
found-none (Some ys) = refl

found-push : (xs : List Alignment) (x : Alignment) (o : Option (List Alignment)) → found_before (xs ++ x ∷ []) o ≡ found_before xs (option_map (λ ys. x ∷ ys) o)
found-push xs x None = refl
found-push xs x (Some ys) = ap Some (append_assoc xs (x ∷ []) ys)

pub found-more : (bs : List ℕ) (n : ℕ) (xs : List Alignment) (x : Alignment) → n ≡ position_or_len is_pipe bs → n < length bs
    → Some x ≡ delimiter_cell (take n bs) → found_before (xs ++ x ∷ []) (delimiter_cells (drop (n + 1) bs)) ≡ found_before xs (delimiter_cells bs)
unfolding delimiter_cells
found-more bs n xs x e l h = found-push xs x (delimiter_cells (drop (n + 1) bs)) ∙ sym (ap (found_before xs) (cells-more bs n (Some x) e l h))

pub found-last : (bs : List ℕ) (n : ℕ) (xs : List Alignment) (x : Alignment)
    → n ≡ position_or_len is_pipe bs → n ≡ length bs → Some x ≡ delimiter_cell (take n bs) → Some (xs ++ x ∷ []) ≡ found_before xs (delimiter_cells bs)
found-last bs n xs x e l h = sym (ap (found_before xs) (cells-last bs n (Some x) e l h))

-- at most as many pipes as bytes
pub pipes-fit : (b : ℕ) (bs : List ℕ) → pipes_after b bs ≤ length bs
pipes-fit b [] = omega arith
pipes-fit b (c ∷ cs) = grind (arith, pipes-fit c cs)

-- bytes that begin with a pipe contain one
pub pipe_first : (bs : List ℕ) → begins pipe bs ≡ true → list_any is_pipe bs ≡ true
pipe_first [] h = absurd (true≢false (sym h))
pipe_first (b ∷ bs) h = ap (λ t. t || list_any is_pipe bs) h
