-- Facts on the pipes of a header row, and on its columns.
use Rattle.std.proofs.Common.{◌≡◌, ℕ, suc, ◌+◌, ◌-◌, ◌<◌, ◌≤◌, ◌⊎◌, Bool, true, false, List, ◌∷◌, length, take, drop, Option, Some, None, refl, sym, ap, []}
use Rattle.std.proofs.Common.{◌∙◌, arith, inl, inr, if◌then◌else◌, ◌==◌, ◌&&◌, not, get_or, nat_lt, slice_index, take_while, take-take}
use Rattle.std.specs.Option.{option_map_or}
use Rattle.std.specs.List.{prefix_len, list_any}
use Rattle.std.proofs.lemmas.Bool.{or_parts}
use Rattle.std.proofs.lemmas.Bool.Decides.{nat_tests}
use Rattle.std.proofs.lemmas.List.{drop_more, drop_all}
use Rattle.std.proofs.lemmas.List.Folds.{length-prefix_len}
use Rattle.first_pass_items.specs.Bytes.{backslash}
use Rattle.first_pass_lines.specs.Lines.{is_content}
use Rattle.first_pass_scan.specs.TableHead.{is_pipe, pipes_after, pipes_of, last_pipe_after, header_columns, columns_by_pipes, head_columns}

-- the offset after the last pipe of a row: of the bytes from an offset on, or the one found before
abbrev pub end_past : ℕ → ℕ → ℕ → List ℕ → ℕ
end_past at found b bs = option_map_or (λ last. at + last + 1) (last_pipe_after b bs) found

-- one more byte of a row
at_byte : (row : List ℕ) (i x : ℕ) → i < length row → get_or row i 0 ≡ x → drop i row ≡ x ∷ drop (i + 1) row
at_byte row i x l e = drop_more row i 0 l ∙ ap (λ y. y ∷ drop (i + 1) row) e

pub pipes-at : (row : List ℕ) (i b x : ℕ) → i < length row → get_or row i 0 ≡ x
    → pipes_after b (drop i row) ≡ (if is_pipe x && not (b == backslash) then 1 else 0) + pipes_after x (drop (i + 1) row)
pipes-at row i b x l e = ap (pipes_after b) (at_byte row i x l e)

ending-cases : (at found : ℕ) (t : Bool) (o : Option ℕ)
    → option_map_or (λ last. at + last + 1) (option_map_or (λ k. Some (k + 1)) o (if t then Some 0 else None)) found
    ≡ option_map_or (λ last. at + 1 + last + 1) o (if t then at + 1 else found)
ending-cases at found true None = omega arith
ending-cases at found false None = refl
ending-cases at found t (Some k) = omega arith

pub ending-at : (row : List ℕ) (i found b x : ℕ) → i < length row → get_or row i 0 ≡ x
    → end_past i found b (drop i row) ≡ end_past (i + 1) (if is_pipe x && not (b == backslash) then i + 1 else found) x (drop (i + 1) row)
ending-at row i found b x l e = grind (arith, at_byte, ending-cases)

-- the last pipe is this one or a later one
last-cases : (t : Bool) (o : Option ℕ) (n : ℕ)
    → option_map_or (λ k. Some (k + 1)) o (if t then Some 0 else None) ≡ Some n → ((o ≡ None) × (t ≡ true) × (n ≡ 0)) ⊎ ((k : ℕ) × (o ≡ Some k) × (n ≡ k + 1))
last-cases true None n h = inl (refl, refl, cc)
last-cases false None n h = absurd cc
last-cases t (Some k) n h = inr (k, refl, cc)

none-cases : (t : Bool) (o : Option ℕ) → option_map_or (λ k. Some (k + 1)) o (if t then Some 0 else None) ≡ None → (o ≡ None) × (t ≡ false)
none-cases true None h = absurd cc
none-cases false None h = (refl, refl)
none-cases t (Some k) h = absurd cc

abbrev counted_by : Bool → ℕ
counted_by t = if t then 1 else 0

-- no pipes if there is no last pipe
pub pipes-none : (b : ℕ) (bs : List ℕ) → last_pipe_after b bs ≡ None → pipes_after b bs ≡ 0
pipes-none b [] h = refl
pipes-none b (c ∷ cs) h =
    let parts = none-cases (is_pipe c && not (b == backslash)) (last_pipe_after c cs) h in
    let rest = pipes-none c cs parts.0 in
    let no = ap counted_by parts.1 in
    omega arith

-- If there is a last pipe, it is one of the bytes, there is at least one pipe, and none follows the last one.
pub last-facts : (b : ℕ) (bs : List ℕ) (n : ℕ) → last_pipe_after b bs ≡ Some n
    → (1 ≤ pipes_after b bs) × (n < length bs) × (pipes_after b (take (n + 1) bs) ≡ pipes_after b bs)
last-facts b [] n h = absurd cc
last-facts b (c ∷ cs) n h =
    let t : Bool = is_pipe c && not (b == backslash) in
    elim (last-cases t (last_pipe_after c cs) n h)
    as (λ _. (1 ≤ pipes_after b (c ∷ cs)) × (n < length (c ∷ cs)) × (pipes_after b (take (n + 1) (c ∷ cs)) ≡ pipes_after b (c ∷ cs))) [
      | inl here ↦
          let one = ap counted_by here.1 in
          let at = here.2 in
          let none = ap (λ k. (if t then 1 else 0) + k) (sym (pipes-none c cs here.0)) in
          (omega arith, omega arith, ap (λ k. pipes_after b (take (k + 1) (c ∷ cs))) at ∙ none)
      | inr more ↦
          let at = more.2 in
          let rest = last-facts c cs more.0 more.1 in
          let e : n + 1 ≡ suc (more.0 + 1) = omega arith in
          (omega arith, omega arith, ap (λ k. pipes_after b (take k (c ∷ cs))) e ∙ ap (λ k. (if t then 1 else 0) + k) rest.2)
    ]

-- the byte before a place of a row; 0 at its start
abbrev pub byte_before : List ℕ → ℕ → ℕ
byte_before row at = if nat_lt 0 at then slice_index row (at - 1) else 0

backslash_if : (t : Bool) (b : ℕ) → (t && b == backslash) ≡ ((if t then b else 0) == backslash)
backslash_if true b = refl
backslash_if false b = refl

pub byte_past : (row : List ℕ) (at : ℕ) → byte_before row (at + 1) ≡ get_or row at 0
byte_past row at = grind (arith, nat_tests)

-- The bytes of a row before an offset are counted: their pipes, and the offset after the last pipe.
pub record IsCounted (row : List ℕ) (at pipes end : ℕ) : Type 0 where
  pub pipes_left : pipes + pipes_after (byte_before row at) (drop at row) ≡ pipes_after 0 row
  pub ending : end_past at end (byte_before row at) (drop at row) ≡ end_past 0 0 0 row

-- whether the byte at a place is a pipe that counts
abbrev pub is_open_at : List ℕ → ℕ → Bool
is_open_at row i = is_pipe (get_or row i 0) && not (byte_before row i == backslash)

pub open_at : (row : List ℕ) (at : ℕ)
    → is_open_at row at ≡ (is_pipe (get_or row at 0) && not (nat_lt 0 at && slice_index row (at - 1) == backslash))
open_at row at = ap (λ t. is_pipe (get_or row at 0) && not t) (sym (backslash_if (nat_lt 0 at) (slice_index row (at - 1))))

count_if : (t : Bool) (n : ℕ) → (if t then n + 1 else n) ≡ n + (if t then 1 else 0)
count_if t n = grind arith

-- a row with one more byte, which is a pipe that counts, or not
pub step : (row : List ℕ) (i pipes end : ℕ) (t : Bool) → i < length row → is_open_at row i ≡ t → IsCounted row i pipes end
    → IsCounted row (i + 1) (if t then pipes + 1 else pipes) (if t then i + 1 else end)
step row i pipes end t l is old = grind (arith, count_if, pipes-at, byte_past, ending-at)

pub pipes-first : (row : List ℕ) (i : ℕ) → i < length row → is_open_at row i ≡ true → 1 ≤ pipes_after (byte_before row i) (drop i row)
pipes-first row i l t = grind (arith, pipes-at)

-- the end of the row
pub pipes-end : (row : List ℕ) (i b pipes : ℕ) → length row ≤ i → pipes + pipes_after b (drop i row) ≡ pipes_after 0 row → pipes ≡ pipes_of row
pipes-end row i b pipes l h = grind (arith, drop_all)

from_start : (o : Option ℕ) → option_map_or (λ last. 0 + last + 1) o 0 ≡ option_map_or (λ last. last + 1) o 0
from_start None = refl
from_start (Some k) = omega arith

pub ending-end : (row : List ℕ) (i b found : ℕ)
    → length row ≤ i → end_past i found b (drop i row) ≡ end_past 0 0 0 row → found ≡ option_map_or (λ last. last + 1) (last_pipe_after 0 row) 0
ending-end row i b found l h = sym (ap (end_past i found b) (drop_all i row l)) ∙ h ∙ from_start (last_pipe_after 0 row)

-- the last pipe, from the offset after it
pub end-none : (o : Option ℕ) (end : ℕ) → end ≡ option_map_or (λ last. last + 1) o 0 → end ≡ 0 → o ≡ None
end-none None end e h = refl
end-none (Some k) end e h = absurd (omega arith)

pub end-some : (o : Option ℕ) (end : ℕ) → end ≡ option_map_or (λ last. last + 1) o 0 → ¬ (end ≡ 0) → o ≡ Some (end - 1)
end-some None end e h = absurd (h e)
end-some (Some k) end e h = let same : k ≡ end - 1 = omega arith in ap Some same

-- the columns of a line without a pipe, and of one with a pipe
pub head-none : (bs : List ℕ) → last_pipe_after 0 (take_while is_content bs) ≡ None → head_columns bs ≡ 0
unfolding head_columns
head-none bs h = ap (λ o. option_map_or (header_columns bs) o 0) h

pub head-some : (bs : List ℕ) (n : ℕ) → last_pipe_after 0 (take_while is_content bs) ≡ Some n → head_columns bs ≡ header_columns bs n
unfolding head_columns
head-some bs n h = ap (λ o. option_map_or (header_columns bs) o 0) h

-- bytes without a pipe have no last pipe
last-unpiped : (b : ℕ) (bs : List ℕ) → list_any is_pipe bs ≡ false → last_pipe_after b bs ≡ None
last-unpiped b [] h = refl
last-unpiped b (c ∷ cs) h =
    let parts = or_parts (is_pipe c) (list_any is_pipe cs) h in
    ap (λ o. option_map_or (λ k. Some (k + 1)) o (if is_pipe c && not (b == backslash) then Some 0 else None)) (last-unpiped c cs parts.1)
    ∙ ap (λ t. if t && not (b == backslash) then Some 0 else None) parts.0

-- a line without a pipe has no columns
pub head-unpiped : (bs : List ℕ) → list_any is_pipe (take_while is_content bs) ≡ false → head_columns bs ≡ 0
head-unpiped bs h = head-none bs (last-unpiped 0 (take_while is_content bs) h)

pub last-in-line : (bs : List ℕ) (n : ℕ) → last_pipe_after 0 (take_while is_content bs) ≡ Some n → n < prefix_len is_content bs
last-in-line bs n h = omega (arith, length-prefix_len is_content bs, (last-facts 0 (take_while is_content bs) n h).1)

-- the pipes of a line are those up to its last one
pub pipes-of-line : (bs : List ℕ) (n : ℕ)
    → last_pipe_after 0 (take_while is_content bs) ≡ Some n → pipes_of (take (n + 1) bs) ≡ pipes_of (take_while is_content bs)
pipes-of-line bs n h =
    let within = last-in-line bs n h in
    let bound : n + 1 ≤ prefix_len is_content bs = omega arith in
    ap (pipes_after 0) (sym (take-take (n + 1) (prefix_len is_content bs) bs bound)) ∙ (last-facts 0 (take_while is_content bs) n h).2

-- the number of columns of a line, from its pipes
pub head-by-pipes : (bs : List ℕ) (n : ℕ)
    → last_pipe_after 0 (take_while is_content bs) ≡ Some n → head_columns bs ≡ columns_by_pipes (pipes_of (take_while is_content bs)) bs n
head-by-pipes bs n h = head-some bs n h ∙ ap (λ k. columns_by_pipes k bs n) (pipes-of-line bs n h)

no_last : (bs : List ℕ) (o : Option ℕ) → last_pipe_after 0 bs ≡ o → pipes_of bs ≡ 0 → o ≡ None
no_last bs None e h = refl
no_last bs (Some n) e h = let one = (last-facts 0 bs n e).0 in absurd (omega arith)

pub head-without-pipes : (bs : List ℕ) → pipes_of (take_while is_content bs) ≡ 0 → head_columns bs ≡ 0
head-without-pipes bs h = head-none bs (no_last (take_while is_content bs) (last_pipe_after 0 (take_while is_content bs)) refl h)
