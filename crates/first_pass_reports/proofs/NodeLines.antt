-- The lines of nodes, node by node.
use Rattle.std.proofs.Common.{◌≡◌, ℕ, zero, suc, ◌+◌, ◌-◌, ◌<◌, List, [], ◌∷◌, ◌++◌, length, drop, arith, refl, sym, ap, ◌∙◌, drop-drop}
use Rattle.first_pass_grammar.proofs.Common.{Item}
use Rattle.std.specs.Range.{range_steps}
use Rattle.first_pass_host.specs.Held.{Calls, CallsAppendLine, AreItemLines}
use Rattle.first_pass_reports.specs.ReferenceLines.{node_lines}

-- the lines of consecutive numbers from a first one on
pub lines_from : (ℕ → List ℕ) → ℕ → ℕ → List ℕ
lines_from line first zero = []
lines_from line first (suc count) = line first ++ lines_from line (first + 1) count

one_more : (line : ℕ → List ℕ) (i n x j m : ℕ) → 0 < n → x ≡ i → j ≡ i + 1 → m ≡ n - 1 → lines_from line i n ≡ line x ++ lines_from line j m
unfolding lines_from
one_more line i zero x j m some here next left = absurd (omega arith)
one_more line i (suc n) x j m some here next left = let is : m ≡ n = omega (arith, left) in cc

none_left : (line : ℕ → List ℕ) (i n : ℕ) → n ≡ 0 → lines_from line i n ≡ []
unfolding lines_from
none_left line i n none = ap (lines_from line i) none

-- the numbers of a range
pub number_lines : (calls : Calls ℕ) (line : ℕ → List ℕ) → CallsAppendLine calls line
    → AreItemLines (range_steps (λ x y. y - x) (λ x y. y ≡ x + 1)) calls line (λ s. lines_from line s.start (s.«end» - s.start))
number_lines calls line appends = record {
  appended = appends;
  next = λ s t x step. one_more line s.start (s.«end» - s.start) x t.start (t.«end» - t.start) step.1.0 step.1.1 step.1.2
      (omega (arith, step.0, step.1.2));
  none = λ s t step. none_left line s.start (s.«end» - s.start) step.1.0;
}

module _ (lines : List (ℕ × Item) → List ℕ) (all : List (ℕ × Item)) where
  abbrev pub line_from : ℕ → List ℕ
  line_from i = lines (drop i all)

  pub rest_lines : (rest : List (ℕ × Item)) (i : ℕ) → drop i all ≡ rest → lines_from line_from i (length rest) ≡ node_lines lines rest
  unfolding lines_from node_lines
  rest_lines [] i is = refl
  rest_lines (first ∷ rest) i is =
      let more = rest_lines rest (i + 1) (sym (drop-drop 1 i all) ∙ ap (drop 1) is) in
      ap (λ l. lines l ++ lines_from line_from (i + 1) (length rest)) is ∙ ap (λ l. lines (first ∷ rest) ++ l) more

  -- the lines of all nodes, by their numbers
  pub all_lines : (nodes : List (ℕ × Item)) → all ≡ nodes → lines_from line_from 0 (length all - 0) ≡ node_lines lines nodes
  all_lines nodes is =
      let count : length all - 0 ≡ length all = omega arith in
      ap (lines_from line_from 0) count ∙ rest_lines all 0 refl ∙ ap (node_lines lines) is
