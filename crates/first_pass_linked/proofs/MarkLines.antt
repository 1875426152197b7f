-- The lines of marks, mark by mark.
use Rattle.std.proofs.Common.{◌≡◌, ℕ, max, List, [], ◌∷◌, ◌++◌, length, arith, sym, ap, ◌∙◌, append_assoc, append-nil}
use Rattle.first_pass_grammar.specs.LinkTables.{LinkEntry}
use Rattle.first_pass_content.specs.Content.{ContentByte}
use Rattle.first_pass_inline.specs.declared.mark.Mark.{Mark}
use Rattle.first_pass_linked.specs.Forms.{LineForms, first_line, listed_from, mark_lines}

module _ (before first second third : List ℕ) where
  -- a line after three parts of it
  pub three_parts : (one two three same last : List ℕ) → one ≡ before ++ first → two ≡ one ++ second → three ≡ two ++ third → second ≡ same → third ≡ last
      → three ≡ before ++ (first ++ (same ++ last))
  three_parts one two three same last d e f g h =
      f ∙ ap (λ l. l ++ third) (e ∙ ap (λ l. l ++ second) d) ∙ ap (λ l. l ++ third) (append_assoc before first second)
      ∙ append_assoc before (first ++ second) third ∙ ap (λ l. before ++ l) (append_assoc first second third)
      ∙ ap (λ l. before ++ (first ++ (l ++ third))) g ∙ ap (λ l. before ++ (first ++ (same ++ l))) h

module _ (forms : LineForms) (c : List ContentByte) (links : List LinkEntry) where
  pub one_more : (place next : ℕ) (old new whole : List ℕ) (m : Mark) (ms rest : List Mark) → rest ≡ m ∷ ms
      → new ≡ old ++ first_line forms c links place rest → next ≡ max place (listed_from m.kind)
      → old ++ mark_lines forms c links place rest ≡ whole → new ++ mark_lines forms c links next ms ≡ whole
  unfolding mark_lines
  one_more place next old new whole m ms rest d e f so_far =
      let line : List ℕ = first_line forms c links place (m ∷ ms) in
      let rest_lines = mark_lines forms c links next ms in
      ap (λ l. l ++ rest_lines) (e ∙ ap (λ l. old ++ first_line forms c links place l) d) ∙ append_assoc old line rest_lines
      ∙ ap (λ n. old ++ (line ++ mark_lines forms c links n ms)) f ∙ ap (λ l. old ++ mark_lines forms c links place l) (sym d) ∙ so_far

  pub none_left : (place : ℕ) (line whole : List ℕ) (rest : List Mark) → length rest ≡ 0 → line ++ mark_lines forms c links place rest ≡ whole → line ≡ whole
  unfolding mark_lines
  none_left place line whole [] none so_far = sym (append-nil line) ∙ so_far
  none_left place line whole (m ∷ ms) none so_far = absurd (omega (arith, none))
