-- A line that begins with a pipe ends no table.
use Rattle.std.proofs.Common.{◌≡◌, ◌&&◌, ◌||◌, ℕ, true, false, true≢false, List, [], ◌∷◌, refl, sym, ap, ◌∙◌, subst, eqb-true}
use Rattle.first_pass_grammar.proofs.Common.{and-false, pipe, Options, has, footnotes, begins, footnote_head, interrupts_row}
use Rattle.first_pass_kinds.specs.Marks.{cannot_interrupt_by_standard}
use Rattle.first_pass_kinds.proofs.MarkBytes.{unmarked_interrupts}

no_end : (options : Options) (bs : List ℕ) → interrupts_row options (pipe ∷ bs) ≡ false
unfolding cannot_interrupt_by_standard footnote_head
no_end options bs =
    ap (λ t. t || (has options footnotes && false)) (unmarked_interrupts false (pipe ∷ bs) refl) ∙ and-false (has options footnotes)

pub pipe_ends_no_table : (options : Options) (bs : List ℕ) → begins pipe bs ≡ true → interrupts_row options bs ≡ false
pipe_ends_no_table options [] h = absurd (true≢false (sym h))
pipe_ends_no_table options (b ∷ bs) h = subst (λ (x : ℕ). interrupts_row options (x ∷ bs) ≡ false) (sym (eqb-true b pipe h)) (no_end options bs)
