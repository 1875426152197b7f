use Rattle.std.proofs.Common.{◌≡◌, ◌+◌, ◌==◌, true, inl, inr, sym, ap, ◌∙◌, arith, slice_index}
use Rattle.first_pass_tokens.proofs.Common.{cases_lt, pipe, is_word_or_hyphen}
use Rattle.first_pass_tokens.proofs.PieceFacts.{at_byte}
use Rattle.first_pass_tokens.proofs.NearPipes.{near_two}
use Rattle.first_pass_tokens.proofs.line.pipes_end.Goals as goal

pub loop-end-preserved : goal.loop-end-preserved
loop-end-preserved c =
    let text = c.args.text.now in
    let at = c.loop-end.«end» in
    let word : is_word_or_hyphen (slice_index text at) ≡ true =
    rw (sym c.byte_at-byte.ensures, sym c.is_ascii_alphanumeric.ensures.value) c.if-is_word_or_hyphen.true in
    let next : slice_index text (at + 1) ≡ pipe = sym c.byte_at.ensures ∙ c.if-byte_at-eq124.true in
    let within = at_byte text (at + 1) (omega (arith, next)) in
    record {
      some = omega (arith, c.loop-end.invariant.some);
      within = omega (arith, within);
      pipes = λ k low high. elim (cases_lt k at) [
        | inl before ↦ c.loop-end.invariant.pipes k low before
        | inr later ↦ near_two text at word (ap (λ b. b == pipe) next) k later high
      ];
    }
