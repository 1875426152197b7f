use Rattle.std.proofs.Common.{◌≤◌, ℕ, List, Bool, inl, sym, ◌∙◌, arith, true≢false}
use Rattle.first_pass_tokens.proofs.Common.{cases_lt, content_in, spares_words, IsNextMarked}
use Rattle.first_pass_tokens.specs.LineTokens.{blanks_at_end}
use Rattle.first_pass_tokens.proofs.SoFar.{cell_plain}
use Rattle.first_pass_tokens.proofs.line.plain_content_in.Goals as goal

pub next_special_in_words-requires : goal.next_special_in_words-requires
next_special_in_words-requires c = spares_words c.args.content.options c.args.content.special.now c.requires.marks

pub special_ends_at-requires-clause-marked : goal.special_ends_at-requires-clause-marked
special_ends_at-requires-clause-marked c = c.in_ok-at.ensures.found.marked

pub returns-then-special_ends_at-clause-cell : goal.returns-then-special_ends_at-clause-cell
unfolding blanks_at_end
returns-then-special_ends_at-clause-cell c texts b =
    let text = c.args.text.now in
    let at = c.in_ok-at.at in
    let found = c.in_ok-at.ensures.found in
    let z = content_in text c.args.content b in
    rw c.blanks_at_end-blanks.ensures.value (cell_plain z at found.from (omega (arith, found.within))
    (λ k low high. inl (sym (c.requires.marks _ (omega (arith, c.type_inv.text k))) ∙ found.least k low high))
    (sym (c.special_ends_at.ensures b) ∙ c.if-special_ends_at.true))

pub returns-then-special_ends_at-clause-some : goal.returns-then-special_ends_at-clause-some
returns-then-special_ends_at-clause-some c b = grind arith

-- no first marked byte is before another
not_before : {lut : List Bool} {bytes : List ℕ} {ix i j : ℕ} → IsNextMarked lut bytes ix i → IsNextMarked lut bytes ix j → j ≤ i
not_before {lut} {bytes} {ix} {i} {j} h k = grind (arith, cases_lt, true≢false)

pub returns-clause-none : goal.returns-clause-none
returns-clause-none c at b ends = grind (arith, not_before, true≢false)
