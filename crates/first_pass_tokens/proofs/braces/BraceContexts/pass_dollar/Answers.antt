use Rattle.std.proofs.Common.{◌≡◌, ◌<◌, ℕ, List, ◌∷◌, length, take, slice_set, refl, subst, arith, []}
use Rattle.first_pass_tokens.proofs.Common.{MathBraces}
use Rattle.first_pass_tokens.specs.Braces.{after_dollar}
use Rattle.first_pass_tokens.proofs.braces.BraceContexts.pass_dollar.Goals as goal

-- the brace contexts after the first dollar sign
dollar_first : (stack : List ℕ) (len next : ℕ) (old : MathBraces) → record { stack = take len stack; next = next } ≡ old → len ≡ 0 → 0 < length stack
    → record { stack = take 1 (slice_set stack 0 255); next = next } ≡ after_dollar old
unfolding after_dollar
dollar_first [] len next old is none some = absurd (omega arith)
dollar_first (x ∷ xs) len next old is none some =
    let First : MathBraces → Type 0 = λ (b : MathBraces). record { stack = 255 ∷ []; next = next } ≡ after_dollar b in
    subst First is (rw none refl)

pub returns-then-self-eq0 : goal.returns-then-self-eq0
returns-then-self-eq0 c =
    dollar_first c.self.inside.stack c.self.inside.len c.self.inside.next c.args.self.now c.self.view_is c.if-self-eq0.true (omega (arith, c.self.ranges))
