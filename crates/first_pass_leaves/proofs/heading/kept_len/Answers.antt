use Rattle.std.proofs.Common.{◌≡◌, ◌<◌, ◌≤◌, ◌⊎◌, ℕ, ◌-◌, ◌==◌, ◌||◌, nat_lt, List, length, take, sym, ◌∙◌, arith, if◌then◌else◌}
use Rattle.first_pass_grammar.proofs.Common.{suffix_len, nat_tests, space, number_sign, is_space_or_line_end, kept_len}
use Rattle.first_pass_leaves.proofs.KeptBytes.{kept_counted, kept_unclosed}
use Rattle.first_pass_leaves.proofs.heading.kept_len.Goals as goal

choose_taken : (t o n : ℕ) → (o ≡ 0) ⊎ (0 < n) → (if (o == 0) || nat_lt 0 n then o - n else t) ≡ o - n
choose_taken t o n h = grind (arith, nat_tests, h)

choose_kept : (t o n : ℕ) → (o ≡ 0 → ⊥) → n ≤ 0 → (if (o == 0) || nat_lt 0 n then o - n else t) ≡ t
choose_kept t o n h k = grind (arith, nat_tests, h, k)

-- the counts in the code
counted : (text front front' : List ℕ) (a b n : ℕ)
    → a ≡ suffix_len is_space_or_line_end text → front ≡ take (length text - a) text → b ≡ suffix_len (λ b. b == number_sign) front
    → front' ≡ take (length text - a - b) text → n ≡ suffix_len (λ b. b == space) front'
    → kept_len text ≡ (if (length text - a - b == 0) || nat_lt 0 n then length text - a - b - n else length text - a)
counted text front front' a b n e f g h k = rw (k, h, g, f, e) (kept_counted text)

pub returns-then-spaces-gt0-clause-value : goal.returns-then-spaces-gt0-clause-value
returns-then-spaces-gt0-clause-value c = grind (arith, counted, choose_taken)

pub returns-else-spaces-gt0-clause-value : goal.returns-else-spaces-gt0-clause-value
returns-else-spaces-gt0-clause-value c =
    sym (counted c.args.text.now _ _ _ _ _ c.trailing_space_len.ensures.value c.first_bytes.ensures c.trailing_run-signs.ensures.value c.first_bytes-2.ensures
    c.trailing_run-spaces.ensures.value
    ∙ choose_kept _ _ _ c.if-spaces-gt0.false.0 c.if-spaces-gt0.false.1)

pub returns-then-signs-eq0-clause-value : goal.returns-then-signs-eq0-clause-value
returns-then-signs-eq0-clause-value c = grind (arith, kept_unclosed)
