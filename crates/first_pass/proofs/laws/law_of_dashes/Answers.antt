use Rattle.std.proofs.Common.{◌≡◌, ℕ, ◌+◌, ◌*◌, ◌≤◌, ◌==◌, ◌%◌, true, false, refl, arith}
use Rattle.first_pass_tokens.specs.NamedTexts.{dash_counts}
use Rattle.first_pass.proofs.laws.law_of_dashes.Goals as goal

dashes_sum : (n : ℕ) → 2 ≤ n → 3 * (dash_counts n).0 + 2 * (dash_counts n).1 ≡ n
unfolding dash_counts
dashes_sum n low = grind arith

dashes_threes : (n : ℕ) → (n % 3 == 0) ≡ true → (dash_counts n).1 ≡ 0
unfolding dash_counts
dashes_threes n h = rw h refl

dashes_twos : (n : ℕ) → (n % 3 == 0) ≡ false → (n % 2 == 0) ≡ true → (dash_counts n).0 ≡ 0
unfolding dash_counts
dashes_twos n three two = rw (three, two) refl

dashes_few : (n em en : ℕ) → (n % 3 == 0) ≡ false → (n % 2 == 0) ≡ false → 3 * em + 2 * en ≡ n → (dash_counts n).1 ≤ en
unfolding dash_counts
dashes_few n em en three two is = grind arith

pub returns-clause-sum : goal.returns-clause-sum
returns-clause-sum c = λ n low. dashes_sum n low

pub returns-clause-threes : goal.returns-clause-threes
returns-clause-threes c = λ n h. dashes_threes n h

pub returns-clause-twos : goal.returns-clause-twos
returns-clause-twos c = λ n three two. dashes_twos n three two

pub returns-clause-fewest : goal.returns-clause-fewest
returns-clause-fewest c = λ n em en three two is. dashes_few n em en three two is
