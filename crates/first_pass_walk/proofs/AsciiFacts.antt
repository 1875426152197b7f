-- Punctuation among the ASCII characters.
use Rattle.std.proofs.Common.{◌≡◌, ℕ, ◌<◌, Bool, true, not, cond, ◌||◌, refl, arith}
use Rattle.first_pass_walk.proofs.Common.{nat_tests, is_ascii_punctuation}
use Rattle.ucd_table.proofs.Computing.{tables}
use Rattle.ucd_table.proofs.Facts.{Stepped-below}
use Rattle.ucd_category.specs.GeneralCategory.{general_category}
use Rattle.ucd_category.specs.GeneralCategoryGroup.{in_group}
use Rattle.ucd_category.specs.declared.GeneralCategoryGroup.TheVariants.{Punctuation, Symbol}
use Rattle.ucd_category.proofs.GeneralCategoryLemmas.{general_category_stepped}
use Rattle.first_pass_walk.specs.Flank.{is_punctuation}

-- two truth values are equal
same_equal : (a b : Bool) → cond a b (not b) ≡ true → a ≡ b
same_equal a b h = grind (arith, nat_tests, h)

pub punctuation_in_ascii : (c : ℕ) → c < 128 → is_punctuation c ≡ is_ascii_punctuation c
unfolding tables general_category_stepped is_punctuation
punctuation_in_ascii c h =
    same_equal _ _ (Stepped-below general_category general_category_stepped
    (λ x v. cond (in_group Punctuation v || in_group Symbol v) (is_ascii_punctuation x) (not (is_ascii_punctuation x))) 128 refl c h)
