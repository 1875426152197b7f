-- Facts on the opening of an ATX heading.
use Rattle.std.proofs.Common.{◌≡◌, ℕ, ◌≤◌, Bool, true, false, List, length, drop, Some, None, refl, ap, ◌∙◌, arith, if◌then◌else◌}
use Rattle.first_pass_lines.proofs.Common.{prefix_len, prefix_len-le-length, nat_tests, is_number_sign, level_number, level_of, ends_signs}
use Rattle.first_pass_items.specs.declared.item.HeadingLevel.{HeadingLevel}
use Rattle.first_pass_items.specs.declared.item.HeadingLevel.TheVariants.{H1, H2, H3, H4, H5, H6}
use Rattle.first_pass_lines.specs.Lines.{atx_level}

pub level_of-number : (n : ℕ) (level : HeadingLevel) → level_of n ≡ Some level → level_number level ≡ n
level_of-number n H1 h = grind (arith, nat_tests, h)
level_of-number n H2 h = grind (arith, nat_tests, h)
level_of-number n H3 h = grind (arith, nat_tests, h)
level_of-number n H4 h = grind (arith, nat_tests, h)
level_of-number n H5 h = grind (arith, nat_tests, h)
level_of-number n H6 h = grind (arith, nat_tests, h)

heading_by : (t : Bool) (n : ℕ) (level : HeadingLevel) → (if t then level_of n else None) ≡ Some level → (level_of n ≡ Some level) × (t ≡ true)
heading_by true n level e = (e, refl)
heading_by false n level e = cc

-- the signs of a heading, and what follows them
pub atx_level-signs : (bs : List ℕ) (level : HeadingLevel) → atx_level bs ≡ Some level
    → (level_number level ≡ prefix_len is_number_sign bs) × (level_number level ≤ length bs) × (ends_signs (drop (level_number level) bs) ≡ true)
unfolding atx_level
atx_level-signs bs level h =
    let n : ℕ = prefix_len is_number_sign bs in
    let parts = heading_by (ends_signs (drop n bs)) n level h in
    grind (arith, level_of-number, prefix_len-le-length)
