-- A setext heading underline and a thematic break take the rest of their line.
use Rattle.std.proofs.Common.{◌≡◌, ℕ, ◌+◌, ◌==◌, true, List, [], ◌∷◌, drop, Option, Some, None, ap, if◌then◌else◌, arith, eqb-true, option_map, refl, ◌∙◌}
use Rattle.first_pass_grammar.proofs.Common.{cond_both, nat_tests, none-some, some_if, some_mapped, hyphen, equals_sign, HeadingLevel, is_content, blank_len}
use Rattle.first_pass_grammar.proofs.Common.{eol_len, begins, line_len, line_place, prefix_len, hrule_len, setext_underline, run_len}
use Rattle.first_pass_items.specs.declared.item.HeadingLevel.TheVariants.{H1, H2}
use Rattle.first_pass_lines.proofs.LineFacts.{line_len-blank, line_len-eol}
use Rattle.first_pass_lines.proofs.PlaceFacts.{bytes_line_end}
use Rattle.first_pass_scan.specs.LeafLines.{in_rule, is_rule_byte, rule_len, underline_len}
use Rattle.first_pass_leaves.proofs.HeadingLemmas.{prefix_in}

run_line : (c : ℕ) (level : HeadingLevel) (bs : List ℕ) (found : ℕ × HeadingLevel) → is_content c ≡ true
    → option_map (λ n. (n, level)) (underline_len c bs) ≡ Some found → found.0 ≡ line_len bs
run_line c level bs found content e =
    let (size, some, is) = some_mapped (λ (n : ℕ). (n, level)) (underline_len c bs) found e in
    let n : ℕ = run_len c bs in
    let (k, end, whole) = some_mapped (λ k. n + k) (blank_len (drop n bs)) size some in
    let rest = line_len-blank (drop n bs) k end in
    let m = bytes_line_end n (line_place 0 bs) (prefix_in (λ b. b == c) (λ b same. ap is_content (eqb-true b c same) ∙ content) bs) in
    let long : size ≡ found.0 = ap (λ (z : ℕ × HeadingLevel). z.0) is in
    omega arith

pub underline_line : (bs : List ℕ) (found : ℕ × HeadingLevel) → setext_underline bs ≡ Some found → found.0 ≡ line_len bs
unfolding setext_underline
underline_line bs found h =
    let P : Option (ℕ × HeadingLevel) → Type 0 = λ o. o ≡ Some found → found.0 ≡ line_len bs in
    cond_both (begins equals_sign bs) _ _ P (λ _. run_line equals_sign H1 bs found refl)
    (λ _. cond_both (begins hyphen bs) _ _ P (λ _. run_line hyphen H2 bs found refl) (λ _ e. absurd (none-some found e))) h

rule_content : (c b : ℕ) → is_rule_byte c ≡ true → in_rule c b ≡ true → is_content b ≡ true
rule_content c b h e = grind (arith, nat_tests, h, e)

rule_by : (b : ℕ) (bs : List ℕ) (size : ℕ) → (if is_rule_byte b then rule_len b bs else None) ≡ Some size → size ≡ line_len bs
rule_by b bs size h =
    let n : ℕ = prefix_len (in_rule b) bs in
    let (rule, some) = some_if (is_rule_byte b) (rule_len b bs) size h in
    let long = some_if _ (option_map (λ k. n + k) (eol_len (drop n bs))) size some in
    let (k, end, is) = some_mapped (λ k. n + k) (eol_len (drop n bs)) size long.1 in
    let l = line_len-eol (drop n bs) k end in
    let m = bytes_line_end n (line_place 0 bs) (prefix_in (in_rule b) (λ c e. rule_content b c rule e) bs) in
    omega arith

pub rule_line : (bs : List ℕ) (size : ℕ) → hrule_len bs ≡ Some size → size ≡ line_len bs
unfolding hrule_len
rule_line [] size h = absurd (none-some size h)
rule_line (b ∷ bs) size h = rule_by b (b ∷ bs) size h
