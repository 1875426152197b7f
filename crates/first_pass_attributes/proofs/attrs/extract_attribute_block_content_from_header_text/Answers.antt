use Rattle.std.proofs.Common.{◌≡◌, ℕ, ◌-◌, ◌<◌, List, length, slice_index, arith}
use Rattle.std.proofs.lemmas.Grind.{common_steps}
use Rattle.std.proofs.lemmas.Str.{IsCharBoundary-before_ascii, IsCharBoundary-after_ascii}
use Rattle.first_pass_items.specs.Bytes.{left_brace, right_brace}
use Rattle.first_pass_lines.specs.Lines.{ends}
use Rattle.first_pass_attributes.proofs.BlockFacts.{kept-end}
use Rattle.first_pass_attributes.proofs.attrs.extract_attribute_block_content_from_header_text.Goals as goal

pub returns-in-Some-clause-closes : goal.returns-in-Some-clause-closes
returns-in-Some-clause-closes c = grind (arith, kept-end)

pub returns-in-Some-clause-between : goal.returns-in-Some-clause-between
returns-in-Some-clause-between c =
    let heading : List ℕ = c.args.heading.now in
    let opening : ℕ = c.in-Some.opening in
    let closing : ℕ = length c.without_last-kept.result.now - 1 in
    let within : opening < length heading = grind (arith, common_steps) in
    let ends : closing < length heading = grind (arith, common_steps) in
    let opens : slice_index heading opening ≡ left_brace = grind (arith, common_steps) in
    let closes : slice_index heading closing ≡ right_brace = returns-in-Some-clause-closes c in
    let following = IsCharBoundary-before_ascii heading closing ends (omega (arith, closes)) in
    λ utf8. (IsCharBoundary-after_ascii heading opening utf8 within (omega (arith, opens)), following)
