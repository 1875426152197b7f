use Rattle.std.proofs.Common.{arith, rules, take_all}
use Rattle.std.proofs.lemmas.List.Sums.{suffix_len-take_yes, suffix_len-take_no}
use Rattle.first_pass_attributes.proofs.attrs.scan_near_inside_block.Goals as goal

pub loop-at-init : goal.loop-at-init
loop-at-init c = search (rules, take_all)

pub loop-at-preserved : goal.loop-at-preserved
loop-at-preserved c = grind (arith, suffix_len-take_yes)

pub returns-clause-value : goal.returns-clause-value
returns-clause-value c = grind (arith, suffix_len-take_no)
