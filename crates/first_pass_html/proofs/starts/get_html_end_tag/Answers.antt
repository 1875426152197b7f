use Rattle.std.proofs.Common.{arith, sym}
use Rattle.std.proofs.lemmas.Bool.Decides.{nat_tests}
use Rattle.first_pass_html.proofs.RawFacts.{question_end, other_end, no_end}
use Rattle.first_pass_html.proofs.starts.get_html_end_tag.Goals as goal

pub returns-in_default : goal.returns-in_default
returns-in_default c = record { value = sym (no_end c.args.bytes.now c.in_default.len_below) }

pub returns-in-63 : goal.returns-in-63
returns-in-63 c = record { value = sym (question_end c.args.bytes.now c.in-len1-up.len_at_least c.in-63.is) }

pub returns-in_default-first : goal.returns-in_default-first
returns-in_default-first c = grind (arith, other_end, nat_tests)

pub returns-in_default-2 : goal.returns-in_default-2
returns-in_default-2 c = grind (arith, other_end, nat_tests)
