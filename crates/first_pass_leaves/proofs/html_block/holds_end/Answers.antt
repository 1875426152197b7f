use Rattle.std.proofs.Common.{arith}
use Rattle.first_pass_leaves.proofs.HtmlLemmas.{raw_held, text_held}
use Rattle.first_pass_leaves.proofs.html_block.holds_end.Goals as goal

pub returns-in-AnyRawTag : goal.returns-in-AnyRawTag
returns-in-AnyRawTag c = grind (arith, raw_held)

pub returns-in-Text : goal.returns-in-Text
returns-in-Text c = grind (arith, text_held)
