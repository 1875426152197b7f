use Rattle.std.proofs.Common.{◌≡◌, drop, is_some, sym, ap, ◌∙◌, arith}
use Rattle.first_pass_grammar.proofs.Common.{blank_len, after_destination}
use Rattle.first_pass_links.proofs.Parts.{of_text}
use Rattle.first_pass_definitions.proofs.OptionFacts.{unmatched}
use Rattle.first_pass_definitions.proofs.target.scan_after_destination.Goals as goal
use Rattle.first_pass_definitions.proofs.target.scan_after_destination.Goals.{After-is_some}

pub returns-in-Some-clause-value : goal.returns-in-Some-clause-value
unfolding after_destination
returns-in-Some-clause-value c = grind arith

blank_is : (c : After-is_some) → is_some (blank_len (drop c.args.at c.args.source.now.text.now)) ≡ c.is_some.result
blank_is c =
    ap is_some (sym (of_text blank_len _ c.scan_blank_line.ensures.value c.rest_of.ensures.value c.as_bytes.ensures.value)) ∙ sym c.is_some.ensures

pub returns-then-is_some-clause-value : goal.returns-then-is_some-clause-value
unfolding after_destination
returns-then-is_some-clause-value c = grind (arith, unmatched, blank_is)

pub returns-clause-value : goal.returns-clause-value
unfolding after_destination
returns-clause-value c = grind (arith, unmatched, blank_is)
