use Rattle.std.proofs.Common.{◌∙◌, arith}
use Rattle.first_pass_items.proofs.ResultFacts.{on_err}
use Rattle.first_pass_attributes.proofs.AttributeFacts.{from_none}
use Rattle.first_pass_attributes.proofs.attrs.parse_inside_attribute_block.Goals as goal

pub returns-in_err-add_attribute_words-clause-err : goal.returns-in_err-add_attribute_words-clause-err
returns-in_err-add_attribute_words-clause-err c = grind (arith, on_err, from_none)

pub returns-clause-value : goal.returns-clause-value
returns-clause-value c = c.in_ok-add_attribute_words.ensures.value ∙ from_none c.args.inside_attr_block.now c.new-attributes.result c.new-attributes.ensures
