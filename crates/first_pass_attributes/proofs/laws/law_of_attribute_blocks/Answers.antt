use Rattle.first_pass_attributes.proofs.BlockFacts.{block-found, block-only}
use Rattle.first_pass_attributes.proofs.laws.law_of_attribute_blocks.Goals as goal

pub returns-clause-found : goal.returns-clause-found
returns-clause-found c = block-found c.args.heading.now

pub returns-clause-only : goal.returns-clause-only
returns-clause-only c = block-only c.args.heading.now
