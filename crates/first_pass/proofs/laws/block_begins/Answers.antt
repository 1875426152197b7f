use Rattle.std.proofs.Common.{length, Some, None, refl, arith}
use Rattle.first_pass.proofs.Common.{top_begun, opened_whole}
use Rattle.first_pass_order.proofs.WholeKept.{kept_of}
use Rattle.first_pass.proofs.BetweenCalls.{chain_begun, may_add_begun, item_begun, just_pushed}
use Rattle.first_pass.proofs.MarkedText.{marked_may_add}
use Rattle.first_pass.proofs.laws.block_begins.Goals as goal

pub returns-clause-pushed : goal.returns-clause-pushed
returns-clause-pushed c = λ start body r.
    let pushed = just_pushed start body r in
    (pushed, record { place = record { 0 = length r.tree.nodes }; around = r.tree.spine; innermost = refl; childless = λ none. pushed.last })

pub returns-clause-innermost : goal.returns-clause-innermost
returns-clause-innermost c = λ start body r. top_begun start body r

pub returns-clause-may_add : goal.returns-clause-may_add
returns-clause-may_add c = λ text r at start body may_add low starts other. may_add_begun text r at start body may_add low starts other

pub returns-clause-item : goal.returns-clause-item
returns-clause-item c = λ text r at start body read low starts item. item_begun text r at start body read low starts item

pub returns-clause-whole : goal.returns-clause-whole
returns-clause-whole c = λ names start body r shows other whole. opened_whole names r.tree start body shows other (kept_of names r.tree whole)

pub returns-clause-chain : goal.returns-clause-chain
returns-clause-chain c = λ text start body r is_text starts. chain_begun start body r text start None is_text starts (omega arith)

pub returns-clause-marked : goal.returns-clause-marked
returns-clause-marked c = λ text r at from start body marker may_add early inside stands is_text starts. (
  marked_may_add text r at from start body marker may_add early inside is_text starts stands.0 stands.1,
  chain_begun start body r text from (Some marker) is_text starts stands,
)
