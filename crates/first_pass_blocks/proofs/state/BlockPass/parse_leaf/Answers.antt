use Rattle.std.proofs.Common.{subst}
use Rattle.first_pass_blocks.proofs.BlockRead.{state_at}
use Rattle.first_pass_blocks.proofs.Leaves.TextLemmas.{IsAtPlain, plain_leaf}
use Rattle.first_pass_blocks.proofs.state.BlockPass.parse_leaf.Goals as goal

pub returns-then-is_at_plain-clause-block : goal.returns-then-is_at_plain-clause-block
returns-then-is_at_plain-clause-block c =
    plain_leaf c.args.self.now _ c.args.place _ (state_at c.requires c.recall_forest.ensures)
    (subst IsAtPlain c.place.view_is (c.is_at_plain.ensures.owed c.if-is_at_plain.true, c.is_at_plain.ensures.plain c.if-is_at_plain.true))
    (rw c.offset.ensures at c.in_ok-next.ensures.text)
