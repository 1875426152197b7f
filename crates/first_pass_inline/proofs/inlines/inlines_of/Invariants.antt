use Rattle.std.proofs.Common.{◌≡◌, ◌+◌, length}
use Rattle.first_pass_content.specs.Chains.{AreChains}
use Rattle.first_pass_inline.specs.Inlines.{chains_from}
use Rattle.first_pass_inline.proofs.Blocks.{AreSoFar}
use Rattle.first_pass_inline.proofs.inlines.inlines_of.Given as goal

-- the inlines so far are those of the blocks before
abbrev pub invariant-loop-node : goal.invariant-loop-node
invariant-loop-node l = record {
  are : AreSoFar l.text l.labels l.block l.rest l.found.items (chains_from 0 l.nodes);
  chains : AreChains l.text l.rest;
  size : l.block + length l.rest ≡ length l.nodes;
}

abbrev pub decreases-loop-node : goal.decreases-loop-node
decreases-loop-node l = length l.rest
