use Rattle.std.proofs.Common.{◌≡◌, ◌++◌, length}
use Rattle.first_pass_content.specs.Building.{IsBuilt, built}
use Rattle.first_pass_content.specs.Content.{content}
use Rattle.first_pass_content.specs.Tokens.{placed_tokens}
use Rattle.first_pass_content.proofs.tokens.placed_chain.Given as goal

-- the content so far, and that of the rest; the tokens so far, and the rest
abbrev pub invariant-loop-node : goal.invariant-loop-node
invariant-loop-node l = record {
  built_is : IsBuilt l.text l.builder;
  content_is : built l.text l.builder ++ content l.text l.rest ≡ content l.text l.tokens;
  placed_is : l.placed.items ++ placed_tokens l.text (length (built l.text l.builder)) l.rest ≡ placed_tokens l.text 0 l.tokens;
}

abbrev pub decreases-loop-node : goal.decreases-loop-node
decreases-loop-node l = length l.rest
