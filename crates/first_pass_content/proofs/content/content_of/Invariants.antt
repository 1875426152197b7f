use Rattle.std.proofs.Common.{◌≡◌, ◌++◌, length}
use Rattle.first_pass_content.specs.Building.{IsBuilt, built}
use Rattle.first_pass_content.specs.Content.{content}
use Rattle.first_pass_content.proofs.content.content_of.Given as goal

-- the content so far, and that of the rest
abbrev pub invariant-loop-node : goal.invariant-loop-node
invariant-loop-node l = IsBuilt l.text l.builder × (built l.text l.builder ++ content l.text l.rest ≡ content l.text l.tokens)

abbrev pub decreases-loop-node : goal.decreases-loop-node
decreases-loop-node l = length l.rest
