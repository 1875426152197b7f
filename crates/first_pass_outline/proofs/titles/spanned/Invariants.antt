use Rattle.std.proofs.Common.{◌≡◌, ◌++◌, length}
use Rattle.first_pass_outline.specs.Titles.{spanned, texts_after}
use Rattle.first_pass_outline.proofs.titles.spanned.Given as goal

-- the tokens so far, and those of the rest
abbrev pub invariant-loop-token : goal.invariant-loop-token
invariant-loop-token l = l.line.items ++ texts_after l.text l.last l.rest ≡ spanned l.text l.tokens

abbrev pub decreases-loop-token : goal.decreases-loop-token
decreases-loop-token l = length l.rest
