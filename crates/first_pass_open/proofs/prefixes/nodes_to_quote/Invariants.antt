use Rattle.std.proofs.Common.{◌≡◌, ◌≤◌, false, length}
use Rattle.first_pass_grammar.proofs.Common.{Options}
use Rattle.first_pass_open.proofs.Common.{has_quote_after}
use Rattle.first_pass_open.proofs.prefixes.nodes_to_quote.Given as goal

-- no block quote is open inside the outermost `end` open nodes
abbrev pub invariant-loop-end : goal.invariant-loop-end
invariant-loop-end l = record {
  within : l.«end» ≤ length l.spine;
  none : (options : Options) → has_quote_after options l.tree l.«end» ≡ false;
}

abbrev pub decreases-loop-end : goal.decreases-loop-end
decreases-loop-end l = l.«end»
