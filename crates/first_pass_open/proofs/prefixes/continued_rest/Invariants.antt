use Rattle.std.proofs.Common.{◌≡◌, Some}
use Rattle.first_pass_grammar.proofs.Common.{line_rest, after}
use Rattle.first_pass_open.proofs.Common.{path_in, outer}
use Rattle.first_pass_open.proofs.prefixes.continued_rest.Given as goal

abbrev pub invariant-loop-i : goal.invariant-loop-i
invariant-loop-i l = after (path_in l.fn.options l.tree.nodes (outer l.i l.tree.spine)) (line_rest l.fn.bytes) ≡ Some l.rest
