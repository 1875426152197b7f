use Rattle.std.proofs.Common.{◌≡◌, Some}
use Rattle.first_pass_grammar.proofs.Common.{after}
use Rattle.first_pass_open.proofs.Common.{path_in, outer}
use Rattle.first_pass_open.proofs.prefixes.scan_containers.Given as goal

abbrev pub invariant-loop-i : goal.invariant-loop-i
invariant-loop-i l = after (path_in l.fn.options l.tree.nodes (outer l.i l.tree.spine)) l.fn.line_start ≡ Some l.line_start
