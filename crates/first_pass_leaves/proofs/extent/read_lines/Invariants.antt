use Rattle.std.proofs.Common.{◌≡◌, ◌≤◌, ◌-◌, length, IsCharBoundary}
use Rattle.first_pass_grammar.proofs.Common.{document, Extends}
use Rattle.first_pass_leaves.proofs.Common.{entries, names_of, range_of}
use Rattle.first_pass_leaves.proofs.ExtentLemmas.{ReadSoFar}
use Rattle.first_pass_leaves.proofs.extent.read_lines.Given as goal

-- the lines are read up to here
abbrev pub invariant-loop-ix : goal.invariant-loop-ix
invariant-loop-ix g l = record {
  later : l.start ≤ l.ix;
  boundary : IsCharBoundary l.source.text.now l.ix;
  names : Extends (names_of l.allocs) (names_of l.initial.allocs);
  same_entries : entries l.allocs ≡ entries l.initial.allocs;
  read : ReadSoFar (range_of (g.J.JudgesLines.kinds l.judge)) (document l.source.text.now l.source.options (names_of l.allocs))
      (g.J.JudgesLines.judges l.judge) l.start l.ix l.fn.tree l.tree;
}

abbrev pub decreases-loop-ix : goal.decreases-loop-ix
decreases-loop-ix g l = length l.source.text.now - l.ix
