use Rattle.std.proofs.Common.{◌≡◌, ◌-◌, length}
use Rattle.first_pass_grammar.proofs.Common.{Extends, spot, document}
use Rattle.first_pass_leaves.proofs.Common.{entries, names_of}
use Rattle.first_pass_leaves.proofs.SoFar.{LinesSoFar}
use Rattle.first_pass_leaves.proofs.paragraph.append_text_lines.Given as goal

-- the lines are read up to here
abbrev pub invariant-lines : goal.invariant-lines
invariant-lines l = record {
  read : LinesSoFar (document l.source.text.now l.source.options (names_of l.allocs)) l.start l.initial.tree l.tree (spot l.ix l.braces);
  grown : Extends (names_of l.allocs) (names_of l.initial.allocs);
  entries : entries l.allocs ≡ entries l.initial.allocs;
}

abbrev pub decreases-lines : goal.decreases-lines
decreases-lines l = length l.source.text.now - l.ix
