use Rattle.std.proofs.Common.{◌≡◌, ◌-◌, ◌≤◌, length, IsCharBoundary}
use Rattle.first_pass_grammar.proofs.Common.{IndentCodeBlock, Place, document, Extends}
use Rattle.first_pass_leaves.proofs.Common.{opened_block, entries, names_of, IsPlaceAt, after_line_at}
use Rattle.first_pass_leaves.proofs.IndentedLemmas.{IndentedSoFar}
use Rattle.first_pass_leaves.proofs.indented_code.parse_indented_code_block.Given as goal

-- the block is open, and its lines are read up to here
abbrev pub invariant-lines : goal.invariant-lines
invariant-lines l = record {
  boundary : IsCharBoundary l.source.text.now l.next;
  from : after_line_at l.source.text.now l.start.at ≤ l.next;
  named : Extends (names_of l.allocs) (names_of l.fn.allocs);
  same_entries : entries l.allocs ≡ entries l.fn.allocs;
  read : (p : Place) → IsPlaceAt l.source.text.now l.start.at p → p.rest.owed ≡ l.start.owed
      → IndentedSoFar (document l.source.text.now l.source.options (names_of l.allocs)) p (opened_block l.fn.tree l.start.at IndentCodeBlock) l.tree l.next
      l.kept l.blank;
}

abbrev pub decreases-lines : goal.decreases-lines
decreases-lines l = length l.source.text.now - l.next
