use Rattle.std.proofs.Common.{◌≡◌, ◌-◌, length, IsCharBoundary}
use Rattle.first_pass_grammar.proofs.Common.{Place, offset, IsPlaceOf, in_table}
use Rattle.first_pass_blocks.proofs.Common.{tables_of, PutsDefinitions, context_in}
use Rattle.first_pass_blocks.proofs.LinkDefinitions.{RunSoFar}
use Rattle.first_pass_blocks.proofs.state.BlockPass.parse_run.Given as goal

-- the definitions are read up to here
abbrev pub invariant-loop-size : goal.invariant-loop-size
invariant-loop-size l = record {
  kept : PutsDefinitions l.fn.self l.self;
  boundary : IsCharBoundary l.fn.self.source.text.now l.at;
  so_far : (p : Place) → p.line ≡ l.fn.line → offset p ≡ l.fn.at → IsPlaceOf l.fn.self.source.text.now p
      → (q : Place) × (q.line ≡ l.line) × (offset q ≡ l.at)
      × RunSoFar l.fn.self.source.text.now (context_in l.fn.self) (in_table l.fn.self.state.tree.nodes l.fn.self.state.tree.spine) p q
      (tables_of l.fn.self.allocs) (tables_of l.self.allocs);
}

abbrev pub decreases-loop-size : goal.decreases-loop-size
decreases-loop-size l = length l.fn.self.source.text.now - l.at
