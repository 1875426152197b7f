-- How far the lines of a paragraph are read (only private functions cite this).
use Rattle.std.proofs.Common.{◌≡◌, ◌⊎◌, ◌≤◌, ℕ, List, [], IsCharBoundary}
use Rattle.first_pass_grammar.proofs.Common.{Item, Forest, no_braces, Spot, spot, chained, Document, document, TextLines, AreTextLines, Names, Extends}
use Rattle.first_pass_grammar.proofs.Common.{lines_from}
use Rattle.first_pass_leaves.proofs.Common.{path_of, line_end_at}

-- The lines of a text are read up to the text of another line, with the brace contexts there. Under any further
-- names, the remaining lines turn the chain so far into the chain of all lines.
pub record LinesSoFar (d : Document) (start : ℕ) (old now : Forest Item) (to : Spot) : Type 0 where
  pub chain : List Item
  pub tree_is : now ≡ chained old chain
  pub boundary : IsCharBoundary d.text to.at
  pub from : (to.at ≡ start) ⊎ (line_end_at d.text start ≤ to.at)
  pub continues : (more : Names) → Extends more d.names → (t : TextLines)
      → AreTextLines (document d.text d.options more) (path_of d.options old) to chain (lines_from d.text (line_end_at d.text to.at)) t
      → AreTextLines (document d.text d.options more) (path_of d.options old) (spot start no_braces) [] (lines_from d.text (line_end_at d.text start)) t
