-- The rows of a table that are read so far.
use Rattle.std.proofs.Common.{◌≡◌, ℕ, ◌+◌, ◌≤◌, List, ◌++◌, length, None, IsCharBoundary}
use Rattle.first_pass_grammar.proofs.Common.{Item, at_depth, Names, Extends, Document, document, lines_from, Taken, taking, AreRows}
use Rattle.first_pass_open.specs.Path.{path_of}
use Rattle.first_pass_tables.specs.Appends.{OpenTable, so_far}

-- Rows are read up to an offset, with the brace contexts of the table there. Under any further names, these rows
-- followed by the rows from the offset on are the rows from the first on.
pub record BodySoFar (d : Document) (columns start : ℕ) (old now : OpenTable) (at : ℕ) : Type 0 where
  pub body : List (ℕ × Item)
  pub nodes : now.tree.nodes ≡ old.tree.nodes ++ at_depth (length old.tree.spine + 1) body
  pub spine : now.tree.spine ≡ old.tree.spine
  pub some : now.tree.current ≡ None → ⊥
  pub later : start ≤ at
  pub boundary : IsCharBoundary d.text at
  pub continues : (later : Names) → Extends later d.names → (t : Taken)
      → AreRows (document d.text d.options later) (path_of d.options old.tree) (so_far columns now) (lines_from d.text at) t
      → AreRows (document d.text d.options later) (path_of d.options old.tree) (so_far columns old) (lines_from d.text start)
      (taking (body ++ t.items) t.left)
