-- The front of a line, and the open nodes that the line continues.
use Rattle.std.specs.Prelude.{◌≡◌, ℕ, ◌<◌, ◌≤◌, length, drop, true, Some, None}
use Rattle.first_pass_items.specs.declared.item.Item.{Item}
use Rattle.first_pass_tree.specs.Forest.{Forest}
use Rattle.first_pass_lines.specs.Places.{line_rest}
use Rattle.first_pass_lines.specs.Rest.{Rest}
use Rattle.first_pass_grammar.specs.Containers.{after}
use Rattle.first_pass_open.specs.Path.{path_in, outer}
use Rattle.first_pass_open.specs.declared.source.Source.{Source}
use Rattle.first_pass_kinds.specs.declared.next_front.NextFront.{NextFront}

-- The line at an offset continues this many open nodes of a tree, counted from the outermost, and no more. The rest is
-- what follows their prefixes in the line (CommonMark 5).
pub record IsFrontAt (source : Source) (f : Forest Item) (start continued : ℕ) (rest : Rest) : Type 0 where
  pub within : continued ≤ length f.spine
  pub taken : after (path_in source.options f.nodes (outer continued f.spine)) (line_rest (drop start source.text.now)) ≡ Some rest
  pub stops : (m : ℕ) → continued < m → m ≤ length f.spine
      → after (path_in source.options f.nodes (outer m f.spine)) (line_rest (drop start source.text.now)) ≡ None

-- if a front is known, it is that of the line at an offset (this project)
abbrev pub KnowsFront : Source → Forest Item → ℕ → NextFront → Type 0
KnowsFront source f start next = next.is_known ≡ true → IsFrontAt source f start next.continued next.rest
