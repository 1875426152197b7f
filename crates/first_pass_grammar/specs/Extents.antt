-- Extents: the lines of a raw leaf block, and its end (CommonMark 4.5, 4.6, and this project).
use Rattle.std.specs.Prelude.{ℕ, List, [], ◌∷◌, Option, Some, None}
use Rattle.first_pass_lines.specs.Places.{Place, line_end}
use Rattle.first_pass_grammar.specs.declared.kind.Container.{Container}
use Rattle.first_pass_grammar.specs.Containers.{taken}

-- The raw lines of a leaf block, each as the place where its text begins; the end of the block; and the lines after
-- it.
pub record Extent : Type 0 where
  pub places : List Place
  pub «end» : ℕ
  pub left : List Place

-- the extent with one more raw line at its front
abbrev pub with_line : Place → Extent → Extent
with_line p e = record { places = p ∷ e.places; «end» = e.«end»; left = e.left }

-- an extent without raw lines that ends at an offset
abbrev pub extent_to : ℕ → List Place → Extent
extent_to e lines = record { places = []; «end» = e; left = lines }

-- What a line means for the block that is being read.
-- It is a raw line, whose text begins at a place.
-- It is the last raw line, whose text begins at a place, and the block ends with it.
-- It closes the block at an offset, and has no text.
-- It is not in the block, which ends at an offset.
pub data Verdict : Type 0 where
  GoesOn : Place → Verdict
  IsLast : Place → Verdict
  Closes : ℕ → Verdict
  Stops : ℕ → Verdict

-- the extent from a line on, given what the line means and the extent if the block continues after it
abbrev pub extent_by : Verdict → Place → List Place → Extent → Extent
extent_by (GoesOn p) line lines further = with_line p further
extent_by (IsLast p) line lines further = with_line p (extent_to (line_end p) lines)
extent_by (Closes e) line lines further = extent_to e lines
extent_by (Stops e) line lines further = extent_to e (line ∷ lines)

-- The extent of a block among these lines of a text of n bytes: up to the first line that ends it, or to the end of
-- the text.
unfoldable pub extent : (Place → Verdict) → ℕ → List Place → Extent
extent judge n [] = extent_to n []
extent judge n (line ∷ lines) = extent_by (judge line) line lines (extent judge n lines)

-- A line that does not continue the containers around the block stops it at the start of the line (CommonMark 5). Any
-- other line is judged from the place after their prefixes.
abbrev pub judged : (Place → Place → Verdict) → Place → Option Place → Verdict
judged judge line None = Stops line.line
judged judge line (Some q) = judge line q

abbrev pub in_containers : List Container → (Place → Place → Verdict) → Place → Verdict
in_containers path judge line = judged judge line (taken path line)
