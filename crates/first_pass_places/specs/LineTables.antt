-- The places that a table of a text's lines has (this project).
use Rattle.std.specs.Prelude.{◌≡◌, ℕ, ◌*◌, ◌<◌, List, length, slice_index_or}
use Rattle.first_pass_places.specs.LineColumns.{line_column}
use Rattle.first_pass_places.specs.declared.line_column.LineColumn.{LineColumn}

-- the lines and columns of the offsets of a text that are multiples of 64, up to its end (this project)
pub record AreMarks (text : List ℕ) (marks : List LineColumn) : Type 0 where
  pub each : (k : ℕ) (d : LineColumn) → k < length marks → slice_index_or marks k d ≡ line_column text (k * 64)
  pub whole : length text < length marks * 64
