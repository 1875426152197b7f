-- The first line from an offset on that closes metadata, and the record of it.
use Rattle.std.specs.Prelude.{◌≡◌, ◌≤◌, ℕ, List, [], ◌∷◌, length, drop, IfSome, if◌then◌else◌}
use Rattle.first_pass_items.specs.Bytes.{plus_sign, hyphen}
use Rattle.first_pass_lines.specs.Places.{Place, lines_at}
use Rattle.first_pass_scan.specs.Metadata.{closes_metadata}
use Rattle.first_pass_scan.specs.declared.metadata_search.ClosingLine.{ClosingLine}
use Rattle.first_pass_scan.specs.declared.metadata_search.MetadataEnds.{MetadataEnds}

-- the start of the first of these lines that closes metadata of the byte c; if none does, n, the length of the text
-- (this project)
unfoldable pub first_closing : ℕ → ℕ → List Place → ℕ
first_closing c n [] = n
first_closing c n (line ∷ lines) = if closes_metadata c line.rest.left then line.line else first_closing c n lines

-- the start of the first line from an offset on that closes metadata of the byte c; the end of the text, if none does
-- (this project)
unfoldable pub closing_line_from : ℕ → List ℕ → ℕ → ℕ
closing_line_from c text from = first_closing c (length text) (lines_at from (drop from text))

-- the record for the byte c is right: `found.at` is the start of the first line from `found.from` on that closes
-- metadata of that byte (this project)
pub record IsClosingLine (c : ℕ) (text : List ℕ) (found : ClosingLine) : Type 0 where
  pub within : found.from ≤ length text
  pub first : found.at ≡ closing_line_from c text found.from

-- the records for `-` and for `+` are right, if there are any (this project)
pub record IsKnownOf (text : List ℕ) (ends : MetadataEnds) : Type 0 where
  pub for_dashes : IfSome ends.dashes (IsClosingLine hyphen text)
  pub for_pluses : IfSome ends.pluses (IsClosingLine plus_sign text)
