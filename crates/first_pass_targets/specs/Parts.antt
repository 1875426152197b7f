-- Parts of a content. A content is a list of bytes in which each line ending is one newline. A place is an offset into
-- it (this project).
use Rattle.std.specs.Prelude.{ℕ, ◌≤◌, List}
use Rattle.std.specs.Str.{IsCharBoundary}
use Rattle.first_pass_targets.specs.declared.part.Part.{Part}

-- the part with this text, from one place up to another, and with this place after it
abbrev pub part : ℕ → ℕ → ℕ → Part
part from to past = record { start = from; «end» = to; past = past }

-- A part at or after a place. Its places are in order, within the content, and between characters (this project).
pub record IsPartFrom (content : List ℕ) (place : ℕ) (found : Part) : Type 0 where
  pub later : place ≤ found.start
  pub order : found.start ≤ found.«end»
  pub closed : found.«end» ≤ found.past
  pub from : IsCharBoundary content found.start
  pub upto : IsCharBoundary content found.«end»
  pub beyond : IsCharBoundary content found.past
