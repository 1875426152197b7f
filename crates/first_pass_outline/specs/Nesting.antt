-- The nesting of headings by their levels (this project).
use Rattle.std.specs.Prelude.{ℕ, suc, nat_lt, not, Bool, false, List, [], ◌∷◌, if◌then◌else◌}
use Rattle.first_pass_lines.specs.Lines.{level_number}
use Rattle.first_pass_outline.specs.Titles.{Title}
use Rattle.first_pass_outline.specs.EntryTexts.{is_unwritten}

-- The depth of a heading of this level after headings of these levels, the nearest first. It is a child of the nearest
-- one with a smaller level, so it is one deeper than that; without one its depth is 0.
abbrev pub depth_after : List ℕ → ℕ → ℕ
depth_after [] level = 0
depth_after (nearest ∷ earlier) level = if nat_lt nearest level then suc (depth_after earlier nearest) else depth_after earlier level

-- the number of headings that are open after headings of these levels, the nearest first: the nearest, and those around
-- it
abbrev pub open_after : List ℕ → ℕ
open_after [] = 0
open_after (nearest ∷ earlier) = suc (depth_after earlier nearest)

-- the level of a heading
abbrev pub level_of_title : Title → ℕ
level_of_title title = level_number title.entry.level

-- an entry of a table of contents: a heading; how many headings are around it; how many are open before it; and whether
-- the entry before it has a text
pub record Placed : Type 0 where
  pub title : Title
  pub depth : ℕ
  pub open_before : ℕ
  pub follows_text : Bool

-- the entry of a heading after headings of these levels, the nearest first; given is whether that one has a text
abbrev pub place : List ℕ → Bool → Title → Placed
place earlier follows_text title =
    record { title = title; depth = depth_after earlier (level_of_title title); open_before = open_after earlier; follows_text = follows_text }

-- the entries of headings, after headings of these levels
unfoldable pub placed : List ℕ → Bool → List Title → List Placed
placed earlier follows_text [] = []
placed earlier follows_text (title ∷ titles) =
    place earlier follows_text title ∷ placed (level_of_title title ∷ earlier) (not (is_unwritten title)) titles

-- the entries of all headings of a text
abbrev pub contents : List Title → List Placed
contents titles = placed [] false titles
