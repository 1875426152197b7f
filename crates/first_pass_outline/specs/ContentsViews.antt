-- The view of the entries of a table of contents in contracts, and of the levels of the open headings.
use Rattle.std.specs.Prelude.{◌≡◌, ℕ, nat_lt, not, Bool, List, [], ◌∷◌, ◌++◌, length, map, take, Option, Some, None}
use Rattle.std.specs.List.{prefix_len}
use Rattle.first_pass_outline.specs.Entries.{entry_in}
use Rattle.first_pass_outline.specs.EntryTexts.{is_unwritten}
use Rattle.first_pass_outline.specs.Titles.{Title}
use Rattle.first_pass_outline.specs.Nesting.{Placed, level_of_title}
use Rattle.first_pass_outline.specs.declared.contents.Contents.{Contents}
use Rattle.first_pass_outline.specs.declared.contents.ContentsEntry.{ContentsEntry}

-- an entry, with its id and its text as bytes
abbrev pub placed_in : ContentsEntry → Placed
placed_in e = record {
  title = record { entry = entry_in e.heading; text = e.text.items };
  depth = e.depth;
  open_before = e.open_before;
  follows_text = e.follows_text;
}

-- the number of open headings around one of this level; given are their levels, the outermost first
abbrev pub around_count : List ℕ → ℕ → ℕ
around_count levels level = prefix_len (λ outer. nat_lt outer level) levels

-- the levels of the open headings after one of this level
abbrev pub with_level : List ℕ → ℕ → List ℕ
with_level levels level = take (around_count levels level) levels ++ level ∷ []

-- the entry of a heading among open headings of these levels
abbrev pub placed_among : List ℕ → Bool → Title → Placed
placed_among levels follows_text title = record {
  title = title;
  depth = around_count levels (level_of_title title);
  open_before = length levels;
  follows_text = follows_text;
}

-- the entry of a heading is added
pub record AddsEntry (old new : Contents) (title : Title) : Type 0 where
  pub entries : map placed_in new.entries.items ≡ map placed_in old.entries.items ++ placed_among old.levels.items old.has_text title ∷ []
  pub levels : new.levels.items ≡ with_level old.levels.items (level_of_title title)
  pub text : new.has_text ≡ not (is_unwritten title)

-- the entry of a node is added, if it is a heading
abbrev pub AddsNode : Contents → Contents → Option Title → Type 0
AddsNode old new None = new ≡ old
AddsNode old new (Some title) = AddsEntry old new title
