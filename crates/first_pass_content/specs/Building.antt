-- A content that is being read: its last run stands in the text, and may grow. Only contracts of private functions cite
-- this.
use Rattle.std.specs.Prelude.{◌≡◌, ℕ, ◌+◌, ◌^◌, ◌<◌, List, ◌++◌, length}
use Rattle.std.specs.List.{slice_range}
use Rattle.first_pass_content.specs.Content.{ContentByte, placed}
use Rattle.first_pass_content.specs.Runs.{AreRuns, content_in}
use Rattle.first_pass_content.specs.declared.builder.ContentBuilder.{ContentBuilder}
use Rattle.first_pass_content.specs.declared.run.Run.{Run}

-- the content with these bytes of these runs, and a last run that stands in the text
abbrev pub content_with : List ℕ → List ℕ → List Run → Run → List ContentByte
content_with text bytes runs last = content_in bytes runs ++ placed last.start (slice_range text last.start last.«end»)

-- the runs have the bytes, and the last run has a place for each of its bytes in the text
pub record IsContentWith (text bytes : List ℕ) (runs : List Run) (last : Run) : Type 0 where
  pub before : AreRuns 0 runs last.place
  pub place : last.place ≡ length bytes
  pub size : last.place + length (slice_range text last.start last.«end») ≡ last.past
  pub order : last.start + length (slice_range text last.start last.«end») ≡ last.«end»
  pub small : last.«end» < 2 ^ 64

-- the content so far
abbrev pub built : List ℕ → ContentBuilder → List ContentByte
built text b = content_with text b.bytes.items b.runs.items b.last

abbrev pub IsBuilt : List ℕ → ContentBuilder → Type 0
IsBuilt text b = IsContentWith text b.bytes.items b.runs.items b.last
