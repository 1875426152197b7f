-- The runs of a content, as they are kept.
use Rattle.std.specs.Prelude.{◌≡◌, ℕ, ◌+◌, ◌-◌, ◌^◌, ◌<◌, ◌≤◌, List, [], ◌∷◌, ◌++◌, length}
use Rattle.std.specs.List.{slice_range}
use Rattle.first_pass_content.specs.Content.{ContentByte, byte_in}
use Rattle.first_pass_content.specs.declared.run.Run.{Run}

abbrev pub run_with : ℕ → ℕ → ℕ → ℕ → Run
run_with place past start to = record { place = place; past = past; start = start; «end» = to }

-- the run without bytes at a place and an offset
abbrev pub empty_run : ℕ → ℕ → Run
empty_run place at = run_with place place at at

-- the offset at which the byte at a place of a run begins
abbrev pub start_of : Run → ℕ → ℕ
start_of r place = r.start + (place - r.place)

-- the offset at which the byte at a place of a run ends
abbrev pub end_of : Run → ℕ → ℕ
end_of r place = r.«end» - (r.past - 1 - place)

-- these bytes of a run, the first of which is at this place
abbrev pub run_from : Run → ℕ → List ℕ → List ContentByte
run_from r place [] = []
run_from r place (b ∷ bs) = byte_in b (start_of r place) (end_of r place) ∷ run_from r (place + 1) bs

-- the content with these runs and these bytes
unfoldable pub content_in : List ℕ → List Run → List ContentByte
content_in bytes [] = []
content_in bytes (r ∷ runs) = run_from r r.place (slice_range bytes r.place r.past) ++ content_in bytes runs

-- the offsets of the bytes of a run are numbers of 64 bits
pub record Fits (r : Run) : Type 0 where
  pub starts : r.start + r.past ≤ 2 ^ 64 + r.place
  pub ends : r.past ≤ r.place + r.«end» + 1

-- the runs follow one another from a place up to another, and none is empty
abbrev pub AreRuns : ℕ → List Run → ℕ → Type 0
AreRuns at [] past = at ≡ past
AreRuns at (r ∷ runs) past = (r.place ≡ at) × (r.place < r.past) × Fits r × AreRuns r.past runs past

-- The runs before the last follow one another up to it, and it extends to the end of the bytes. It may be empty.
pub record AreAllRuns (bytes : List ℕ) (runs : List Run) (last : Run) : Type 0 where
  pub before : AreRuns 0 runs last.place
  pub order : last.place ≤ last.past
  pub whole : last.past ≡ length bytes
  pub fits : Fits last

-- a run has a byte at a place
pub record HasPlace (r : Run) (place : ℕ) : Type 0 where
  pub from : r.place ≤ place
  pub before : place < r.past
  pub fits : Fits r
