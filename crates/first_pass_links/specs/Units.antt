-- The units in which a label is read. Only contracts of private functions cite this.
use Rattle.std.specs.Prelude.{◌≡◌, ◌⊎◌, ℕ, ◌+◌, ◌-◌, ◌==◌, ◌<◌, ◌≤◌, ◌&&◌, not, Bool, true, false, List, [], ◌∷◌, ◌++◌, length, take, drop, slice_index}
use Rattle.std.specs.Prelude.{Option, Result, Ok, None, IfSome, IsSomeAnd, MatchOption, if◌then◌else◌}
use Rattle.std.specs.List.{list_any, list_all, count_by}
use Rattle.std.specs.Borrow.{Bor}
use Rattle.std.specs.Str.{IsCharBoundary}
use Rattle.std.specs.declared.alloc.AllocError.{AllocError}
use Rattle.first_pass_items.specs.Bytes.{space, pipe, right_bracket, ascii_end}
use Rattle.first_pass_lines.specs.Lines.{begins, is_white_or_line_end}
use Rattle.first_pass_links.specs.Escapes.{begins_escape}
use Rattle.first_pass_links.specs.Changes.{begins_pipe_escape}
use Rattle.first_pass_links.specs.declared.label.Unit.{Unit}
use Rattle.first_pass_links.specs.Labels.{ReturnsAfter, ErrsAfter, IsRewritten, begins_character, joined, bytes_of, label_len, label_at, as_read}

-- the bytes from one offset up to another (this project)
abbrev pub part : List ℕ → ℕ → ℕ → List ℕ
part text from to = take (to - from) (drop from text)

-- a unit of which all bytes are kept (CommonMark 6.3)
abbrev pub kept_unit : ℕ → ℕ → Bool → Unit
kept_unit next characters solid = record { next = next; characters = characters; solid = solid; paused = next; resumed = next; space = false }

-- a run of white space and line endings: a space replaces it, unless it is a single space (CommonMark 6.3)
abbrev pub space_unit : List ℕ → ℕ → ℕ → ℕ → Unit
space_unit text at next characters =
    if next == at + 1 && slice_index text at == space
    then kept_unit next characters false
    else record { next = next; characters = characters; solid = false; paused = at; resumed = next; space = true }

-- a unit without the backslash at an offset (GFM 4.10)
abbrev pub dropped_unit : ℕ → ℕ → ℕ → Unit
dropped_unit next characters dropped =
    record { next = next; characters = characters; solid = true; paused = dropped; resumed = dropped + 1; space = false }

-- the unit that begins with a backslash: `\\|` or `\|` in a table, without the backslash directly before the pipe;
-- otherwise an escape, or a backslash that escapes nothing (CommonMark 2.4, GFM 4.10)
abbrev pub backslash_unit : Bool → ℕ → List ℕ → Unit
backslash_unit in_table at bs =
    if in_table && begins_pipe_escape bs then dropped_unit (at + 3) 3 (at + 1)
    else (if in_table && begins pipe (drop 1 bs) then dropped_unit (at + 2) 2 at
    else (if begins_escape bs then kept_unit (at + 2) 2 true else kept_unit (at + 1) 1 true))

-- the text that is read from a unit: its bytes except those that are left out, and a space if one replaces these
-- (CommonMark 6.3)
abbrev pub read_of : List ℕ → ℕ → Unit → List ℕ
read_of text at unit = part text at unit.paused ++ ((if unit.space then space ∷ [] else []) ++ part text unit.resumed unit.next)

-- the rest of the joined text of a label from an offset on, each byte with its offset (this project)
abbrev pub left_at : (List ℕ → Option ℕ) → List ℕ → ℕ → List (ℕ × ℕ)
left_at prefix text at = joined prefix at 0 (drop at text)

-- The weight of a text: 2 for each byte of white space or of a line ending, except spaces; 1 for each other byte. A
-- text that changes gets lighter (this project).
unfoldable pub weight : List ℕ → ℕ
weight [] = 0
weight (b ∷ bs) = (if is_white_or_line_end b && not (b == space) then 2 else 1) + weight bs

-- a unit at an offset, and the bytes that it leaves out, if any (this project)
pub record IsUnit (text : List ℕ) (at : ℕ) (unit : Unit) : Type 0 where
  pub begins : at ≤ unit.paused
  pub order : unit.paused ≤ unit.resumed
  pub resumes : unit.resumed ≤ unit.next
  pub later : at < unit.next
  pub within : unit.next ≤ length text
  pub bound : unit.characters ≤ unit.next - at
  pub change : (unit.paused ≡ unit.resumed) ⊎ ((slice_index text unit.paused < ascii_end) × IsCharBoundary text unit.resumed
      × (weight (if unit.space then space ∷ [] else []) < weight (part text unit.paused unit.resumed)))
  pub same : unit.paused ≡ unit.resumed → unit.space ≡ false

-- A unit is read. Its bytes are the next of the joined text, and have this many characters. No bracket among them
-- ends the label. From this unit on, the label as it is read is the text of this unit, then the text of the remaining
-- bytes (CommonMark 6.3).
pub record Reads (prefix : List ℕ → Option ℕ) (in_table : Bool) (text : List ℕ) (at : ℕ) (unit : Unit) : Type 0 where
  pub run : List (ℕ × ℕ)
  pub joins : left_at prefix text at ≡ run ++ left_at prefix text unit.next
  pub count : count_by begins_character (bytes_of run) ≡ unit.characters
  pub something : list_any (λ b. not (is_white_or_line_end b)) (bytes_of run) ≡ unit.solid
  pub passed : label_len (bytes_of run ++ bytes_of (left_at prefix text unit.next)) ≡ length run + label_len (bytes_of (left_at prefix text unit.next))
  pub changes : (unit.paused ≡ unit.resumed) ⊎ (weight (read_of text at unit) < weight (bytes_of run))
  pub reads : (n : ℕ) → as_read in_table (bytes_of run ++ take n (bytes_of (left_at prefix text unit.next)))
      ≡ read_of text at unit ++ as_read in_table (take n (bytes_of (left_at prefix text unit.next)))

-- `from` is between characters, and at most `at`, which is an offset into the text. Either `from` is 0 and nothing is
-- written, or `written` is lighter than the bytes before `from` (this project).
pub record IsLighter (text : List ℕ) (written : List ℕ) (from at : ℕ) : Type 0 where
  pub order : from ≤ at
  pub within : at ≤ length text
  pub boundary : IsCharBoundary text from
  pub lighter : ((from ≡ 0) × (written ≡ [])) ⊎ (weight written < weight (take from text))

-- a run of white space and line endings from one offset up to another, across prefixes, with its number of characters
-- (CommonMark 6.3)
pub record IsWhiteRun (prefix : List ℕ → Option ℕ) (text : List ℕ) (at next characters : ℕ) : Type 0 where
  pub run : List (ℕ × ℕ)
  pub joins : left_at prefix text at ≡ run ++ left_at prefix text next
  pub white : list_all is_white_or_line_end (bytes_of run) ≡ true
  pub count : length run ≡ characters

-- the rest of the label has only white space and line endings (CommonMark 6.3)
abbrev pub IsBlankRest : (List ℕ → Option ℕ) → List ℕ → ℕ → Type 0
IsBlankRest prefix text at = list_all is_white_or_line_end (bytes_of (left_at prefix text at)) ≡ true

-- The end of a run of white space and line endings that begins at an offset. It is within the text, between characters,
-- and after the first byte. A run of one space ends directly after it (CommonMark 6.3).
pub record EndsWhiteRun (text : List ℕ) (at next characters : ℕ) : Type 0 where
  pub later : at < next
  pub within : next ≤ length text
  pub boundary : IsCharBoundary text next
  pub some : 0 < characters
  pub bound : characters ≤ next - at
  pub lone : characters ≡ 1 → slice_index text at ≡ space → next ≡ at + 1

-- A fact on prefixes holds under answers that the handler may give. `asked` holds at some line endings from one offset
-- up to another, and `answers` has what the handler may return after each of these. The fact holds for each `prefix` with
-- these answers (this project).
pub record UnderAnswers (text : List ℕ) (post : Bor (List ℕ) → Result (Option ℕ) AllocError → Type 0) (from upto : ℕ)
    (Fact : (List ℕ → Option ℕ) → Type 0) : Type 0 where
  pub asked : ℕ → Bool
  pub answers : ℕ → Option ℕ
  pub between : (at : ℕ) → asked at ≡ true → (from ≤ at) × (at < upto)
  pub allowed : (at : ℕ) → asked at ≡ true → ReturnsAfter text at (Ok (answers at)) post
  pub holds : (prefix : List ℕ → Option ℕ) → ((at : ℕ) → asked at ≡ true → prefix (drop (at + 1) text) ≡ answers at) → Fact prefix

-- white space and line endings extend from `at` up to `next`; the byte at `next` ends a line, and the handler may fail
-- after it (this project)
pub record StopsByError (text : List ℕ) (at : ℕ) (post : Bor (List ℕ) → Result (Option ℕ) AllocError → Type 0) : Type 0 where
  pub next : ℕ
  pub characters : ℕ
  pub order : at ≤ next
  pub run : UnderAnswers text post at next (λ prefix. IsWhiteRun prefix text at next characters)
  pub stops : ErrsAfter text next post

-- The result for a label is an offset and that of its `]`, or none if no label is there. The label as it is read is
-- `written`, then the text from the first offset up to the `]`. If that offset is not 0, something changes (this project).
pub record ReadsUnits (text : List ℕ) (in_table : Bool) (post : Bor (List ℕ) → Result (Option ℕ) AllocError → Type 0) (written : List ℕ)
    (answer : Option (ℕ × ℕ)) : Type 0 where
  pub value : UnderAnswers text post 0 (length text) (λ prefix. MatchOption (label_at prefix in_table text) (answer ≡ None)
      (λ label. IsSomeAnd answer (λ read. (read.1 + 1 ≡ label.0) × (written ++ part text read.0 read.1 ≡ label.1))))
  pub closes : IfSome answer (λ read. (read.1 < length text) × (slice_index text read.1 ≡ right_bracket))
  pub lighter : IfSome answer (λ read. IsLighter text written read.0 read.1)
  pub changes : IfSome answer (λ read. 0 < read.0 → UnderAnswers text post 0 (length text) (λ prefix. IsRewritten prefix in_table text))
