-- Ranges in a text, and where their ends are if it is in UTF-8 (this project).
use Rattle.std.specs.Prelude.{ℕ, ◌<◌, ◌≤◌, List, length, slice_index, IfSome, IsCharBoundary}
use Rattle.std.specs.declared.ops.Range.{Range}
use Rattle.first_pass_items.specs.Bytes.{ascii_end}
use Rattle.first_pass_places.specs.declared.attributes.AttributeRanges.{AttributeRanges}

-- a range in a text: it ends at its start or later, and not after the text (this project)
abbrev pub IsIn : List ℕ → Range ℕ → Type 0
IsIn text range = (range.start ≤ range.«end») × (range.«end» ≤ length text)

-- both ends of a range are on character boundaries (this project)
abbrev pub EndsAreBoundaries : List ℕ → Range ℕ → Type 0
EndsAreBoundaries text range = IsCharBoundary text range.start × IsCharBoundary text range.«end»

-- the byte at an offset, if there is one, is a character of ASCII (this project)
abbrev pub IsAsciiAt : List ℕ → ℕ → Type 0
IsAsciiAt text at = slice_index text at < ascii_end

-- the name of an attribute, and its value, if it has one, begin and end on character boundaries (this project)
abbrev pub HasWholeCharacters : List ℕ → AttributeRanges → Type 0
HasWholeCharacters text place = EndsAreBoundaries text place.name × IfSome place.value (EndsAreBoundaries text)
