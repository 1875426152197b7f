-- Places in a text, and its lines.
use Rattle.std.specs.Prelude.{◌≡◌, ◌≤◌, ℕ, ◌+◌, List, ◌∷◌, length, take, drop, IsCharBoundary, if◌then◌else◌, []}
use Rattle.std.specs.List.{concat}
use Rattle.first_pass_lines.specs.Lines.{ends_line, line_len, IsLine}
use Rattle.first_pass_lines.specs.Rest.{Rest, after_columns, past_bytes}

-- a place in the text: the offset at which the reading of its line began, and the rest of the text from the place on
-- (this project)
pub record Place : Type 0 where
  pub line : ℕ
  pub rest : Rest

-- a place in the line whose reading began at this offset (this project)
abbrev pub place_at : ℕ → Rest → Place
place_at line rest = record { line = line; rest = rest }

-- the offset of a place: the number of bytes before it in the text (this project)
abbrev pub offset : Place → ℕ
offset p = p.line + p.rest.taken

-- the rest at the start of a line: no byte is taken (this project)
abbrev pub line_rest : List ℕ → Rest
line_rest left = record { left = left; taken = 0; owed = 0; column = 0 }

-- the place at the start of a line (this project)
abbrev pub line_place : ℕ → List ℕ → Place
line_place start left = record { line = start; rest = line_rest left }

-- the place can be the start of a line of the text: nothing of its line is taken (this project)
abbrev pub IsLinePlace : List ℕ → Place → Type 0
IsLinePlace text p = p ≡ line_place p.line (drop p.line text)

-- the lines that begin in these bytes, given their offset and the byte b before them (CommonMark 2.1, line)
unfoldable pub lines_after : ℕ → ℕ → List ℕ → List Place
lines_after b start [] = []
lines_after b start (c ∷ cs) =
    let further = lines_after c (start + 1) cs in
    if ends_line b (c ∷ cs) then line_place start (c ∷ cs) ∷ further else further

-- the lines of these bytes, given their offset (CommonMark 2.1, line)
unfoldable pub lines_at : ℕ → List ℕ → List Place
lines_at start [] = []
lines_at start (b ∷ bs) = line_place start (b ∷ bs) ∷ lines_after b (start + 1) bs

-- the start of the first of these lines in a text of n bytes; the end of the text if there are no lines (this project)
abbrev pub start_of : ℕ → List Place → ℕ
start_of n [] = n
start_of n (p ∷ ps) = p.line

-- the bytes of the line that begins at a place (CommonMark 2.1, line)
abbrev pub line_of : Place → List ℕ
line_of p = take (line_len p.rest.left) p.rest.left

-- each piece is a line before the pieces that follow it (CommonMark 2.1, line)
abbrev pub AreLines : List (List ℕ) → Type 0
AreLines [] = Unit
AreLines (piece ∷ pieces) = IsLine piece (concat pieces) × AreLines pieces

-- the pieces are lines, and joined they are the text (CommonMark 2.1, line)
pub record IsDivision (text : List ℕ) (pieces : List (List ℕ)) : Type 0 where
  pub whole : concat pieces ≡ text
  pub lines : AreLines pieces

-- the end of the line of a place, after its line ending (CommonMark 2.1, line)
abbrev pub line_end : Place → ℕ
line_end p = offset p + line_len p.rest.left

-- the place is in the text and on a character boundary (this project)
pub record IsPlaceOf (text : List ℕ) (p : Place) : Type 0 where
  pub left : p.rest.left ≡ drop (offset p) text
  pub within : offset p ≤ length text
  pub boundary : IsCharBoundary text (offset p)

-- the place after as many columns as there are, up to k (CommonMark 2.2)
abbrev pub moved_columns : ℕ → Place → Place
moved_columns k p = record { line = p.line; rest = after_columns k p.rest }

-- the place n bytes later (this project)
abbrev pub moved_bytes : ℕ → Place → Place
moved_bytes n p = record { line = p.line; rest = past_bytes n p.rest }
