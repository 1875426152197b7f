-- The text of a code span.
use Rattle.std.specs.Prelude.{ℕ, ◌-◌, ◌==◌, ◌&&◌, not, Bool, List, length, drop, take, map, if◌then◌else◌}
use Rattle.std.specs.List.{list_all}
use Rattle.first_pass_items.specs.Bytes.{line_feed, space}
use Rattle.first_pass_lines.specs.Lines.{begins, ends}

-- a newline is a space (CommonMark 6.1)
abbrev pub spaced_byte : ℕ → ℕ
spaced_byte b = if b == line_feed then space else b

-- each newline as a space (CommonMark 6.1)
abbrev pub spaced : List ℕ → List ℕ
spaced = map spaced_byte

abbrev pub is_space : ℕ → Bool
is_space b = b == space

-- both ends are spaces, and not all bytes are (CommonMark 6.1)
abbrev pub is_padded : List ℕ → Bool
is_padded bs = begins space bs && (ends space bs && not (list_all is_space bs))

-- the bytes without the first and the last one (this project)
abbrev pub inner : List ℕ → List ℕ
inner bs = take (length bs - 2) (drop 1 bs)

-- The text of a code span with these bytes between its backquotes: each newline is a space, and then one space less is at
-- both ends if they have one and not all bytes are spaces (CommonMark 6.1)
unfoldable pub code_text : List ℕ → List ℕ
code_text bs = let text = spaced bs in if is_padded text then inner text else text
