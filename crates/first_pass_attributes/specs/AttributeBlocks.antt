-- The attribute block at the end of a heading, for example `{#install .wide}` in `# Install {#install .wide}`
-- (this project).
use Rattle.std.specs.Prelude.{◌≡◌, true, ◌∷◌, ◌++◌, ℕ, ◌+◌, ◌-◌, ◌==◌, ◌||◌, not, Bool, List, length, take, Option, Some, None, if◌then◌else◌}
use Rattle.std.specs.Option.{option_map, option_map_or}
use Rattle.std.specs.List.{list_all, suffix_len}
use Rattle.first_pass_items.specs.Bytes.{less_than, greater_than, backslash, left_brace, right_brace}
use Rattle.first_pass_lines.specs.Lines.{is_line_end, is_space_or_tab, ends}

-- a byte that may follow an attribute block: a space, a tab or a line ending (this project)
abbrev pub is_after_block : ℕ → Bool
is_after_block b = is_space_or_tab b || is_line_end b

-- a byte that can't be between the braces of an attribute block: `{`, `}`, `<`, `>`, `\` or a line ending
-- (this project)
abbrev pub breaks_block : ℕ → Bool
breaks_block b = b == left_brace || b == right_brace || b == less_than || b == greater_than || b == backslash || is_line_end b

-- a byte that can be between the braces of an attribute block (this project)
abbrev pub is_inside_block : ℕ → Bool
is_inside_block b = not (breaks_block b)

-- the offsets of the braces of an attribute block (this project)
pub record Braces : Type 0 where
  pub opening : ℕ
  pub closing : ℕ

-- the braces at two offsets (this project)
abbrev pub braces : ℕ → ℕ → Braces
braces opening closing = record { opening = opening; closing = closing }

-- the offset of the opening brace of a block whose closing brace follows these bytes; no byte after it breaks the
-- block (this project)
unfoldable pub opening_brace : List ℕ → Option ℕ
opening_brace bs =
    let front = take (length bs - suffix_len is_inside_block bs) bs in
    if ends left_brace front then Some (length front - 1) else None

-- the attribute block of a heading: only spaces, tabs and line endings follow its closing brace (this project)
unfoldable pub attribute_block : List ℕ → Option Braces
attribute_block bs =
    let kept = take (length bs - suffix_len is_after_block bs) bs in
    let closing = length kept - 1 in
    if ends right_brace kept then option_map (λ opening. braces opening closing) (opening_brace (take closing kept)) else None

-- the braces of a heading's attribute block: no byte between them breaks it, and only spaces, tabs and line endings
-- follow it (this project)
pub record IsAttributeBlock (heading : List ℕ) (block : Braces) : Type 0 where
  pub front : List ℕ
  pub inside : List ℕ
  pub following : List ℕ
  pub parts : heading ≡ front ++ left_brace ∷ (inside ++ right_brace ∷ following)
  pub plain : list_all is_inside_block inside ≡ true
  pub aside : list_all is_after_block following ≡ true
  pub opens : block.opening ≡ length front
  pub closes : block.closing ≡ length front + 1 + length inside

-- the number of bytes of a heading before its attribute block, white space included, or of all its bytes if it has
-- none (this project)
abbrev pub length_before_block : List ℕ → ℕ
length_before_block bs = option_map_or (λ block. block.opening) (attribute_block bs) (length bs)

-- the offsets of the start and the end of the bytes between two braces (this project)
abbrev pub between_braces : Braces → ℕ × ℕ
between_braces block = (block.opening + 1, block.closing)

-- the offsets of the start and the end of the bytes between the braces of a heading's attribute block, if it has one
-- (this project)
abbrev pub inside_block : List ℕ → Option (ℕ × ℕ)
inside_block bs = option_map between_braces (attribute_block bs)
