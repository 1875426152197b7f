-- Lines that open or close a metadata block.
use Rattle.std.specs.Prelude.{ℕ, ◌+◌, ◌==◌, ◌&&◌, ◌||◌, not, nat_eq, Bool, List, [], ◌∷◌, drop, Option, Some, None, is_some, if◌then◌else◌}
use Rattle.std.specs.List.{list_any, starts_with}
use Rattle.first_pass_items.specs.Bytes.{space, plus_sign, hyphen, full_stop}
use Rattle.first_pass_lines.specs.Lines.{begins, is_blank_line, line_len, at_line_end}
use Rattle.first_pass_lines.specs.Places.{lines_at}
use Rattle.first_pass_scan.specs.LeafLines.{run_len}

-- the bytes begin with three of the byte c (this project)
abbrev pub three_of : ℕ → List ℕ → Bool
three_of c bs = starts_with nat_eq bs (c ∷ c ∷ c ∷ [])

-- the bytes begin with the marks that close metadata of the byte c: three of it, or `...` if it is `-` (this project)
unfoldable pub closing_marks : ℕ → List ℕ → Bool
closing_marks c bs = ((c == hyphen) && three_of full_stop bs) || three_of c bs

-- the length of the closing line of metadata of the byte c, with trailing spaces but without its line ending: the
-- closing marks, then only spaces (this project)
unfoldable pub closing_metadata_len : ℕ → List ℕ → Option ℕ
closing_metadata_len c bs =
    let n = 3 + run_len space (drop 3 bs) in
    if closing_marks c bs && at_line_end (drop n bs) then Some n else None

-- the line that begins here closes metadata of the byte c (this project)
abbrev pub closes_metadata : ℕ → List ℕ → Bool
closes_metadata c bs = is_some (closing_metadata_len c bs)

-- one of the lines of these bytes, given their offset, closes metadata of the byte c (this project)
abbrev pub any_line_closes : ℕ → ℕ → List ℕ → Bool
any_line_closes c start bs = list_any (λ line. closes_metadata c line.rest.left) (lines_at start bs)

-- the bytes after the line that begins here (CommonMark 2.1, line)
abbrev pub after_line : List ℕ → List ℕ
after_line bs = drop (line_len bs) bs

-- The first two lines allow metadata of the byte c to open here. The first is exactly three of that byte, then white
-- space. The second is neither blank nor a closing line (this project).
unfoldable pub begins_metadata : ℕ → List ℕ → Bool
begins_metadata c bs =
    let next = after_line bs in
    (run_len c bs == 3) && is_blank_line (drop 3 bs) && not (is_blank_line next) && not (closes_metadata c next)

-- metadata of the byte c opens here: its first two lines allow it, and a later line closes it (this project)
unfoldable pub opens_metadata : ℕ → List ℕ → Bool
opens_metadata c bs = begins_metadata c bs && any_line_closes c 0 (after_line (after_line bs))

-- the byte of the metadata block that opens here: `-` if the YAML form is on, `+` if the other form is on
-- (this project)
unfoldable pub metadata_byte : Bool → Bool → List ℕ → Option ℕ
metadata_byte yaml pluses bs =
    if yaml && begins hyphen bs
    then (if opens_metadata hyphen bs then Some hyphen else None)
    else (if pluses && begins plus_sign bs then (if opens_metadata plus_sign bs then Some plus_sign else None) else None)
