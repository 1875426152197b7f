-- Members that are added to those of a range: the lines and columns of its ends, and its text (this project).
use Rattle.std.specs.Prelude.{ℕ, Bool, Option, None, Some, List, [], ◌++◌, codes, decimal, if◌then◌else◌, slice_range}
use Rattle.std.specs.Str.{is_utf8}
use Rattle.first_pass_places.specs.LineColumns.{line_column}
use Rattle.first_pass_places.specs.declared.line_column.LineColumn.{LineColumn}
use Rattle.first_pass_json.specs.JsonValues.{json_string}

-- a text, if it is wanted
abbrev pub if_wanted : Bool → List ℕ → Option (List ℕ)
if_wanted wanted text = if wanted then Some text else None

-- a line and a column, each after its name
abbrev pub place_members : List ℕ → List ℕ → LineColumn → List ℕ
place_members line_name column_name place = line_name ++ decimal place.line ++ column_name ++ decimal place.column

-- the line and the column of the start of a range in a text; nothing without the text
abbrev pub start_members : Option (List ℕ) → ℕ → List ℕ
start_members None start = []
start_members (Some text) start = place_members (codes ",\"start_line\":") (codes ",\"start_column\":") (line_column text start)

-- the same of its end
abbrev pub end_members : Option (List ℕ) → ℕ → List ℕ
end_members None e = []
end_members (Some text) e = place_members (codes ",\"end_line\":") (codes ",\"end_column\":") (line_column text e)

-- the text of a range; empty if its bytes are not UTF-8, which those of a node are
abbrev pub text_between : List ℕ → ℕ → ℕ → List ℕ
text_between text start e = let bytes = slice_range text start e in if is_utf8 bytes then bytes else []

-- the text of a range as a member; nothing without the text
abbrev pub source_member : Option (List ℕ) → ℕ → ℕ → List ℕ
source_member None start e = []
source_member (Some text) start e = codes ",\"source\":" ++ json_string (text_between text start e)

-- The members of a range: its start and its end, each with its line and column in the first text, if that is given, and
-- the range of the second text, if that is given.
unfoldable pub placed_members : Option (List ℕ) → Option (List ℕ) → ℕ → ℕ → List ℕ
placed_members lined shown start e =
    codes ",\"start\":" ++ decimal start ++ start_members lined start
    ++ codes ",\"end\":" ++ decimal e ++ end_members lined e ++ source_member shown start e
