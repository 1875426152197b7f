-- Names of HTML tags.
use Rattle.std.specs.Prelude.{◌≡◌, ◌<◌, ◌≤◌, ℕ, Bool, List, [], ◌∷◌, ◌++◌, length, take, map, bytes_eq, codes, if◌then◌else◌}
use Rattle.std.specs.Borrow.{Bor}
use Rattle.std.specs.List.{Contains, list_any}
use Rattle.std.specs.Char.{to_ascii_lowercase}

-- the bytes with their ASCII letters in lower case (CommonMark 4.6: case-insensitive)
abbrev pub in_lower_case : List ℕ → List ℕ
in_lower_case = map to_ascii_lowercase

-- the names of the tags that begin an HTML block of the sixth kind (CommonMark 4.6, start condition 6)
abbrev pub block_names : List (List ℕ)
block_names =
    codes "address" ∷
    codes "article" ∷
    codes "aside" ∷
    codes "base" ∷
    codes "basefont" ∷
    codes "blockquote" ∷
    codes "body" ∷
    codes "caption" ∷
    codes "center" ∷
    codes "col" ∷
    codes "colgroup" ∷
    codes "dd" ∷
    codes "details" ∷
    codes "dialog" ∷
    codes "dir" ∷
    codes "div" ∷
    codes "dl" ∷
    codes "dt" ∷
    codes "fieldset" ∷
    codes "figcaption" ∷
    codes "figure" ∷
    codes "footer" ∷
    codes "form" ∷
    codes "frame" ∷
    codes "frameset" ∷
    codes "h1" ∷
    codes "h2" ∷
    codes "h3" ∷
    codes "h4" ∷
    codes "h5" ∷
    codes "h6" ∷
    codes "head" ∷
    codes "header" ∷
    codes "hr" ∷
    codes "html" ∷
    codes "iframe" ∷
    codes "legend" ∷
    codes "li" ∷
    codes "link" ∷
    codes "main" ∷
    codes "menu" ∷
    codes "menuitem" ∷
    codes "nav" ∷
    codes "noframes" ∷
    codes "ol" ∷
    codes "optgroup" ∷
    codes "option" ∷
    codes "p" ∷
    codes "param" ∷
    codes "search" ∷
    codes "section" ∷
    codes "summary" ∷
    codes "table" ∷
    codes "tbody" ∷
    codes "td" ∷
    codes "tfoot" ∷
    codes "th" ∷
    codes "thead" ∷
    codes "title" ∷
    codes "tr" ∷
    codes "track" ∷
    codes "ul" ∷
    []

-- the bytes are the name of a block, in any case (CommonMark 4.6, start condition 6)
abbrev pub IsBlockName : List ℕ → Type 0
IsBlockName name = Contains block_names (in_lower_case name)

-- whether the bytes are the name of a block, in any case (CommonMark 4.6, start condition 6)
unfoldable pub is_block_name : List ℕ → Bool
is_block_name name = list_any (bytes_eq (in_lower_case name)) block_names

-- the bytes of a text (this project)
abbrev pub borrowed_bytes : Bor (List ℕ) → List ℕ
borrowed_bytes t = t.now

-- the bytes begin with the name, in any case (CommonMark 4.6: case-insensitive)
abbrev pub begins_with_name : List ℕ → List ℕ → Bool
begins_with_name name bs = bytes_eq (in_lower_case (take (length name) bs)) (in_lower_case name)

-- the length of the first listed name with which the bytes begin, in any case, or 0 if there is none (this project)
unfoldable pub first_name_len : List (List ℕ) → List ℕ → ℕ
first_name_len [] bs = 0
first_name_len (name ∷ names) bs = if begins_with_name name bs then length name else first_name_len names bs

-- n is the length of the longest name of a block with which the bytes begin, whatever its case; 0 if there is none
-- (CommonMark 4.6, start condition 6)
pub record IsLongestName (bs : List ℕ) (n : ℕ) : Type 0 where
  pub within : n ≤ length bs
  pub is_name : 0 < n → IsBlockName (take n bs)
  pub longest : (name rest : List ℕ) → bs ≡ name ++ rest → IsBlockName name → length name ≤ n
