-- The start conditions of HTML blocks of types 1 to 6. The bytes are those after the `<`.
use Rattle.std.specs.Prelude.{◌≡◌, ℕ, Bool, true, false, ◌==◌, ◌&&◌, ◌||◌, List, [], ◌∷◌, ◌++◌, length, drop, take, bytes_eq, Option, None, Some}
use Rattle.std.specs.Prelude.{codes, if◌then◌else◌}
use Rattle.std.specs.List.{prefix_len}
use Rattle.std.specs.Char.{is_ascii_alphabetic, is_ascii_alphanumeric}
use Rattle.first_pass_items.specs.Bytes.{solidus, greater_than}
use Rattle.first_pass_lines.specs.Lines.{is_white_or_line_end, begins}
use Rattle.first_pass_html.specs.Ends.{BlockEnd, AtRawEndTag, AtText}
use Rattle.first_pass_html.specs.Names.{in_lower_case, begins_with_name, IsBlockName, is_block_name}

-- the bytes begin with a text (this project)
abbrev pub begins_with : List ℕ → List ℕ → Bool
begins_with text bs = bytes_eq text (take (length text) bs)

-- the bytes begin with an ASCII letter (CommonMark 2.1)
abbrev pub begins_letter : List ℕ → Bool
begins_letter [] = false
begins_letter (b ∷ bs) = is_ascii_alphabetic b

-- a name of raw text ends before these bytes: white space, `>`, or the end of the line or the text follows
-- (CommonMark 4.6, start condition 1)
abbrev pub ends_raw_name : List ℕ → Bool
ends_raw_name [] = true
ends_raw_name (b ∷ bs) = is_white_or_line_end b || b == greater_than

-- the name of a block ends before these bytes: the same as above follows, or `/>` (CommonMark 4.6, start condition 6)
abbrev pub ends_block_name : List ℕ → Bool
ends_block_name [] = true
ends_block_name (b ∷ bs) = ends_raw_name (b ∷ bs) || (b == solidus && begins greater_than bs)

-- the bytes begin with this name of raw text, in any case, and the name ends there (CommonMark 4.6, start condition
-- 1)
abbrev pub begins_raw : List ℕ → List ℕ → Bool
begins_raw name bs = begins_with_name name bs && ends_raw_name (drop (length name) bs)

-- a name of raw text, in any case: pre, script, style or textarea (CommonMark 4.6, start conditions 1 and 7)
unfoldable pub is_raw_name : List ℕ → Bool
is_raw_name name =
    let is = λ (raw : List ℕ). bytes_eq (in_lower_case name) raw in
    is (codes "pre") || (is (codes "script") || (is (codes "style") || is (codes "textarea")))

-- the bytes begin with a name of raw text, in any case, and the name ends there (CommonMark 4.6, start condition 1)
unfoldable pub begins_raw_text : List ℕ → Bool
begins_raw_text bs = let n = prefix_len is_ascii_alphabetic bs in ends_raw_name (drop n bs) && is_raw_name (take n bs)

-- the end condition of the HTML block of types 1 to 5 that begins here, if there is one (CommonMark 4.6)
unfoldable pub html_end : List ℕ → Option BlockEnd
html_end bs =
    if begins_with (codes "!--") bs then Some (AtText (codes "-->"))
    else (if begins_with (codes "?") bs then Some (AtText (codes "?>"))
    else (if begins_with (codes "![CDATA[") bs then Some (AtText (codes "]]>"))
    else (if begins_with (codes "!") bs && begins_letter (drop 1 bs) then Some (AtText (codes ">"))
    else (if begins_raw_text bs then Some AtRawEndTag else None))))

-- the bytes after the slash of a closing tag, or all bytes if there is no slash (CommonMark 4.6, start condition 6)
abbrev pub past_slash : List ℕ → List ℕ
past_slash [] = []
past_slash (b ∷ bs) = if b == solidus then bs else b ∷ bs

-- the bytes are the name of a block in any case, followed by the end of the name (CommonMark 4.6, start condition 6)
pub record HasBlockName (bs : List ℕ) : Type 0 where
  pub name : List ℕ
  pub rest : List ℕ
  pub parts : bs ≡ name ++ rest
  pub is_name : IsBlockName name
  pub ends : ends_block_name rest ≡ true

-- the bytes begin with the name of a block, in any case, and the name ends there (CommonMark 4.6, start condition 6)
unfoldable pub begins_block_name : List ℕ → Bool
begins_block_name bs = let n = prefix_len is_ascii_alphanumeric bs in is_block_name (take n bs) && ends_block_name (drop n bs)

-- an HTML block of the sixth kind begins with the `<` before these bytes (CommonMark 4.6, start condition 6)
abbrev pub begins_block_tag : List ℕ → Bool
begins_block_tag bs = begins_block_name (past_slash bs)
