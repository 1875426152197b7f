-- Text and JSON in a page of HTML.
use Rattle.std.specs.Prelude.{ℕ, ◌==◌, List, [], ◌∷◌, codes, if◌then◌else◌}
use Rattle.std.specs.List.{flat_map}
use Rattle.first_pass_items.specs.Bytes.{ampersand, greater_than, less_than}

-- a byte of the text of an element: a character reference for `&`, `<` and `>` (HTML 13.1.4)
abbrev pub html_byte : ℕ → List ℕ
html_byte byte =
    if byte == ampersand then codes "&amp;" else if byte == less_than then codes "&lt;" else if byte == greater_than then codes "&gt;" else byte ∷ []

-- a text in an element
unfoldable pub html_text : List ℕ → List ℕ
html_text text = flat_map html_byte text

-- a byte of JSON in a script element: an escape for `<`, which only a string of JSON can have (RFC 8259, 7)
abbrev pub script_byte : ℕ → List ℕ
script_byte byte = if byte == less_than then codes "\\u003c" else byte ∷ []

-- JSON in a script element, whose end begins with `<` (HTML 13.1.2.1)
unfoldable pub in_script : List ℕ → List ℕ
in_script json = flat_map script_byte json
