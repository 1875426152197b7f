-- Where the label of a footnote definition is written (this project).
use Rattle.std.specs.Prelude.{ℕ, ◌+◌, List, length, drop, min}
use Rattle.std.specs.declared.ops.Range.{Range}
use Rattle.first_pass_links.specs.Labels.{label_len}

-- The range of the label of the footnote definition that begins at an offset. It begins two bytes after the start of
-- the definition, or at the end of the text if fewer bytes are left. It ends at the first bracket that no backslash
-- escapes, or with the text if there is none (CommonMark 6.3 on labels, and this project).
unfoldable pub label_range : List ℕ → ℕ → Range ℕ
label_range text start =
    let from : ℕ = min (length text) (start + 2) in
    record { start = from; «end» = from + label_len (drop from text) }
