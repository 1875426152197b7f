-- Heads of footnote definitions (this project; CommonMark 6.3 on their labels).
use Rattle.std.specs.Prelude.{ℕ, ◌+◌, ◌&&◌, Bool, List, drop, Option, Some, None, if◌then◌else◌}
use Rattle.std.specs.Option.{option_and_then}
use Rattle.first_pass_items.specs.Bytes.{colon, left_bracket, circumflex}
use Rattle.first_pass_lines.specs.Lines.{begins}
use Rattle.first_pass_links.specs.Labels.{label_at}

-- the bytes begin with `[^` (this project)
abbrev pub begins_footnote_mark : List ℕ → Bool
begins_footnote_mark bs = begins left_bracket bs && begins circumflex (drop 1 bs)

-- a head of a footnote definition, given the label after its `[^`: a colon follows the label directly (this project)
abbrev pub head_after : List ℕ → ℕ × List ℕ → Option (ℕ × List ℕ)
head_after bs label = if begins colon (drop label.0 bs) then Some (label.0 + 3, label.1) else None

-- The head of the footnote definition at the start of these bytes is `[^`, a label like that of a link, `]` and `:`.
-- The result is its length in bytes, and the label as it is read. The label continues after a line ending if `prefix`
-- gives a prefix for the next line (this project).
unfoldable pub footnote_head : (List ℕ → Option ℕ) → Bool → List ℕ → Option (ℕ × List ℕ)
footnote_head prefix in_table bs =
    if begins_footnote_mark bs then option_and_then (head_after (drop 2 bs)) (label_at prefix in_table (drop 2 bs)) else None
