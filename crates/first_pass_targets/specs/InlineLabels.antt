-- The labels of references (CommonMark 6.3) and of footnote references (this project), in a content.
use Rattle.std.specs.Prelude.{ℕ, ◌+◌, ◌==◌, ◌&&◌, not, Bool, List, take, drop, nat_le, Option, Some, None, if◌then◌else◌}
use Rattle.std.specs.List.{count_by, list_all, list_any}
use Rattle.first_pass_items.specs.Bytes.{line_feed, right_bracket, circumflex}
use Rattle.first_pass_items.specs.declared.option_set.Options.{Options}
use Rattle.first_pass_items.specs.OptionWords.{has, footnotes, gfm_footnotes}
use Rattle.first_pass_lines.specs.Lines.{begins, is_white_or_line_end}
use Rattle.first_pass_links.specs.Labels.{begins_character, label_len}
use Rattle.first_pass_targets.specs.declared.part.Part.{Part}
use Rattle.first_pass_targets.specs.Parts.{part}

-- at most 999 characters (CommonMark 6.3)
abbrev pub is_short : List ℕ → Bool
is_short label = nat_le (count_by begins_character label) 999

-- The label whose text begins at a place, after its `[`. The text goes up to the first unescaped bracket, which is a
-- `]`, and has at most 999 characters (CommonMark 6.3). It may be blank.
unfoldable pub inline_label_at : List ℕ → ℕ → Option Part
inline_label_at content place =
    let bs = drop place content in
    let n = label_len bs in
    if begins right_bracket (drop n bs) && is_short (take n bs) then Some (part place (place + n) (place + n + 1)) else None

-- a label without a character other than white space and line endings. It is no link label (CommonMark 6.3)
abbrev pub is_blank_label : List ℕ → Bool
is_blank_label label = list_all is_white_or_line_end label

-- A footnote label, if footnotes are enabled: `^`, and a text that isn't blank. If footnotes have GitHub's form, it has
-- no newline (this project).
abbrev pub is_footnote_label : Options → List ℕ → Bool
is_footnote_label options label =
    has options footnotes && (begins circumflex label && not (is_blank_label (drop 1 label)))
    && not (gfm_footnotes options && list_any (λ b. b == line_feed) (drop 1 label))
