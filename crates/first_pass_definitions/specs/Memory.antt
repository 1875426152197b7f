-- When reading a link reference definition, or the label of a footnote, may need memory (CommonMark 4.7). Which
-- lines may head a table: `line_may_head_table`.
use Rattle.std.specs.Prelude.{◌≡◌, ◌≢◌, ◌⊎◌, ◌<◌, ◌+◌, ◌==◌, ◌&&◌, ◌||◌, not, ℕ, Bool, true, false, List, length, drop, slice_get, slice_index, Some}
use Rattle.std.specs.Prelude.{IsSomeAnd, is_some}
use Rattle.std.specs.List.{list_any, prefix_len}
use Rattle.std.specs.Option.{option_map_or, option_and_then}
use Rattle.first_pass_items.specs.Bytes.{colon, left_bracket}
use Rattle.first_pass_lines.specs.Lines.{begins, is_white, is_line_end, ends_line, eol_len}
use Rattle.first_pass_lines.specs.Places.{line_rest}
use Rattle.first_pass_links.specs.Escapes.{unescaped}
use Rattle.first_pass_links.specs.Destinations.{unescaped_upto, destination_at}
use Rattle.first_pass_links.specs.Labels.{IsRewritten, HasNoBracket, label_at}
use Rattle.first_pass_items.specs.OptionWords.{gfm_footnotes}
use Rattle.first_pass_links.specs.Footnotes.{begins_footnote_mark}
use Rattle.first_pass_grammar.specs.Containers.{Context}
use Rattle.first_pass_grammar.specs.Footnotes.{footnote_prefix}
use Rattle.first_pass_grammar.specs.Definitions.{Target, title_end, title_prefix, prefix_crossed, space_at, target_at, deepest_nesting, reference_definition_at}
use Rattle.first_pass_kinds.specs.Memory.{line_may_head_table}
use Rattle.first_pass_definitions.specs.Reading.{stops_title_line}

-- some line after a line ending of the text may head a table (this project)
abbrev pub MeetsTable : Context → List ℕ → Type 0
MeetsTable around bs =
    (at : ℕ) × (at < length bs) × (ends_line (slice_index bs at) (drop (at + 1) bs) ≡ true) × (line_may_head_table around (line_rest (drop (at + 1) bs)) ≡ true)

-- A label may need memory in two cases. Reading changes it, so it has to be copied; or no bracket ends it, and some
-- line after a line ending of the text may head a table (CommonMark 4.7, GFM 4.10).
abbrev pub LabelAsks : Context → Bool → List ℕ → Type 0
LabelAsks around in_table bs =
    IsRewritten (prefix_crossed true around) in_table bs ⊎ (HasNoBracket (prefix_crossed true around) bs × MeetsTable around bs)

-- the same for the label of a footnote after its `[^`, which in GitHub's form crosses no line ending (this project)
abbrev pub FootnoteAsks : Context → Bool → List ℕ → Type 0
FootnoteAsks around in_table bs =
    (begins_footnote_mark bs ≡ true) × (IsRewritten (footnote_prefix around) in_table (drop 2 bs)
    ⊎ (HasNoBracket (footnote_prefix around) (drop 2 bs) × (gfm_footnotes around.options ≡ false) × MeetsTable around (drop 2 bs)))

-- white space has a line ending before a line that may head a table (CommonMark 4.7, GFM 4.10)
abbrev pub space_asks : Context → List ℕ → Bool
space_asks around bs =
    let n = prefix_len is_white bs in option_map_or (λ e. line_may_head_table around (line_rest (drop (n + e) bs))) (eol_len (drop n bs)) false

-- the title continues in the line that begins here, or that line may head a table (CommonMark 4.7, GFM 4.10)
abbrev pub line_asks : Context → List ℕ → Bool
line_asks around bs = is_some (title_prefix around bs) || line_may_head_table around (line_rest bs)

-- A line ending comes before any unescaped closing byte of the title, and in parentheses before any unescaped `(`. The
-- line after the first line ending continues the title or may head a table (CommonMark 4.7, GFM 4.10).
unfoldable pub text_asks : Context → ℕ → List ℕ → Bool
text_asks around close bs =
    let n = unescaped_upto (stops_title_line close) 0 bs in option_map_or (λ e. line_asks around (drop (n + e) bs)) (eol_len (drop n bs)) false

-- the same for the title that begins here (CommonMark 4.7)
abbrev pub title_asks : Context → List ℕ → Bool
title_asks around bs = option_map_or (λ close. text_asks around close (drop 1 bs)) (option_and_then title_end (slice_get bs 0)) false

-- the white space after a destination may need memory, or the title after that white space may (CommonMark 4.7)
abbrev pub after_asks : Context → List ℕ → Bool
after_asks around bs =
    space_asks around bs || option_map_or (λ (s : ℕ × ℕ). not (s.0 == 0) && title_asks around (drop s.0 bs)) (space_at around bs) false

-- reading changes the text: it has an escape or a reference (CommonMark 2.4, 2.5)
abbrev pub IsEscaped : Bool → List ℕ → Type 0
IsEscaped in_table text = unescaped in_table text ≢ text

-- reading changes the destination or the title, or the title has a line ending (CommonMark 4.7)
abbrev pub PartsAsk : Bool → Target → Type 0
PartsAsk in_table target =
    IsEscaped in_table target.dest ⊎ IsSomeAnd target.title (λ title. (list_any is_line_end title ≡ true) ⊎ IsEscaped in_table title)

-- What follows a destination may need memory; the destination is after the white space of a target (CommonMark 4.7).
pub record AfterAsks (around : Context) (bs : List ℕ) : Type 0 where
  pub space : ℕ × ℕ
  pub space_is : space_at around bs ≡ Some space
  pub dest : ℕ × List ℕ
  pub dest_is : destination_at deepest_nesting (drop space.0 bs) ≡ Some dest
  pub asks : after_asks around (drop (space.0 + dest.0) bs) ≡ true

-- a target may need memory: for its white space, for what follows its destination, or, if the target is whole, for its
-- parts (CommonMark 4.7)
abbrev pub TargetAsks : Bool → Context → List ℕ → Type 0
TargetAsks in_table around bs =
    (space_asks around bs ≡ true) ⊎ AfterAsks around bs ⊎ IsSomeAnd (target_at around bs) (λ target. PartsAsk in_table target.1)

-- a label and a colon are here, and the target after them may need memory (CommonMark 4.7)
abbrev pub AfterLabelAsks : Bool → Context → List ℕ → Type 0
AfterLabelAsks in_table around bs =
    (label : ℕ × List ℕ) × (label_at (prefix_crossed true around) in_table bs ≡ Some label) × (begins colon (drop label.0 bs) ≡ true)
    × TargetAsks in_table around (drop (label.0 + 1) bs)

-- a definition may need memory: for its label, for its target, or, if one is here, for folding its label
-- (CommonMark 4.7, 6.3)
abbrev pub ReferenceAsks : Bool → Context → List ℕ → Type 0
ReferenceAsks in_table around bs =
    (begins left_bracket bs ≡ true)
    × (LabelAsks around in_table (drop 1 bs) ⊎ AfterLabelAsks in_table around (drop 1 bs) ⊎ (is_some (reference_definition_at in_table around bs) ≡ true))
