-- The targets of inline links (CommonMark 6.3), at a place of a content.
use Rattle.std.specs.Prelude.{ℕ, ◌+◌, ◌-◌, Bool, List, drop, nat_lt, slice_index, Option, Some, None, if◌then◌else◌}
use Rattle.std.specs.List.{prefix_len}
use Rattle.std.specs.Option.{option_map, option_map_or, option_and_then}
use Rattle.first_pass_items.specs.Bytes.{left_parenthesis, right_parenthesis, less_than}
use Rattle.first_pass_atoms.specs.Blanks.{is_blank}
use Rattle.first_pass_grammar.specs.Definitions.{deepest_nesting, ends_title, title_end}
use Rattle.first_pass_lines.specs.Lines.{begins}
use Rattle.first_pass_links.specs.Destinations.{unescaped_upto, bracketed_at, bare_len}
use Rattle.first_pass_targets.specs.declared.part.Part.{Part}
use Rattle.first_pass_targets.specs.declared.target.Target.{Target}
use Rattle.first_pass_targets.specs.Parts.{part}

-- the place after the blanks at a place
abbrev pub after_blanks : List ℕ → ℕ → ℕ
after_blanks content place = place + prefix_len is_blank (drop place content)

-- the start of the text of the destination with these bytes at a place: after its `<`, if it has one (CommonMark 6.3)
abbrev pub text_start : List ℕ → ℕ → ℕ
text_start bs place = if begins less_than bs then place + 1 else place

-- The destination at a place: inside `<..>`, or as a run, which may be empty here (CommonMark 6.3). An empty run is no
-- destination for the standard, but the destination of a link may be left out.
unfoldable pub inline_destination_at : List ℕ → ℕ → Option Part
inline_destination_at content place =
    if begins less_than (drop place content)
    then option_map (λ (d : ℕ × List ℕ). part (place + 1) (place + d.0 - 1) (place + d.0)) (bracketed_at (drop (place + 1) content))
    else option_map (λ n. part place (place + n) (place + n)) (bare_len deepest_nesting 0 0 (drop place content))

-- the title whose text begins at a place, with this end: the text goes up to the first byte that ends it and isn't
-- escaped (CommonMark 6.3)
abbrev pub title_upto : List ℕ → ℕ → ℕ → Option Part
title_upto content from close =
    let to = from + unescaped_upto (ends_title close) 0 (drop from content) in
    if begins close (drop to content) then Some (part from to (to + 1)) else None

-- the title at a place (CommonMark 6.3)
unfoldable pub inline_title_at : List ℕ → ℕ → Option Part
inline_title_at content place = option_and_then (title_upto content (place + 1)) (title_end (slice_index content place))

-- the title after a destination, with at least one blank between them (CommonMark 6.3)
abbrev pub separate_title_at : List ℕ → ℕ → Option Part
separate_title_at content place =
    if nat_lt place (after_blanks content place) then inline_title_at content (after_blanks content place) else None

-- the target with this destination and title, which ends with a `)` after blanks (CommonMark 6.3)
abbrev pub target_with : List ℕ → Part → Option Part → Option Target
target_with content dest title =
    let close = after_blanks content (option_map_or (λ (t : Part). t.past) title dest.past) in
    if begins right_parenthesis (drop close content) then Some (record { dest = dest; title = title; past = close + 1 }) else None

abbrev pub target_after : List ℕ → Part → Option Target
target_after content dest = target_with content dest (separate_title_at content dest.past)

-- The target at a place: `(`, blanks, a destination, which may be empty, at least one blank and a title, if there is
-- one, blanks, and `)` (CommonMark 6.3).
unfoldable pub target_at : List ℕ → ℕ → Option Target
target_at content place =
    if begins left_parenthesis (drop place content)
    then option_and_then (target_after content) (inline_destination_at content (after_blanks content (place + 1)))
    else None
