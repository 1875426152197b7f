-- Link reference definitions (CommonMark 4.7), read from a place in the text.
use Rattle.std.specs.Prelude.{ℕ, ◌+◌, ◌==◌, ◌&&◌, ◌||◌, not, Bool, true, false, nat_lt, List, [], ◌∷◌, take, drop, slice_index, Option, Some, None, is_some}
use Rattle.std.specs.Prelude.{if◌then◌else◌}
use Rattle.std.specs.List.{prefix_len}
use Rattle.std.specs.Option.{option_map, option_and_then, option_map_or}
use Rattle.first_pass_items.specs.Bytes.{line_feed, carriage_return, quotation_mark, apostrophe, left_parenthesis, right_parenthesis, colon, left_bracket}
use Rattle.first_pass_lines.specs.Lines.{is_white, begins, eol_len, blank_len, at_line_end}
use Rattle.first_pass_lines.specs.Rest.{Rest, indent, after_columns}
use Rattle.first_pass_lines.specs.Places.{line_rest}
use Rattle.first_pass_scan.specs.LeafLines.{setext_underline}
use Rattle.first_pass_links.specs.Destinations.{unescaped_upto, destination_at}
use Rattle.first_pass_links.specs.Labels.{joined, bytes_of, offsets_of, label_at}
use Rattle.first_pass_grammar.specs.Containers.{Context, after, front}
use Rattle.first_pass_grammar.specs.Kinds.{all_taken, is_blank_rest, ends_paragraph}

-- a setext heading underline begins here, at fewer than four columns (CommonMark 4.3)
abbrev pub is_underline : Rest → Bool
is_underline r = nat_lt (indent r) 4 && is_some (setext_underline (all_taken r).left)

-- The rest of a line from the place where a definition that began before continues: after the prefixes of the
-- containers that the line continues, and at most four columns. There is no such place if the line would end a
-- paragraph or is an underline. In a label, a line is an underline only if it continues the whole path (CommonMark
-- 4.7, and 4.3, 4.8 for what a definition cannot contain).
unfoldable pub crossed : Bool → Context → Rest → Option Rest
crossed in_label around line =
    if ends_paragraph around line || (is_underline (front around.path line) && (not in_label || is_some (after around.path line)))
    then None
    else Some (after_columns 4 (front around.path line))

-- the number of bytes before the place at which a definition continues in the line at the start of these bytes, if it
-- does
abbrev pub prefix_crossed : Bool → Context → List ℕ → Option ℕ
prefix_crossed in_label around bs = option_map (λ (r : Rest). r.taken) (crossed in_label around (line_rest bs))

-- White space with at most one line ending: its length in bytes, including what precedes the place where the next line
-- continues, and the number of line endings. There is none if a second line ending follows, or if the definition does
-- not continue on the next line (CommonMark 4.7).
abbrev pub space_beyond : ℕ → List ℕ → ℕ → Option (ℕ × ℕ)
space_beyond n bs k = let m = k + prefix_len is_white (drop k bs) in if at_line_end (drop m bs) then None else Some (n + m, 1)

abbrev pub space_after : Context → List ℕ → ℕ → Option ℕ → Option (ℕ × ℕ)
space_after around bs n None = Some (n, 0)
space_after around bs n (Some e) = option_and_then (space_beyond (n + e) (drop (n + e) bs)) (prefix_crossed false around (drop (n + e) bs))

unfoldable pub space_at : Context → List ℕ → Option (ℕ × ℕ)
space_at around bs = let n = prefix_len is_white bs in space_after around bs n (eol_len (drop n bs))

-- the end of a title that begins with this byte: `'`, `"`, or `)` for `(` (CommonMark 6.3, link title)
abbrev pub title_end : ℕ → Option ℕ
title_end b = if b == apostrophe || b == quotation_mark then Some b else (if b == left_parenthesis then Some right_parenthesis else None)

-- bytes that a title with this end may contain only if they are escaped: the end, and for `)` also `(` (CommonMark
-- 6.3, link title)
abbrev pub ends_title : ℕ → ℕ → Bool
ends_title close b = b == close || (close == right_parenthesis && b == left_parenthesis)

-- The number of bytes in a line before the text with which a title continues: all spaces and tabs are dropped. No title
-- continues in a blank line (CommonMark 4.7).
abbrev pub text_crossed : Rest → Option ℕ
text_crossed r = if is_blank_rest (all_taken r) then None else Some (all_taken r).taken

abbrev pub title_prefix : Context → List ℕ → Option ℕ
title_prefix around bs = option_and_then text_crossed (crossed false around (line_rest bs))

-- bytes with their offsets, with a line feed for each line ending (this project)
unfoldable pub with_line_feeds : List (ℕ × ℕ) → List (ℕ × ℕ)
with_line_feeds [] = []
with_line_feeds (c ∷ cs) =
    if c.1 == carriage_return
    then (if begins line_feed (bytes_of cs) then with_line_feeds cs else (c.0, line_feed) ∷ with_line_feeds cs)
    else c ∷ with_line_feeds cs

-- The title after its opening byte, with this closing byte, in lines with these prefixes. The result is its length in
-- bytes, including the closing byte, and its text with the lines joined (CommonMark 4.7, 6.3).
unfoldable pub title_text : (List ℕ → Option ℕ) → ℕ → List ℕ → Option (ℕ × List ℕ)
title_text prefix close bs =
    let whole = with_line_feeds (joined prefix 0 0 bs) in
    let n = unescaped_upto (ends_title close) 0 (bytes_of whole) in
    if begins close (drop n (bytes_of whole)) then Some (slice_index (offsets_of whole) n + 1, take n (bytes_of whole)) else None

-- the title that begins here: its length in bytes, and its text (CommonMark 4.7, 6.3)
unfoldable pub title_at : Context → List ℕ → Option (ℕ × List ℕ)
title_at around [] = None
title_at around (b ∷ bs) = option_and_then (λ close. option_map (λ (t : ℕ × List ℕ). (t.0 + 1, t.1)) (title_text (title_prefix around) close bs)) (title_end b)

-- The title after a destination: white space with at most one line ending separates them, and the line is blank after
-- the title (CommonMark 4.7).
abbrev pub alone_after : ℕ → List ℕ → ℕ × List ℕ → Option (ℕ × List ℕ)
alone_after n bs t = if is_some (blank_len (drop (n + t.0) bs)) then Some (n + t.0, t.1) else None

abbrev pub title_beyond : Context → List ℕ → ℕ × ℕ → Option (ℕ × List ℕ)
title_beyond around bs space = if space.0 == 0 then None else option_and_then (alone_after space.0 bs) (title_at around (drop space.0 bs))

abbrev pub title_after : Context → List ℕ → Option (ℕ × List ℕ)
title_after around bs = option_and_then (title_beyond around bs) (space_at around bs)

-- What ends a definition after its destination: a title, or nothing if the rest of the destination's line is blank
-- (CommonMark 4.7).
unfoldable pub after_destination : Context → List ℕ → Option (ℕ × Option (List ℕ))
after_destination around bs =
    option_map_or (λ (t : ℕ × List ℕ). Some (t.0, Some t.1)) (title_after around bs) (if is_some (blank_len bs) then Some (0, None) else None)

-- the deepest nesting of parentheses in a destination (CommonMark 6.3 requires at least three levels)
abbrev pub deepest_nesting : ℕ
deepest_nesting = 32

-- the length of the white space, with at most one line ending, between a destination and its title; 0 if there is no
-- title (CommonMark 4.7)
abbrev pub title_distance : Context → List ℕ → Option (List ℕ) → ℕ
title_distance around bs None = 0
title_distance around bs (Some title) = option_map_or (λ (space : ℕ × ℕ). space.0) (space_at around bs) 0

-- The target of a link: its destination and its title as they are written, with lines joined. The numbers are distances
-- from the colon in bytes: of the start and the end of the destination, and of the start of the title. Without a title,
-- the last is that of the end of the target (CommonMark 4.7).
pub record Target : Type 0 where
  pub dest : List ℕ
  pub title : Option (List ℕ)
  pub dest_start : ℕ
  pub dest_end : ℕ
  pub title_start : ℕ

-- The part of a definition after the colon, and its length in bytes. It is white space with at most one line ending, a
-- destination before these bytes, and a title, if any (CommonMark 4.7).
abbrev pub target_of : Context → List ℕ → ℕ → ℕ × List ℕ → ℕ × Option (List ℕ) → ℕ × Target
target_of around bs n dest further = (
  n + dest.0 + further.0,
  record {
    dest = dest.1;
    title = further.1;
    dest_start = n;
    dest_end = n + dest.0;
    title_start = n + dest.0 + title_distance around bs further.1;
  },
)

abbrev pub target_from : Context → ℕ → List ℕ → ℕ × List ℕ → Option (ℕ × Target)
target_from around n bs dest = let following = drop dest.0 bs in option_map (target_of around following n dest) (after_destination around following)

abbrev pub target_beyond : Context → List ℕ → ℕ × ℕ → Option (ℕ × Target)
target_beyond around bs space = option_and_then (target_from around space.0 (drop space.0 bs)) (destination_at deepest_nesting (drop space.0 bs))

unfoldable pub target_at : Context → List ℕ → Option (ℕ × Target)
target_at around bs = option_and_then (target_beyond around bs) (space_at around bs)

-- a link reference definition: its length in bytes, its label, the number of bytes before the label's `]`, and its
-- target (CommonMark 4.7)
pub record LinkReference : Type 0 where
  pub size : ℕ
  pub label : List ℕ
  pub label_end : ℕ
  pub target : Target

abbrev pub reference_definition_of : ℕ × List ℕ → ℕ × Target → LinkReference
reference_definition_of label target = record { size = label.0 + 2 + target.0; label = label.1; label_end = label.0; target = target.1 }

-- the definition with this label after its `[`: a colon is directly after the label (CommonMark 4.7)
abbrev pub reference_definition_after : Context → List ℕ → ℕ × List ℕ → Option LinkReference
reference_definition_after around bs label =
    if begins colon (drop label.0 bs)
    then option_map (reference_definition_of label) (target_at around (drop (label.0 + 1) bs))
    else None

-- The definition that begins here: a label in square brackets, a colon, and a target (CommonMark 4.7). In a table,
-- backslashes before pipes are no part of the label (GFM 4.10).
unfoldable pub reference_definition_at : Bool → Context → List ℕ → Option LinkReference
reference_definition_at in_table around bs =
    if begins left_bracket bs
    then option_and_then (reference_definition_after around (drop 1 bs)) (label_at (prefix_crossed true around) in_table (drop 1 bs))
    else None
