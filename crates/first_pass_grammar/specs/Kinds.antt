-- The kind of block that begins at a place, and the lines that end a paragraph (CommonMark 4, 5).
use Rattle.std.specs.Prelude.{◌≡◌, ◌⊎◌, ℕ, ◌==◌, ◌&&◌, ◌||◌, not, Bool, false, List, drop, Option, Some, None, nat_lt, is_some, if◌then◌else◌}
use Rattle.first_pass_items.specs.declared.item.HeadingLevel.{HeadingLevel}
use Rattle.first_pass_items.specs.declared.option_set.Options.{Options}
use Rattle.first_pass_items.specs.OptionWords.{has, footnotes, definition_list, yaml_style_metadata_blocks, pluses_delimited_metadata_blocks}
use Rattle.first_pass_html.specs.Starts.{html_end, begins_block_tag}
use Rattle.first_pass_html.specs.Tags.{BeginsTagLine}
use Rattle.first_pass_items.specs.Bytes.{less_than, greater_than, colon}
use Rattle.first_pass_lines.specs.Lines.{at_line_end, begins, blank_len, atx_level}
use Rattle.first_pass_scan.specs.LeafLines.{hrule_len, code_fence, setext_underline}
use Rattle.first_pass_scan.specs.Metadata.{metadata_byte}
use Rattle.first_pass_lines.specs.Rest.{Rest, indent, after_columns}
use Rattle.first_pass_links.specs.Footnotes.{footnote_head}
use Rattle.first_pass_lines.specs.Places.{Place, offset, moved_columns}
use Rattle.first_pass_scan.specs.Markers.{is_bullet, listitem, item_of, definition_of}
use Rattle.first_pass_grammar.specs.Containers.{Context, at_rest, after, front, at_definition}
use Rattle.first_pass_grammar.specs.TableHeads.{table_interrupts}
use Rattle.first_pass_grammar.specs.declared.kind.Container.{Container}

-- the kind of block that begins where no container begins
pub data Kind : Type 0 where
  -- a blank line (CommonMark 4.9)
  Blank : Kind
  -- indented code (CommonMark 4.4)
  IndentedCode : Kind
  -- a metadata block, with the byte of its marks: `-` or `+` (this project)
  Metadata : ℕ → Kind
  -- an HTML block of types 1 to 5: it ends with the line that meets its end condition (CommonMark 4.6)
  HtmlToEnd : Kind
  -- an HTML block of types 6 and 7: it ends before a blank line (CommonMark 4.6)
  HtmlToBlank : Kind
  -- a thematic break, with its length in bytes including the line ending (CommonMark 4.1)
  ThematicBreak : ℕ → Kind
  -- an ATX heading (CommonMark 4.2)
  AtxHeading : HeadingLevel → Kind
  -- a fenced code block, with the length of its fence and the fence's byte (CommonMark 4.5)
  FencedCode : ℕ → ℕ → Kind
  -- link reference definitions (CommonMark 4.7)
  LinkDefinitions : Kind
  -- a text: a paragraph, a setext heading or a table (CommonMark 4.8, 4.3, GFM 4.10)
  Paragraph : Kind

-- the rest of a line after its indentation: from the first byte that is neither a space nor a tab
abbrev pub all_taken : Rest → Rest
all_taken r = after_columns (indent r) r

-- the place after the indentation
abbrev pub unindented : Place → Place
unindented p = at_rest p (all_taken p.rest)

-- the rest of a line is blank (CommonMark 2.1)
abbrev pub is_blank_rest : Rest → Bool
is_blank_rest r = is_some (blank_len r.left)

abbrev pub heading_or : Option HeadingLevel → Kind → Kind
heading_or (Some level) other = AtxHeading level
heading_or None other = other

abbrev pub rule_or : Option ℕ → Kind → Kind
rule_or (Some size) other = ThematicBreak size
rule_or None other = other

abbrev pub fence_or : Option (ℕ × ℕ) → Kind → Kind
fence_or (Some fence) other = FencedCode fence.0 fence.1
fence_or None other = other

abbrev pub metadata_or : Option ℕ → Option Kind → Option Kind
metadata_or (Some byte) other = Some (Metadata byte)
metadata_or None other = other

-- an HTML block of types 1 to 5 begins here; the next definition is for type 6 (CommonMark 4.6)
abbrev pub begins_html_to_end : List ℕ → Bool
begins_html_to_end bs = begins less_than bs && is_some (html_end (drop 1 bs))

abbrev pub begins_html_to_blank : List ℕ → Bool
begins_html_to_blank bs = begins less_than bs && begins_block_tag (drop 1 bs)

abbrev pub html_kind : List ℕ → Option Kind
html_kind bs = if begins_html_to_end bs then Some HtmlToEnd else (if begins_html_to_blank bs then Some HtmlToBlank else None)

-- the mark byte of the metadata block that begins here; its indentation must be zero columns (this project)
abbrev pub metadata_at : ℕ → Options → List ℕ → Option ℕ
metadata_at columns options bs =
    if columns == 0 then metadata_byte (has options yaml_style_metadata_blocks) (has options pluses_delimited_metadata_blocks) bs else None

-- The first of these that fits: a blank line (CommonMark 4.9); indented code, at four columns or more (4.4); a
-- metadata block, at column 0 (this project); an HTML block of types 1 to 6 (4.6).
unfoldable pub first_kind : Options → Rest → Option Kind
first_kind options r =
    if is_blank_rest r then Some Blank
    else (if nat_lt (indent r) 4
    then metadata_or (metadata_at (indent r) options (all_taken r).left) (html_kind (all_taken r).left)
    else Some IndentedCode)

-- The first of these that fits: a thematic break (CommonMark 4.1), an ATX heading (4.2), a fenced code block (4.5), a
-- text (4.8).
abbrev pub later_kind : List ℕ → Kind
later_kind bs = rule_or (hrule_len bs) (heading_or (atx_level bs) (fence_or (code_fence bs) Paragraph))

-- The kind is the first one that fits. If none does, it is an HTML block of type 7 if a tag line begins here,
-- otherwise the last kind (CommonMark 4.6).
abbrev pub IsKindBy : Rest → Option Kind → Kind → Type 0
IsKindBy r (Some first) kind = kind ≡ first
IsKindBy r None kind =
    ((n : ℕ) × BeginsTagLine (all_taken r).left n × (kind ≡ HtmlToBlank))
    ⊎ (((n : ℕ) → BeginsTagLine (all_taken r).left n → ⊥) × (kind ≡ later_kind (all_taken r).left))

-- the kind of block that begins at this rest of a line, given that no container begins there
abbrev pub IsKind : Options → Rest → Kind → Type 0
IsKind options r kind = IsKindBy r (first_kind options r) kind

-- the start of a block quote: its `>`, after at most three columns (CommonMark 5.1)
abbrev pub quote_start : Place → ℕ
quote_start p = offset (moved_columns 3 p)

-- the list item that begins here at fewer than four columns: its marker's byte, its number and indent, and the rest of
-- its line (CommonMark 5.2)
unfoldable pub item_at : Rest → Option ((ℕ × ℕ × ℕ) × Rest)
item_at r = if nat_lt (indent r) 4 then item_of (indent r) (all_taken r) else None

-- the definition that begins here at fewer than four columns: its indent, and the rest of its line (this project)
unfoldable pub definition_marker_at : Rest → Option (ℕ × Rest)
definition_marker_at r = if nat_lt (indent r) 4 then definition_of (indent r) (all_taken r) else None

-- A list item interrupts a paragraph if its line does not continue all containers. If the line does, the item must not
-- begin with a blank line, and its marker must be a bullet or have the number 1 (CommonMark 5.2, 5.3).
abbrev pub item_interrupts : Bool → List ℕ → Option (ℕ × ℕ × ℕ × ℕ) → Bool
item_interrupts whole bs None = false
item_interrupts whole bs (Some m) = not whole || ((is_bullet m.1 || (m.2 == 1)) && not (is_some (blank_len (drop m.0 bs))))

-- What interrupts a paragraph at fewer than four columns; `whole`: the line continues all containers. It is the end of
-- the line, a thematic break, an ATX heading, a code fence, a block quote, a list item or an HTML block of types 1 to
-- 6 (CommonMark 4.8, 4.1, 4.2, 4.5, 5.1, 5.2, 4.6).
abbrev pub interrupts_with : Bool → List ℕ → Bool
interrupts_with whole bs =
    at_line_end bs || is_some (hrule_len bs) || is_some (atx_level bs) || is_some (code_fence bs)
    || begins greater_than bs || item_interrupts whole bs (listitem bs)
    || begins_html_to_end bs || begins_html_to_blank bs

-- The head of a footnote definition, in either form, interrupts if its label has no line ending (this project).
abbrev pub footnote_interrupts : Options → Bool → List ℕ → Bool
footnote_interrupts options in_table bs = has options footnotes && is_some (footnote_head (λ further. None) in_table bs)

-- A `:` interrupts if the first container that its line does not continue is a definition (this project).
abbrev pub definition_interrupts : Options → Bool → List ℕ → Bool
definition_interrupts options at_definition bs = at_definition && (has options definition_list && begins colon bs)

-- how a line continues the containers of a path: whether it continues all of them, and whether the first one that it
-- does not continue is a definition (this project)
pub record Continued : Type 0 where
  pub whole : Bool
  pub at_definition : Bool

abbrev pub continued : List Container → Rest → Continued
continued path r = record { whole = is_some (after path r); at_definition = at_definition path r }

-- what interrupts a paragraph at fewer than four columns: one of the above, a footnote definition, a definition or a
-- table (this project)
abbrev pub interrupts_in : Context → Continued → List ℕ → Bool
interrupts_in around c bs =
    interrupts_with c.whole bs
    || (footnote_interrupts around.options false bs || (definition_interrupts around.options c.at_definition bs || table_interrupts around bs))

-- A line at fewer than four columns ends the paragraph before it if its text interrupts. A line at four columns or more
-- does so only if it has only spaces and tabs, and perhaps a line ending.
unfoldable pub interrupts : Context → Continued → Rest → Bool
interrupts around c r = if nat_lt (indent r) 4 then interrupts_in around c (all_taken r).left else at_line_end (all_taken r).left

-- this rest of a line ends a paragraph in the containers of a path (CommonMark 4.8, and 5.1 on lazy continuation
-- lines)
abbrev pub ends_paragraph : Context → Rest → Bool
ends_paragraph around r = interrupts around (continued around.path r) (front around.path r)

-- the setext heading underline that is the rest of a line, at fewer than four columns: its length in bytes including
-- the line ending, and its level (CommonMark 4.3)
abbrev pub underline_left : Rest → Option (ℕ × HeadingLevel)
underline_left r = if nat_lt (indent r) 4 then setext_underline (all_taken r).left else None

-- the setext heading underline that a line is; a line that does not continue the whole path is none (CommonMark 4.3)
unfoldable pub underline_of : List Container → Rest → Option (ℕ × HeadingLevel)
underline_of path r = if is_some (after path r) then underline_left (front path r) else None

-- A `:` at fewer than four columns ends a text if its line continues all containers. It ends no table row, no link
-- reference definition and no line after a tag (this project).
abbrev pub colon_ends : Context → Rest → Bool
colon_ends around r =
    has around.options definition_list
    && (is_some (after around.path r) && (nat_lt (indent (front around.path r)) 4 && begins colon (all_taken (front around.path r)).left))

-- This rest of a line ends the text before it. It is an underline (CommonMark 4.3), it ends a paragraph (4.8), or it
-- begins with a `:` that ends the text (this project).
abbrev pub ends_text : Context → Rest → Bool
ends_text around r = is_some (underline_of around.path r) || (ends_paragraph around r || colon_ends around r)

-- The line after the tag of a block quote is read like any other line if it has fewer than four columns and would end
-- a paragraph. Otherwise it belongs to the quote, whichever containers of the path it continues (this project).
abbrev pub is_ordinary_after_tag : Context → Rest → Bool
is_ordinary_after_tag around r = nat_lt (indent (front around.path r)) 4 && ends_paragraph around r
