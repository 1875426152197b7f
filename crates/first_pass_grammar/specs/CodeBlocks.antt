-- The lines of code blocks and metadata blocks (CommonMark 4.4, 4.5, and this project).
use Rattle.std.specs.Prelude.{◌≡◌, ℕ, ◌+◌, ◌-◌, Bool, false, nat_lt, List, [], ◌∷◌, length, take, drop, slice_get, Option, Some, None, if◌then◌else◌}
use Rattle.std.specs.List.{prefix_len, suffix_len}
use Rattle.std.specs.Option.{option_map, option_and_then}
use Rattle.first_pass_items.specs.Bytes.{hyphen}
use Rattle.first_pass_items.specs.declared.cow_str.CowStr.{CowStr}
use Rattle.first_pass_items.specs.CowText.{text_of}
use Rattle.first_pass_items.specs.declared.item.CowIndex.{CowIndex}
use Rattle.first_pass_items.specs.declared.item.Item.{Item}
use Rattle.first_pass_items.specs.declared.item.MetadataBlockKind.{MetadataBlockKind}
use Rattle.first_pass_items.specs.declared.item.MetadataBlockKind.TheVariants.{YamlStyle, PlusesStyle}
use Rattle.first_pass_items.specs.declared.item.ItemBody.TheVariants.{IndentCodeBlock, FencedCodeBlock, MetadataBlock}
use Rattle.first_pass_lines.specs.Lines.{is_white, is_white_or_line_end, line_len}
use Rattle.first_pass_scan.specs.LeafLines.{closing_fence_len}
use Rattle.first_pass_scan.specs.Metadata.{closing_metadata_len}
use Rattle.first_pass_lines.specs.Rest.{indent}
use Rattle.first_pass_lines.specs.Places.{Place, offset, line_end, moved_columns}
use Rattle.first_pass_links.specs.Escapes.{unescaped}
use Rattle.first_pass_entities.specs.Texts.{Borrows}
use Rattle.first_pass_grammar.specs.declared.kind.Container.{Container}
use Rattle.first_pass_grammar.specs.Names.{Names}
use Rattle.first_pass_grammar.specs.Containers.{has_columns, taken}
use Rattle.first_pass_grammar.specs.Kinds.{all_taken, unindented, is_blank_rest}
use Rattle.first_pass_grammar.specs.Leaves.{Document, block_with}
use Rattle.first_pass_grammar.specs.RawLines.{range_text, AreRawLines}
use Rattle.first_pass_grammar.specs.Extents.{Extent, Verdict, GoesOn, Closes, extent, in_containers}

-- If a line continues indented code: the place at which its text begins, after the container prefixes and four columns.
-- There may be fewer columns if the line ends after them (CommonMark 4.4).
abbrev pub code_place : List Container → Place → Option Place
code_place path line = option_and_then (λ (q : Place). if has_columns 4 q.rest then Some (moved_columns 4 q) else None) (taken path line)

-- the places of the lines that continue indented code, and the lines after them
abbrev pub code_by : List Place → List Place → Option Place → List Place × List Place → List Place × List Place
code_by line lines None further = ([], lines)
code_by line lines (Some p) further = (p ∷ further.0, further.1)

unfoldable pub code_lines : List Container → List Place → List Place × List Place
code_lines path [] = ([], [])
code_lines path (line ∷ lines) = code_by lines (line ∷ lines) (code_place path line) (code_lines path lines)

-- lines without the blank ones at their end
abbrev pub unless_blank : Place → List Place → List Place
unless_blank p [] = if is_blank_rest p.rest then [] else p ∷ []
unless_blank p (q ∷ qs) = p ∷ q ∷ qs

unfoldable pub without_blanks : List Place → List Place
without_blanks [] = []
without_blanks (p ∷ ps) = unless_blank p (without_blanks ps)

-- the last of these lines is blank
unfoldable pub last_is_blank : List Place → Bool
last_is_blank [] = false
last_is_blank (p ∷ []) = is_blank_rest p.rest
last_is_blank (p ∷ q ∷ ps) = last_is_blank (q ∷ ps)

-- the end of the last of these lines, or an offset if there are no lines
unfoldable pub last_end : ℕ → List Place → ℕ
last_end e [] = e
last_end e (p ∷ ps) = last_end (line_end p) ps

-- Indented code whose first line's text begins at a place after its four columns, with these further lines. The blank
-- lines at its end are not part of it (CommonMark 4.4).
pub record IsIndentedCode (d : Document) (p : Place) (further : List Place) (items : List (ℕ × Item)) : Type 0 where
  pub chain : List Item
  pub lines : AreRawLines range_text d [] (without_blanks (p ∷ further)) chain
  pub items_are : items ≡ block_with (offset p) (last_end (offset p) (without_blanks (p ∷ further))) IndentCodeBlock chain

-- If the rest of a line, at fewer than four columns, is a closing fence: the end of that fence. A closing fence has at
-- least this many of a byte; the end of the text is one too (CommonMark 4.5).
abbrev pub closing_fence_end : ℕ → ℕ → Place → Option ℕ
closing_fence_end byte count p =
    if nat_lt (indent p.rest) 4 then option_map (λ n. offset (unindented p) + n) (closing_fence_len byte count (all_taken p.rest).left) else None

-- What a line means for a fenced code block whose opening fence had this many columns before it. A closing fence
-- closes the block. Any other line loses up to as many columns as the opening fence had (CommonMark 4.5).
abbrev pub fence_verdict : ℕ → Place → Option ℕ → Verdict
fence_verdict columns q None = GoesOn (moved_columns columns q)
fence_verdict columns q (Some e) = Closes e

abbrev pub fence_judge : ℕ → ℕ → ℕ → Place → Place → Verdict
fence_judge columns byte count line q = fence_verdict columns q (closing_fence_end byte count q)

-- the lines of a fenced code block among those after its opening fence, in a text of n bytes
abbrev pub fenced_lines : ℕ → List Container → ℕ → ℕ → ℕ → List Place → Extent
fenced_lines n path columns byte count lines = extent (in_containers path (fence_judge columns byte count)) n lines

-- the bytes of a line without the white space and the line ending at their end (CommonMark 4.5)
abbrev pub trimmed : List ℕ → List ℕ
trimmed line = take (length line - suffix_len is_white_or_line_end line) line

-- the info string of a code fence that ends before these bytes, without white space at its start and end (CommonMark
-- 4.5)
unfoldable pub info_string : List ℕ → List ℕ
info_string bs = let text = drop (prefix_len is_white bs) bs in trimmed (take (line_len text) text)

-- the index names an info string with its escapes and references resolved; if these change nothing, it is borrowed
-- (CommonMark 4.5, and this project)
pub record NamesInfo (names : Names) (ix : CowIndex) (info : List ℕ) : Type 0 where
  pub named : CowStr
  pub at : slice_get names.texts ix.0 ≡ Some named
  pub text : text_of named ≡ unescaped false info
  pub borrowed : unescaped false info ≡ info → Borrows info named

-- The fenced code block whose opening fence of this many bytes begins at an offset, with these raw lines and this end.
pub record IsFencedCode (d : Document) (start count : ℕ) (places : List Place) («end» : ℕ) (items : List (ℕ × Item)) : Type 0 where
  pub chain : List Item
  pub info : CowIndex
  pub names : NamesInfo d.names info (info_string (drop (start + count) d.text))
  pub lines : AreRawLines range_text d [] places chain
  pub items_are : items ≡ block_with start «end» (FencedCodeBlock info) chain

-- What a line means for a metadata block: a closing line closes it. The whole line is tested, including its container
-- prefixes (this project).
abbrev pub metadata_verdict : Place → Place → Option ℕ → Verdict
metadata_verdict line q None = GoesOn q
metadata_verdict line q (Some n) = Closes (line.line + n)

abbrev pub metadata_judge : ℕ → Place → Place → Verdict
metadata_judge byte line q = metadata_verdict line q (closing_metadata_len byte line.rest.left)

-- the lines of a metadata block among those after its first, in a text of n bytes
abbrev pub metadata_lines : ℕ → List Container → ℕ → List Place → Extent
metadata_lines n path byte lines = extent (in_containers path (metadata_judge byte)) n lines

-- the kind of a metadata block, by the byte of its marks `---` or `+++`
abbrev pub metadata_kind : ℕ → MetadataBlockKind
metadata_kind byte = if nat_lt byte hyphen then PlusesStyle else YamlStyle

-- The metadata block with this byte that begins at an offset, with these raw lines and this end.
pub record IsMetadata (d : Document) (start byte : ℕ) (places : List Place) («end» : ℕ) (items : List (ℕ × Item)) : Type 0 where
  pub chain : List Item
  pub lines : AreRawLines range_text d [] places chain
  pub items_are : items ≡ block_with start «end» (MetadataBlock (metadata_kind byte)) chain
