-- The nodes that raw leaf blocks append to a tree: code, metadata and HTML.
use Rattle.std.specs.Prelude.{◌≡◌, ℕ, zero, suc, ◌+◌, ◌<◌, ◌||◌, not, Bool, false, List, [], length, drop, Option, Some, None, ◌==◌, if◌then◌else◌}
use Rattle.first_pass_items.specs.Bytes.{carriage_return}
use Rattle.first_pass_items.specs.declared.option_set.Options.{Options}
use Rattle.first_pass_items.specs.declared.item.Item.{Item}
use Rattle.first_pass_tree.specs.Forest.{Forest, added}
use Rattle.first_pass_html.specs.Ends.{BlockEnd}
use Rattle.first_pass_lines.specs.Lines.{line_len}
use Rattle.first_pass_lines.specs.Places.{Place, offset, line_rest, line_place}
use Rattle.first_pass_tokens.specs.TreeTokens.{with_tokens, chained}
use Rattle.first_pass_grammar.specs.declared.kind.Container.{Container}
use Rattle.first_pass_grammar.specs.Names.{Names, Extends}
use Rattle.first_pass_grammar.specs.Leaves.{Document, document}
use Rattle.first_pass_grammar.specs.RawLines.{AreColumns, Ranges, range_text, range_html, ends_with_both, IsRawLine, AreRawLines}
use Rattle.first_pass_grammar.specs.CodeBlocks.{code_lines, last_is_blank, IsIndentedCode, fenced_lines, metadata_lines}
use Rattle.first_pass_grammar.specs.Extents.{Extent, Verdict, extent, in_containers}
use Rattle.first_pass_grammar.specs.Extents as Judged
use Rattle.first_pass_leaves.specs.declared.raw_line.RawKind.{RawKind}
use Rattle.first_pass_leaves.specs.declared.raw_line.RawKind.TheVariants.{Code, Html}
use Rattle.first_pass_leaves.specs.declared.verdict.Verdict.{Verdict as Answer}
use Rattle.first_pass_leaves.specs.declared.verdict.Verdict.TheVariants.{GoesOn, IsLast, Closes, Stops}
use Rattle.first_pass_grammar.specs.HtmlBlocks.{until_end, until_blank}
use Rattle.first_pass_grammar.specs.Completion.{lines_from}
use Rattle.std.specs.Option.{option_and_then}
use Rattle.first_pass_lines.specs.Rest.{Rest, after_columns}
use Rattle.first_pass_grammar.specs.Containers.{has_columns, after}
use Rattle.first_pass_open.specs.Path.{path_of}

-- Owed columns are appended after the nodes of a tree. The new items are still those columns if names are added.
pub record AppendsColumns (names : Names) (owed at : ℕ) (old new : Forest Item) : Type 0 where
  pub items : List Item
  pub tree_is : new ≡ chained old items
  pub are : (more : Names) → Extends more names → AreColumns more owed at items

-- the rest of a line after its container prefixes, and after four columns or fewer, if the line continues indented
-- code
abbrev pub code_rest : Option Rest → Option Rest
code_rest o = option_and_then (λ r. if has_columns 4 r then Some (after_columns 4 r) else None) o

abbrev pub code_rest_at : List ℕ → List Container → ℕ → Option Rest
code_rest_at text path start = if start == length text then None else code_rest (after path (line_rest (drop start text)))

-- the items for a range of the bytes of a raw line
abbrev pub range_of : RawKind → Ranges
range_of Code = range_text
range_of Html = range_html

-- A raw line is appended after the nodes of a tree. The new items are still that line if names are added.
pub record AppendsRaw (range : Ranges) (text : List ℕ) (names : Names) (owed from to : ℕ) (old new : Forest Item) : Type 0 where
  pub items : List Item
  pub tree_is : new ≡ with_tokens old items
  pub are : (options : Options) (more : Names) → Extends more names → IsRawLine range (document text options more) owed from to items

-- a place at an offset in the text
pub record IsPlaceAt (text : List ℕ) (start : ℕ) (p : Place) : Type 0 where
  pub offset_is : offset p ≡ start
  pub left_is : p.rest.left ≡ drop start text

-- the end of the line containing an offset
abbrev pub after_line_at : List ℕ → ℕ → ℕ
after_line_at text at = at + line_len (drop at text)

-- the lines that continue indented code whose first line contains an offset, and the remaining lines
abbrev pub code_after : List ℕ → List Container → ℕ → List Place × List Place
code_after text path start = code_lines path (lines_from text (after_line_at text start))

-- Indented code is appended as a last child of the innermost open node.
pub record AddsIndented (d : Document) (p : Place) (old new : Forest Item) (next : ℕ) (blank : Bool) : Type 0 where
  pub items : List (ℕ × Item)
  pub tree_is : new ≡ added old items
  pub is : (more : Names)
      → Extends more d.names → IsIndentedCode (document d.text d.options more) p (code_after d.text (path_of d.options old) (offset p)).0 items
  pub blank_is : blank ≡ last_is_blank (code_after d.text (path_of d.options old) (offset p)).0
  pub left_is : lines_from d.text next ≡ (code_after d.text (path_of d.options old) (offset p)).1

-- a returned verdict in terms of the grammar, with the place at which the text of the line begins, if it has any
abbrev pub said : Answer → Place → Verdict
said GoesOn p = Judged.GoesOn p
said IsLast p = Judged.IsLast p
said (Closes e) p = Judged.Closes e
said (Stops e) p = Judged.Stops e

-- a byte that is neither the given byte of a fence nor `\r` (this project)
abbrev pub is_unmarked : ℕ → ℕ → Bool
is_unmarked fence_byte b = not (b == fence_byte || b == carriage_return)

-- A line of code is whole if no container is around the block, the block continues with the line from its first byte, and
-- the line does not end with `\r\n` (CommonMark 4.5, and this project).
pub record IsWhole (kind : RawKind) (judge : Place → Place → Verdict) (text : List ℕ) (at : ℕ) : Type 0 where
  pub code : kind ≡ Code
  pub within : at < length text
  pub goes_on : judge (line_place at (drop at text)) (line_place at (drop at text)) ≡ Judged.GoesOn (line_place at (drop at text))
  pub not_both : ends_with_both text at (after_line_at text at) ≡ false

-- From one offset up to another are this many whole lines (this project).
unfoldable pub AreWhole : RawKind → (Place → Place → Verdict) → List ℕ → ℕ → ℕ → ℕ → Type 0
AreWhole kind judge text zero from to = from ≡ to
AreWhole kind judge text (suc lines) from to = IsWhole kind judge text from × AreWhole kind judge text lines (after_line_at text from) to

-- The raw lines of an extent are appended after the nodes of a tree. The new items are still those lines if names are
-- added.
pub record AppendsLines (range : Ranges) (d : Document) (e : Extent) (old new : Forest Item) («end» next : ℕ) : Type 0 where
  pub chain : List Item
  pub tree_is : new ≡ chained old chain
  pub lines : (more : Names) → Extends more d.names → AreRawLines range (document d.text d.options more) [] e.places chain
  pub end_is : «end» ≡ e.«end»
  pub left_is : lines_from d.text next ≡ e.left

-- the extent of a block among the lines from an offset on
abbrev pub extent_from : List ℕ → List Container → (Place → Place → Verdict) → ℕ → Extent
extent_from text path judge at = extent (in_containers path judge) (length text) (lines_from text at)

-- A block is appended as a last child of the innermost open node. A relation holds for its items, also if names are
-- added. The lines from an offset on remain.
pub record AddsRaw (d : Document) (Are : Document → List (ℕ × Item) → Type 0) (left : List Place) (old new : Forest Item) (next : ℕ) : Type 0 where
  pub items : List (ℕ × Item)
  pub tree_is : new ≡ added old items
  pub are : (more : Names) → Extends more d.names → Are (document d.text d.options more) items
  pub left_is : lines_from d.text next ≡ left

-- the lines of a fenced code block, or of a metadata block, after the line containing an offset
abbrev pub fenced_after : List ℕ → List Container → ℕ → ℕ → ℕ → ℕ → Extent
fenced_after text path columns byte count start = fenced_lines (length text) path columns byte count (lines_from text (after_line_at text start))

abbrev pub metadata_after : List ℕ → List Container → ℕ → ℕ → Extent
metadata_after text path byte start = metadata_lines (length text) path byte (lines_from text (after_line_at text start))

-- the lines of an HTML block from a place on
abbrev pub html_to_end : List ℕ → List Container → BlockEnd → Place → Extent
html_to_end text path until p = until_end (length text) path until p (lines_from text (after_line_at text (offset p)))

abbrev pub html_to_blank : List ℕ → List Container → Place → Extent
html_to_blank text path p = until_blank (length text) path p (lines_from text (after_line_at text (offset p)))
