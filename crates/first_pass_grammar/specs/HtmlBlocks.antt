-- The lines of HTML blocks (CommonMark 4.6).
use Rattle.std.specs.Prelude.{◌≡◌, ℕ, ◌||◌, Bool, true, false, List, [], ◌∷◌, if◌then◌else◌}
use Rattle.first_pass_items.specs.declared.item.Item.{Item}
use Rattle.first_pass_items.specs.declared.item.ItemBody.TheVariants.{HtmlBlock}
use Rattle.first_pass_html.specs.Ends.{BlockEnd, AtRawEndTag, AtText, holds_raw_end_tag}
use Rattle.first_pass_html.specs.Starts.{begins_with}
use Rattle.first_pass_lines.specs.Lines.{at_line_end}
use Rattle.first_pass_lines.specs.Places.{Place, offset, line_of}
use Rattle.first_pass_grammar.specs.declared.kind.Container.{Container}
use Rattle.first_pass_grammar.specs.Kinds.{is_blank_rest}
use Rattle.first_pass_grammar.specs.Leaves.{Document, block_with}
use Rattle.first_pass_grammar.specs.RawLines.{range_html, AreRawLines}
use Rattle.first_pass_grammar.specs.Extents.{Extent, with_line, Verdict, GoesOn, IsLast, Closes, Stops, extent_by, extent, in_containers}

-- the bytes contain a text
unfoldable pub holds : List ℕ → List ℕ → Bool
holds text [] = begins_with text []
holds text (b ∷ bs) = begins_with text (b ∷ bs) || holds text bs

-- there are no bytes
abbrev pub is_empty : List ℕ → Bool
is_empty [] = true
is_empty (b ∷ bs) = false

-- the bytes meet the end condition of an HTML block of types 1 to 5 (CommonMark 4.6, end conditions 1 to 5)
unfoldable pub holds_end : BlockEnd → List ℕ → Bool
holds_end AtRawEndTag bs = holds_raw_end_tag bs
holds_end (AtText text) bs = holds text bs

-- What a line from a place on means for an HTML block of types 1 to 5. A line that meets the end condition is the last
-- (CommonMark 4.6, end conditions 1 to 5).
abbrev pub tag_verdict : BlockEnd → Place → Verdict
tag_verdict until q = if holds_end until (line_of q) then IsLast q else GoesOn q

-- The same for a line after the first. If the container prefixes take the whole of the last line, the block ends with
-- the text (this project).
abbrev pub tag_judge : BlockEnd → Place → Place → Verdict
tag_judge until line q = if is_empty q.rest.left then Closes (offset q) else tag_verdict until q

-- The lines of an HTML block of types 1 to 5: the one at a place, and those among the lines after it, in a text of n
-- bytes.
abbrev pub until_end : ℕ → List Container → BlockEnd → Place → List Place → Extent
until_end n path until p lines = extent_by (tag_verdict until p) p lines (extent (in_containers path (tag_judge until)) n lines)

-- What a line after the first means for an HTML block of types 6 and 7: a blank line stops it (CommonMark 4.6, end
-- conditions 6 and 7). The block stops after the container prefixes, or at the start of the line if the line ends
-- there (this project).
abbrev pub blank_judge : Place → Place → Verdict
blank_judge line q = if at_line_end q.rest.left then Stops line.line else (if is_blank_rest q.rest then Stops (offset q) else GoesOn q)

-- the lines of an HTML block of types 6 and 7: the one at a place, and those among the lines after it, in a text of n
-- bytes
abbrev pub until_blank : ℕ → List Container → Place → List Place → Extent
until_blank n path p lines = with_line p (extent (in_containers path blank_judge) n lines)

-- a place at which this many columns are owed; the next definition is for the first of some places
abbrev pub owing : ℕ → Place → Place
owing columns p = record p { rest = record p.rest { owed = columns } }

abbrev pub first_owing : ℕ → List Place → List Place
first_owing columns [] = []
first_owing columns (p ∷ ps) = owing columns p ∷ ps

-- The HTML block that begins at an offset after this many columns, with these raw lines and this end.
pub record IsHtml (d : Document) (start columns : ℕ) (places : List Place) («end» : ℕ) (items : List (ℕ × Item)) : Type 0 where
  pub chain : List Item
  pub lines : AreRawLines range_html d [] (first_owing columns places) chain
  pub items_are : items ≡ block_with start «end» HtmlBlock chain
