-- The kind of the block found at a place, and the end condition of an HTML block of types 1 to 5.
use Rattle.std.specs.Prelude.{◌≡◌, ℕ, List, drop, min, Some}
use Rattle.first_pass_items.specs.declared.option_set.Options.{Options}
use Rattle.first_pass_lines.specs.Rest.{indent}
use Rattle.first_pass_lines.specs.Places.{Place, offset}
use Rattle.first_pass_html.specs.Ends.{condition_of}
use Rattle.first_pass_html.specs.Starts.{html_end}
use Rattle.first_pass_grammar.specs.Kinds.{Kind, IsKind, unindented, Blank, IndentedCode, Metadata, HtmlToEnd, HtmlToBlank, ThematicBreak, AtxHeading}
use Rattle.first_pass_grammar.specs.Kinds.{FencedCode, Paragraph}
use Rattle.first_pass_kinds.specs.declared.kinds.BlockStart.{BlockStart}
use Rattle.first_pass_kinds.specs.declared.kinds.BlockStart.TheVariants.{Blank as FoundBlank, Paragraph as FoundParagraph, HtmlToBlank as FoundHtml, Marked}
use Rattle.first_pass_kinds.specs.declared.kinds.MarkedLeaf.{MarkedLeaf}
use Rattle.first_pass_kinds.specs.declared.kinds.MarkedLeaf.TheVariants.{IndentedCode as MarkedCode, Metadata as MarkedMetadata, HtmlToEnd as MarkedHtml}
use Rattle.first_pass_kinds.specs.declared.kinds.MarkedLeaf.TheVariants.{ThematicBreak as MarkedBreak, AtxHeading as MarkedHeading, FencedCode as MarkedFence}

abbrev pub marked_kind : MarkedLeaf → Kind
marked_kind MarkedCode = IndentedCode
marked_kind (MarkedMetadata byte) = Metadata byte
marked_kind (MarkedHtml «end») = HtmlToEnd
marked_kind (MarkedBreak size) = ThematicBreak size
marked_kind (MarkedHeading level) = AtxHeading level
marked_kind (MarkedFence count byte) = FencedCode count byte

-- the kind of the block that was found
abbrev pub kind_of : BlockStart → Kind
kind_of FoundBlank = Blank
kind_of FoundParagraph = Paragraph
kind_of FoundHtml = HtmlToBlank
kind_of (Marked leaf) = marked_kind leaf

-- for an HTML block of types 1 to 5, the end condition found is that of the block that begins here (CommonMark 4.6)
abbrev pub HasEndCondition : List ℕ → MarkedLeaf → Type 0
HasEndCondition bs (MarkedHtml «end») = html_end (drop 1 bs) ≡ Some (condition_of «end»)
HasEndCondition bs _ = Unit {0}

abbrev pub IsFoundWithCondition : List ℕ → BlockStart → Type 0
IsFoundWithCondition bs (Marked leaf) = HasEndCondition bs leaf
IsFoundWithCondition bs _ = Unit {0}

-- The kind found is that of the block at the place; for an HTML block of types 1 to 5, so is the end condition.
-- `columns` is the indentation of the place, or 4 if there is more; `at` is the offset after it.
pub record IsFoundAt (options : Options) (p : Place) (found : BlockStart) (columns at : ℕ) : Type 0 where
  pub kind : IsKind options p.rest (kind_of found)
  pub «end» : IsFoundWithCondition (unindented p).rest.left found
  pub columns_are : columns ≡ min 4 (indent p.rest)
  pub at_is : at ≡ offset (unindented p)
