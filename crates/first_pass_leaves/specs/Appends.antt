-- The nodes that the parsers of paragraphs, headings and thematic breaks append to the tree.
use Rattle.std.specs.Prelude.{◌≡◌, ◌≤◌, ℕ, ◌+◌, List, [], take, drop, Option, Some, None, false, IsCharBoundary, if◌then◌else◌, ◌<◌, ◌^◌, IfSome}
use Rattle.first_pass_items.specs.declared.cow_str.CowStr.{CowStr}
use Rattle.first_pass_items.specs.declared.item.Item.{Item}
use Rattle.first_pass_items.specs.declared.item.HeadingIndex.{HeadingIndex}
use Rattle.first_pass_items.specs.declared.item.HeadingLevel.{HeadingLevel}
use Rattle.first_pass_tree.specs.Forest.{Forest, added, with_text}
use Rattle.first_pass_lines.specs.Lines.{level_number, line_len}
use Rattle.first_pass_tokens.specs.Chains.{is_backslash_break, add_tokens, close_break}
use Rattle.first_pass_tokens.specs.Braces.{MathBraces, no_braces}
use Rattle.first_pass_tokens.specs.LineTokens.{spot, AreLineTokens}
use Rattle.first_pass_tokens.specs.Pieces.{Inline}
use Rattle.first_pass_tokens.specs.TreeTokens.{chained}
use Rattle.first_pass_grammar.specs.Leaves.{Document, document, IsHeading, kept_len, heading_chain, heading_text_at, heading_block, text_lines, AreTextLines}
use Rattle.first_pass_grammar.specs.Names.{Names, Extends}
use Rattle.first_pass_grammar.specs.Completion.{lines_from}
use Rattle.first_pass_open.specs.Between.{line_end_at}
use Rattle.first_pass_open.specs.Path.{path_of}
use Rattle.std.specs.Option.{option_map}
use Rattle.first_pass_grammar.specs.Texts.{underline_first, IsPlainText}
use Rattle.first_pass_grammar.specs.Tables.{taking}
use Rattle.first_pass_grammar.specs.Headings.{heading_attribute_block}
use Rattle.first_pass_items.specs.declared.option_set.Options.{Options}
use Rattle.first_pass_leaves.specs.declared.heading.AttributeBlock.{AttributeBlock}
use Rattle.first_pass_leaves.specs.declared.paragraph.TextEnd.{TextEnd}

-- the rest of a line from an offset on, with its line ending (CommonMark 2.1)
abbrev pub line_from : List ℕ → ℕ → List ℕ
line_from text start = take (line_len (drop start text)) (drop start text)

-- if the rest of a line from an offset on ends with an attribute block: the start of the block, and the end of the line
-- (this project)
abbrev pub attribute_place : Options → List ℕ → ℕ → Option AttributeBlock
attribute_place options text start =
    option_map (λ block. record { opening = start + block.opening; line_end = line_end_at text start }) (heading_attribute_block options (line_from text start))

-- the tree if no line follows: the backslash of a hard break is text
abbrev pub with_closed_break : Forest Item → Option Item → Forest Item
with_closed_break f None = f
with_closed_break f (Some x) = if is_backslash_break x.body then with_text f x.start (x.start + 1) false else f

-- The chain of the text that begins at an offset is in the innermost open node, without the break after its last line.
-- It is still the chain of that text if names are added. The remaining lines begin at another offset, and the first of
-- them may be an underline (CommonMark 4.3, 4.8).
pub record AppendsLines (d : Document) (start : ℕ) (old new : Forest Item) (end : TextEnd) : Type 0 where
  pub chain : List Item
  pub are : (more : Names) → Extends more d.names
      → AreTextLines (document d.text d.options more) (path_of d.options old) (spot start no_braces) [] (lines_from d.text (line_end_at d.text start))
      (text_lines chain end.line_break (lines_from d.text end.next))
  pub tree_is : new ≡ chained old chain
  pub underline : end.underline ≡ option_map (λ found. found.1) (underline_first (path_of d.options old) (lines_from d.text end.next))
  pub later : line_end_at d.text start ≤ end.next
  pub boundary : IsCharBoundary d.text end.next
  pub short : IfSome end.line_break (λ x. x.start < 2 ^ 63)

-- The tokens of an ATX heading's line are in the innermost open node, without the closing sequence. `content` is the
-- text of the heading. Each text that the tokens name is among `texts`.
pub record AppendsHeading (texts : List CowStr) (s : Inline) (content : List ℕ) (old new : Forest Item) : Type 0 where
  pub tokens : List Item
  pub answer : ℕ × Option Item
  pub after : MathBraces
  pub line : AreLineTokens texts s tokens answer after
  pub tree_is : new ≡ chained old (heading_chain (kept_len content) s.start (close_break answer.1 (add_tokens [] tokens)))

-- The paragraph or setext heading whose text begins at an offset and heads no table is added as the last child of the
-- innermost open node. It is still one if names are added. The remaining lines begin at another offset (CommonMark
-- 4.3, 4.8).
pub record AddsPlainText (d : Document) (start : ℕ) (marker : Option Item) (old new : Forest Item) (next : ℕ) : Type 0 where
  pub items : List (ℕ × Item)
  pub is : (more : Names) → Extends more d.names
      → IsPlainText (document d.text d.options more) (path_of d.options old) start marker (lines_from d.text (line_end_at d.text start))
      (taking items (lines_from d.text next))
  pub tree_is : new ≡ added old items
  pub later : line_end_at d.text start ≤ next
  pub boundary : IsCharBoundary d.text next

-- The ATX heading that begins at an offset is added as the last child of the innermost open node. It is still one if
-- names are added. Its line ends at another offset.
pub record AddsHeading (d : Document) (start : ℕ) (level : HeadingLevel) (old new : Forest Item) (next : ℕ) : Type 0 where
  pub index : Option HeadingIndex
  pub chain : List Item
  pub line : (more : Names)
      → Extends more d.names → IsHeading (document d.text d.options more) (heading_text_at d.text start (level_number level)) index chain next
  pub tree_is : new ≡ added old (heading_block start next level index chain)
  pub end_is : next ≡ line_end_at d.text start
