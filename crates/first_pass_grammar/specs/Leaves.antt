-- The lines and items of leaf blocks (CommonMark 4).
use Rattle.std.specs.Prelude.{◌≡◌, ◌⊎◌, ℕ, ◌+◌, ◌-◌, ◌==◌, ◌&&◌, ◌||◌, Bool, true, false, nat_lt, Option, Some, None, List, [], ◌∷◌, ◌++◌, length, take, drop}
use Rattle.std.specs.Prelude.{if◌then◌else◌}
use Rattle.std.specs.List.{prefix_len, suffix_len}
use Rattle.first_pass_items.specs.Bytes.{line_feed, carriage_return, space, number_sign}
use Rattle.first_pass_items.specs.declared.option_set.Options.{Options}
use Rattle.first_pass_items.specs.declared.item.Item.{Item}
use Rattle.first_pass_items.specs.declared.item.ItemBody.{ItemBody}
use Rattle.first_pass_items.specs.declared.item.ItemBody.TheVariants.{Heading as HeadingBody, Paragraph as ParagraphBody, Rule}
use Rattle.first_pass_items.specs.declared.item.HeadingIndex.{HeadingIndex}
use Rattle.first_pass_items.specs.declared.item.HeadingLevel.{HeadingLevel}
use Rattle.first_pass_tree.specs.Forest.{block_of}
use Rattle.first_pass_lines.specs.Lines.{is_white, line_len}
use Rattle.first_pass_lines.specs.Places.{Place, offset}
use Rattle.first_pass_tokens.specs.Pieces.{Inline}
use Rattle.first_pass_tokens.specs.Braces.{MathBraces, no_braces}
use Rattle.first_pass_tokens.specs.LineTokens.{Spot, spot, AreLineTokens}
use Rattle.first_pass_tokens.specs.TreeTokens.{leaves}
use Rattle.first_pass_tokens.specs.Chains.{add_tokens, close_break, cut}
use Rattle.first_pass_grammar.specs.declared.kind.Container.{Container}
use Rattle.first_pass_grammar.specs.Headings.{before_attributes, heading_attributes_of, text_before_attributes}
use Rattle.first_pass_grammar.specs.Names.{Names, NamesAttributes}
use Rattle.first_pass_grammar.specs.Containers.{Context, context, at_rest, front}
use Rattle.first_pass_grammar.specs.Kinds.{unindented, ends_text}

-- a text, the options for reading it, and the names for the indices in the tree
pub record Document : Type 0 where
  pub text : List ℕ
  pub options : Options
  pub names : Names

abbrev pub document : List ℕ → Options → Names → Document
document text options names = record { text = text; options = options; names = names }

-- the inline content that begins at a place, with the brace contexts before it
abbrev pub content_at : Document → Spot → Inline
content_at d p = record { options = d.options; whole = d.text; text = d.text; start = p.at; row = false; braces = p.braces }

-- the context of a line inside the containers of a path
abbrev pub around : Document → List Container → Context
around d path = context d.options path

-- a block: its item, and a chain of tokens as its children
abbrev pub block_with : ℕ → ℕ → ItemBody → List Item → List (ℕ × Item)
block_with start «end» body chain = block_of (record { start = start; «end» = «end»; body = body }) (leaves chain)

-- a chain, followed by the break after it, if there is one
abbrev pub add_break : Option Item → List Item → List Item
add_break None chain = chain
add_break (Some x) chain = chain ++ x ∷ []

-- the result of reading the lines of a text: their chain, the break after the last line, if there is one, and the
-- lines after them
pub record TextLines : Type 0 where
  pub chain : List Item
  pub break : Option Item
  pub left : List Place

abbrev pub text_lines : List Item → Option Item → List Place → TextLines
text_lines chain break left = record { chain = chain; break = break; left = left }

-- The result of adding the lines of a text, from a place on, to a chain. The tokens of each line are added, with the
-- break between two lines; the texts of the tokens are named. The text ends before the first line that is an underline
-- or interrupts it, whichever containers its lines continue (CommonMark 4.3, 4.8, and 5.1 on lazy continuation lines).
-- Columns before a line's text are dropped. Each line begins with the brace contexts that the line before it leaves.
unfoldable pub AreTextLines : Document → List Container → Spot → List Item → List Place → TextLines → Type 0
AreTextLines d path p chain [] t =
    (tokens : List Item) × (answer : ℕ × Option Item) × (after : MathBraces) × AreLineTokens d.names.texts (content_at d p) tokens answer after
    × (t ≡ text_lines (add_tokens chain tokens) answer.1 [])
AreTextLines d path p chain (line ∷ lines) t =
    (tokens : List Item) × (answer : ℕ × Option Item) × (after : MathBraces) × AreLineTokens d.names.texts (content_at d p) tokens answer after
    × (((ends_text (around d path) line.rest ≡ true) × (t ≡ text_lines (add_tokens chain tokens) answer.1 (line ∷ lines)))
    ⊎ ((ends_text (around d path) line.rest ≡ false)
    × AreTextLines d path (spot (offset (unindented (at_rest line (front path line.rest)))) after) (add_break answer.1 (add_tokens chain tokens)) lines t))

-- a space, or a byte of a line ending
abbrev pub is_space_or_line_end : ℕ → Bool
is_space_or_line_end b = (b == space) || ((b == line_feed) || (b == carriage_return))

-- a text without the bytes at its end that pass a test (this project)
abbrev pub without_end : (ℕ → Bool) → List ℕ → List ℕ
without_end passes text = take (length text - suffix_len passes text) text

-- a text without the number signs at its end (CommonMark 4.2)
abbrev pub before_signs : List ℕ → List ℕ
before_signs text = without_end (λ b. b == number_sign) text

-- a text ends with a closing sequence: number signs after a space, or only number signs (CommonMark 4.2; that a tab
-- does not count as the space: this project)
abbrev pub ends_closing : List ℕ → Bool
ends_closing text =
    nat_lt 0 (suffix_len (λ b. b == number_sign) text)
    && ((length (before_signs text) == 0) || nat_lt 0 (suffix_len (λ b. b == space) (before_signs text)))

-- A text without the closing sequence at its end and the spaces before that; all of the text if it has none
-- (CommonMark 4.2, which drops tabs there too; that they stay: this project).
abbrev pub without_closing : List ℕ → List ℕ
without_closing text = if ends_closing text then without_end (λ b. b == space) (before_signs text) else text

-- The number of bytes of an ATX heading's text that are kept. The spaces and line ending at its end are dropped, and
-- the closing sequence before those (CommonMark 4.2, which drops tabs there too; that a tab after number signs keeps
-- them: this project).
unfoldable pub kept_len : List ℕ → ℕ
kept_len text = length (without_closing (without_end is_space_or_line_end text))

-- the chain of a heading, cut after the kept bytes of its text; empty if no bytes are kept
unfoldable pub heading_chain : ℕ → ℕ → List Item → List Item
heading_chain kept start chain = if kept == 0 then [] else cut (start + kept) chain

-- the start of an ATX heading's text: after its number signs and the white space after them
abbrev pub heading_text_at : List ℕ → ℕ → ℕ → ℕ
heading_text_at text start level = start + level + prefix_len is_white (drop (start + level) text)

-- the bytes of a line from an offset on, with its line ending (CommonMark 2.1)
abbrev pub line_bytes : Document → ℕ → List ℕ
line_bytes d start = take (line_len (drop start d.text)) (drop start d.text)

-- the inline content of a heading's line, whose text begins at an offset: nothing counts from the attribute block on
-- (CommonMark 4.2, and this project)
abbrev pub heading_content : Document → ℕ → Inline
heading_content d start = record {
  options = d.options;
  whole = d.text;
  text = text_before_attributes d.options d.text start (line_bytes d start);
  start = start;
  row = false;
  braces = no_braces;
}

-- An ATX heading whose text begins at one offset and whose line ends at another. It has the tokens of that line before
-- the attribute block, without the closing sequence; the texts of the tokens are named. It has the index of the
-- attributes in the block (CommonMark 4.2, and this project).
pub record IsHeading (d : Document) (start : ℕ) (index : Option HeadingIndex) (chain : List Item) (end_of_line : ℕ) : Type 0 where
  pub tokens : List Item
  pub answer : ℕ × Option Item
  pub after : MathBraces
  pub line : AreLineTokens d.names.texts (heading_content d start) tokens answer after
  pub chain_is : chain ≡ heading_chain (kept_len (before_attributes d.options (line_bytes d start))) start (close_break answer.1 (add_tokens [] tokens))
  pub named : NamesAttributes d.names index (heading_attributes_of d.options (line_bytes d start))
  pub end_is : end_of_line ≡ start + line_len (drop start d.text)

-- the item of a thematic break of this length, including the line ending (CommonMark 4.1)
abbrev pub rule_block : ℕ → ℕ → List (ℕ × Item)
rule_block start size = block_with start (start + size) Rule []

-- the items of a heading, with the index of its attributes if it has any; the next definition is for a paragraph
abbrev pub heading_block : ℕ → ℕ → HeadingLevel → Option HeadingIndex → List Item → List (ℕ × Item)
heading_block start «end» level index chain = block_with start «end» (HeadingBody level index) chain

abbrev pub paragraph_block : ℕ → ℕ → List Item → List (ℕ × Item)
paragraph_block start «end» chain = block_with start «end» ParagraphBody chain

-- a task list item marker is the first child of its paragraph (GFM 5.3)
abbrev pub marker_items : Option Item → List Item
marker_items None = []
marker_items (Some x) = x ∷ []
