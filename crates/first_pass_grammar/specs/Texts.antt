-- The text that begins where no other block does: a paragraph, a setext heading or a table (CommonMark 4.8, 4.3, GFM
-- 4.10).
use Rattle.std.specs.Prelude.{◌≡◌, ◌+◌, ◌++◌, List, [], ◌∷◌, length, drop, ℕ, Bool, false, Option, Some, None, MatchOption}
use Rattle.std.specs.Option.{option_map_or}
use Rattle.first_pass_items.specs.declared.item.HeadingIndex.{HeadingIndex}
use Rattle.first_pass_items.specs.declared.item.HeadingLevel.{HeadingLevel}
use Rattle.first_pass_items.specs.declared.item.Item.{Item}
use Rattle.first_pass_lines.specs.Places.{Place, offset, start_of}
use Rattle.first_pass_tokens.specs.Braces.{no_braces}
use Rattle.first_pass_tokens.specs.Chains.{is_backslash_break, close_break, cut}
use Rattle.first_pass_tokens.specs.LineTokens.{spot}
use Rattle.first_pass_attributes.specs.AttributeBlocks.{Braces}
use Rattle.first_pass_grammar.specs.declared.kind.Container.{Container}
use Rattle.first_pass_grammar.specs.Headings.{heading_attribute_block, heading_attributes_of, chain_bytes, kept_before}
use Rattle.first_pass_grammar.specs.Kinds.{underline_of}
use Rattle.first_pass_grammar.specs.Leaves.{Document, around, TextLines, AreTextLines, paragraph_block, heading_block, marker_items}
use Rattle.first_pass_grammar.specs.Names.{NamesAttributes}
use Rattle.first_pass_grammar.specs.TableHeads.{headed_table}
use Rattle.first_pass_grammar.specs.Tables.{Taken, taking, IsTable}

-- the setext heading underline that the first of these lines is, if it is one (CommonMark 4.3)
abbrev pub underline_first : List Container → List Place → Option (ℕ × HeadingLevel)
underline_first path [] = None
underline_first path (line ∷ lines) = underline_of path line.rest

-- the children of a paragraph or heading, with the task list item marker first; a backslash at the end of the last
-- line is text (CommonMark 6.7, GFM 5.3)
abbrev pub text_children : Option Item → TextLines → List Item
text_children marker l = marker_items marker ++ close_break l.break l.chain

-- the paragraph that begins at an offset and has these lines (CommonMark 4.8)
abbrev pub plain_text : Document → ℕ → Option Item → TextLines → Taken
plain_text d start marker l = taking (paragraph_block start (start_of (length d.text) l.left) (text_children marker l)) l.left

-- a line break is that of a backslash (CommonMark 6.7)
abbrev pub by_backslash : Option Item → Bool
by_backslash break = option_map_or (λ x. is_backslash_break x.body) break false

-- the bytes of a heading's text, from its start to the end of its last token (this project)
abbrev pub heading_bytes : Document → ℕ → Option Item → TextLines → List ℕ
heading_bytes d start marker l = chain_bytes d.text start (marker_items marker ++ l.chain)

-- The part of a heading's chain before the attribute block at the end of its text, without the white space directly
-- before the block. The white space is kept if a backslash breaks the last line of the text (CommonMark 4.3, and this
-- project).
abbrev pub before_block : Document → ℕ → Option Item → TextLines → Braces → List Item
before_block d start marker l block =
    cut (start + kept_before (by_backslash l.break) block.opening (heading_bytes d start marker l)) (marker_items marker ++ l.chain)

-- The children of a heading: those of its lines, or if its text has an attribute block, only those before the block. A
-- backslash at the end of the last line is text after them (CommonMark 4.3, 6.7, and this project).
abbrev pub children_without : Document → ℕ → Option Item → TextLines → Option Braces → List Item
children_without d start marker l None = text_children marker l
children_without d start marker l (Some block) = close_break l.break (before_block d start marker l block)

-- the children of a setext heading, without its attribute block (CommonMark 4.3, and this project)
unfoldable pub heading_children : Document → ℕ → Option Item → TextLines → List Item
heading_children d start marker l = children_without d start marker l (heading_attribute_block d.options (heading_bytes d start marker l))

-- The setext heading of a level that begins at an offset and has these lines, with the index of its attributes. It
-- also takes the first line after them, its underline (CommonMark 4.3).
abbrev pub underlined_text : Document → ℕ → Option Item → HeadingLevel → Option HeadingIndex → TextLines → Taken
underlined_text d start marker level index l =
    taking (heading_block start (start_of (length d.text) (drop 1 l.left)) level index (heading_children d start marker l)) (drop 1 l.left)

-- the setext heading with the attributes at the end of its text (CommonMark 4.3, and this project)
abbrev pub IsUnderlined : Document → ℕ → Option Item → TextLines → HeadingLevel → Taken → Type 0
IsUnderlined d start marker l level t =
    (index : Option HeadingIndex) × NamesAttributes d.names index (heading_attributes_of d.options (heading_bytes d start marker l))
    × (t ≡ underlined_text d start marker level index l)

-- A text that begins at an offset is a setext heading if an underline follows its lines, otherwise a paragraph. There
-- may be a task list item marker before it (CommonMark 4.3, 4.8, GFM 5.3).
abbrev pub IsEnded : Document → List Container → ℕ → Option Item → TextLines → Taken → Type 0
IsEnded d path start marker l t =
    MatchOption (underline_first path l.left) (t ≡ plain_text d start marker l) (λ underline. IsUnderlined d start marker l underline.1 t)

abbrev pub IsPlainText : Document → List Container → ℕ → Option Item → List Place → Taken → Type 0
IsPlainText d path start marker lines t = (l : TextLines) × AreTextLines d path (spot start no_braces) [] lines l × IsEnded d path start marker l t

-- A text that begins at a place is a table if its first line is a header row; a task list item marker before it is
-- then dropped. Otherwise the text is a setext heading or a paragraph (CommonMark 4.3, 4.8, GFM 4.10, and this
-- project).
unfoldable pub IsText : Document → List Container → Place → Option Item → List Place → Taken → Type 0
IsText d path p marker lines t =
    MatchOption (headed_table (around d path) p.rest.left) (IsPlainText d path (offset p) marker lines t) (λ alignments. IsTable d path p alignments lines t)
