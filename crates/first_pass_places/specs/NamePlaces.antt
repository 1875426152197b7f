-- The range that an info string, a footnote's label or a heading's attributes have in the text (this project).
use Rattle.std.specs.Prelude.{◌≡◌, ℕ, ◌+◌, ◌-◌, ◌≤◌, false, List, [], ◌∷◌, length, drop, slice_get, Option, Some, None, IfSome, IsCharBoundary}
use Rattle.std.specs.declared.ops.Range.{Range}
use Rattle.first_pass_items.specs.declared.item.CowIndex.{CowIndex}
use Rattle.first_pass_items.specs.declared.item.HeadingIndex.{HeadingIndex}
use Rattle.first_pass_items.specs.declared.item.Item.{Item}
use Rattle.first_pass_items.specs.declared.item.ItemBody.{ItemBody}
use Rattle.first_pass_items.specs.declared.item.ItemBody.TheVariants.{Heading, FencedCodeBlock, FootnoteDefinition}
use Rattle.first_pass_attributes.specs.Attributes.{attributes_of}
use Rattle.first_pass_links.specs.Labels.{label_at}
use Rattle.first_pass_grammar.specs.CodeBlocks.{NamesInfo}
use Rattle.first_pass_grammar.specs.Leaves.{Document}
use Rattle.first_pass_grammar.specs.Names.{Names, NamesText}
use Rattle.first_pass_places.specs.AttributeBlockPlaces.{attribute_block_range, block_range}
use Rattle.first_pass_places.specs.FootnoteLabels.{label_range}
use Rattle.first_pass_places.specs.InfoStrings.{bytes_in, info_range}
use Rattle.first_pass_places.specs.RangeEnds.{IsAsciiAt, EndsAreBoundaries}

-- the range that a node's info string, label or attributes have in the text, if the node has this body (this project)
abbrev pub name_range_by : ItemBody → List ℕ → Item → Option (Range ℕ)
name_range_by (FencedCodeBlock ix) text x = Some (info_range text x.start)
name_range_by (FootnoteDefinition ix) text x = Some (label_range text x.start)
name_range_by _ text x = attribute_block_range text x

-- the range that a node's info string, label or attributes have in the text, if the node names one of these (this
-- project)
abbrev pub name_range : List ℕ → Item → Option (Range ℕ)
name_range text x = name_range_by x.body text x

-- The mark of a node with this body that begins at an offset is ASCII: the first byte of its code fence (CommonMark
-- 4.5), or the second byte of the `[^` of a footnote definition. Any other node begins on a character boundary (this
-- project).
abbrev pub HasWholeStart : ItemBody → List ℕ → ℕ → Type 0
HasWholeStart (FencedCodeBlock ix) text start = IsAsciiAt text start
HasWholeStart (FootnoteDefinition ix) text start = IsAsciiAt text (start + 1)
HasWholeStart _ text start = IsCharBoundary text start

-- each of these nodes that starts on a character boundary meets `HasWholeStart` (this project)
abbrev pub HaveWholeStarts : List ℕ → List (ℕ × Item) → Type 0
HaveWholeStarts text [] = Unit {0}
HaveWholeStarts text (n ∷ nodes) = (IsCharBoundary text n.1.start → HasWholeStart n.1.body text n.1.start) × HaveWholeStarts text nodes

-- both ends of the range of a node's info string, label or attributes are on character boundaries, if the node is in
-- the text and starts on a character boundary (this project)
abbrev pub HasNameOnBoundaries : List ℕ → Item → Type 0
HasNameOnBoundaries text x =
    x.start ≤ x.«end» → x.«end» ≤ length text → IsCharBoundary text x.start → IfSome (name_range text x) (λ range. EndsAreBoundaries text range)

-- The index names the label that is read from the start of a range, up to the `]` directly after the range. For each
-- further line, `prefix` gives the number of bytes at its start that are not in the label (CommonMark 6.3, and this
-- project).
pub record NamesLabelAt (names : Names) (prefix : List ℕ → Option ℕ) (ix : CowIndex) (text : List ℕ) (range : Range ℕ) : Type 0 where
  pub label : List ℕ
  pub reads : label_at prefix false (drop range.start text) ≡ Some (range.«end» + 1 - range.start, label)
  pub named : NamesText names ix label

-- the index, if there is one, names the attributes that are read from these bytes (this project)
abbrev pub NamesAttributesIn : Names → Option HeadingIndex → List ℕ → Type 0
NamesAttributesIn names None bs = Unit {0}
NamesAttributesIn names (Some ix) bs = slice_get names.headings ix.0 ≡ Some (attributes_of bs)

-- Reading the range that an info string (CommonMark 4.5), a label or attributes have gives what a node with this body
-- names. Of a label, some prefix of each further line is left out (this project).
abbrev pub IsReadFromTextBy : Names → List ℕ → Item → ItemBody → Type 0
IsReadFromTextBy names text x (FencedCodeBlock ix) = NamesInfo names ix (bytes_in text (info_range text x.start))
IsReadFromTextBy names text x (FootnoteDefinition ix) = (prefix : List ℕ → Option ℕ) × NamesLabelAt names prefix ix text (label_range text x.start)
IsReadFromTextBy names text x (Heading level index) = NamesAttributesIn names index (bytes_in text (block_range text x.start x.«end»))
IsReadFromTextBy names text x _ = Unit {0}

-- reading the range that a node's info string, label or attributes have gives what the node names (this project)
abbrev pub IsReadFromText : Names → List ℕ → Item → Type 0
IsReadFromText names text x = IsReadFromTextBy names text x x.body

-- for the first of these nodes, if there is one, reading the range that its info string, label or attributes have gives
-- what the node names (this project)
abbrev pub FirstIsReadFromText : Document → List (ℕ × Item) → Type 0
FirstIsReadFromText d [] = Unit {0}
FirstIsReadFromText d (x ∷ items) = IsReadFromText d.names d.text x.1
