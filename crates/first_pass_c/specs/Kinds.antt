-- The kinds of nodes, as numbers (this project).
use Rattle.std.specs.Prelude.{ℕ, Bool, true, false, Option, Some, None, is_some}
use Rattle.first_pass_items.specs.declared.item.Alignment.{Alignment}
use Rattle.first_pass_items.specs.declared.item.Alignment.TheVariants.{None as Unaligned, Left, Center, Right}
use Rattle.first_pass_items.specs.declared.item.BlockQuoteKind.{BlockQuoteKind}
use Rattle.first_pass_items.specs.declared.item.BlockQuoteKind.TheVariants.{Note, Tip, Important, Warning, Caution}
use Rattle.first_pass_items.specs.declared.item.MetadataBlockKind.{MetadataBlockKind}
use Rattle.first_pass_items.specs.declared.item.MetadataBlockKind.TheVariants.{YamlStyle, PlusesStyle}
use Rattle.first_pass_items.specs.declared.item.ItemBody.{ItemBody}
use Rattle.first_pass_items.specs.declared.item.ItemBody.TheVariants.{Root, Paragraph, TightParagraph, Rule, Heading, FencedCodeBlock, IndentCodeBlock}
use Rattle.first_pass_items.specs.declared.item.ItemBody.TheVariants.{HtmlBlock, BlockQuote, List as ListBody, ListItem, FootnoteDefinition, MetadataBlock}
use Rattle.first_pass_items.specs.declared.item.ItemBody.TheVariants.{DefinitionList, MaybeDefinitionListTitle, DefinitionListTitle, DefinitionListDefinition}
use Rattle.first_pass_items.specs.declared.item.ItemBody.TheVariants.{Table, TableHead, TableRow, TableCell, Text, SoftBreak, HardBreak, MaybeEmphasis}
use Rattle.first_pass_items.specs.declared.item.ItemBody.TheVariants.{MaybeMath, MaybeSmartQuote, MaybeCode, MaybeHtml, MaybeLinkOpen, MaybeLinkClose}
use Rattle.first_pass_items.specs.declared.item.ItemBody.TheVariants.{MaybeImage, Html, SynthesizeText, SynthesizeChar, TaskListMarker}
use Rattle.first_pass_lines.specs.Lines.{level_number}
use Rattle.first_pass_c.specs.declared.flat.kinds.FlatValues.{FlatValues}

-- the number of a kind (this project)
abbrev pub kind_number : ItemBody → ℕ
kind_number Root = 0
kind_number Paragraph = 1
kind_number TightParagraph = 2
kind_number Rule = 3
kind_number (Heading level attributes) = 4
kind_number (FencedCodeBlock info) = 5
kind_number IndentCodeBlock = 6
kind_number HtmlBlock = 7
kind_number (BlockQuote kind) = 8
kind_number (ListBody flags byte number) = 9
kind_number (ListItem columns) = 10
kind_number (FootnoteDefinition label) = 11
kind_number (MetadataBlock kind) = 12
kind_number (DefinitionList flags) = 13
kind_number MaybeDefinitionListTitle = 14
kind_number DefinitionListTitle = 15
kind_number (DefinitionListDefinition columns) = 16
kind_number (Table alignments) = 17
kind_number TableHead = 18
kind_number TableRow = 19
kind_number TableCell = 20
kind_number (Text escaped) = 21
kind_number SoftBreak = 22
kind_number (HardBreak by_backslash) = 23
kind_number (MaybeEmphasis left can_open can_close) = 24
kind_number (MaybeMath can_open can_close context) = 25
kind_number (MaybeSmartQuote byte can_open can_close) = 26
kind_number (MaybeCode count escaped) = 27
kind_number MaybeHtml = 28
kind_number MaybeLinkOpen = 29
kind_number (MaybeLinkClose active) = 30
kind_number MaybeImage = 31
kind_number Html = 32
kind_number (SynthesizeText text) = 33
kind_number (SynthesizeChar character) = 34
kind_number (TaskListMarker checked) = 35

-- a truth value as a number (this project)
abbrev pub flag : Bool → ℕ
flag true = 1
flag false = 0

-- the kind that a tag gives a block quote, as a number; 0 without a tag (GitHub's alerts)
abbrev pub quote_number : Option BlockQuoteKind → ℕ
quote_number None = 0
quote_number (Some Note) = 1
quote_number (Some Tip) = 2
quote_number (Some Important) = 3
quote_number (Some Warning) = 4
quote_number (Some Caution) = 5

-- the kind of a metadata block, as a number (this project)
abbrev pub metadata_number : MetadataBlockKind → ℕ
metadata_number YamlStyle = 0
metadata_number PlusesStyle = 1

-- the alignment of a column as a byte: `-`, `l`, `c` or `r` (GFM 4.10)
abbrev pub alignment_byte : Alignment → ℕ
alignment_byte Unaligned = 45
alignment_byte Left = 108
alignment_byte Center = 99
alignment_byte Right = 114

-- a number without further values (this project)
abbrev pub of_number : ℕ → FlatValues
of_number n = record { number = n; first = 0; second = 0; third = 0 }

-- the value `first` without further values (this project)
abbrev pub of_first : ℕ → FlatValues
of_first n = record { number = 0; first = n; second = 0; third = 0 }

-- a number, and two truth values (this project)
abbrev pub of_flags : ℕ → Bool → Bool → FlatValues
of_flags n first second = record { number = n; first = flag first; second = flag second; third = 0 }

-- the values that the kind of a token has (this project)
abbrev pub token_values : ItemBody → FlatValues
token_values (Text escaped) = of_first (flag escaped)
token_values (HardBreak by_backslash) = of_first (flag by_backslash)
token_values (MaybeEmphasis left can_open can_close) = of_flags left can_open can_close
token_values (MaybeMath can_open can_close context) = of_flags context can_open can_close
token_values (MaybeSmartQuote byte can_open can_close) = record { number = 0; first = flag can_open; second = byte; third = flag can_close }
token_values (MaybeCode count escaped) = of_flags count escaped false
token_values (MaybeLinkClose active) = of_first (flag active)
token_values (SynthesizeChar character) = of_number character
token_values (TaskListMarker checked) = of_first (flag checked)
token_values _ = of_number 0

-- the values that the kind of a node has, all 0 for a kind without values (this project)
abbrev pub values_of : ItemBody → FlatValues
values_of (Heading level attributes) = record { number = 0; first = level_number level; second = flag (is_some attributes); third = 0 }
values_of (BlockQuote kind) = of_first (quote_number kind)
values_of (ListBody flags byte number) = record { number = number; first = flags.0; second = byte; third = 0 }
values_of (ListItem columns) = of_number columns
values_of (MetadataBlock kind) = of_first (metadata_number kind)
values_of (DefinitionList flags) = of_first flags.0
values_of (DefinitionListDefinition columns) = of_number columns
values_of body = token_values body
