-- The printed form of a tree's nodes and of a text's link definitions (this project).
use Rattle.std.specs.Prelude.{ℕ, zero, suc, ◌==◌, slice_get, Bool, true, false, Option, None, Some, List, [], ◌∷◌, ◌++◌, codes, decimal, encode_utf8, bit_and}
use Rattle.std.specs.Prelude.{if◌then◌else◌}
use Rattle.std.specs.List.{flat_map}
use Rattle.first_pass_items.specs.declared.item.Item.{Item}
use Rattle.first_pass_grammar.specs.Names.{Names, text_named, alignments_named}
use Rattle.first_pass_grammar.specs.LinkTables.{LinkEntry}
use Rattle.first_pass_grammar.specs.Derivation.{Tables}
use Rattle.first_pass_items.specs.declared.item.Alignment.{Alignment}
use Rattle.first_pass_items.specs.declared.item.Alignment.TheVariants.{None as Unaligned, Left, Center, Right}
use Rattle.first_pass_items.specs.declared.item.ListFlags.{ListFlags}
use Rattle.first_pass_items.specs.declared.item.BlockQuoteKind.{BlockQuoteKind}
use Rattle.first_pass_items.specs.declared.item.BlockQuoteKind.TheVariants.{Note, Tip, Important, Warning, Caution}
use Rattle.first_pass_items.specs.declared.item.MetadataBlockKind.{MetadataBlockKind}
use Rattle.first_pass_items.specs.declared.item.MetadataBlockKind.TheVariants.{YamlStyle, PlusesStyle}
use Rattle.first_pass_items.specs.declared.item.ItemBody.{ItemBody}
use Rattle.first_pass_items.specs.declared.item.ItemBody.TheVariants.{Root, Paragraph, TightParagraph, Rule, Heading, FencedCodeBlock, IndentCodeBlock}
use Rattle.first_pass_items.specs.declared.item.ItemBody.TheVariants.{HtmlBlock, BlockQuote, FootnoteDefinition, MetadataBlock, DefinitionList}
use Rattle.first_pass_items.specs.declared.item.ItemBody.TheVariants.{MaybeDefinitionListTitle, DefinitionListTitle, DefinitionListDefinition, Table}
use Rattle.first_pass_items.specs.declared.item.ItemBody.TheVariants.{TableHead, TableRow, TableCell, Text, SoftBreak, HardBreak, MaybeEmphasis, MaybeMath}
use Rattle.first_pass_items.specs.declared.item.ItemBody.TheVariants.{MaybeSmartQuote, MaybeCode, MaybeHtml, MaybeLinkOpen, MaybeLinkClose, MaybeImage, Html}
use Rattle.first_pass_items.specs.declared.item.ItemBody.TheVariants.{SynthesizeText, SynthesizeChar, TaskListMarker, ListItem, List as ListBody}
pub use Rattle.first_pass_reports.specs.Visible.{in_parentheses, visible_byte, visible}
use Rattle.first_pass_reports.specs.HeadingValues.{heading_values}
use Rattle.std.specs.Option.{option_and_then}

-- the name of a node's kind
abbrev pub kind_name : ItemBody → List ℕ
kind_name Root = codes "Root"
kind_name Paragraph = codes "Paragraph"
kind_name TightParagraph = codes "TightParagraph"
kind_name Rule = codes "Rule"
kind_name (Heading level attributes) = codes "Heading"
kind_name (FencedCodeBlock info) = codes "FencedCodeBlock"
kind_name IndentCodeBlock = codes "IndentCodeBlock"
kind_name HtmlBlock = codes "HtmlBlock"
kind_name (BlockQuote kind) = codes "BlockQuote"
kind_name (ListBody flags byte number) = codes "List"
kind_name (ListItem indent) = codes "ListItem"
kind_name (FootnoteDefinition label) = codes "FootnoteDefinition"
kind_name (MetadataBlock kind) = codes "MetadataBlock"
kind_name (DefinitionList flags) = codes "DefinitionList"
kind_name MaybeDefinitionListTitle = codes "MaybeDefinitionListTitle"
kind_name DefinitionListTitle = codes "DefinitionListTitle"
kind_name (DefinitionListDefinition indent) = codes "DefinitionListDefinition"
kind_name (Table alignments) = codes "Table"
kind_name TableHead = codes "TableHead"
kind_name TableRow = codes "TableRow"
kind_name TableCell = codes "TableCell"
kind_name (Text escaped) = codes "Text"
kind_name SoftBreak = codes "SoftBreak"
kind_name (HardBreak by_backslash) = codes "HardBreak"
kind_name (MaybeEmphasis left can_open can_close) = codes "MaybeEmphasis"
kind_name (MaybeMath can_open can_close context) = codes "MaybeMath"
kind_name (MaybeSmartQuote byte can_open can_close) = codes "MaybeSmartQuote"
kind_name (MaybeCode count escaped) = codes "MaybeCode"
kind_name MaybeHtml = codes "MaybeHtml"
kind_name MaybeLinkOpen = codes "MaybeLinkOpen"
kind_name (MaybeLinkClose active) = codes "MaybeLinkClose"
kind_name MaybeImage = codes "MaybeImage"
kind_name Html = codes "Html"
kind_name (SynthesizeText text) = codes "SynthesizeText"
kind_name (SynthesizeChar character) = codes "SynthesizeChar"
kind_name (TaskListMarker checked) = codes "TaskListMarker"

-- a truth value as a word
abbrev pub flag_name : Bool → List ℕ
flag_name true = codes "true"
flag_name false = codes "false"

-- whether a list is tight, as a word (CommonMark 5.3)
abbrev pub list_name : ListFlags → List ℕ
list_name flags = if bit_and flags.0 1 == 1 then codes "tight" else codes "loose"

-- the kind of a block quote, as a word
abbrev pub quote_name : BlockQuoteKind → List ℕ
quote_name Note = codes "Note"
quote_name Tip = codes "Tip"
quote_name Important = codes "Important"
quote_name Warning = codes "Warning"
quote_name Caution = codes "Caution"

-- the kind of a metadata block, as a word
abbrev pub metadata_name : MetadataBlockKind → List ℕ
metadata_name YamlStyle = codes "YamlStyle"
metadata_name PlusesStyle = codes "PlusesStyle"

-- the values of a block other than a heading, in parentheses; nothing if it has none
abbrev pub block_values : ItemBody → List ℕ
block_values (BlockQuote (Some kind)) = in_parentheses (quote_name kind)
block_values (ListBody flags byte number) = in_parentheses (list_name flags ++ codes "," ++ (byte ∷ []) ++ codes "," ++ decimal number)
block_values (ListItem indent) = in_parentheses (decimal indent)
block_values (MetadataBlock kind) = in_parentheses (metadata_name kind)
block_values (DefinitionList flags) = in_parentheses (list_name flags)
block_values (DefinitionListDefinition indent) = in_parentheses (decimal indent)
block_values _ = []

-- the values of a token, in parentheses; nothing if it has none
abbrev pub token_values : ItemBody → List ℕ
token_values (Text true) = in_parentheses (codes "escaped")
token_values (HardBreak by_backslash) = in_parentheses (flag_name by_backslash)
token_values (MaybeEmphasis left can_open can_close) = in_parentheses (decimal left ++ codes "," ++ flag_name can_open ++ codes "," ++ flag_name can_close)
token_values (MaybeMath can_open can_close context) = in_parentheses (flag_name can_open ++ codes "," ++ flag_name can_close ++ codes "," ++ decimal context)
token_values (MaybeSmartQuote byte can_open can_close) = in_parentheses ((byte ∷ []) ++ codes "," ++ flag_name can_open ++ codes "," ++ flag_name can_close)
token_values (MaybeCode count escaped) = in_parentheses (decimal count ++ codes "," ++ flag_name escaped)
token_values (MaybeLinkClose active) = in_parentheses (flag_name active)
token_values (SynthesizeChar character) = in_parentheses (encode_utf8 character)
token_values (TaskListMarker checked) = in_parentheses (flag_name checked)
token_values _ = []

-- two spaces for each level of depth
unfoldable pub indentation : ℕ → List ℕ
indentation zero = []
indentation (suc depth) = indentation depth ++ codes "  "

-- the sign of a column's alignment (GFM 4.10)
abbrev pub alignment_sign : Alignment → List ℕ
alignment_sign Unaligned = codes "-"
alignment_sign Left = codes "l"
alignment_sign Center = codes "c"
alignment_sign Right = codes "r"

-- the signs of columns, each after a comma
unfoldable pub signs_after : List Alignment → List ℕ
signs_after columns = flat_map (λ column. codes "," ++ alignment_sign column) columns

-- the signs of a table's columns, separated by commas
abbrev pub alignment_signs : List Alignment → List ℕ
alignment_signs [] = []
alignment_signs (first ∷ others) = alignment_sign first ++ signs_after others

-- the entry of a node's index, in parentheses: a text, the signs of a table's columns, or the level of a heading and
-- its attributes; nothing for other nodes
abbrev pub named_values : Names → ItemBody → List ℕ
named_values names (FencedCodeBlock ix) = in_parentheses (visible (text_named names ix))
named_values names (FootnoteDefinition ix) = in_parentheses (visible (text_named names ix))
named_values names (SynthesizeText ix) = in_parentheses (visible (text_named names ix))
named_values names (Table ix) = in_parentheses (alignment_signs (alignments_named names ix))
named_values names (Heading level ix) = heading_values level (option_and_then (λ at. slice_get names.headings at.0) ix)
named_values names _ = []

-- the kind of a node: its name, its values and the entry of its index
abbrev pub body_text : Names → ItemBody → List ℕ
body_text names body = kind_name body ++ block_values body ++ token_values body ++ named_values names body

-- a range after a space, and a newline
abbrev pub written_range : ℕ → ℕ → List ℕ
written_range start e = codes " " ++ decimal start ++ codes ".." ++ decimal e ++ codes "\n"

-- the line of a node: two spaces for each level of depth, its kind, and its range
abbrev pub node_line : Names → ℕ × Item → List ℕ
node_line names node = indentation node.0 ++ body_text names node.1.body ++ written_range node.1.start node.1.«end»

-- a title in quotation marks after a space, if there is one
abbrev pub quoted_title : Option (List ℕ) → List ℕ
quoted_title None = []
quoted_title (Some title) = codes " \"" ++ visible title ++ codes "\""

-- the line of a link definition: its label as it is spelled, its destination, its title if it has one, and its range
-- (CommonMark 4.7)
abbrev pub link_line : LinkEntry → List ℕ
link_line link = codes "[" ++ link.label ++ codes "]: " ++ visible link.dest ++ quoted_title link.title ++ written_range link.start link.«end»

-- the lines of a tree's nodes, then those of the link definitions, in the order of their table
abbrev pub printed_lines : Names → List (ℕ × Item) → Tables → List ℕ
printed_lines names nodes tables = flat_map (node_line names) nodes ++ flat_map link_line tables.links
