-- The members of a node's object that depend on its kind (this project).
use Rattle.std.specs.Prelude.{ℕ, ◌==◌, Option, None, Some, List, [], ◌++◌, unwrap_or, slice_get, bit_and, Bool, codes}
use Rattle.std.specs.Option.{option_and_then}
use Rattle.first_pass_items.specs.declared.item.Alignment.{Alignment}
use Rattle.first_pass_items.specs.declared.item.Alignment.TheVariants.{None as Unaligned, Left, Center, Right}
use Rattle.first_pass_items.specs.declared.item.BlockQuoteKind.{BlockQuoteKind}
use Rattle.first_pass_items.specs.declared.item.HeadingIndex.{HeadingIndex}
use Rattle.first_pass_items.specs.declared.item.HeadingLevel.{HeadingLevel}
use Rattle.first_pass_items.specs.declared.item.ListFlags.{ListFlags}
use Rattle.first_pass_items.specs.declared.item.ItemBody.{ItemBody}
use Rattle.first_pass_items.specs.declared.item.ItemBody.TheVariants.{Heading, FencedCodeBlock, BlockQuote, List as ListBody, ListItem, FootnoteDefinition}
use Rattle.first_pass_items.specs.declared.item.ItemBody.TheVariants.{MetadataBlock, DefinitionList, DefinitionListDefinition, Table}
use Rattle.first_pass_items.specs.declared.item.ItemBody.TheVariants.{Text, HardBreak, MaybeEmphasis, MaybeMath, MaybeSmartQuote, MaybeCode, MaybeLinkClose}
use Rattle.first_pass_items.specs.declared.item.ItemBody.TheVariants.{SynthesizeText, SynthesizeChar, TaskListMarker}
use Rattle.first_pass_lines.specs.Lines.{level_number}
use Rattle.first_pass_attributes.specs.Attributes.{Attributes, no_attributes}
use Rattle.first_pass_grammar.specs.Names.{Names, text_named, alignments_named}
use Rattle.first_pass_reports.specs.Printed.{quote_name, metadata_name}
use Rattle.first_pass_json.specs.JsonValues.{decimal, encode_utf8, json_string, boolean, word, text_or_null, array}

-- a key of a heading and its value, or `null` if it has none
abbrev pub pair : List ℕ × Option (List ℕ) → List ℕ
pair attribute = codes "[" ++ json_string attribute.0 ++ codes "," ++ text_or_null attribute.1 ++ codes "]"

-- the attributes of a heading
unfoldable pub attribute_members : Attributes → List ℕ
attribute_members given =
    codes ",\"id\":" ++ text_or_null given.id ++ codes ",\"classes\":" ++ array json_string given.classes
    ++ codes ",\"attributes\":" ++ array pair given.attrs

-- the level and the attributes of a heading
abbrev pub heading_members : HeadingLevel → Attributes → List ℕ
heading_members level given = codes ",\"level\":" ++ decimal (level_number level) ++ attribute_members given

-- the attributes that a heading's index names; none without an index
abbrev pub attributes_of_heading : Names → Option HeadingIndex → Attributes
attributes_of_heading names ix = unwrap_or (option_and_then (λ at. slice_get names.headings at.0) ix) no_attributes

-- the alignment of a column as a word (GFM 4.10)
abbrev pub alignment_word : Alignment → List ℕ
alignment_word Unaligned = codes "\"none\""
alignment_word Left = codes "\"left\""
alignment_word Center = codes "\"center\""
alignment_word Right = codes "\"right\""

-- the kind of a block quote, or `null` if it has no tag
abbrev pub quote_or_null : Option BlockQuoteKind → List ℕ
quote_or_null None = codes "null"
quote_or_null (Some kind) = word (quote_name kind)

-- whether a list is tight (CommonMark 5.3)
abbrev pub is_tight : ListFlags → Bool
is_tight flags = bit_and flags.0 1 == 1

-- the text of the character with this number
abbrev pub character_of : ℕ → List ℕ
character_of byte = json_string (encode_utf8 byte)

-- the members of a block
abbrev pub block_members : Names → ItemBody → List ℕ
block_members names (Heading level ix) = heading_members level (attributes_of_heading names ix)
block_members names (FencedCodeBlock ix) = codes ",\"info\":" ++ json_string (text_named names ix)
block_members names (BlockQuote kind) = codes ",\"quote\":" ++ quote_or_null kind
block_members names (ListBody flags byte number) =
    codes ",\"tight\":" ++ boolean (is_tight flags) ++ codes ",\"byte\":" ++ character_of byte ++ codes ",\"number\":" ++ decimal number
block_members names (ListItem columns) = codes ",\"columns\":" ++ decimal columns
block_members names (FootnoteDefinition ix) = codes ",\"label\":" ++ json_string (text_named names ix)
block_members names (MetadataBlock kind) = codes ",\"metadata\":" ++ word (metadata_name kind)
block_members names (DefinitionList flags) = codes ",\"tight\":" ++ boolean (is_tight flags)
block_members names (DefinitionListDefinition columns) = codes ",\"columns\":" ++ decimal columns
block_members names (Table ix) = codes ",\"alignments\":" ++ array alignment_word (alignments_named names ix)
block_members names _ = []

-- the members of a token
abbrev pub token_members : Names → ItemBody → List ℕ
token_members names (Text escaped) = codes ",\"escaped\":" ++ boolean escaped
token_members names (HardBreak by_backslash) = codes ",\"by_backslash\":" ++ boolean by_backslash
token_members names (MaybeEmphasis remaining can_open can_close) =
    codes ",\"remaining\":" ++ decimal remaining ++ codes ",\"can_open\":" ++ boolean can_open ++ codes ",\"can_close\":" ++ boolean can_close
token_members names (MaybeMath can_open can_close context) =
    codes ",\"can_open\":" ++ boolean can_open ++ codes ",\"can_close\":" ++ boolean can_close ++ codes ",\"context\":" ++ decimal context
token_members names (MaybeSmartQuote byte can_open can_close) =
    codes ",\"byte\":" ++ character_of byte ++ codes ",\"can_open\":" ++ boolean can_open ++ codes ",\"can_close\":" ++ boolean can_close
token_members names (MaybeCode count escaped) = codes ",\"count\":" ++ decimal count ++ codes ",\"escaped\":" ++ boolean escaped
token_members names (MaybeLinkClose active) = codes ",\"active\":" ++ boolean active
token_members names (SynthesizeText ix) = codes ",\"text\":" ++ json_string (text_named names ix)
token_members names (SynthesizeChar character) = codes ",\"text\":" ++ json_string (encode_utf8 character)
token_members names (TaskListMarker checked) = codes ",\"checked\":" ++ boolean checked
token_members names _ = []
