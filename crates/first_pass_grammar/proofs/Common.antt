-- The terms and lemmas of std, of the crates below and of specs that most proofs cite, passed on from one place. Declares nothing.
pub use Rattle.std.specs.declared.alloc.AllocError.{AllocError}
pub use Rattle.std.specs.declared.ops.Range.{Range}
pub use Rattle.std.specs.List.{AllZip, list_any, prefix_len, suffix_len}
pub use Rattle.std.specs.Option.{option_map_or}
pub use Rattle.std.proofs.Math.Bool.{and-false, and-true, or-false, or-true}
pub use Rattle.std.proofs.Math.Seq.{drop-append_seam, take-append_seam}
pub use Rattle.std.proofs.lemmas.Bool.{and_left, and_parts, and_right, cases_Bool, cases_eq, cases_lt, cond-false, cond-true, cond_both, false_from_ne_true}
pub use Rattle.std.proofs.lemmas.Bool.{false≢true, lt-leb, not-true, or_left, or_parts, or_right}
pub use Rattle.std.proofs.lemmas.Bool.Decides.{nat_tests}
pub use Rattle.std.proofs.lemmas.List.{at_drop_all, at_drop_more, drop-take, drop_all, drop_more, get_or-reverse, get_or_past, length-map, length-reverse}
pub use Rattle.std.proofs.lemmas.List.{map-append, take_more}
pub use Rattle.std.proofs.lemmas.List.Elements.{All-append, All-cons, All-head, All-map, All-nil, All-tail}
pub use Rattle.std.proofs.lemmas.List.Sums.{prefix_len-le-length, prefix_len_passes, prefix_len_stops, suffix_len-le-length}
pub use Rattle.std.proofs.lemmas.Option.{cond_some, none-some, same_Some, slice_get-get_or, slice_get_past, slice_get_within}
pub use Rattle.std.proofs.lemmas.Result.{on_ok_weaker}
pub use Rattle.std.proofs.lemmas.Str.{IsCharBoundary-after_ascii, IsCharBoundary-before_ascii, IsCharBoundary-end, IsCharBoundary-start}
pub use Rattle.first_pass_items.specs.declared.cow_str.CowStr.{CowStr}
pub use Rattle.first_pass_items.specs.declared.cow_str.CowStr.TheVariants.{Borrowed}
pub use Rattle.first_pass_items.specs.declared.item.Alignment.{Alignment}
pub use Rattle.first_pass_items.specs.declared.item.AlignmentIndex.{AlignmentIndex}
pub use Rattle.first_pass_items.specs.declared.item.BlockQuoteKind.{BlockQuoteKind}
pub use Rattle.first_pass_items.specs.declared.item.CowIndex.{CowIndex}
pub use Rattle.first_pass_items.specs.declared.item.HeadingIndex.{HeadingIndex}
pub use Rattle.first_pass_items.specs.declared.item.HeadingLevel.{HeadingLevel}
pub use Rattle.first_pass_items.specs.declared.item.Item.{Item}
pub use Rattle.first_pass_items.specs.declared.item.ItemBody.{ItemBody}
pub use Rattle.first_pass_items.specs.declared.item.ItemBody.TheVariants.{DefinitionList, DefinitionListDefinition, DefinitionListTitle, FencedCodeBlock}
pub use Rattle.first_pass_items.specs.declared.item.ItemBody.TheVariants.{FootnoteDefinition, HardBreak, Heading, Html, HtmlBlock, IndentCodeBlock}
pub use Rattle.first_pass_items.specs.declared.item.ItemBody.TheVariants.{MaybeDefinitionListTitle, MaybeEmphasis, MetadataBlock, Paragraph, Root, Rule}
pub use Rattle.first_pass_items.specs.declared.item.ItemBody.TheVariants.{SoftBreak, SynthesizeText, Table, TableCell, TableHead, TableRow, TaskListMarker}
pub use Rattle.first_pass_items.specs.declared.item.ItemBody.TheVariants.{Text}
pub use Rattle.first_pass_items.specs.declared.item.ListFlags.{ListFlags}
pub use Rattle.first_pass_items.specs.declared.option_set.Options.{Options}
pub use Rattle.first_pass_items.specs.Bytes.{ascii_end, backquote, backslash, carriage_return, circumflex, colon, equals_sign, full_stop, greater_than}
pub use Rattle.first_pass_items.specs.Bytes.{hyphen, left_brace, left_bracket, less_than, line_feed, number_sign, pipe, right_brace, right_bracket, space}
pub use Rattle.first_pass_items.specs.Bytes.{tilde}
pub use Rattle.first_pass_items.specs.CowText.{text_of}
pub use Rattle.first_pass_items.specs.OptionWords.{definition_list, footnotes, gfm_footnotes, has, tables}
pub use Rattle.first_pass_items.proofs.ResultFacts.{on_err}
pub use Rattle.first_pass_tree.specs.declared.tree_index.TreeIndex.{TreeIndex}
pub use Rattle.first_pass_tree.specs.Forest.{Forest, IsChild, IsForest, IsLastAt, IsOpenPath, added, appended, at_depth, block_of, body_at, cut_item}
pub use Rattle.first_pass_tree.specs.Forest.{cut_siblings, cut_tokens, deeper, depths, empty_forest, in_table, is_escaped, is_text, item_at, last_before}
pub use Rattle.first_pass_tree.specs.Forest.{map_from, modify, moved_from, open_place, popped, pushed, shallower, with_body_at, with_end, with_end_at}
pub use Rattle.first_pass_tree.specs.Tight.{tight_body, tight_items, tightened}
unfoldable pub use Rattle.first_pass_tree.specs.Tight.{tight_at, tight_run}
pub use Rattle.first_pass_tree.proofs.Blocks.{at_depth-append, modify-at}
pub use Rattle.first_pass_tree.proofs.BodyLemmas.{body-changed, body-kept, body-other, body_of}
pub use Rattle.first_pass_tree.proofs.Depths.{last-order}
pub use Rattle.first_pass_tree.proofs.Keeps.{depths-modify, modified-is}
pub use Rattle.first_pass_lines.specs.Lines.{at_line_end, begins, blank_len, ends_line, eol_len, is_blank_line, is_content, is_line_end, is_white}
pub use Rattle.first_pass_lines.specs.Lines.{is_white_or_line_end, level_number}
unfoldable pub use Rattle.first_pass_lines.specs.Lines.{atx_level, line_len}
pub use Rattle.first_pass_lines.specs.Places.{IsPlaceOf, Place, line_end, line_place, line_rest, moved_columns, offset, place_at, start_of}
unfoldable pub use Rattle.first_pass_lines.specs.Places.{lines_at}
pub use Rattle.first_pass_lines.specs.Plain.{begins_plain}
unfoldable pub use Rattle.first_pass_lines.specs.Plain.{is_plain}
pub use Rattle.first_pass_lines.specs.Rest.{Rest, after_columns, column_of, column_of_byte, indent, next_column, past_bytes, past_quote, past_quote_byte}
pub use Rattle.first_pass_lines.proofs.Columns.{after-more, after-none}
pub use Rattle.first_pass_lines.proofs.HeadingFacts.{atx_level-signs}
pub use Rattle.first_pass_lines.proofs.LineFacts.{line_len-eol, line_len-fits, line_len-some, line_len-within, lines_at-end, lines_at-line}
pub use Rattle.first_pass_lines.proofs.OptionFacts.{none_is, none_mapped, some_if, some_mapped, some_unless}
pub use Rattle.first_pass_lines.proofs.PlaceFacts.{all_columns_up_to, bytes_line_end, columns_keep, columns_line_end, columns_shorter, line_end_boundary}
pub use Rattle.first_pass_lines.proofs.PlaceFacts.{line_is_place, place_length, start_of-lines, taken_columns, white_keeps}
pub use Rattle.first_pass_scan.specs.LeafLines.{run_len}
unfoldable pub use Rattle.first_pass_scan.specs.LeafLines.{closing_fence_len, code_fence, hrule_len, setext_underline}
unfoldable pub use Rattle.first_pass_scan.specs.Markers.{definition_of, item_of, list_marker, task_of}
pub use Rattle.first_pass_scan.proofs.MarkerPlaces.{IsMarked, definition-marked, item-marked}
pub use Rattle.first_pass_scan.proofs.PlainFacts.{inert_indent, plain_begins}
unfoldable pub use Rattle.first_pass_scan.specs.TableHead.{head_columns}
pub use Rattle.first_pass_html.specs.Ends.{BlockEnd, condition_of}
unfoldable pub use Rattle.first_pass_html.specs.Starts.{html_end}
pub use Rattle.first_pass_html.specs.Tags.{BeginsTagLine}
pub use Rattle.first_pass_entities.specs.Texts.{Borrows}
unfoldable pub use Rattle.first_pass_links.specs.Destinations.{destination_at, unescaped_upto}
pub use Rattle.first_pass_links.specs.Escapes.{begins_escape, unescaped}
pub use Rattle.first_pass_links.specs.Footnotes.{begins_footnote_mark, head_after}
unfoldable pub use Rattle.first_pass_links.specs.Footnotes.{footnote_head}
pub use Rattle.first_pass_links.specs.Labels.{bytes_of, is_bracket, label_len, offsets_of}
unfoldable pub use Rattle.first_pass_links.specs.Labels.{joined, label_at}
pub use Rattle.first_pass_links.proofs.Destinations.{first_byte, upto_unit}
pub use Rattle.first_pass_attributes.specs.AttributeBlocks.{Braces}
unfoldable pub use Rattle.first_pass_attributes.specs.AttributeBlocks.{attribute_block}
pub use Rattle.first_pass_attributes.specs.Attributes.{Attributes, is_between_words, no_attributes, pair_in}
unfoldable pub use Rattle.first_pass_attributes.specs.Attributes.{attributes_of}
pub use Rattle.first_pass_labels.specs.declared.label_table.LinkDef.{LinkDef}
pub use Rattle.first_pass_labels.specs.Foldings.{folded, folding_of}
pub use Rattle.first_pass_labels.specs.LabelTables.{defined_under, with_first}
pub use Rattle.first_pass_tokens.specs.declared.pieces.Piece.{Piece}
pub use Rattle.first_pass_tokens.specs.declared.pieces.Piece.TheVariants.{Token}
pub use Rattle.first_pass_tokens.specs.Braces.{MathBraces, no_braces}
pub use Rattle.first_pass_tokens.specs.Chains.{add_text, add_token, add_tokens, close_break, cut, is_backslash_break, text_token, touches}
pub use Rattle.first_pass_tokens.specs.LineTokens.{AreLineTokens, EndsLine, IsBreak, IsCell, Spot, add_pieces, spot}
unfoldable pub use Rattle.first_pass_tokens.specs.LineTokens.{blanks_at_end, breaks_by_backslash, content_ends_at, line_end_len, text_end}
pub use Rattle.first_pass_tokens.specs.NamedTexts.{AreMore}
pub use Rattle.first_pass_tokens.specs.Pieces.{Inline, source, text_upto}
unfoldable pub use Rattle.first_pass_tokens.specs.Pieces.{found_at}
pub use Rattle.first_pass_tokens.specs.TreeTokens.{AppendsLine, JoinsNone, chained, leaves, with_tokens}
pub use Rattle.first_pass_tokens.proofs.BytesLemmas.{bytes_closed, length-modify}
pub use Rattle.first_pass_tokens.proofs.ChainLemmas.{add_text-none, add_text-some, chained-append, chained-nodes, chained-spine, joins_none-fresh}
pub use Rattle.first_pass_tokens.proofs.ChainLemmas.{with_tokens-chained}
pub use Rattle.first_pass_tokens.proofs.Escapes.{EscapesStand}
pub use Rattle.first_pass_tokens.proofs.InOrder.{AreInOrder}
pub use Rattle.first_pass_tokens.proofs.LineLemmas.{cell_ends}
pub use Rattle.first_pass_tokens.proofs.NamedTexts.{line_more}
pub use Rattle.first_pass_tokens.proofs.OrderLemmas.{cell_end_place, line_in_order, order_adds, order_bound, order_from, order_to}
pub use Rattle.first_pass_tokens.proofs.PieceFacts.{is_markup}
pub use Rattle.first_pass_grammar.specs.Before.{Before, Last, LastDefinition, LastItem, LastOther, LastParagraph, after_blank, after_block, after_container}
pub use Rattle.first_pass_grammar.specs.Before.{begins_paragraph, is_paragraph_body, is_run, list_is_open, nothing}
unfoldable pub use Rattle.first_pass_grammar.specs.Before.{before_end}
pub use Rattle.first_pass_grammar.specs.Blocks.{BlankLine, Block, DefinitionMarker, FootnoteMarker, Head, ItemMarker, Leaf, LeafBlock, Nil, Node, Opener}
pub use Rattle.first_pass_grammar.specs.Blocks.{QuoteMarker, Skeleton, Then, block_at, flowing_block, label_of, leaf_block, opened}
pub use Rattle.first_pass_grammar.specs.CodeBlocks.{IsFencedCode, IsMetadata, NamesInfo, code_by, code_place, fence_judge, metadata_judge, metadata_kind}
pub use Rattle.first_pass_grammar.specs.CodeBlocks.{trimmed}
unfoldable pub use Rattle.first_pass_grammar.specs.CodeBlocks.{code_lines, info_string, last_end, without_blanks}
pub use Rattle.first_pass_grammar.specs.Completion.{AreBelow, Closed, Completes, DefinitionClosed, Frame, Further, InContainer, InDefinitions, InList}
pub use Rattle.first_pass_grammar.specs.Completion.{IsPlain, IsShaped, NoList, OneList, OneTitle, OtherClosed, ParagraphAt, Pending, StandsIn, TitleAt}
pub use Rattle.first_pass_grammar.specs.Completion.{Unfinished, after_paragraph, after_title, closed_as, container_closed, containers_of, definitions_open}
pub use Rattle.first_pass_grammar.specs.Completion.{flagged, last_of, last_plain, lines_from, loosened, rows_beyond}
unfoldable pub use Rattle.first_pass_grammar.specs.Completion.{AreFurther, Becomes, ended, list_closed, rendered, title_left, title_taken, with_title}
pub use Rattle.first_pass_grammar.specs.Containers.{Context, at_rest, context, footnote_columns, has_columns, in_footnote, in_old_footnote, in_quote}
pub use Rattle.first_pass_grammar.specs.Containers.{is_quote, next_goes_on, or_shorter, taken}
unfoldable pub use Rattle.first_pass_grammar.specs.Containers.{after, front, prefix}
pub use Rattle.first_pass_grammar.specs.Counting.{counted_nodes, is_cell, is_inserted_after, is_row}
unfoldable pub use Rattle.first_pass_grammar.specs.Counting.{own}
pub use Rattle.first_pass_grammar.specs.Definitions.{LinkReference, Target, deepest_nesting, prefix_crossed, title_after, title_end, title_prefix}
unfoldable pub use Rattle.first_pass_grammar.specs.Definitions.{after_destination, crossed, reference_definition_at, space_at, target_at, title_at}
unfoldable pub use Rattle.first_pass_grammar.specs.Definitions.{title_text}
pub use Rattle.first_pass_grammar.specs.Derivation.{Derives, Tables, as_title, block_items, list_flags, no_tables, node_of, root_of, row_items, tight_in}
pub use Rattle.first_pass_grammar.specs.Derivation.{with_all_of, with_definitions, with_footnote_label}
unfoldable pub use Rattle.first_pass_grammar.specs.Derivation.{definitions_of, footnotes_of, items_of}
pub use Rattle.first_pass_grammar.specs.Extents.{Closes, Extent, GoesOn, IsLast, Stops, Verdict, extent_by, extent_to, in_containers, judged, with_line}
unfoldable pub use Rattle.first_pass_grammar.specs.Extents.{extent}
pub use Rattle.first_pass_grammar.specs.Footnotes.{NamesLabel, ends_footnote, footnote_at, footnote_prefix, label_bytes, past_head, place_past}
unfoldable pub use Rattle.first_pass_grammar.specs.Footnotes.{footnote_head_at}
pub use Rattle.first_pass_grammar.specs.Headings.{before_attributes, chain_bytes, chain_end, heading_attributes_of, kept_before, text_before_attributes}
unfoldable pub use Rattle.first_pass_grammar.specs.Headings.{heading_attribute_block}
pub use Rattle.first_pass_grammar.specs.HtmlBlocks.{IsHtml, blank_judge, tag_judge, until_end}
unfoldable pub use Rattle.first_pass_grammar.specs.HtmlBlocks.{holds_end}
pub use Rattle.first_pass_grammar.specs.Kinds.{AtxHeading, Blank, Continued, FencedCode, HtmlToBlank, HtmlToEnd, IndentedCode, IsKind, IsKindBy, Kind}
pub use Rattle.first_pass_grammar.specs.Kinds.{LinkDefinitions, Metadata, ThematicBreak, all_taken, begins_html_to_blank, begins_html_to_end, continued}
pub use Rattle.first_pass_grammar.specs.Kinds.{fence_or, heading_or, html_kind, interrupts_with, is_blank_rest, is_ordinary_after_tag, later_kind}
pub use Rattle.first_pass_grammar.specs.Kinds.{metadata_at, rule_or, unindented}
unfoldable pub use Rattle.first_pass_grammar.specs.Kinds.{definition_marker_at, first_kind, interrupts, underline_of}
pub use Rattle.first_pass_grammar.specs.Leaves.{Document, IsHeading, TextLines, add_break, around, block_with, content_at, document, heading_block}
pub use Rattle.first_pass_grammar.specs.Leaves.{heading_content, heading_text_at, is_space_or_line_end, line_bytes, marker_items, rule_block, text_lines}
unfoldable pub use Rattle.first_pass_grammar.specs.Leaves.{AreTextLines, heading_chain, kept_len}
pub use Rattle.first_pass_grammar.specs.LinkRuns.{Beyond, Ended, FlowsOn, ends_run, kind_in, link_definition_at}
unfoldable pub use Rattle.first_pass_grammar.specs.LinkRuns.{IsRun, lines_beyond}
pub use Rattle.first_pass_grammar.specs.LinkTables.{LinkEntry}
unfoldable pub use Rattle.first_pass_grammar.specs.LinkTables.{with_label, with_labels, with_link, with_links}
pub use Rattle.first_pass_grammar.specs.Names.{AText, Extends, Named, Names, NamesAlignments, NamesAttributes, NamesEntry, NamesText, TextAt, index_of}
pub use Rattle.first_pass_grammar.specs.Names.{named, only_kind, read, read_nodes, text_named}
unfoldable pub use Rattle.first_pass_grammar.specs.Names.{AreNamed}
pub use Rattle.first_pass_grammar.specs.OpenOrder.{AreAt, IsOrderedTo, item_on_top, open_within, within_top}
unfoldable pub use Rattle.first_pass_grammar.specs.OpenOrder.{FitsOpen, laid_open}
pub use Rattle.first_pass_grammar.specs.Openers.{Start, after_task, definition_head, definition_start, item_start, quote_begun, tag_after, task_after}
pub use Rattle.first_pass_grammar.specs.Openers.{task_by}
unfoldable pub use Rattle.first_pass_grammar.specs.Openers.{start_at}
pub use Rattle.first_pass_grammar.specs.Order.{Elsewhere, Empty, FitsBetween, GrowsBy, InFirst, InItem, InText, IsBetween, IsLead, Ranged, Siblings, Within}
pub use Rattle.first_pass_grammar.specs.Order.{below, beyond, extent_of, extents, is_task_marker, is_text_block}
unfoldable pub use Rattle.first_pass_grammar.specs.Order.{Fits, laid}
pub use Rattle.first_pass_grammar.specs.RawLines.{AreColumns, IsRawLine, Ranges, ends_with_both, range_html, range_text, spaces}
unfoldable pub use Rattle.first_pass_grammar.specs.RawLines.{AreRawLines, raw_items}
pub use Rattle.first_pass_grammar.specs.Rows.{AFootnote, ALeaf, ATitle, Definitions, DefinitionsTo, End, ItemsOf, Joins, OneOf, Row, Rows, What}
pub use Rattle.first_pass_grammar.specs.Rows.{apart_after, container_row, continues_list, definitions_of_row, end_of_row, gap_before, gapped, is_paragraph}
pub use Rattle.first_pass_grammar.specs.Rows.{is_run_row, is_untitled, items_after, leaf_row, list_after, list_until, row_of, row_of_leaf, titled, what_of}
unfoldable pub use Rattle.first_pass_grammar.specs.Rows.{any_gap, definitions_first, is_loose, rows_of}
pub use Rattle.first_pass_grammar.specs.Skeleton.{Anything, AtPlace, Begins, Blanks, Continues, Ends, InLine, Inside, IsFirst, Level, Line, Lines}
pub use Rattle.first_pass_grammar.specs.Skeleton.{NextBlock, OnlyALeaf, OnlyMark, Opening, Opens, OpensAt, OpensBeyond, OpensBlockAt, OpensExtent}
pub use Rattle.first_pass_grammar.specs.Skeleton.{OpensLeaf, OpensNode, Remaining, TextOf, after_first, after_marker, after_tag, end_before, end_of_left}
pub use Rattle.first_pass_grammar.specs.Skeleton.{ends_old_footnote, is_blank_after, level, level_after, level_after_leaf, level_in, may_define}
pub use Rattle.first_pass_grammar.specs.Skeleton.{next_is_blank, only_blanks, only_task, onward, opening_by, opening_of}
unfoldable pub use Rattle.first_pass_grammar.specs.Skeleton.{IsSequence, OpensAs, OpensBy, OpensFootnote, OpensRun, OpensText, next_block}
pub use Rattle.first_pass_grammar.specs.TableHeads.{ends_in_backslash, if_as_many}
unfoldable pub use Rattle.first_pass_grammar.specs.TableHeads.{headed_table, table_at}
pub use Rattle.first_pass_grammar.specs.Tables.{AreRows, FoundRow, HasCells, IsTable, TableSoFar, Taken, cell_block, cell_content, cell_start, cell_text}
pub use Rattle.first_pass_grammar.specs.Tables.{inserted, interrupts_row, most_inserted, row_block, row_cells, row_text, side_by_side, table_so_far, taking}
unfoldable pub use Rattle.first_pass_grammar.specs.Tables.{AreCells}
pub use Rattle.first_pass_grammar.specs.Texts.{IsPlainText, IsUnderlined, by_backslash, children_without, heading_bytes, plain_text, text_children}
pub use Rattle.first_pass_grammar.specs.Texts.{underline_first, underlined_text}
unfoldable pub use Rattle.first_pass_grammar.specs.Texts.{IsText, heading_children}
pub use Rattle.first_pass_grammar.specs.WholeTables.{ACell, ARow, ATable, AreEachNode, HasWholeTables, Mark, RowCells, ShowsNothing, SilentClosed}
pub use Rattle.first_pass_grammar.specs.WholeTables.{SilentFrom, TableRows, may_be_title, shown}
unfoldable pub use Rattle.first_pass_grammar.specs.WholeTables.{AreFull, AreWholeTables, HaveCells, marks, row_marks, table_marks}
