-- Terms and lemmas that several proofs of `first_pass_leaves` cite, passed on from one place. Declares nothing.
pub use Rattle.first_pass_open.specs.Path.{container_at, container_of, has_quote_after, outer, path_in, path_of, with_container}
pub use Rattle.first_pass_open.specs.OpenBlock.{IsJustPushed, begun_item, closed_by, opened_block, with_child}
pub use Rattle.first_pass_open.proofs.PathLemmas.{AreIn, AreIn-more, front-end, get_last, open_are_in, opened_in, path_in-append, path_of-chained}
pub use Rattle.first_pass_open.proofs.PathLemmas.{path_of-opened}
pub use Rattle.first_pass_names.specs.TableEntries.{entries, names_of, no_names}
pub use Rattle.first_pass_open.specs.Between.{AddsBetween, MarkerBetween, MarkerIsInItem, line_end_at}
pub use Rattle.first_pass_leaves.specs.Appends.{AddsHeading, AddsPlainText, AppendsHeading, attribute_place, line_from, with_closed_break}
pub use Rattle.first_pass_tokens.proofs.ChainLemmas.{add_text-joined, add_tokens-append, appended-chained, chained-current, chained-length, childless-chained}
pub use Rattle.first_pass_tokens.proofs.ChainLemmas.{cut_siblings-chained, has_leaves-chained, joins_none-appended, pushed-fresh, with_text-chained}
pub use Rattle.first_pass_tokens.proofs.ChainLemmas.{with_text-none, with_token-plain, with_tokens-append}
pub use Rattle.first_pass_open.proofs.BlockLemmas.{block_closed, just_pushed, marked_chain, open_item_of, open_named, open_node_in, open_place_of, opened_is}
pub use Rattle.first_pass_open.proofs.BlockLemmas.{still_open}
pub use Rattle.first_pass_grammar.specs.declared.kind.Container.{Container}
pub use Rattle.first_pass_leaves.specs.RawBlocks.{AddsIndented, AddsRaw, AppendsColumns, AppendsRaw, AreWhole, IsPlaceAt, IsWhole, after_line_at, code_after}
pub use Rattle.first_pass_leaves.specs.RawBlocks.{code_rest, code_rest_at, extent_from, fenced_after, html_to_blank, html_to_end, is_unmarked, metadata_after}
pub use Rattle.first_pass_leaves.specs.RawBlocks.{range_of, said}
pub use Rattle.first_pass_lines.proofs.PlaceFacts.{columns_hold, last_of_line, prefix_keeps, signs_keep}
pub use Rattle.first_pass_tokens.proofs.OrderLemmas.{LineInOrder, StandsAfter, closed_line_in_order, order_append, order_closed, suffix_first, trimmed_boundary}
pub use Rattle.std.proofs.lemmas.List.{reverse-reverse, take_min, take_rest}
pub use Rattle.first_pass_tree.specs.Forest.{childless, end_of, kept_after, text_between, with_text}
pub use Rattle.first_pass_leaves.specs.CutTexts.{BecomesHeading, IsLastAndChildless, cut_chain}
pub use Rattle.first_pass_leaves.specs.declared.paragraph.TextEnd.{TextEnd}
pub use Rattle.first_pass_open.proofs.FrontLemmas.{container_is, outer-all}
pub use Rattle.first_pass_kinds.specs.Fronts.{IsFrontAt}
pub use Rattle.first_pass_open.proofs.PlaceLemmas.{after_keeps, all_keep, ends_past, line_start_end, read_end, text_place}
pub use Rattle.first_pass_grammar.specs.CodeBlocks.{IsIndentedCode, closing_fence_end, fence_verdict, metadata_verdict, unless_blank}
pub use Rattle.first_pass_lines.specs.Places.{line_of, moved_bytes}
pub use Rattle.std.proofs.lemmas.Bool.{agree_below, and_cases, eqb-false, or_cases}
pub use Rattle.first_pass_lines.specs.Lines.{is_number_sign, is_space_or_tab}
pub use Rattle.first_pass_tokens.proofs.BytesLemmas.{bytes_adds, bytes_append, cut_few, few_add, few_in_order, line_has_bytes}
pub use Rattle.first_pass_lines.proofs.LineFacts.{first_line, line_len-content_end, line_len-parts}
pub use Rattle.first_pass_tokens.proofs.LineLemmas.{end_bounded, ends_line}
pub use Rattle.std.specs.Bool.{beq, one_answer}
pub use Rattle.first_pass_lines.proofs.LaneLemmas.{after_passed, joined, run_in}
pub use Rattle.std.proofs.lemmas.List.Sums.{prefix_len_is, suffix_len-take_no, suffix_len-take_yes}
pub use Rattle.first_pass_grammar.specs.Leaves.{paragraph_block, without_closing}
pub use Rattle.first_pass_open.proofs.QuoteLemmas.{quote_after-chained}
pub use Rattle.first_pass_tree.proofs.Blocks.{forest-eq}
pub use Rattle.first_pass_grammar.proofs.Order.Orders.{block_fits, length-block, row_of-fits, row_of-laid}
pub use Rattle.first_pass_tokens.proofs.InOrder.{HaveBytes}
pub use Rattle.first_pass_grammar.specs.HtmlBlocks.{first_owing, is_empty, owing}
pub use Rattle.first_pass_grammar.proofs.Count.CountedNodes.{own_at_most}
