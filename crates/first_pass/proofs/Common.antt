-- Terms and lemmas that several proofs of `first_pass` cite, passed on from one place. Declares nothing.
pub use Rattle.first_pass_items.specs.declared.item.ItemBody.TheVariants.{DefinitionListDefinition, FootnoteDefinition, ListItem, Table, TightParagraph}
pub use Rattle.first_pass.specs.Adding.{HasEndedBy, LastEndsBy, MayAddAt}
pub use Rattle.first_pass_order.proofs.OrderLemmas.{extents-body, flags_of, get_mid, ordered_added, ordered_at_later, ordered_begun, ordered_closed}
pub use Rattle.first_pass_order.proofs.OrderLemmas.{ordered_with, top_there}
pub use Rattle.first_pass_containers.proofs.OrderSteps.{ordered_tree, text_ordered, top_begun}
pub use Rattle.first_pass_lists.specs.Closing.{begun, empty_item_closed, footnote_left, gap_marked, is_item, list_closed, list_continued, with_block}
pub use Rattle.first_pass_order.specs.Ordered.{AreNested, CanClose, IsOrderedFrom, top_of}
pub use Rattle.first_pass_order.proofs.Nests.{AreClassed, added_outside, begun_nested, classed_ended, list_finished_outside, nested_before, nested_classed}
pub use Rattle.first_pass_order.proofs.Nests.{nested_front, popped_outside, title_there, top_before, top_front, tree_closes}
pub use Rattle.first_pass_order.proofs.RowSplits.{current_child, extents-split, fits_open_last, last_child, open_last_fits}
pub use Rattle.first_pass_tree.specs.Forest.{IsOpenPath, ends_text_at, popped}
pub use Rattle.first_pass.specs.Holds.{AreTokens, AreTokensIn, ContinuesChain, HoldsChain, HoldsText, HoldsTokens, IsTableOpen, StandsAfterBackslash, after_row}
pub use Rattle.first_pass_order.proofs.NamedLemmas.{continued_named, empty_item_closed_named, popped_named, task_is_no_text}
pub use Rattle.first_pass_order.proofs.PopOrder.{continue_list_keeps_order, finish_item_keeps_order, finish_list_keeps_order, footnote_keeps_order}
pub use Rattle.first_pass_order.proofs.PopOrder.{pop_keeps_order}
pub use Rattle.first_pass_grammar.proofs.Each.EachCell.{block_nodes, both_nodes, cells_nodes, leaves_nodes, nodes_named, row_nodes, rows_nodes}
pub use Rattle.first_pass_tables.specs.Appends.{AddsWholeRows, ClosesBetween, IsOpenNode, ReadsRow, open_table}
pub use Rattle.first_pass_leaves.specs.RawBlocks.{AppendsRaw}
pub use Rattle.first_pass_grammar.specs.WholeTables.{IsSilentLast, inserted_in}
pub use Rattle.first_pass_names.specs.TableEntries.{AddsTexts}
pub use Rattle.first_pass_grammar.proofs.WholeTables.TableMarks.{mark_deeper, marks-at_depth, none_shown, tokens_show}
pub use Rattle.first_pass.specs.declared.state.FirstPass.{FirstPass}
pub use Rattle.first_pass.specs.Calls.{AddsLeafBlock, AddsLineBlock, ReadsRowFrom}
pub use Rattle.first_pass.specs.Kept.{KeepsEntries, KeepsNames}
pub use Rattle.first_pass.specs.Views.{braces_of, context_in, source_of, with_tree}
pub use Rattle.std.proofs.lemmas.List.{get_or-take, length-map}
pub use Rattle.first_pass_open.specs.OpenBlock.{with_child}
pub use Rattle.first_pass_leaves.proofs.OrderParagraph.{TextInOrder, break_unescaped, text_is_in_order}
pub use Rattle.first_pass_tokens.proofs.OrderLemmas.{LineInOrder, StandsAfter, cell_in_order, order_append}
pub use Rattle.first_pass_blocks.proofs.Leaves.TextLemmas.{text_kept}
pub use Rattle.first_pass_order.proofs.WholeKept.{IsNoRow, IsSilentFirst, empty_item_closed_whole, ended_keeps, front_keeps, marks_ended, may_not_open}
pub use Rattle.first_pass_order.proofs.WholeKept.{more_whole, none_kept, note_whole, opened_whole, popped_whole, whole_kept}
