-- Terms and lemmas that several proofs of `first_pass_blocks` and `first_pass` cite, passed on from one place. Declares
-- nothing.
pub use Rattle.first_pass_tree.specs.Forest.{joins_at}
pub use Rattle.first_pass_tokens.specs.TreeTokens.{AppendsCell, with_token}
pub use Rattle.first_pass_grammar.specs.declared.kind.AfterMarker.{AfterMarker}
pub use Rattle.first_pass_grammar.specs.declared.kind.AfterMarker.TheVariants.{LineEnds, OnLine, OnlyTag, TaskText}
pub use Rattle.first_pass_grammar.specs.declared.kind.Container.{Container}
pub use Rattle.first_pass_grammar.specs.Order.{Node}
pub use Rattle.first_pass_grammar.proofs.Count.CountedNodes.{own_added, own_at_most}
pub use Rattle.first_pass_grammar.proofs.Names.NamedItems.{named_more}
pub use Rattle.first_pass_grammar.proofs.Names.TextsNamed.{text_named}
pub use Rattle.first_pass_grammar.proofs.Order.Orders.{ended_at, length-places, between-any}
pub use Rattle.first_pass_open.specs.declared.source.Source.{Source}
pub use Rattle.first_pass_open.specs.Between.{AddsBetween, MarkerBetween, line_end_at}
pub use Rattle.first_pass_open.specs.OpenBlock.{IsJustPushed, begun_item, closed_by, opened_block}
pub use Rattle.first_pass_open.specs.Path.{context_of, path_of}
pub use Rattle.first_pass_grammar.proofs.Names.MoreNames.{get_front, still_there}
pub use Rattle.first_pass_open.proofs.PlaceLemmas.{all_keep, place_end, read_to, text_place, line_start_end}
pub use Rattle.first_pass_kinds.specs.BlockStart.{marked_kind, IsFoundAt, kind_of}
pub use Rattle.first_pass_kinds.proofs.KindLemmas.{Says, kind_says}
pub use Rattle.first_pass_names.specs.declared.items.Allocations.{Allocations}
pub use Rattle.first_pass_names.specs.TableEntries.{NamesMore, link_entry, names_of, no_names, tables_in, tables_of, AddsFootnote, Entries, entries}
pub use Rattle.first_pass_names.specs.TableEntries.{footdefs_of, footnote_label, refdefs_of, with_definition}
pub use Rattle.first_pass_names.proofs.NameLemmas.{extends_alignments, extends_both, extends_equal, extends_none, alignments_last, extends_named, text_last}
pub use Rattle.first_pass_leaves.specs.declared.raw_line.RawKind.{RawKind}
pub use Rattle.first_pass_leaves.specs.declared.raw_line.RawKind.TheVariants.{Code, Html}
pub use Rattle.first_pass_leaves.specs.RawBlocks.{after_line_at, html_to_blank, range_of}
pub use Rattle.first_pass_leaves.proofs.IndentedLemmas.{first_at, first_is}
pub use Rattle.first_pass_lists.specs.declared.state.PassState.{PassState}
pub use Rattle.first_pass_lists.specs.Closing.{is_list, list_finished, state_with, top_body, with_tree}
pub use Rattle.first_pass_lists.proofs.NoEmptyItem.{list_finished_none}
pub use Rattle.first_pass_ready.specs.State.{Ready, closed_in, ReadyAt}
pub use Rattle.first_pass_ready.proofs.BegunLemmas.{no_table}
pub use Rattle.first_pass_ready.proofs.FinishLemmas.{path_finished, EndsListAt}
pub use Rattle.first_pass_order.specs.Ordered.{IsOrderedAt, IsReadFrom, IsReadTo, reached, AreNested, IsOrderedFrom}
pub use Rattle.first_pass_order.proofs.CountLemmas.{block_count, count, leaf_left, left_before, list_finished_count, blank_count, definitions_left_count}
pub use Rattle.first_pass_order.proofs.CountLemmas.{note_count, title_begun_count}
pub use Rattle.first_pass_order.proofs.NamedLemmas.{block_added, list_finished_named, blank_named, first_named, kind_named, note_named, task_has_none}
pub use Rattle.first_pass_order.proofs.NamedLemmas.{task_is_no_text, title_begun_named}
pub use Rattle.first_pass_order.proofs.OrderLemmas.{ordered_appended, ordered_later, ordered_none, ordered_same, ordered_first, ordered_whole}
pub use Rattle.first_pass_order.proofs.WholeKept.{block_whole, kept_of, list_finished_whole, added_text_whole, blank_whole, first_whole, kind_whole, more_whole}
pub use Rattle.first_pass_order.proofs.WholeKept.{note_whole, task_shows}
pub use Rattle.first_pass_containers.specs.Positions.{InLine, IsNotBefore, LeafAt, LineAt, OrderedIn, Position, ReadsTo, line_or, GrowsFrom, GrowsTo}
pub use Rattle.first_pass_containers.specs.Positions.{OrderedUpTo, ReadyLeaf, may_define}
pub use Rattle.first_pass_containers.specs.Starts.{FinishesNothing, last_at, BeginsNoContainer, IsAfterMarker, StartMatches, after_at, start_opened}
pub use Rattle.first_pass_containers.specs.TextsAdded.{AddsText}
pub use Rattle.first_pass_containers.proofs.Leaves.LeafLemmas.{line_end_of, ready_added, told_none, LeafBegins, away_left, kind_away, kind_in_other, opens_flow}
pub use Rattle.first_pass_containers.proofs.Leaves.LeafLemmas.{ready_any_line, ready_blank_leaf, ready_ended, ready_its_line, ready_kept, ready_text, tag_end}
pub use Rattle.first_pass_containers.proofs.Leaves.LeafLemmas.{text_away, text_opens}
pub use Rattle.first_pass_containers.proofs.Openings.HeadLemmas.{head_at_mark, head_after_is, line_after, lines_after_it, no_mark}
pub use Rattle.first_pass_containers.proofs.Openings.Indented.{only_leaf}
pub use Rattle.first_pass_containers.proofs.Openings.StartLemmas.{reads_none}
pub use Rattle.first_pass_containers.proofs.OrderSteps.{IsStateAtPlace, block_ordered, line_or-below, list_finished_blank, ordered_finished, ordered_leaf}
pub use Rattle.first_pass_containers.proofs.OrderSteps.{path_added, place_before_end, unindented_later, line_later, offset_later, ordered_at_place}
pub use Rattle.first_pass_containers.proofs.OrderSteps.{ordered_note_in, ordered_on, ordered_tree, read_block, upto_later}
pub use Rattle.first_pass_leaves.specs.Appends.{AddsHeading, AddsPlainText}
pub use Rattle.first_pass_leaves.specs.CutTexts.{BecomesHeading, CutsChildren}
pub use Rattle.first_pass_leaves.proofs.OrderHeading.{line_stops}
pub use Rattle.first_pass_tables.specs.Appends.{AppendsRows, OpenTable, ReadsRowLine, with_below}
pub use Rattle.first_pass_definitions.specs.Found.{IsReference}
pub use Rattle.first_pass_blocks.specs.OpenedFootnotes.{StaysSame, TriesFootnote}
pub use Rattle.first_pass_blocks.specs.Progress.{ReadsLeaf, HasSameParts, IsAtPlace, KeepsPass, KnowsNext, PassesTo, ReadsBlock, ReadsBlockOf, ReadsEntered}
pub use Rattle.first_pass_blocks.specs.Runs.{IsLater, PutsDefinitions, ReadsRun, ReadsDefinitions}
pub use Rattle.first_pass_blocks.specs.Views.{allocs_of, context_in, front_of, source_of, source_options, source_text, state_of, tree_of}
pub use Rattle.first_pass_blocks.specs.Written.{TablesAreWritten, AreFirstLabels, AreFootnotesWritten, CopiesText, HasFirstLabels, IsFootnoteWritten, unused}
pub use Rattle.first_pass_blocks.specs.declared.state.BlockPass.{BlockPass}
pub use Rattle.first_pass_order.specs.Footnotes.{footnotes_in}
pub use Rattle.first_pass_order.proofs.FootnotesKept.{NamesNone, blank_notes, block_notes, first_notes, kind_notes, list_finished_notes, note_notes, notes}
pub use Rattle.first_pass_order.proofs.FootnotesKept.{task_names_none, text_notes, title_begun_notes}
pub use Rattle.first_pass_containers.specs.declared.openers.Start.{Start}
pub use Rattle.first_pass_order.proofs.Nests.{added_outside, first_closes, list_finished_outside, tree_closes}
pub use Rattle.first_pass_ready.proofs.StateLemmas.{ready_finish, ready_first}
pub use Rattle.first_pass_containers.proofs.Leaves.FirstItems.{IsTaskMark, kind_silent, mark_has, text_flat, text_silent_first}
