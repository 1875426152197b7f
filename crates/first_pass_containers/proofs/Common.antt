-- Terms and lemmas that several proofs of `first_pass_containers` cite, passed on from one place. Declares nothing.
pub use Rattle.first_pass_open.specs.Path.{container_of, context_of, outer, path_in, path_of, with_container}
pub use Rattle.first_pass_lists.specs.declared.state.PassState.{PassState}
pub use Rattle.first_pass_grammar.specs.declared.kind.Container.{Container}
pub use Rattle.first_pass_grammar.proofs.Names.MoreNames.{extends_none, get_front}
pub use Rattle.first_pass_grammar.specs.Kinds.{Paragraph, item_at, quote_start}
pub use Rattle.first_pass_order.proofs.WholeKept.{IsSilentFirst, blank_whole, child_whole, empty_item_closed_whole, item_whole, popped_plain_whole}
pub use Rattle.first_pass_order.proofs.WholeKept.{popped_whole, quote_whole, task_shows}
pub use Rattle.first_pass_open.specs.Between.{AddsBetween, MarkerBetween, line_end_at}
pub use Rattle.first_pass_lists.proofs.NoEmptyItem.{finished_none, footnote_begun_none, item_opened, list_continued_none, list_finished_none}
pub use Rattle.first_pass_grammar.proofs.Sequences.OpenerFacts.{marker_where, start_cases, start_definition, start_item, start_none, start_quote}
pub use Rattle.first_pass_open.specs.declared.source.Source.{Source}
pub use Rattle.first_pass_ready.proofs.OpenLemmas.{HasFrame, definitions_frame, frame-append, frame-ended, get_end, open_below, open_path}
pub use Rattle.first_pass_grammar.specs.declared.kind.Container.TheVariants.{BlockQuote, Definition, ListItem}
pub use Rattle.first_pass_grammar.proofs.WholeTables.TableMarks.{tokens_show}
pub use Rattle.first_pass_ready.proofs.EnterLemmas.{path_below, ready_blank, ready_blank_line}
pub use Rattle.first_pass_containers.specs.declared.openers.Opener.{Opener}
pub use Rattle.first_pass_grammar.proofs.Sequences.PlacesKept.{AreAt, definition_shorter, item_shorter, quote_less, quote_prefix_shorter}
pub use Rattle.first_pass_order.specs.Ordered.{AreNested, CanClose, IsOrderedAt, IsOrderedAtBlankLine, IsReadFrom, IsReadTo, reached}
pub use Rattle.first_pass_open.proofs.FrontLemmas.{front_is, outer-all}
pub use Rattle.first_pass_completion.proofs.SilentTexts.{opened_silent, silent_past, text_silent}
pub use Rattle.first_pass_ready.proofs.StateLemmas.{ClosedSoFar, closed_none, closed_one, popped_spine, ready_plain}
pub use Rattle.first_pass_completion.proofs.FlatBlocks.{IsNoParagraph, NoParagraph, kind_holds, text_holds, tokens_flat}
pub use Rattle.first_pass_order.proofs.LeftOrder.{end_there, title_later}
pub use Rattle.first_pass_grammar.proofs.Sequences.Finishes.{CompletesAt, Tail}
pub use Rattle.first_pass_grammar.proofs.Sequences.Tightening.{modify-append}
pub use Rattle.first_pass_grammar.specs.Openers.{item_head, quote_head}
pub use Rattle.first_pass_lists.proofs.ListKinds.{other_list}
pub use Rattle.first_pass_completion.proofs.Extending.{length-ended, lvl, opens_stays, tail}
pub use Rattle.first_pass_completion.proofs.Flags.{completes-reended, completes-reflag_list}
pub use Rattle.first_pass_completion.proofs.States.{open_nodes}
pub use Rattle.first_pass_ready.proofs.PopLemmas.{Innermost, innermost_of, ready_as}
pub use Rattle.first_pass_open.proofs.PlaceLemmas.{after_keeps, all_keep, definition_keeps, ends_past, item_keeps, line_start_end, mark_is_task, markers_keep}
pub use Rattle.first_pass_open.proofs.PlaceLemmas.{option_on, place_end, prefix_keeps, quote_absent, read_to, task_found, task_keeps}
pub use Rattle.first_pass_open.specs.OpenBlock.{with_child}
pub use Rattle.first_pass_order.proofs.NamedLemmas.{blank_named, child_named, definition_named, empty_item_closed_named, item_named, popped_named, quote_named}
pub use Rattle.first_pass_containers.specs.Entering.{KeepsState, all_popped, place_entered}
pub use Rattle.first_pass_containers.specs.Positions.{GrowsTo, InLine, IsInLine, LeafAt, LineAt, OrderedIn, OrderedOn, OrderedUpTo, Position, ReadsTo}
pub use Rattle.first_pass_containers.specs.Positions.{ReadyInQuote, ReadyLazy, ReadyLeaf, ReadyOn, ReadyTagged, ReadyText, line_or}
pub use Rattle.first_pass_ready.proofs.OldFootnotes.{ended_as, ends_here, in_old}
pub use Rattle.first_pass_grammar.proofs.Each.EachCell.{block_nodes, both_nodes, cells_nodes, deeper_nodes, leaves_nodes, row_nodes, rows_nodes}
pub use Rattle.first_pass_open.proofs.PathLemmas.{AreIn, front-end, open_are_in, path_in-append}
