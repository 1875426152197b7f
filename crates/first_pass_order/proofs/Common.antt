-- Terms and lemmas that several proofs of `first_pass_order` cite, passed on from one place. Declares nothing.
pub use Rattle.first_pass_lists.specs.declared.state.PassState.{PassState}
pub use Rattle.first_pass_open.specs.OpenBlock.{begun_item, closed_by, opened_block, with_child}
pub use Rattle.first_pass_lists.proofs.NoEmptyItem.{closed_none, finished_none, item_opened, list_continued_none, list_finished_none, popped_at_none}
pub use Rattle.first_pass_order.specs.Ordered.{AreNested, CanClose, EndsBeforeTitle, HasDefinition, IsOrderedAt, IsReadTo, reached, top_of}
pub use Rattle.first_pass_open.proofs.PathLemmas.{AreIn, after-end}
pub use Rattle.first_pass_grammar.specs.declared.kind.Container.{Container}
pub use Rattle.first_pass_grammar.proofs.WholeTables.WholeForests.{WholeRows, derived_whole, whole_both, whole_same}
pub use Rattle.first_pass_open.specs.Path.{path_of}
pub use Rattle.first_pass_names.proofs.NameLemmas.{extends_none}
pub use Rattle.first_pass_order.specs.LeafBlocks.{AddsKind}
pub use Rattle.first_pass_lists.proofs.ListKinds.{other_list}
pub use Rattle.first_pass_grammar.proofs.Names.MoreNames.{alignments_kept, get_front}
pub use Rattle.first_pass_grammar.specs.WholeTables.{HaveNoRows, IsSilentLast}
pub use Rattle.first_pass_grammar.proofs.Each.EachCell.{block_nodes, both_nodes, deeper_nodes}
pub use Rattle.first_pass_open.proofs.PlaceLemmas.{option_on, task_shorter}
pub use Rattle.first_pass_open.specs.Between.{AddsBetween}
pub use Rattle.first_pass_grammar.proofs.Each.EachRow.{HoldsOfRow, derived_rows, each_row, tight_nodes}
pub use Rattle.first_pass_grammar.proofs.WholeTables.FullHeads.{heads_are_full}
