-- Terms and lemmas that several proofs of `first_pass_tree` cite, passed on from one place. Declares nothing.
pub use Rattle.first_pass_tree.specs.declared.tree_index.TreeIndex.{TreeIndex}
pub use Rattle.first_pass_tree.specs.Forest.{CanMoveFrom, Forest, IsChild, IsChildOfCurrent, IsForest, IsLastAt, IsOpenPath, IsPreorder, IsShallow, added}
pub use Rattle.first_pass_tree.specs.Forest.{appended, at_depth, block_of, body_at, childless, cut_siblings, cut_to, cut_tokens, deeper, depths, end_of}
pub use Rattle.first_pass_tree.specs.Forest.{in_table, in_table_by, is_single_before, item_at, kept_after, last_before, last_child, map_from, modified, modify}
pub use Rattle.first_pass_tree.specs.Forest.{moved_from, open_place, popped, pushed, run_end, shallower, sibling_of, wrapped}
pub use Rattle.first_pass_items.specs.declared.item.Item.{Item}
pub use Rattle.std.proofs.lemmas.List.{drop-map, drop-take, get_or-map, get_or-reverse, get_or_append_left, get_or_at, get_or_push, length-map, length-reverse}
pub use Rattle.std.proofs.lemmas.List.{length_push, map-append, map-set, places, reverse-append, take-append-le, take-map, take_more, take_more_set}
pub use Rattle.first_pass_items.specs.declared.item.ItemBody.{ItemBody}
pub use Rattle.std.proofs.lemmas.Bool.Decides.{nat_tests}
pub use Rattle.std.proofs.lemmas.Bool.{cases_eq, cases_lt}
pub use Rattle.first_pass_items.specs.declared.item.ItemBody.TheVariants.{Paragraph, Table, TableCell, TableHead, TableRow, Text}
