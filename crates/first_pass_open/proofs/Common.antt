-- Terms and lemmas that several proofs of `first_pass_open` cite, passed on from one place. Declares nothing.
pub use Rattle.first_pass_grammar.specs.declared.kind.Container.{Container}
pub use Rattle.first_pass_grammar.specs.declared.kind.Container.TheVariants.{BlockQuote, ListItem}
pub use Rattle.first_pass_open.specs.Path.{columns_needed, container_at, container_of, continued_to, definition_at_depth, has_quote, has_quote_after, inner}
pub use Rattle.first_pass_open.specs.Path.{is_definition_node, is_quote_node, outer, path_in, path_of, prefix_of, with_container}
pub use Rattle.first_pass_lines.proofs.Columns.{all-more, all-none, taken-yes}
pub use Rattle.std.proofs.lemmas.Option.{option_and_then_some}
pub use Rattle.first_pass_scan.proofs.MarkerPlaces.{marked-keeps, marked-line_end, task-marked}
