-- Terms and lemmas that several proofs of `first_pass_client` cite, passed on from one place. Declares nothing.
pub use Rattle.first_pass.specs.Adding.{MayAddAt}
pub use Rattle.first_pass_lists.specs.declared.state.PassState.{PassState}
pub use Rattle.first_pass.specs.Views.{source_of, source_options, source_text, state_of, tree_of, with_tree}
pub use Rattle.first_pass.specs.Holds.{HoldsChain, after_row}
pub use Rattle.first_pass_items.specs.declared.item.ItemBody.TheVariants.{ListItem, Paragraph, Table}
pub use Rattle.first_pass_lists.specs.Closing.{begun, top_body, with_block}
pub use Rattle.first_pass_tokens.specs.LineTokens.{is_break}
pub use Rattle.first_pass_tree.specs.Forest.{appended}
