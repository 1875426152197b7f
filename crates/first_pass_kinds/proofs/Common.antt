-- Terms and lemmas that several proofs of `first_pass_kinds` cite, passed on from one place. Declares nothing.
pub use Rattle.first_pass_scan.proofs.PlainFacts.{inert_after, plain_atx, plain_blank, plain_eol, plain_fence, plain_hrule, plain_indent, plain_listitem}
pub use Rattle.first_pass_grammar.specs.declared.kind.Container.{Container}
pub use Rattle.first_pass_grammar.specs.Kinds.{Paragraph, colon_ends, interrupts_in, item_interrupts, metadata_or}
pub use Rattle.first_pass_kinds.specs.declared.interrupt.NextLine.TheVariants.{More, NotText}
pub use Rattle.first_pass_open.proofs.PlaceLemmas.{all_keep, text_place}
pub use Rattle.first_pass_open.specs.Path.{context_of, continued_to, path_of}
pub use Rattle.first_pass_items.specs.Bytes.{asterisk, plus_sign, tab, underscore}
pub use Rattle.first_pass_lines.proofs.LineFacts.{isnt}
pub use Rattle.first_pass_lines.specs.Rest.{columns_of}
pub use Rattle.first_pass_kinds.specs.NextLines.{next_line_of}
pub use Rattle.first_pass_scan.specs.Metadata.{metadata_byte}
pub use Rattle.first_pass_scan.proofs.MetadataFacts.{metadata_plain, plain_metadata}
