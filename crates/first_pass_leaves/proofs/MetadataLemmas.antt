-- The lines and the end of a metadata block.
use Rattle.std.proofs.Common.{◌≡◌, ℕ, refl, ap, ◌∙◌}
use Rattle.first_pass_grammar.proofs.Common.{Item, MetadataBlock, Forest, added, Document, block_with, range_text, Extent, metadata_judge, metadata_kind}
use Rattle.first_pass_grammar.proofs.Common.{IsMetadata}
use Rattle.first_pass_leaves.proofs.Common.{path_of, closed_by, AddsRaw, metadata_after}
use Rattle.first_pass_items.specs.declared.item.MetadataBlockKind.{MetadataBlockKind}
use Rattle.first_pass_leaves.proofs.ExtentLemmas.{Filled, OpenedAt, lines_of, block_done}

-- A metadata block with its lines is added.
pub metadata_added : (d : Document) (g new : Forest Item) (start byte : ℕ) (kind : MetadataBlockKind)
    (b : OpenedAt range_text d (metadata_judge byte) g start (MetadataBlock kind)) → kind ≡ metadata_kind byte → new ≡ closed_by b.filled b.stop b.filled.spine
    → (
    let x = metadata_after d.text (path_of d.options g) byte start in
    AddsRaw d (λ e. IsMetadata e start byte x.places x.«end») x.left g new b.next)
metadata_added d g new start byte kind b kind_is new_is =
    let x : Extent = metadata_after d.text (path_of d.options g) byte start in
    let all : Filled range_text d x g start (MetadataBlock kind) = lines_of b in
    record {
      items = block_with start x.«end» (MetadataBlock (metadata_kind byte)) all.lines.chain;
      tree_is = block_done all new new_is ∙ ap (λ k. added g (block_with start x.«end» (MetadataBlock k) all.lines.chain)) kind_is;
      are = λ more f. record { chain = all.lines.chain; lines = all.lines.lines more f; items_are = refl };
      left_is = all.lines.left_is;
    }
