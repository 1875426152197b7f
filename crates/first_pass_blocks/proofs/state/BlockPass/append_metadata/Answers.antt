use Rattle.std.proofs.Common.{refl}
use Rattle.first_pass_blocks.proofs.Leaves.KindBlocks.{metadata_between, metadata_added, found_at, found_says, leaf_added}
use Rattle.first_pass_blocks.proofs.state.BlockPass.append_metadata.Goals as goal

pub parse_metadata_block-requires : goal.parse_metadata_block-requires
parse_metadata_block-requires c = record { boundary = (found_at c.requires.2).boundary }

pub returns : goal.returns
returns c = λ p columns f.
    let i = found_at f in
    let e = c.in_ok-next.ensures in
    leaf_added f refl refl e.more refl refl e.boundary
    (metadata_between _ _ _ _ _ c.args.at _ f.utf8 i.boundary e.boundary.1.0 c.args.byte (found_says f) e.block) (metadata_added i c.args.byte e.block)
