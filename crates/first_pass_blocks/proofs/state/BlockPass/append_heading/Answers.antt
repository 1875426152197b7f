use Rattle.std.proofs.Common.{refl, sym, ap, ◌∙◌}
use Rattle.first_pass_grammar.proofs.Common.{atx_level}
use Rattle.first_pass_blocks.proofs.Leaves.KindBlocks.{heading_added, found_at, found_says, line_read, leaf_added}
use Rattle.first_pass_blocks.proofs.state.BlockPass.append_heading.Goals as goal

pub parse_atx_heading-requires : goal.parse_atx_heading-requires
parse_atx_heading-requires c =
    let i = found_at c.requires.2 in
    record { within = i.boundary.0; heading = ap atx_level (sym i.here.left_is) ∙ found_says c.requires.2 }

pub returns : goal.returns
returns c = λ p columns f.
    let i = found_at f in
    let e = c.in_ok-next.ensures in
    leaf_added f refl refl e.more refl refl (line_read f (e.block.end_is ∙ i.ends)) (λ from low. e.fits from low i.boundary)
    (heading_added i c.args.level e.block)
