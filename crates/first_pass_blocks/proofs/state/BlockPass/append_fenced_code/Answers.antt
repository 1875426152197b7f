use Rattle.std.proofs.Common.{refl, sym, ap, ◌∙◌}
use Rattle.first_pass_grammar.proofs.Common.{code_fence}
use Rattle.first_pass_blocks.proofs.Leaves.KindBlocks.{fenced_between, fenced_added, columns_are, found_at, found_says, leaf_added}
use Rattle.first_pass_blocks.proofs.state.BlockPass.append_fenced_code.Goals as goal

pub parse_fenced_code_block-requires : goal.parse_fenced_code_block-requires
parse_fenced_code_block-requires c =
    let i = found_at c.requires.1 in
    record { boundary = i.boundary; fence = ap code_fence (sym i.here.left_is) ∙ (found_says c.requires.1).0 }

pub returns : goal.returns
returns c = λ p f.
    let i = found_at f in
    let says = found_says f in
    let fence = c.args.fence in
    let e = c.in_ok-next.ensures in
    leaf_added f refl refl e.more refl refl e.boundary
    (fenced_between _ _ _ _ _ c.args.at _ f.utf8 i.boundary e.boundary.1.0 fence.indent fence.byte fence.count
    (ap code_fence (sym i.here.left_is) ∙ says.0) e.block)
    (fenced_added i fence.count fence.byte fence.indent (columns_are _ _ f.found.columns_are says.1).0 e.block)
