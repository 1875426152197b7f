use Rattle.std.proofs.Common.{refl}
use Rattle.first_pass_grammar.proofs.Common.{condition_of, unindented}
use Rattle.first_pass_blocks.proofs.Leaves.KindBlocks.{to_end_between, html_end_added, columns_are, found_at, found_says, leaf_added}
use Rattle.first_pass_blocks.proofs.state.BlockPass.append_html.Goals as goal

pub parse_html_block_type_1_to_5-requires : goal.parse_html_block_type_1_to_5-requires
parse_html_block_type_1_to_5-requires c = record {
  boundary = (found_at c.requires.1).boundary;
  columns = (columns_are _ _ c.requires.1.found.columns_are (found_says c.requires.1)).1;
}

pub returns : goal.returns
returns c = λ p f.
    let i = found_at f in
    let until = condition_of c.args.«end» in
    let e = c.in_ok-next.ensures in
    leaf_added f refl refl e.more refl refl e.boundary
    (to_end_between _ _ _ _ _ c.args.at _ f.utf8 i.boundary e.boundary.1.0 until c.args.columns e.block)
    (html_end_added i until c.args.columns f.found.«end» (columns_are _ _ f.found.columns_are (found_says f)).0 (e.block (unindented p) i.here))
