use Rattle.std.proofs.Common.{refl}
use Rattle.first_pass_grammar.proofs.Common.{condition_of, document}
use Rattle.first_pass_blocks.proofs.Common.{names_of, extends_none, first_at, first_is}
use Rattle.first_pass_blocks.proofs.Leaves.KindBlocks.{to_end_between}
use Rattle.first_pass.proofs.Added.{adds_lines}
use Rattle.first_pass.proofs.CallsNamed.{html_named}
use Rattle.first_pass.proofs.TablesWhole.{html_block_shows}
use Rattle.first_pass.proofs.state.FirstPass.parse_html_block_type_1_to_5.Goals as goal

pub returns : goal.returns
returns c =
    let self = c.args.self.now in
    let d = document self.pass.source.text.now self.pass.source.options (names_of c.parse_html_block_type_1_to_5.new.allocs) in
    let e = c.in_ok-next.ensures in
    let block = e.block (first_at d.text c.args.start_ix 0) (first_is d.text c.args.start_ix 0) in
    record {
      block = rw c.max.ensures at e.block;
      leaf = adds_lines block.items (refl, refl, refl) e.more block.tree_is (html_named (block.are d.names (extends_none d.names)))
          (html_block_shows (block.are d.names (extends_none d.names)))
          (to_end_between _ _ _ _ _ _ _ e.utf8 c.requires.boundary e.boundary.1.0 (condition_of c.args.html_end) _ e.block) e.boundary;
    }
