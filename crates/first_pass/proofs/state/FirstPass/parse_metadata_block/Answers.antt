use Rattle.std.proofs.Common.{refl}
use Rattle.first_pass_grammar.proofs.Common.{document}
use Rattle.first_pass_blocks.proofs.Common.{names_of, extends_none}
use Rattle.first_pass_blocks.proofs.Leaves.KindBlocks.{metadata_between}
use Rattle.first_pass.proofs.Added.{adds_lines}
use Rattle.first_pass.proofs.CallsNamed.{code_named}
use Rattle.first_pass.proofs.TablesWhole.{code_shows}
use Rattle.first_pass.proofs.state.FirstPass.parse_metadata_block.Goals as goal

pub returns : goal.returns
returns c =
    let self = c.args.self.now in
    let d = document self.pass.source.text.now self.pass.source.options (names_of c.parse_metadata_block.new.allocs) in
    let e = c.in_ok-next.ensures in
    let b = e.block.are d.names (extends_none d.names) in
    record {
      block = e.block;
      leaf = adds_lines e.block.items (refl, refl, refl) e.more e.block.tree_is (code_named d _ _ _ _ b.chain e.block.items b.items_are tt b.lines)
          (code_shows d _ _ _ _ b.chain e.block.items b.items_are (λ names depth start end. refl) b.lines)
          (metadata_between _ _ _ _ _ _ _ e.utf8 c.requires.boundary e.boundary.1.0 c.args.metadata_block_ch c.requires.byte e.block) e.boundary;
    }
