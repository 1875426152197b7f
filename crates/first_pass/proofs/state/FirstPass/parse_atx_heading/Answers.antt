use Rattle.std.proofs.Common.{drop, IsCharBoundary, refl, sym, subst, arith, length-drop}
use Rattle.first_pass_grammar.proofs.Common.{line_len-fits, heading_block}
use Rattle.first_pass_blocks.proofs.Common.{line_stops}
use Rattle.first_pass.proofs.Added.{adds_leaf}
use Rattle.first_pass.proofs.CallsNamed.{atx_named}
use Rattle.first_pass.proofs.TablesWhole.{atx_shows}
use Rattle.first_pass.proofs.state.FirstPass.parse_atx_heading.Goals as goal

pub returns : goal.returns
returns c =
    let text = c.args.self.now.pass.source.text.now in
    let e = c.in_ok-next.ensures in
    let line = line_len-fits (drop c.args.start text) in
    let left = length-drop c.args.start text in
    let start = c.requires.within in
    let ends = e.block.end_is in
    record {
      block = e.block;
      leaf = adds_leaf (heading_block c.args.start c.in_ok-next.next c.args.atx_level e.block.index e.block.chain) (refl, refl, refl)
          e.more e.block.tree_is (atx_named e.block) (atx_shows e.block) e.fits (omega arith);
      boundary = λ begins. subst (IsCharBoundary text) (sym ends) (line_stops text c.args.start c.recall_utf8.ensures begins);
    }
