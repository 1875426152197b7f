use Rattle.std.proofs.Common.{◌+◌, drop, None, IsCharBoundary, refl, sym, ap, subst, ◌∙◌}
use Rattle.first_pass_grammar.proofs.Common.{rule_block}
use Rattle.first_pass.proofs.Common.{MayAddAt}
use Rattle.first_pass_blocks.proofs.Common.{names_of, PassState, IsOrderedAt, block_added, block_ordered, line_stops}
use Rattle.first_pass_grammar.proofs.Names.MoreNames.{extends_none}
use Rattle.first_pass.proofs.CallsNamed.{rule_named}
use Rattle.first_pass.proofs.Adding.{may_add_added}
use Rattle.first_pass.proofs.LineLengths.{rule_line}
use Rattle.first_pass.proofs.TablesWhole.{rule_shows, silent_whole}
use Rattle.first_pass.proofs.state.FirstPass.parse_hrule.Goals as goal

pub returns : goal.returns
returns c =
    let text = c.args.self.now.pass.source.text.now in
    let names = names_of c.args.self.now.pass.allocs in
    let old : PassState = c.args.self.now.pass.state in
    let new : PassState = record old { tree = c.parse_hrule.new.tree; begin_list_item = None } in
    let e = c.in_ok-next.ensures in
    record {
      kept = record {
        source = refl;
        tables = refl;
        named = block_added names names old.tree new.tree (rule_block c.args.ix c.args.hrule_size) (extends_none names) e.block
            (rule_named names c.args.ix c.args.hrule_size);
        whole = silent_whole names names old.tree new.tree (rule_block c.args.ix c.args.hrule_size) (extends_none names) e.block
            (rule_shows c.args.ix c.args.hrule_size);
        braces = refl;
      };
      state = refl;
      block = e.block;
      fits = e.fits text;
      order = λ at low begins ends o.
          subst (IsOrderedAt text new) (sym e.following)
          (block_ordered text old new at c.args.ix (c.args.ix + c.args.hrule_size) o low (λ from before. e.fits text from before begins ends) ends.0 refl);
      may_add = λ at low begins ends h.
          subst (MayAddAt text new) (sym e.following)
          (may_add_added text old new at (c.args.ix + c.args.hrule_size) (rule_block c.args.ix c.args.hrule_size) e.block h
          (block_ordered text old new at c.args.ix (c.args.ix + c.args.hrule_size) h.read.0 low (λ from before. e.fits text from before begins ends) ends.0
          refl));
      following = e.following;
      boundary = λ rule begins.
          let size = ap (λ n. c.args.ix + n) (rule_line (drop c.args.ix text) c.args.hrule_size rule) in
          subst (IsCharBoundary text) (sym (e.following ∙ size)) (line_stops text c.args.ix c.recall_utf8.ensures begins);
    }
