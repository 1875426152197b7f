use Rattle.std.proofs.Common.{None, IfSome, IsCharBoundary, refl}
use Rattle.first_pass_grammar.proofs.Common.{document}
use Rattle.first_pass_blocks.proofs.Common.{no_names, PassState, ordered_none}
use Rattle.first_pass_tokens.proofs.BytesLemmas.{few_of_line}
use Rattle.first_pass.proofs.CallsNamed.{line_named}
use Rattle.first_pass.proofs.Chains.{AddsTokens, chain_continues, chain_later, closed_by_break, line_adds}
use Rattle.first_pass.proofs.Adding.{may_add_tokens, outside_of}
use Rattle.first_pass.proofs.OrderJoin.{IsRange, both_ends, line_ends, state_before, ordered_line}
use Rattle.first_pass.proofs.TablesWhole.{line_whole}
use Rattle.first_pass.proofs.state.FirstPass.append_content.Goals as goal

pub returns-clause-line : goal.returns-clause-line
returns-clause-line c =
    let self = c.args.self.now in
    let text = self.pass.source.text.now in
    let options = self.pass.source.options in
    let old : PassState = self.pass.state in
    let new : PassState = record old { tree = c.append_line.new.tree; begin_list_item = None } in
    let answer = c.in_ok-line.line in
    let e = c.in_ok-line.ensures in
    let range : IfSome c.args.end (λ e. IsCharBoundary text e) → IsCharBoundary text c.args.start → IsRange text c.args.start c.args.end =
    λ ends boundary. record { utf8 = e.utf8; boundary = boundary; cut = both_ends text c.args.start c.args.end c.requires.1 ends } in
    let adds : IfSome c.args.end (λ e. IsCharBoundary text e) → IsCharBoundary text c.args.start
    → AddsTokens text c.args.start answer.0 answer.1 e.line.tokens =
    λ ends boundary. line_adds (document text options no_names) self.braces c.args.start c.args.end old.tree new.tree answer (range ends boundary) e.line in
    record {
      line = record { line = e.line; ends = e.ends; names = e.texts };
      tokens = record {
        kept = record { source = refl; more = record { names = e.names; entries = e.entries }; named = line_named e.names e.line };
        whole = line_whole e.names e.line;
        state = refl;
        boundary = λ ends boundary.
            line_ends (document text options no_names) self.braces c.args.start c.args.end old.tree new.tree answer (range ends boundary) e.line;
        order = λ ends boundary at low o.
            let to = ordered_line (document text options no_names) self.braces c.args.start c.args.end old.tree new.tree answer
            (range ends boundary)
            (state_before text old at c.args.start c.recall_forest.ensures o low) e.line in
            ordered_none text new answer.0 refl to.within to;
        may_add = λ ends boundary at low h.
            let to = ordered_line (document text options no_names) self.braces c.args.start c.args.end old.tree new.tree answer (range ends boundary)
            (state_before text old at c.args.start c.recall_forest.ensures h.read.0 low) e.line in
            may_add_tokens text old new at answer.0 e.line.tokens e.line.tree_is h (ordered_none text new answer.0 refl to.within to);
        node_bound = few_of_line e.line;
      };
      block = record {
        broken = λ ends boundary at low h.
            closed_by_break text old new c.args.start answer.0 answer.1 e.line.tokens
            (state_before text old at c.args.start c.recall_forest.ensures h.read.0 low) (adds ends boundary) e.line.tree_is refl (outside_of h);
        chain = λ ends boundary block to low h.
            chain_continues text old.tree new.tree block c.args.start answer e.line.tokens (adds ends boundary) e.line.tree_is
            (chain_later text old.tree block to c.args.start low h);
      };
    }
