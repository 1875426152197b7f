use Rattle.std.proofs.Common.{◌+◌, ◌≤◌, ℕ, List, length, drop, Option, Some, None, IfSome, IsCharBoundary, sym, ap, subst, ◌∙◌, arith, length-take-le}
use Rattle.first_pass_grammar.proofs.Common.{false≢true, line_len, text_upto}
use Rattle.first_pass.proofs.Common.{ordered_at_later, more_whole}
use Rattle.first_pass_blocks.proofs.Common.{named_more, names_of, extends_both, extends_alignments, line_stops}
use Rattle.first_pass.specs.Views.{allocs_of, tree_of}
use Rattle.first_pass.proofs.Chains.{chain_later}
use Rattle.first_pass.proofs.Adding.{may_add_later}
use Rattle.first_pass.proofs.OrderJoin.{before_cut, front_of}
use Rattle.first_pass.proofs.state.FirstPass.append_possible_head.Goals as goal

upto_within : (text : List ℕ) (start : ℕ) (end : Option ℕ) → IfSome end (λ e. (start ≤ e) × (e ≤ length text)) → length (text_upto text end) ≤ length text
upto_within text start None h = omega arith
upto_within text start (Some e) h = let n = length-take-le e text h.1 in let k = h.1 in omega arith

pub returns-clause-tokens : goal.returns-clause-tokens
returns-clause-tokens c =
    let text = c.args.self.now.pass.source.text.now in
    let next = c.in_ok-next.next in
    let e = c.in_ok-next.ensures.line.tokens in
    let mid = names_of (allocs_of c.append_content.new.self) in
    let last = names_of c.allocate_alignment.new.self in
    let grown = extends_alignments mid last c.in-Some.head.alignments.items c.in_ok-index.ensures.names in
    let all = upto_within text c.args.start c.args.end c.requires.1 in
    let same = ap length c.text_upto-bytes.ensures.value in
    let within = c.next_line.ensures.within in
    let value = c.next_line.ensures.value in
    let later : next ≤ c.next_line.result = omega arith in
    let node_bound = e.node_bound in
    record {
      kept = record {
        source = e.kept.source;
        more = record {
          names = extends_both last mid (names_of (allocs_of c.args.self.now)) grown e.kept.more.names;
          entries = c.in_ok-index.ensures.entries ∙ e.kept.more.entries;
        };
        named = λ h. named_more last mid (tree_of c.append_content.new.self).nodes grown (e.kept.named h);
      };
      whole = λ named h. more_whole last mid (tree_of c.append_content.new.self) grown (e.kept.named named) (e.whole named h);
      state = e.state;
      boundary = λ ends boundary.
          let there = value ∙ ap (λ t. next + line_len (drop next t)) c.text_upto-bytes.ensures.value in
          let place = c.in_ok-next.ensures.place in
          let f = front_of text next c.args.end
          (record { utf8 = place.utf8; boundary = e.boundary ends boundary; cut = before_cut text c.args.end next ends place.within }) in
          subst (IsCharBoundary text) (sym there) (f.place _ (line_stops (text_upto text c.args.end) next f.utf8 f.boundary));
      order = λ ends boundary at low o.
          ordered_at_later text c.append_content.new.self.pass.state next c.next_line.result later (omega arith) (e.order ends boundary at low o);
      may_add = λ ends boundary at low h.
          may_add_later text c.append_content.new.self.pass.state next c.next_line.result later (omega arith) (e.may_add ends boundary at low h);
      node_bound = omega arith;
    }

pub returns-clause-block : goal.returns-clause-block
returns-clause-block c =
    let text = c.args.self.now.pass.source.text.now in
    let next = c.in_ok-next.next in
    let within = c.next_line.ensures.within in
    let value = c.next_line.ensures.value in
    let later : next ≤ c.next_line.result = omega arith in
    let e = c.in_ok-next.ensures.line.block in
    record {
      broken = λ ends boundary at low h kind. absurd (false≢true kind);
      chain = λ ends boundary block to low h. record {
        chain = chain_later text (tree_of c.append_content.new.self) block next c.next_line.result later (e.chain ends boundary block to low h).chain;
        broken = λ kind. absurd (false≢true kind);
      };
    }
