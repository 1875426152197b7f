use Rattle.std.proofs.Common.{◌≡◌, ℕ, ◌+◌, List, drop, Some, IsCharBoundary, rules, refl, sym, ap, subst, ◌∙◌, arith, option_map}
use Rattle.first_pass_grammar.proofs.Common.{HeadingLevel, setext_underline, some_mapped}
use Rattle.first_pass_blocks.proofs.Common.{extends_none, line_end_at, line_stops}
use Rattle.first_pass.proofs.CallsNamed.{heading_named}
use Rattle.first_pass.proofs.CutOrder.{heading_may_add, heading_ordered}
use Rattle.first_pass.proofs.LineLengths.{underline_line}
use Rattle.first_pass.proofs.state.FirstPass.parse_setext_heading.Goals as goal

pub returns-in_default : goal.returns-in_default
returns-in_default c = record {
  kept = record {
    entries = record { source = refl; more = record { names = extends_none _; entries = refl }; named = λ h. h };
    braces = refl;
  };
  state = refl;
  value = search rules;
  heading = search rules;
  line_end = tt;
  boundary = λ begins. tt;
  node_bound = omega arith;
  order = λ at holds o. o;
  may_add = λ at to holds h. h;
}

pub returns : goal.returns
returns c =
    let e = c.in_ok-make_heading.ensures in
    let text = c.args.self.now.pass.source.text.now in
    let ix = c.args.ix in
    let left : List ℕ = drop ix text in
    let size = c.in-Some.length in
    let value : Some (ix + size) ≡ option_map (λ (u : ℕ × HeadingLevel). ix + u.0) (setext_underline left) = search rules in
    let (u, is, same) = some_mapped (λ (u : ℕ × HeadingLevel). ix + u.0) (setext_underline left) (ix + size) (sym value) in
    let there : ix + size ≡ line_end_at text ix = sym same ∙ ap (λ n. ix + n) (underline_line left u is) in
    record {
      kept = record { entries = record { source = refl; more = e.more; named = heading_named e.more.names e.heading }; braces = refl };
      state = refl;
      value = value;
      heading = search rules;
      line_end = there;
      boundary = λ begins. subst (IsCharBoundary text) (sym there) (line_stops text ix c.recall_utf8.ensures begins);
      node_bound = e.node_bound;
      order = λ at holds o. heading_ordered c.requires.open e.heading holds o;
      may_add = λ at to holds h. heading_may_add c.args.self.now.pass.state c.make_heading.new.tree at to c.recall_forest.ensures e.heading holds h;
    }
