use Rattle.std.proofs.Common.{ℕ, List, sym, subst}
use Rattle.first_pass_grammar.proofs.Common.{Names}
use Rattle.first_pass_names.specs.TableEntries.{names_of}
use Rattle.first_pass_outline.specs.Titles.{title_of, titles}
use Rattle.first_pass_outline.proofs.Nestings.{HasEntries, no_entries, node_added, all_added}
use Rattle.first_pass_outline.proofs.TitleSteps.{titles_first, no_titles}
use Rattle.first_pass_outline.proofs.contents.contents_of.Goals as goal

pub loop-node-init : goal.loop-node-init
loop-node-init c =
    let text : List ℕ = c.args.parsed.now.text.now in
    let names : Names = names_of c.args.parsed.now.allocs in
    let all = titles text names c.args.parsed.now.tree.nodes in
    subst (λ l. HasEntries c.new-all.result (titles text names l) all) (sym c.nodes-rest.ensures)
    (no_entries c.new-all.result all c.new-all.ensures.entries c.new-all.ensures.levels c.new-all.ensures.has_text)

pub loop-node-preserved : goal.loop-node-preserved
loop-node-preserved c =
    let text : List ℕ = c.args.parsed.now.text.now in
    let names : Names = names_of c.args.parsed.now.allocs in
    let node = c.in-Some.node.now in
    let others = c.in-Some.others.now in
    node_added c.loop-node.all c.push_node.new.self (title_of text names node others) (titles text names c.loop-node.rest.now) (titles text names others) _
    (titles_first text names node others c.loop-node.rest.now c.in-Some.ensures.cases.0) c.in_ok-push_node.ensures c.loop-node.invariant

pub returns : goal.returns
returns c =
    let text : List ℕ = c.args.parsed.now.text.now in
    let names : Names = names_of c.args.parsed.now.allocs in
    let both = all_added c.loop-node.all (titles text names c.loop-node.rest.now) (titles text names c.args.parsed.now.tree.nodes)
    (no_titles text names c.loop-node.rest.now c.in_default.ensures.cases) c.loop-node.invariant in
    record { entries = both.0; at_end = both.1 }
