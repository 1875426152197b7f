use Rattle.std.proofs.Common.{IsUtf8, rules}
use Rattle.first_pass_chains.proofs.SequenceChains.{chains_in_order}
use Rattle.first_pass_grammar.proofs.Common.{document}
use Rattle.first_pass_names.specs.TableEntries.{names_of, tables_of}
use Rattle.first_pass_linked.proofs.Reports.{front_written, lines_are_there, node_lines_of, whole_written}
use Rattle.first_pass_linked.proofs.links.LinkReportReport.write_report.Goals as goal

pub write_links-requires : goal.write_links-requires
write_links-requires g c =
    let d = document c.args.subject.text.now c.args.subject.options (names_of c.in_ok-tree.allocs) in
    let utf8 : IsUtf8 c.args.subject.text.now = search rules in
    chains_in_order d c.in_ok-tree.tree.nodes (tables_of c.in_ok-tree.allocs) utf8 c.in_ok-tree.ensures

pub returns-clause-ok : goal.returns-clause-ok
returns-clause-ok g c =
    let text = c.args.subject.text.now in
    let options = c.args.subject.options in
    let allocs = c.in_ok-tree.allocs in
    let nodes = c.in_ok-tree.tree.nodes in
    whole_written (g.F.LineForm.forms c.args.self.now.1) text options allocs nodes c.in_ok-tree.ensures _ _ _
    (c.write_links.ensures (node_lines_of (g.F.LineForm.forms c.args.self.now.1) text options allocs nodes) (lines_are_there (g.F.LineForm.forms c.args.self.now.1) text options allocs nodes))

pub returns-clause-fault : goal.returns-clause-fault
returns-clause-fault g c =
    let text = c.args.subject.text.now in
    let options = c.args.subject.options in
    let allocs = c.in_ok-tree.allocs in
    let nodes = c.in_ok-tree.tree.nodes in
    front_written (g.F.LineForm.forms c.args.self.now.1) text options allocs nodes c.in_ok-tree.ensures _ _ _
    (c.write_links.ensures (node_lines_of (g.F.LineForm.forms c.args.self.now.1) text options allocs nodes) (lines_are_there (g.F.LineForm.forms c.args.self.now.1) text options allocs nodes))
