use Rattle.std.proofs.Common.{rules}
use Rattle.first_pass_command.proofs.Lists.{runs_as}
use Rattle.first_pass_program.specs.declared.words.call.Form.TheVariants.{Text}
use Rattle.first_pass_program.specs.declared.words.call.ReportName.TheVariants.{Blocks, Outline, Links, Tree, Toc, View, Bench}
use Rattle.first_pass_command.proofs.call.run_names.Goals as goal

pub returns-in-Blocks : goal.returns-in-Blocks
returns-in-Blocks g c =
    runs_as _ c.args.shell.now.template.now (g.C.TimeSource.readings c.args.shell.now.clock) c.args.call.now Blocks c.args.names.now _ _ _
    c.in-Blocks.is c.run_text.ensures

pub returns-in-Outline-Text : goal.returns-in-Outline-Text
returns-in-Outline-Text g c =
    runs_as _ c.args.shell.now.template.now (g.C.TimeSource.readings c.args.shell.now.clock) c.args.call.now (Outline Text) c.args.names.now _ _ _
    (search rules) c.run_text-in-Outline-Text.ensures

pub returns-in-Links-Text : goal.returns-in-Links-Text
returns-in-Links-Text g c =
    runs_as _ c.args.shell.now.template.now (g.C.TimeSource.readings c.args.shell.now.clock) c.args.call.now (Links Text) c.args.names.now _ _ _
    (search rules) c.run_text-in-Links-Text.ensures

pub returns-in-Tree : goal.returns-in-Tree
returns-in-Tree g c =
    runs_as _ c.args.shell.now.template.now (g.C.TimeSource.readings c.args.shell.now.clock) c.args.call.now (Tree c.in-Tree.lines c.in-Tree.text)
    c.args.names.now _ _ _
    c.in-Tree.is c.run_tree.ensures

pub returns-in-Toc-Text : goal.returns-in-Toc-Text
returns-in-Toc-Text g c =
    runs_as _ c.args.shell.now.template.now (g.C.TimeSource.readings c.args.shell.now.clock) c.args.call.now (Toc Text) c.args.names.now _ _ _
    (search rules) c.run_text-in-Toc-Text.ensures

pub returns-in-View : goal.returns-in-View
returns-in-View g c =
    runs_as _ c.args.shell.now.template.now (g.C.TimeSource.readings c.args.shell.now.clock) c.args.call.now View c.args.names.now _ _ _
    c.in-View.is c.run_files.ensures

pub returns-in-Bench : goal.returns-in-Bench
returns-in-Bench g c =
    runs_as _ c.args.shell.now.template.now (g.C.TimeSource.readings c.args.shell.now.clock) c.args.call.now (Bench c.in-Bench.runs) c.args.names.now _ _ _
    c.in-Bench.is c.run_bench.ensures
