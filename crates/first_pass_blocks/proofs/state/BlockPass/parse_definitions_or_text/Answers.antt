use Rattle.std.proofs.Common.{refl, ap, ◌∙◌}
use Rattle.first_pass_grammar.proofs.Common.{Place}
use Rattle.first_pass_blocks.proofs.Common.{list_finished}
use Rattle.first_pass_blocks.proofs.Leaves.KindBlocks.{stands_at}
use Rattle.first_pass_blocks.proofs.Leaves.TextLemmas.{RunRead, run_read, run_line, run_text_or_title}
use Rattle.first_pass_blocks.specs.declared.definition.RunEnd.TheVariants.{Paragraph}
use Rattle.first_pass_blocks.proofs.BlockRead.{state_at}
use Rattle.first_pass_blocks.proofs.state.BlockPass.parse_definitions_or_text.Goals.{In-Paragraph}
use Rattle.first_pass_blocks.proofs.state.BlockPass.parse_definitions_or_text.Goals as goal

pub parse_definitions-requires-clause-boundary : goal.parse_definitions-requires-clause-boundary
parse_definitions-requires-clause-boundary c = (stands_at c.requires.here.utf8 c.requires.here.place c.requires.at).boundary

pub returns-in-NextLine-clause-block : goal.returns-in-NextLine-clause-block
returns-in-NextLine-clause-block c =
    let p : Place = c.args.place in
    let here = state_at c.requires.here c.recall_forest.ensures in
    let e = c.in_ok-line.ensures in
    run_line c.args.self.now c.parse_definitions.new.self _ p c.in-NextLine.line c.in-NextLine.next here c.requires.kind
    (run_read c.args.self.now _ p _ c.args.at _ _ here (ap (λ (q : Place). q.line) c.place.view_is) c.requires.at e c.in-NextLine.is) refl refl
    (c.finish_list.ensures ∙ ap (list_finished c.in-NextLine.line) e.kept.state)

-- the link reference definitions before a paragraph
run_before : (c : In-Paragraph) → RunRead c.args.self.now c.parse_definitions.new.self c.args.place (Paragraph c.in-Paragraph.text)
run_before c =
    run_read c.args.self.now _ c.args.place _ c.args.at _ _ (state_at c.requires.here c.recall_forest.ensures)
    (ap (λ (q : Place). q.line) c.place.view_is) c.requires.at c.in_ok-line.ensures c.in-Paragraph.is

pub parse_text_or_title-requires : goal.parse_text_or_title-requires
parse_text_or_title-requires c =
    let run = (run_before (goal.at.parse_text_or_title-requires c).In-Paragraph).run in
    rw (c.in_ok-line.ensures.kept.source, run.says) run.stands.boundary

pub returns-clause-block : goal.returns-clause-block
returns-clause-block c =
    run_text_or_title c.args.self.now c.parse_definitions.new.self _ c.args.place c.in-Paragraph.text c.in_ok-next-in-Paragraph.next
    (state_at c.requires.here c.recall_forest.ensures) c.requires.kind (run_before (goal.at.returns-clause-block c).In-Paragraph)
    c.in_ok-next-in-Paragraph.ensures.text
