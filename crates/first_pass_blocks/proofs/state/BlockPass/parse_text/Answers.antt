use Rattle.std.proofs.Common.{ap, sym, ◌∙◌, option_map}
use Rattle.first_pass_blocks.proofs.Common.{names_of}
use Rattle.first_pass_blocks.proofs.Leaves.TextsAre.{plain_text_added}
use Rattle.first_pass_blocks.proofs.state.BlockPass.parse_text.Goals as goal

pub returns-in_ok-next-in-None-clause-block : goal.returns-in_ok-next-in-None-clause-block
returns-in_ok-next-in-None-clause-block c =
    plain_text_added c.args.self.now.source.text.now c.args.self.now.source.options
    (names_of c.parse_paragraph.new.allocs) c.args.start_ix c.args.tasklist_marker.now c.args.self.now.state.tree c.parse_paragraph.new.tree
    c.in_ok-next-in-None.next (sym c.in_ok-table.ensures.value ∙ ap (option_map (λ t. t.alignments.items)) c.in-None.is) c.in_ok-next-in-None.ensures.block
