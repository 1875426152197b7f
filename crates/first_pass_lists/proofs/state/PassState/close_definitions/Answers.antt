use Rattle.std.proofs.Common.{refl, sym, ◌∙◌}
use Rattle.first_pass_lists.proofs.MovedLemmas.{child_after}
use Rattle.first_pass_lists.proofs.state.PassState.close_definitions.Goals as goal

pub move_out-requires : goal.move_out-requires
move_out-requires c =
    child_after c.args.self.now c.close_innermost.new.self c.args.end c.args.self.now.tree.spine c.in-Some.ix c.recall_forest.ensures refl c.requires
    (sym c.cur-last.ensures ∙ c.in-Some.is) c.close_innermost.ensures
