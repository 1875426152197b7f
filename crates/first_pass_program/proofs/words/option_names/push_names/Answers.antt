use Rattle.std.proofs.Common.{get_or, rules, string_bytes}
use Rattle.first_pass_program.proofs.OptionLemmas.{names_more}
use Rattle.first_pass_program.proofs.words.option_names.push_names.Goals as goal

-- one more name
pub loop-entry-preserved : goal.loop-entry-preserved
loop-entry-preserved c =
    names_more c.args.bits c.args.entries.now c.loop-entry.entry-index (get_or c.args.entries.now c.loop-entry.entry-index _)
    (string_bytes c.args.names.now) (string_bytes c.loop-entry.names) _ c.loop-entry.some (search rules, search rules) (search rules)
    c.loop-entry.invariant c.in_ok-push_name.ensures
