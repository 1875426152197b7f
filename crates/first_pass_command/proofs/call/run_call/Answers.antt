use Rattle.std.proofs.Common.{rules, subst, sym}
use Rattle.first_pass_command.proofs.Lists.{list_is_read}
use Rattle.first_pass_command.specs.Calls.{call_setting}
use Rattle.first_pass_command.proofs.call.run_call.Goals as goal

pub returns-in-Ok : goal.returns-in-Ok
returns-in-Ok g c =
    let held = subst (λ b. g.S.Source.holds c.args.shell.now.source c.in-Some.name.now b) (sym c.as_slice.ensures.value) c.in-Ok.ensures in
    list_is_read
    (call_setting (g.S.Source.holds c.args.shell.now.source) c.args.shell.now.template.now (g.C.TimeSource.readings c.args.shell.now.clock) c.args.call.now)
    c.args.call.now c.in-Some.name c.as_slice.result.now _ _ _ (search rules) held c.run_listed-in-Ok.ensures
