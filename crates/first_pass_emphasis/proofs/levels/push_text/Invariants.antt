use Rattle.std.proofs.Common.{◌≡◌, ◌++◌, replicate}
use Rattle.first_pass_emphasis.specs.declared.role.Role.TheVariants.{Text}
use Rattle.first_pass_emphasis.proofs.levels.push_text.Given as goal

abbrev pub invariant-loop : goal.invariant-loop
invariant-loop l = l.roles.items ≡ l.fn.roles.items ++ replicate l.counter Text
