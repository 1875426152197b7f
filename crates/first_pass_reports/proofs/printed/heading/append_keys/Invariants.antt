use Rattle.std.proofs.Common.{◌≡◌, ◌++◌, take, map}
use Rattle.first_pass_grammar.proofs.Common.{pair_in}
use Rattle.first_pass_reports.specs.HeadingValues.{key_values}
use Rattle.first_pass_reports.proofs.printed.heading.append_keys.Given as goal

-- the keys so far are written
abbrev pub invariant-loop-pair : goal.invariant-loop-pair
invariant-loop-pair l = l.line.items ≡ l.initial.line.items ++ key_values (map pair_in (take l.pair-index l.pairs))
