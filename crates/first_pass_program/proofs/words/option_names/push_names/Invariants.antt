use Rattle.std.proofs.Common.{◌≡◌, ◌==◌, ◌++◌, not, length, map, take}
use Rattle.std.specs.Prelude.{string_bytes}
use Rattle.first_pass_program.specs.OptionNames.{entries_on, joined}
use Rattle.first_pass_program.proofs.words.option_names.push_names.Given as goal

-- the names of the entries so far
abbrev pub invariant-loop-entry : goal.invariant-loop-entry
invariant-loop-entry l =
    let on = entries_on l.bits (map (λ e. (e.0.now, e.1)) (take l.entry-index l.entries)) in
    (string_bytes l.names ≡ string_bytes l.initial.names ++ joined on) × (l.some ≡ not (length on == 0))
