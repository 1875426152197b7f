use Rattle.std.proofs.Common.{◌≡◌, map, drop}
use Rattle.first_pass_program.specs.OptionNames.{bits_among}
use Rattle.first_pass_program.proofs.words.option_names.bits_among.Given as goal

-- the rest of the entries has the bits
abbrev pub invariant-loop-entry : goal.invariant-loop-entry
invariant-loop-entry l = bits_among (map (λ e. (e.0.now, e.1)) (drop l.entry-index l.entries)) l.word ≡ bits_among (map (λ e. (e.0.now, e.1)) l.entries) l.word
