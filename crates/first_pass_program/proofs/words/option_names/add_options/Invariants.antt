use Rattle.std.proofs.Common.{◌≡◌, map, Some}
use Rattle.first_pass_program.specs.OptionNames.{bits_with}
use Rattle.first_pass_program.proofs.words.option_names.add_options.Given as goal

-- the bits of the words so far
abbrev pub invariant-loop-word : goal.invariant-loop-word
invariant-loop-word l = bits_with (Some l.fn.options.0) (map (λ word. word.now) l.yielded) ≡ Some l.sum.0
