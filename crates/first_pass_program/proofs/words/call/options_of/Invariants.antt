use Rattle.std.proofs.Common.{◌≡◌, map, take, Some}
use Rattle.std.specs.List.{flat_map}
use Rattle.first_pass_program.specs.OptionNames.{bits_with, words_in}
use Rattle.first_pass_program.proofs.words.call.options_of.Given as goal

-- the bits of the lists so far
abbrev pub invariant-loop-list : goal.invariant-loop-list
invariant-loop-list l = bits_with (Some 0) (flat_map words_in (map (λ list. list.now) (take l.list-index l.lists))) ≡ Some l.options.0
