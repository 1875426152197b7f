use Rattle.std.proofs.Common.{length}
use Rattle.first_pass_program.proofs.words.option_names.+is_named.Given as goal

abbrev pub decreases-is_named : goal.decreases-is_named
decreases-is_named l = length l.word.now
