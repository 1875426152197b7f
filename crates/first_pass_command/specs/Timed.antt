-- The line of timed runs of the pass (this project).
use Rattle.std.specs.Prelude.{ℕ, List, Option}
use Rattle.first_pass_items.specs.declared.option_set.Options.{Options}
use Rattle.first_pass_program.specs.Bench.{IsReported}

-- a line is that of runs on a text under options, as many as are asked for, from these readings of a clock on
pub record IsTimedLine (runs : Option ℕ) (clock : Option (List ℕ)) (options : Options) (text line : List ℕ) : Type 0 where
  pub after : Option (List ℕ)
  pub reported : IsReported (record { options = options; runs = runs }) text clock after line
