-- The states after faults.
use Rattle.std.proofs.Common.{ℕ, List, String, Result, Ok, Err, IfErr, inr}
use Rattle.first_pass_host.specs.declared.fault.RunFault.{RunFault}
use Rattle.first_pass_host.specs.declared.fault.RunFault.TheVariants.{OutOfMemory, NotUtf8, BadOptions, ReadFailed, WriteFailed}
use Rattle.first_pass_host.specs.Streams.{Stream, ReadsWhole}
use Rattle.first_pass_host.specs.declared.task.Task.{Task}
use Rattle.first_pass_host.specs.Task.{AskFor}
use Rattle.first_pass_program.specs.Bench.{FaultLeaves, LeavesText}

-- the state after a fault if the text was read to its end
leaves_read : {A : Type 0} (words : List (String A)) (input clock output : Stream) (task : Task)
    → AskFor words task → (text : List ℕ) → ReadsWhole input.old input.new text
    → (fault : RunFault) → LeavesText fault task text clock output → FaultLeaves fault words input clock output
leaves_read words input clock output task asked text whole BadOptions leaves = absurd leaves
leaves_read words input clock output task asked text whole ReadFailed leaves =
    inr (record { task = task; asked = asked; text = text; whole = whole; leaves = leaves })
leaves_read words input clock output task asked text whole OutOfMemory leaves =
    inr (record { task = task; asked = asked; text = text; whole = whole; leaves = leaves })
leaves_read words input clock output task asked text whole NotUtf8 leaves = record { task = task; asked = asked; text = text; whole = whole; leaves = leaves }
leaves_read words input clock output task asked text whole WriteFailed leaves = record {
  task = task;
  asked = asked;
  text = text;
  whole = whole;
  leaves = leaves;
}

-- the same for a result
pub if_leaves_read : {A V : Type 0} (words : List (String A)) (input clock output : Stream) (task : Task)
    → AskFor words task → (text : List ℕ) → ReadsWhole input.old input.new text
    → (result : Result V RunFault) → IfErr result (λ fault. LeavesText fault task text clock output)
    → IfErr result (λ fault. FaultLeaves fault words input clock output)
if_leaves_read words input clock output task asked text whole (Ok value) leaves = tt
if_leaves_read words input clock output task asked text whole (Err fault) leaves = leaves_read words input clock output task asked text whole fault leaves
