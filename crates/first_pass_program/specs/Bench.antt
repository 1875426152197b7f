-- The input and the output of a run of the program `bench` (this project).
use Rattle.std.specs.Prelude.{◌≡◌, ◌⊎◌, ℕ, List, Option, String, IsUtf8, length}
use Rattle.std.specs.Io.KnownBytes.{Appends}
use Rattle.first_pass_items.specs.declared.option_set.Options.{Options}
use Rattle.first_pass_items.specs.declared.item.Item.{Item}
use Rattle.first_pass_grammar.specs.Names.{Names}
use Rattle.first_pass_grammar.specs.Leaves.{document}
use Rattle.first_pass_grammar.specs.Derivation.{Derives, Tables}
use Rattle.first_pass_host.specs.declared.fault.RunFault.{RunFault}
use Rattle.first_pass_host.specs.declared.fault.RunFault.TheVariants.{OutOfMemory, NotUtf8, BadOptions, ReadFailed, WriteFailed}
use Rattle.first_pass_host.specs.Streams.{Stream, IsUntouched, AppendsFront, ReadsWhole}
use Rattle.first_pass_host.specs.declared.task.Task.{Task}
use Rattle.first_pass_host.specs.Task.{AskFor}
use Rattle.first_pass_host.specs.Timing.{IsTimed}
use Rattle.first_pass_host.specs.TimingLine.{report_line}

-- the number of nodes of the tree that the block grammar derives from a text under options
pub record CountsNodes (options : Options) (text : List ℕ) (count : ℕ) : Type 0 where
  pub names : Names
  pub nodes : List (ℕ × Item)
  pub tables : Tables
  pub derived : Derives (document text options names) nodes tables
  pub counted : count ≡ length nodes

-- the line for a task on a UTF-8 text, timed between two states of a clock
pub record IsReported (task : Task) (text : List ℕ) (before after : Option (List ℕ)) (line : List ℕ) : Type 0 where
  pub utf8 : IsUtf8 text
  pub nodes : ℕ
  pub counted : CountsNodes task.options text nodes
  pub runs : ℕ
  pub nanos : ℕ
  pub first : ℕ
  pub timed : IsTimed task.runs before after runs nanos first
  pub line_is : line ≡ report_line (length text) nodes runs nanos first

-- The state of a text, a clock and a writer after a fault: nothing is written until the runs are done; after that, a
-- beginning of the line.
abbrev pub LeavesText : RunFault → Task → List ℕ → Stream → Stream → Type 0
LeavesText NotUtf8 task text clock output = (IsUtf8 text → ⊥) × IsUntouched clock × IsUntouched output
LeavesText ReadFailed task text clock output = IsUtf8 text × IsUntouched output
LeavesText OutOfMemory task text clock output = IsUtf8 text × IsUntouched output
LeavesText WriteFailed task text clock output =
    (line : List ℕ) × IsReported task text clock.old clock.new line × AppendsFront output.old output.new line
LeavesText BadOptions task text clock output = ⊥

-- a run with these words on a reader, a clock and a writer wrote the whole line
pub record WritesReport {A : Type 0} (words : List (String A)) (input clock output : Stream) : Type 0 where
  pub task : Task
  pub asked : AskFor words task
  pub text : List ℕ
  pub whole : ReadsWhole input.old input.new text
  pub line : List ℕ
  pub reported : IsReported task text clock.old clock.new line
  pub appended : Appends output.old output.new line

-- the state after a fault if the text was read to its end, with the task that the words request
pub record LeavesRead {A : Type 0} (fault : RunFault) (words : List (String A)) (input clock output : Stream) : Type 0 where
  pub task : Task
  pub asked : AskFor words task
  pub text : List ℕ
  pub whole : ReadsWhole input.old input.new text
  pub leaves : LeavesText fault task text clock output

-- the state after a fault of the reads: the words request a task, and nothing is timed or written
pub record LeavesUnread {A : Type 0} (words : List (String A)) (clock output : Stream) : Type 0 where
  pub task : Task
  pub asked : AskFor words task
  pub untimed : IsUntouched clock
  pub unwritten : IsUntouched output

-- The state of a reader, a clock and a writer after a fault: nothing is read if the words request no task, and nothing
-- is timed or written before the whole text is read.
abbrev pub FaultLeaves : {A : Type 0} → RunFault → List (String A) → Stream → Stream → Stream → Type 0
FaultLeaves BadOptions words input clock output =
    ((task : Task) → AskFor words task → ⊥) × IsUntouched input × IsUntouched clock × IsUntouched output
FaultLeaves ReadFailed words input clock output = LeavesUnread words clock output ⊎ LeavesRead ReadFailed words input clock output
FaultLeaves OutOfMemory words input clock output = LeavesUnread words clock output ⊎ LeavesRead OutOfMemory words input clock output
FaultLeaves NotUtf8 words input clock output = LeavesRead NotUtf8 words input clock output
FaultLeaves WriteFailed words input clock output = LeavesRead WriteFailed words input clock output
