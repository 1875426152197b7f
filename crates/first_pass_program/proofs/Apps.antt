-- Commands and their arguments, as a parse reads them.
use Rattle.std.proofs.Common.{◌≡◌, ◌∙◌, ◌||◌, ap, ap₂, false, Bool}
use Rattle.clap.specs.Words.{AddsArg, AddsSubcommand, App, Rule, rule_of, with_rule, with_subcommand}
use Rattle.clap.specs.declared.builder.arg.Arg.{Arg}
use Rattle.clap.specs.declared.builder.command.Command.{Command}
use Rattle.first_pass_program.specs.Apps.{IsApp, with_command}

-- a command with one more argument
pub adds_rule : (old new : Command) (a : Arg) (app : App) (rule : Rule) → IsApp app old → AddsArg old a new → a.global ≡ false → rule_of a ≡ rule
    → IsApp (with_rule app rule) new
adds_rule old new a app rule is adds local rule_is = record {
  same = adds.shape local ∙ ap₂ with_rule is.same rule_is;
  local = adds.globals ∙ ap₂ (λ (x y : Bool). x || y) is.local local;
}

-- a program with one more command
pub adds_command : (old new sub : Command) (program command : App) → IsApp program old → IsApp command sub → AddsSubcommand old sub new
    → IsApp (with_command program command) new
adds_command old new sub program command is is_sub adds = record {
  same = adds.shape is_sub.local ∙ ap₂ with_subcommand is.same (ap (λ (a : App). a.top) is_sub.same);
  local = adds.globals ∙ ap₂ (λ (x y : Bool). x || y) is.local is_sub.local;
}
