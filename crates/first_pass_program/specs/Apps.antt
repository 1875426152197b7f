-- The words that the program takes, as clap's contracts read them (this project).
use Rattle.std.specs.Prelude.{◌≡◌, ℕ, false, true, List, Some, codes}
use Rattle.clap.specs.Words.{App, Rule, app_of, new_app, new_rule, with_rule, with_subcommand}
use Rattle.clap.specs.declared.builder.action.ArgAction.TheVariants.{Append, SetTrue}
use Rattle.clap.specs.declared.builder.command.Command.{Command}
use Rattle.clap.specs.declared.builder.command.Command.TheViews.{out-Command}

-- what a parse reads of a command, which has no argument for all levels
pub record IsApp (app : App) (command : Command) : Type 0 where
  pub same : app_of command ≡ app
  pub local : (out-Command command).has_globals ≡ false

-- a flag, as `--json`
abbrev pub flag_rule : List ℕ → Rule
flag_rule name = record (new_rule name) { long = Some name; action = Some SetTrue }

-- an option with a value, as `--runs N`
abbrev pub value_rule : List ℕ → Rule
value_rule name = record (new_rule name) { long = Some name; value_names = 1 }

-- `-o NAMES` and `--options NAMES`, any number of them
abbrev pub options_rule : Rule
options_rule = record (new_rule (codes "options")) { short = Some 111; long = Some (codes "options"); action = Some Append; value_names = 1 }

-- a file
abbrev pub file_rule : Rule
file_rule = record (new_rule (codes "files")) { value_names = 1 }

-- any number of files
abbrev pub files_rule : Rule
files_rule = record file_rule { action = Some Append }

-- the words of a command with options and a flag for byte order marks
abbrev pub with_options : App → App
with_options app = with_rule (with_rule app options_rule) (flag_rule (codes "strip-bom"))

-- the words of a command over several files
abbrev pub with_texts : App → App
with_texts app = with_rule (with_rule (with_options app) (value_rule (codes "files-from"))) files_rule

-- the words of the command with this name that has the flag `--json`
abbrev pub json_app : List ℕ → App
json_app name = with_texts (with_rule (new_app name) (flag_rule (codes "json")))

abbrev pub blocks_app : App
blocks_app = with_texts (new_app (codes "blocks"))

abbrev pub tree_app : App
tree_app = with_texts (with_rule (with_rule (new_app (codes "tree")) (flag_rule (codes "lines"))) (flag_rule (codes "text")))

abbrev pub view_app : App
view_app = with_rule (with_options (new_app (codes "view"))) file_rule

abbrev pub bench_app : App
bench_app = with_texts (with_rule (new_app (codes "bench")) (value_rule (codes "runs")))

-- the program without its commands
abbrev pub top_app : App
top_app = record (new_app (codes "first_pass")) {
  top = record (new_app (codes "first_pass")).top {
    disable_help_subcommand = true;
    propagate_version = true;
    has_version = true;
    has_long_version = true;
    arg_required_else_help = true;
    subcommand_required = true;
  };
}

-- a program with one more command
abbrev pub with_command : App → App → App
with_command program command = with_subcommand program command.top

-- the words of the program
abbrev pub first_pass_app : App
first_pass_app =
    with_command (with_command (with_command (with_command (with_command (with_command (with_command top_app blocks_app)
    (json_app (codes "outline"))) (json_app (codes "links"))) tree_app) (json_app (codes "toc"))) view_app) bench_app
