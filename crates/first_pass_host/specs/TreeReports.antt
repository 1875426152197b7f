-- The output of a program whose lines are those of a text's tree (this project).
use Rattle.std.specs.Prelude.{◌≡◌, ℕ, List}
use Rattle.first_pass_items.specs.declared.option_set.Options.{Options}
use Rattle.first_pass_items.specs.declared.item.Item.{Item}
use Rattle.first_pass_grammar.specs.Names.{Names}
use Rattle.first_pass_grammar.specs.Leaves.{document}
use Rattle.first_pass_grammar.specs.Derivation.{Derives, Tables}

-- the lines that a program has for a text with its names, nodes and tables
abbrev pub Lines : Type 0
Lines = List ℕ → Names → List (ℕ × Item) → Tables → List ℕ

-- the whole output for a text under options: these lines of the nodes and tables that the grammar derives
pub record AreTreeLines (lines : Lines) (options : Options) (text output : List ℕ) : Type 0 where
  pub names : Names
  pub nodes : List (ℕ × Item)
  pub tables : Tables
  pub derived : Derives (document text options names) nodes tables
  pub written : output ≡ lines text names nodes tables
