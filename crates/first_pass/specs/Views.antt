-- The parts of a pass: its text and options, its state between two lines with the tree, and its tables of entries.
use Rattle.std.specs.Prelude.{ℕ, Bool, List}
use Rattle.first_pass_items.specs.declared.item.Item.{Item}
use Rattle.first_pass_items.specs.declared.option_set.Options.{Options}
use Rattle.first_pass_tree.specs.Forest.{Forest, in_table}
use Rattle.first_pass_names.specs.declared.items.Allocations.{Allocations}
use Rattle.first_pass_names.specs.TableEntries.{names_of}
use Rattle.first_pass_tokens.specs.Braces.{MathBraces}
use Rattle.first_pass_open.specs.declared.source.Source.{Source}
use Rattle.first_pass_lists.specs.declared.state.PassState.{PassState}
use Rattle.first_pass_grammar.specs.Containers.{Context}
use Rattle.first_pass_grammar.specs.Leaves.{Document, document}
use Rattle.first_pass_open.specs.Path.{context_of}
use Rattle.first_pass_blocks.specs.declared.state.BlockPass.{BlockPass}
use Rattle.first_pass.specs.declared.state.FirstPass.{FirstPass}

-- the pass over blocks
abbrev pub pass_of : FirstPass → BlockPass
pass_of pass = pass.pass

abbrev pub source_of : FirstPass → Source
source_of pass = pass.pass.source

abbrev pub source_text : FirstPass → List ℕ
source_text pass = pass.pass.source.text.now

abbrev pub source_options : FirstPass → Options
source_options pass = pass.pass.source.options

abbrev pub state_of : FirstPass → PassState
state_of pass = pass.pass.state

abbrev pub tree_of : FirstPass → Forest Item
tree_of pass = pass.pass.state.tree

abbrev pub allocs_of : FirstPass → Allocations
allocs_of pass = pass.pass.allocs

-- the brace contexts at the start of a line that is read on its own (this project)
abbrev pub braces_of : FirstPass → MathBraces
braces_of pass = pass.braces

-- the context in which the pass reads a line
abbrev pub context_in : FirstPass → Context
context_in pass = context_of pass.pass.source.options pass.pass.state.tree

-- the innermost open node is in a table (this project)
abbrev pub is_nested : FirstPass → Bool
is_nested pass = in_table pass.pass.state.tree.nodes pass.pass.state.tree.spine

-- the text and the options of the first pass, with the names of the second
abbrev pub document_named : FirstPass → FirstPass → Document
document_named old new = document old.pass.source.text.now old.pass.source.options (names_of new.pass.allocs)

-- the state with another tree
abbrev pub with_tree : PassState → Forest Item → PassState
with_tree r tree = record r { tree = tree }
