-- The parts of a pass: its text and options, its state between two lines, the tree in that, and what nodes name.
use Rattle.std.specs.Prelude.{ℕ, List}
use Rattle.first_pass_items.specs.declared.item.Item.{Item}
use Rattle.first_pass_items.specs.declared.option_set.Options.{Options}
use Rattle.first_pass_tree.specs.Forest.{Forest}
use Rattle.first_pass_names.specs.declared.items.Allocations.{Allocations}
use Rattle.first_pass_open.specs.declared.source.Source.{Source}
use Rattle.first_pass_kinds.specs.declared.next_front.NextFront.{NextFront}
use Rattle.first_pass_lists.specs.declared.state.PassState.{PassState}
use Rattle.first_pass_grammar.specs.Containers.{Context}
use Rattle.first_pass_open.specs.Path.{context_of}
use Rattle.first_pass_blocks.specs.declared.state.BlockPass.{BlockPass}

-- the source of a pass (this project)
abbrev pub source_of : BlockPass → Source
source_of pass = pass.source

-- the text that a pass reads (this project)
abbrev pub source_text : BlockPass → List ℕ
source_text pass = pass.source.text.now

-- its options (this project)
abbrev pub source_options : BlockPass → Options
source_options pass = pass.source.options

-- the state of a pass between two lines (this project)
abbrev pub state_of : BlockPass → PassState
state_of pass = pass.state

-- the tree in that state (this project)
abbrev pub tree_of : BlockPass → Forest Item
tree_of pass = pass.state.tree

-- what the nodes name, and the definition tables (this project)
abbrev pub allocs_of : BlockPass → Allocations
allocs_of pass = pass.allocs

-- the front of the next unread line, if it is known (this project)
abbrev pub front_of : BlockPass → NextFront
front_of pass = pass.next_front

-- the context in which a pass reads a line (CommonMark 5, and this project)
abbrev pub context_in : BlockPass → Context
context_in pass = context_of pass.source.options pass.state.tree
