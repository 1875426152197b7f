use Rattle.std.proofs.Common.{◌≡◌, map, take}
use Rattle.first_pass_grammar.proofs.Common.{read_nodes}
use Rattle.first_pass_names.specs.TableEntries.{names_of}
use Rattle.first_pass_outline.specs.Outline.{outline_of}
use Rattle.first_pass_outline.specs.Entries.{entry_in}
use Rattle.first_pass_outline.proofs.outline.outline.Given as goal

-- the entries so far
abbrev pub invariant-loop-node : goal.invariant-loop-node
invariant-loop-node l = map entry_in l.entries.items ≡ outline_of (read_nodes (names_of l.allocs) (take l.node-index l.node-items))
