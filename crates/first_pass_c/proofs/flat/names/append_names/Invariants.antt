use Rattle.std.proofs.Common.{◌≡◌, ◌++◌, take, flat_map}
use Rattle.first_pass_names.specs.TableEntries.{names_of}
use Rattle.first_pass_c.specs.FlatNodes.{name_by}
use Rattle.first_pass_c.proofs.flat.names.append_names.Given as goal

-- the bytes that the nodes so far name are appended
abbrev pub invariant-loop-node : goal.invariant-loop-node
invariant-loop-node l = l.names.items ≡ l.initial.names.items ++ flat_map (name_by (names_of l.allocs)) (take l.node-index l.nodes)
