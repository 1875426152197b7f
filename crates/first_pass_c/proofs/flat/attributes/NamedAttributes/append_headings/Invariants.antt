use Rattle.std.proofs.Common.{take, flat_map}
use Rattle.first_pass_names.specs.TableEntries.{names_of}
use Rattle.first_pass_c.specs.FlatAttributes.{attributes_by}
use Rattle.first_pass_c.specs.Appended.{AppendsAttributes}
use Rattle.first_pass_c.proofs.flat.attributes.NamedAttributes.append_headings.Given as goal

-- the attributes of the nodes so far are appended
abbrev pub invariant-loop-node : goal.invariant-loop-node
invariant-loop-node l = AppendsAttributes l.initial.self l.self (flat_map (attributes_by (names_of l.allocs)) (take l.node-index l.nodes))
