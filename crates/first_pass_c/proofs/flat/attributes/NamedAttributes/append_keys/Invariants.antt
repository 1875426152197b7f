use Rattle.std.proofs.Common.{take, map}
use Rattle.first_pass_grammar.proofs.Common.{pair_in}
use Rattle.first_pass_c.specs.FlatAttributes.{key_attribute}
use Rattle.first_pass_c.specs.Appended.{AppendsAttributes}
use Rattle.first_pass_c.proofs.flat.attributes.NamedAttributes.append_keys.Given as goal

-- the keys so far are appended
abbrev pub invariant-loop-key : goal.invariant-loop-key
invariant-loop-key l = AppendsAttributes l.initial.self l.self (map key_attribute (map pair_in (take l.key-index l.keys)))
