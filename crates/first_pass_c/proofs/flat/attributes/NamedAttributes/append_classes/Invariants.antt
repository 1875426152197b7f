use Rattle.std.proofs.Common.{take, map}
use Rattle.first_pass_c.specs.FlatAttributes.{class_attribute}
use Rattle.first_pass_c.specs.Appended.{AppendsAttributes}
use Rattle.first_pass_c.proofs.flat.attributes.NamedAttributes.append_classes.Given as goal

-- the classes so far are appended
abbrev pub invariant-loop-class : goal.invariant-loop-class
invariant-loop-class l = AppendsAttributes l.initial.self l.self (map class_attribute (map (λ class. class.now) (take l.class-index l.classes)))
