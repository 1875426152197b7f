use Rattle.std.proofs.Common.{subst}
use Rattle.first_pass_c.specs.FlatAttributes.{class_attribute}
use Rattle.first_pass_c.specs.Appended.{AppendsAttributes}
use Rattle.first_pass_c.proofs.Appending.{attributes_none, attributes_more, twice_more}
use Rattle.first_pass_c.proofs.flat.attributes.NamedAttributes.append_classes.Goals as goal

pub loop-class-init : goal.loop-class-init
loop-class-init c = attributes_none _

pub loop-class-preserved : goal.loop-class-preserved
loop-class-preserved c =
    subst (AppendsAttributes c.args.self.now c.append.new.self)
    (twice_more class_attribute (λ class. class.now) c.args.classes.now c.loop-class.class-index _ c.loop-class-test.true)
    (attributes_more _ _ _ _ _ c.loop-class.invariant c.in_ok-append.ensures)
