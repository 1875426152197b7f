use Rattle.std.proofs.Common.{subst}
use Rattle.first_pass_grammar.proofs.Common.{pair_in}
use Rattle.first_pass_c.specs.FlatAttributes.{key_attribute}
use Rattle.first_pass_c.specs.Appended.{AppendsAttributes}
use Rattle.first_pass_c.proofs.Appending.{attributes_none, attributes_more, twice_more}
use Rattle.first_pass_c.proofs.flat.attributes.NamedAttributes.append_keys.Goals as goal

pub loop-key-init : goal.loop-key-init
loop-key-init c = attributes_none _

pub loop-key-preserved : goal.loop-key-preserved
loop-key-preserved c =
    subst (AppendsAttributes c.args.self.now c.append.new.self)
    (twice_more key_attribute pair_in c.args.keys.now c.loop-key.key-index _ c.loop-key-test.true)
    (attributes_more _ _ _ _ _ c.loop-key.invariant c.in_ok-append.ensures)
