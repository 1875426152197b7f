use Rattle.std.proofs.Common.{map, subst}
use Rattle.first_pass_grammar.proofs.Common.{on_ok_weaker, pair_in}
use Rattle.first_pass_c.specs.FlatAttributes.{class_attribute, key_attribute}
use Rattle.first_pass_c.specs.Appended.{AppendsAttributes}
use Rattle.first_pass_c.proofs.Appending.{attributes_more}
use Rattle.first_pass_c.proofs.flat.attributes.NamedAttributes.append_attributes.Goals as goal

pub returns : goal.returns
returns c =
    on_ok_weaker c.append_keys.result
    (λ keys. attributes_more _ _ _ _ _ c.in_ok-append_id.ensures
    (attributes_more _ _ _ _ _
    (subst (λ l. AppendsAttributes c.append_id.new.self c.append_classes.new.self (map class_attribute (map (λ class. class.now) l))) c.deref.ensures.value
    c.in_ok-append_classes.ensures)
    (subst (λ l. AppendsAttributes c.append_classes.new.self c.append_keys.new.self (map key_attribute (map pair_in l))) c.deref-2.ensures.value keys)))
    c.append_keys.ensures
