use Rattle.std.proofs.Common.{subst, sym, option_map}
use Rattle.first_pass_c.specs.FlatAttributes.{id_attributes}
use Rattle.first_pass_c.specs.Appended.{AppendsAttributes}
use Rattle.first_pass_c.proofs.Appending.{attributes_none}
use Rattle.first_pass_c.proofs.flat.attributes.NamedAttributes.append_id.Goals as goal

pub returns-in-None : goal.returns-in-None
returns-in-None c =
    subst (λ id. AppendsAttributes c.args.self.now c.args.self.now (id_attributes (option_map (λ text. text.now) id))) (sym c.in-None.is) (attributes_none _)
