use Rattle.std.proofs.Common.{subst, sym, unwrap_or, option_map}
use Rattle.first_pass_grammar.proofs.Common.{no_attributes}
use Rattle.first_pass_attributes.specs.Attributes.{attributes_in}
use Rattle.first_pass_c.specs.FlatAttributes.{listed}
use Rattle.first_pass_c.specs.Appended.{AppendsAttributes}
use Rattle.first_pass_c.proofs.Appending.{attributes_none}
use Rattle.first_pass_c.proofs.flat.attributes.NamedAttributes.append_given.Goals as goal

pub returns-in-None : goal.returns-in-None
returns-in-None c =
    subst (λ o. AppendsAttributes c.args.self.now c.args.self.now (listed (unwrap_or (option_map (λ h. attributes_in h.now) o) no_attributes)))
    (sym c.in-None.is) (attributes_none _)
