use Rattle.std.proofs.Common.{subst}
use Rattle.first_pass_names.specs.TableEntries.{names_of}
use Rattle.first_pass_c.specs.FlatAttributes.{attributes_at}
use Rattle.first_pass_c.specs.Appended.{AppendsAttributes}
use Rattle.first_pass_c.proofs.Appending.{attributes_none}
use Rattle.first_pass_c.proofs.flat.attributes.NamedAttributes.append_heading.Goals as goal

pub returns-in-None : goal.returns-in-None
returns-in-None c =
    subst (λ ix. AppendsAttributes c.args.self.now c.args.self.now (attributes_at (names_of c.args.allocs.now) ix)) c.in-None.ensures (attributes_none _)
