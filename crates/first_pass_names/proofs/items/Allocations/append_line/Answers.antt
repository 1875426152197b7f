use Rattle.std.proofs.Common.{refl}
use Rattle.first_pass_names.specs.TableEntries.{names_of}
use Rattle.first_pass_names.proofs.NameLemmas.{more_extends}
use Rattle.first_pass_names.proofs.items.Allocations.append_line.Goals as goal

pub returns-clause-names : goal.returns-clause-names
returns-clause-names c =
    more_extends (names_of (record c.args.self.now { texts = c.append_line.new.texts }))
    (names_of c.args.self.now) c.append_line.result refl refl c.append_line.ensures.more
