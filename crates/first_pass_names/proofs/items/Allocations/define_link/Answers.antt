use Rattle.std.proofs.Common.{refl}
use Rattle.first_pass_names.proofs.LinkLemmas.{link_defined}
use Rattle.first_pass_names.proofs.items.Allocations.define_link.Goals as goal

pub returns-clause-tables : goal.returns-clause-tables
returns-clause-tables c =
    let self = c.args.self.now in
    link_defined self
    (record { texts = self.texts; alignments = self.alignments; headings = self.headings; refdefs = c.insert_first.new.self; footdefs = self.footdefs })
    c.args.label c.args.definition
    c.insert_first.ensures.order c.in_ok-insert_first.ensures.first refl
