use Rattle.std.proofs.Common.{refl, ap, ◌∙◌}
use Rattle.first_pass_grammar.proofs.Common.{with_first, with_footnote_label}
use Rattle.first_pass_names.specs.TableEntries.{tables_of}
use Rattle.first_pass_names.proofs.LinkLemmas.{footnote_defined}
use Rattle.first_pass_names.proofs.items.Allocations.define_footnote.Goals as goal

pub returns-clause-tables : goal.returns-clause-tables
returns-clause-tables c =
    let self = c.args.self.now in
    let copy = c.in_ok-copy_of.field-0 in
    let first = c.in_ok-insert_first.ensures.first ∙ ap (λ l. with_first self.footdefs l (record { use_count = 0 })) c.in_ok-label.ensures in
    footnote_defined self
    (record { texts = self.texts; alignments = self.alignments; headings = self.headings; refdefs = self.refdefs; footdefs = c.insert_first.new.self })
    copy c.insert_first.ensures.order first refl
    ∙ ap (with_footnote_label (tables_of self)) c.in_ok-copy_of.ensures.same
