use Rattle.std.proofs.Common.{◌∙◌, arith}
use Rattle.first_pass_links.proofs.Parts.{part-start, whole_kept, whole_differs}
use Rattle.first_pass_links.proofs.label.finish.Goals as goal

pub returns-then-from-eq0-clause-value : goal.returns-then-from-eq0-clause-value
returns-then-from-eq0-clause-value c =
    c.range.ensures.value ∙ part-start c.args.text.now c.args.at ∙ whole_kept c.args.text.now _ c.args.from c.args.at c.requires.read c.if-from-eq0.true

pub returns-clause-borrowed : goal.returns-clause-borrowed
returns-clause-borrowed c = grind (arith, whole_differs)
