use Rattle.std.proofs.Common.{Some, sym, refl, ◌∙◌}
use Rattle.first_pass_places.proofs.RangeBoundaries.{name_between, other_name}
use Rattle.first_pass_places.proofs.name.name_range_in.Goals as goal

pub returns-in-FencedCodeBlock-clause-boundary : goal.returns-in-FencedCodeBlock-clause-boundary
returns-in-FencedCodeBlock-clause-boundary c =
    name_between c.args.text.now c.args.node.now (Some c.info_range.result)
    (rw (c.info_range.ensures.value, c.in-FencedCodeBlock.is) refl) c.requires.order c.requires.within

pub returns-in-FootnoteDefinition-clause-boundary : goal.returns-in-FootnoteDefinition-clause-boundary
returns-in-FootnoteDefinition-clause-boundary c =
    name_between c.args.text.now c.args.node.now (Some c.label_range.result)
    (rw (c.label_range.ensures.value, c.in-FootnoteDefinition.is) refl) c.requires.order c.requires.within

pub returns-in_default-clause-boundary : goal.returns-in_default-clause-boundary
returns-in_default-clause-boundary c =
    name_between c.args.text.now c.args.node.now c.attribute_block_range_in.result
    (c.attribute_block_range_in.ensures.value
    ∙ sym (other_name c.args.node.now.body c.args.text.now c.args.node.now c.in_default.not-FencedCodeBlock c.in_default.not-FootnoteDefinition))
    c.requires.order c.requires.within
