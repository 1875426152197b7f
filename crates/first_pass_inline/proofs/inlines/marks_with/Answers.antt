use Rattle.std.proofs.Common.{◌∙◌, IfOk, IsUtf8, sym, subst}
use Rattle.first_pass_inline.specs.Marks.{AreMarks}
use Rattle.first_pass_inline.proofs.Blocks.{are_whole, same_chain}
use Rattle.first_pass_inline.proofs.inlines.marks_with.Goals as goal

pub unreachable-requires : goal.unreachable-requires
unreachable-requires c = c.in_default.ensures.cases.0 (subst IsUtf8 (sym c.bytes.ensures) c.requires.utf8)

pub marks_of-requires : goal.marks_of-requires
marks_of-requires c =
    are_whole c.new-chain.result c.args.nodes.now c.args.content.now c.args.tokens.now c.args.labels.now
    (same_chain c.new-chain.result c.args.nodes.now c.in-Ok.bytes.now c.args.content.now c.args.tokens.now c.args.labels.now c.new-chain.ensures
    (c.in-Ok.ensures.cases.0 ∙ c.bytes.ensures)) c.requires.whole

pub returns : goal.returns
returns c =
    subst (λ chain. IfOk c.marks_of.result (λ marks. AreMarks chain marks.items))
    (same_chain c.new-chain.result c.args.nodes.now c.in-Ok.bytes.now c.args.content.now c.args.tokens.now c.args.labels.now c.new-chain.ensures
    (c.in-Ok.ensures.cases.0 ∙ c.bytes.ensures)) c.marks_of.ensures
