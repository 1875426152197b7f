use Rattle.std.proofs.Common.{◌∙◌, ap, subst}
use Rattle.first_pass_content.specs.Content.{content}
use Rattle.first_pass_content.specs.Tokens.{placed_tokens}
use Rattle.first_pass_inline.specs.Marks.{AreMarks}
use Rattle.first_pass_inline.proofs.Blocks.{chain_utf8, chain_whole, same_chain_of}
use Rattle.first_pass_inline.proofs.inlines.inline_marks.Goals as goal

pub marks_with-requires-clause-utf8 : goal.marks_with-requires-clause-utf8
marks_with-requires-clause-utf8 c =
    chain_utf8 c.args.text.now c.args.tokens.now _ c.utf8.text c.requires
    (c.in_ok-content.ensures.content ∙ ap (λ t. content t c.args.tokens.now) c.as_bytes.ensures.value)

pub marks_with-requires-clause-whole : goal.marks_with-requires-clause-whole
marks_with-requires-clause-whole c =
    chain_whole c.args.text.now c.args.tokens.now _ _ c.utf8.text c.requires
    (c.in_ok-content.ensures.content ∙ ap (λ t. content t c.args.tokens.now) c.as_bytes.ensures.value)
    (c.as_slice.ensures.value ∙ c.in_ok-content.ensures.tokens ∙ ap (λ t. placed_tokens t 0 c.args.tokens.now) c.as_bytes.ensures.value)

pub returns-clause-content : goal.returns-clause-content
returns-clause-content c = c.in_ok-content.ensures.content ∙ ap (λ t. content t c.args.tokens.now) c.as_bytes.ensures.value

pub returns-clause-marks : goal.returns-clause-marks
returns-clause-marks c =
    subst (λ chain. AreMarks chain c.in_ok-marks.marks.items)
    (same_chain_of c.args.text.now c.args.tokens.now _ _ c.args.labels.now
    (c.in_ok-content.ensures.content ∙ ap (λ t. content t c.args.tokens.now) c.as_bytes.ensures.value)
    (c.as_slice.ensures.value ∙ c.in_ok-content.ensures.tokens ∙ ap (λ t. placed_tokens t 0 c.args.tokens.now) c.as_bytes.ensures.value)) c.in_ok-marks.ensures
