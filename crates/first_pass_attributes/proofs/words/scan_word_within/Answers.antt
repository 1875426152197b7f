use Rattle.std.proofs.Common.{sym, ◌∙◌, arith}
use Rattle.first_pass_attributes.proofs.WordFacts.{solid-to}
use Rattle.first_pass_attributes.proofs.words.scan_word_within.Goals as goal

pub returns-then-limit-run-clause-value : goal.returns-then-limit-run-clause-value
returns-then-limit-run-clause-value c = grind (arith, solid-to)

pub returns-then-is_between_words-clause-value : goal.returns-then-is_between_words-clause-value
returns-then-is_between_words-clause-value c =
    solid-to c.args.bytes.now c.args.limit c.solid_run-run.result c.solid_run-run.result c.requires c.solid_run-run.ensures (omega arith) (omega arith)
    (λ less. sym c.is_between_words.ensures ∙ c.if-is_between_words.true)
