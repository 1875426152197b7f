use Rattle.std.proofs.Common.{sym}
use Rattle.first_pass_atoms.proofs.CodeFacts.{kept_padded}
use Rattle.first_pass_atoms.proofs.code_text.without_padding.Goals as goal

pub returns-then-is_padded : goal.returns-then-is_padded
returns-then-is_padded c = kept_padded c.args.inside.now (sym c.if-is_padded.ensures.value)
