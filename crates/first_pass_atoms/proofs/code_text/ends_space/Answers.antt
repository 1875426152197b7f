use Rattle.std.proofs.Common.{sym, ◌∙◌, arith}
use Rattle.first_pass_atoms.proofs.CodeFacts.{ends_spaced}
use Rattle.first_pass_atoms.proofs.code_text.ends_space.Goals as goal

pub returns-in-len1-up : goal.returns-in-len1-up
returns-in-len1-up c = c.is_space.ensures ∙ sym (ends_spaced c.args.bytes.now (omega arith))
