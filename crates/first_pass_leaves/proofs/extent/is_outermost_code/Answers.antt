use Rattle.std.proofs.Common.{arith}
use Rattle.first_pass_leaves.proofs.Common.{open_are_in}
use Rattle.first_pass_leaves.proofs.WholeLines.{only_open, code_path}
use Rattle.first_pass_leaves.proofs.extent.is_outermost_code.Goals as goal

pub index-requires : goal.index-requires
index-requires c = grind (arith, only_open, open_are_in)

pub returns-in-FencedCodeBlock : goal.returns-in-FencedCodeBlock
returns-in-FencedCodeBlock c = grind (arith, code_path, only_open)
