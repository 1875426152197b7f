use Rattle.std.proofs.Common.{arith}
use Rattle.first_pass_tokens.proofs.Common.{source, AppendsCell}
use Rattle.first_pass_tokens.specs.LineTokens.{blanks_at_end}
use Rattle.first_pass_tokens.proofs.LineLemmas.{cell_ends}
use Rattle.first_pass_tokens.proofs.SoFar.{read_cell}
use Rattle.first_pass_tokens.proofs.line.append_cell.Goals as goal
use Rattle.first_pass_tokens.proofs.line.append_cell.Goals.{In_ok-append_text}

appended : (c : In_ok-append_text) → AppendsCell c.append_pieces.new.texts.items
    (source c.args.content c.args.braces.now) c.args.tree.now c.append_text.new.self c.in_ok-end.end c.append_pieces.new.braces
unfolding blanks_at_end
appended c = grind (arith, read_cell)

pub returns-clause-cell : goal.returns-clause-cell
returns-clause-cell c = appended c

pub returns-clause-ends : goal.returns-clause-ends
returns-clause-ends c = cell_ends c.requires.within (appended c).cell
