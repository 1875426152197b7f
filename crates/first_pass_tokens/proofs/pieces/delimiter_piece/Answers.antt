use Rattle.std.proofs.Common.{arith}
use Rattle.first_pass_tokens.proofs.pieces.delimiter_piece.Goals as goal

pub returns-clause-fits : goal.returns-clause-fits
returns-clause-fits c = omega (arith, c.run_piece.ensures.size, c.run_in.ensures.fits)

pub returns-clause-ends : goal.returns-clause-ends
returns-clause-ends c = c.run_piece.ensures.ends c.args.text.now c.args.at
