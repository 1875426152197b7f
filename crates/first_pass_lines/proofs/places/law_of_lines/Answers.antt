use Rattle.first_pass_lines.proofs.LineFacts.{lines_divide, lines_at-places, one_division}
use Rattle.first_pass_lines.proofs.places.law_of_lines.Goals as goal

pub returns-clause-division : goal.returns-clause-division
returns-clause-division c = lines_divide 0 c.args.text.now

pub returns-clause-only : goal.returns-clause-only
returns-clause-only c = λ pieces d. one_division c.args.text.now pieces _ d (lines_divide 0 c.args.text.now)

pub returns-clause-places : goal.returns-clause-places
returns-clause-places c = lines_at-places c.args.text.now
