use Rattle.std.proofs.Common.{◌≡◌, sym}
use Rattle.first_pass_links.specs.Escapes.{unescaped}
use Rattle.first_pass_links.proofs.Escapes.{unmarked_same}
use Rattle.first_pass_links.proofs.escape.unescape.Goals as goal
use Rattle.first_pass_links.proofs.escape.unescape.Goals.{In-None}

same : (c : In-None) → unescaped c.args.in_table c.args.text.now ≡ c.args.text.now
same c = unmarked_same c.args.in_table c.args.text.now (rw c.as_bytes.ensures.value at c.in-None.ensures.first)

pub returns-in-None-clause-value : goal.returns-in-None-clause-value
returns-in-None-clause-value c = sym (same (goal.at.returns-in-None-clause-value c).In-None)

pub returns-in-None-clause-changed : goal.returns-in-None-clause-changed
returns-in-None-clause-changed c = λ owned. same (goal.at.returns-in-None-clause-changed c).In-None
