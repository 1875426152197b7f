use Rattle.std.proofs.Common.{sym, ◌∙◌}
use Rattle.first_pass_scan.proofs.TableFacts.{pipe_first, pipe_found}
use Rattle.first_pass_scan.proofs.table_scan.has_pipe.Goals as goal

pub returns-then-begins : goal.returns-then-begins
returns-then-begins c = sym (pipe_first c.args.bytes.now (sym c.begins.ensures.value ∙ c.if-begins.true))

pub returns : goal.returns
returns c = c.is_some.ensures ∙ pipe_found c.args.bytes.now c.memchr.result c.memchr.ensures
