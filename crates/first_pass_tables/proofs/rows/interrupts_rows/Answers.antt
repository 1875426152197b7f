use Rattle.std.proofs.Common.{sym, ◌∙◌}
use Rattle.first_pass_tables.proofs.RowBytes.{pipe_ends_no_table}
use Rattle.first_pass_tables.proofs.rows.interrupts_rows.Goals as goal

pub returns-then-begins : goal.returns-then-begins
returns-then-begins c = sym (pipe_ends_no_table c.args.options c.args.bytes.now (sym c.begins.ensures.value ∙ c.if-begins.true))
