use Rattle.first_pass_outline.proofs.Written.{bytes_written}
use Rattle.first_pass_outline.proofs.run.write_bytes.Goals as goal

pub returns : goal.returns
returns g c = bytes_written _ _ _ _ c.write_whole.ensures.ok c.write_whole.ensures.front c.write_whole.ensures.fault
