use Rattle.first_pass_c.proofs.Ranges.{same_range}
use Rattle.first_pass_c.proofs.laws.records_have_the_ranges_of_names.Goals as goal

pub returns : goal.returns
returns c = same_range
