use Rattle.first_pass_places.proofs.Utf16Units.{of_text}
use Rattle.first_pass_places.proofs.laws.columns_are_in_utf16.Goals as goal

pub returns : goal.returns
returns c = of_text
