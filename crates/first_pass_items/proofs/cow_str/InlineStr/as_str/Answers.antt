use Rattle.std.proofs.lemmas.Str.{IsUtf8-had}
use Rattle.first_pass_items.proofs.cow_str.InlineStr.as_str.Goals as goal

pub from_utf8_unchecked-requires : goal.from_utf8_unchecked-requires
from_utf8_unchecked-requires c = IsUtf8-had _ c.self.invariant.1
