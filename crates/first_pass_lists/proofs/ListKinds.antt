-- Which open nodes are lists.
use Rattle.std.proofs.Common.{◌≡◌, false, Option, arith}
use Rattle.first_pass_grammar.proofs.Common.{ItemBody}
use Rattle.first_pass_lists.specs.Closing.{is_definition_list, is_list}

-- what is no list is no definition list
pub other_list : (b : Option ItemBody) → is_list b ≡ false → is_definition_list b ≡ false
other_list b h = grind (arith, h)
