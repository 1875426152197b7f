-- Finished trees: no node is a paragraph that may still become a title (this project).
use Rattle.std.specs.Prelude.{◌≡◌, ℕ, Bool, true, false, List}
use Rattle.first_pass_items.specs.declared.item.Item.{Item}
use Rattle.first_pass_items.specs.declared.item.ItemBody.{ItemBody}
use Rattle.first_pass_items.specs.declared.item.ItemBody.TheVariants.{MaybeDefinitionListTitle}
use Rattle.first_pass_grammar.specs.WholeTables.{AreEachNode}

-- a paragraph that may become the title of a definition list (this project)
abbrev pub is_possible_title : ItemBody → Bool
is_possible_title MaybeDefinitionListTitle = true
is_possible_title _ = false

-- it is no such paragraph (this project)
abbrev pub IsSettled : ItemBody → Type 0
IsSettled body = is_possible_title body ≡ false

-- no node is such a paragraph (this project)
abbrev pub AreSettled : List (ℕ × Item) → Type 0
AreSettled nodes = AreEachNode IsSettled nodes
