-- The strings that the footnote definitions among nodes name (this project).
use Rattle.std.specs.Prelude.{ℕ, List, [], ◌∷◌, ◌++◌}
use Rattle.first_pass_items.specs.declared.item.CowIndex.{CowIndex}
use Rattle.first_pass_items.specs.declared.item.Item.{Item}
use Rattle.first_pass_items.specs.declared.item.ItemBody.{ItemBody}
use Rattle.first_pass_items.specs.declared.item.ItemBody.TheVariants.{FootnoteDefinition}

-- the index of the string that a footnote definition names, which is its label; for another node, nothing (this project)
abbrev pub footnote_in : ItemBody → List CowIndex
footnote_in (FootnoteDefinition ix) = ix ∷ []
footnote_in _ = []

-- these indices of the footnote definitions among nodes, in the order of the nodes (this project)
unfoldable pub footnotes_in : List (ℕ × Item) → List CowIndex
footnotes_in [] = []
footnotes_in (n ∷ nodes) = footnote_in n.1.body ++ footnotes_in nodes
