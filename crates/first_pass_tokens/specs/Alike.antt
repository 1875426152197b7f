-- Items that are equal except for the indices of the texts that they name.
use Rattle.std.specs.Prelude.{◌≡◌, List, [], ◌∷◌, Option, slice_get, ℕ}
use Rattle.std.specs.Option.{option_map}
use Rattle.first_pass_items.specs.declared.cow_str.CowStr.{CowStr}
use Rattle.first_pass_items.specs.CowText.{text_of}
use Rattle.first_pass_items.specs.declared.item.CowIndex.{CowIndex}
use Rattle.first_pass_items.specs.declared.item.Item.{Item}
use Rattle.first_pass_items.specs.declared.item.ItemBody.{ItemBody}
use Rattle.first_pass_items.specs.declared.item.ItemBody.TheVariants.{SynthesizeText}

-- the text that an index names among these, if there is one (this project)
abbrev pub text_among : List CowStr → CowIndex → Option (List ℕ)
text_among texts ix = option_map text_of (slice_get texts ix.0)

-- two kinds are equal; or each names a text, one among some texts and the other among others, and both texts have the
-- same bytes (this project)
abbrev pub BodiesAlike : List CowStr → List CowStr → ItemBody → ItemBody → Type 0
BodiesAlike texts others (SynthesizeText ix) other = (iy : CowIndex) × (other ≡ SynthesizeText iy) × (text_among texts ix ≡ text_among others iy)
BodiesAlike texts others body other = body ≡ other

-- two items have the same range, and kinds that are alike (this project)
pub record ItemsAlike (texts others : List CowStr) (x y : Item) : Type 0 where
  pub starts : x.start ≡ y.start
  pub ends : x.«end» ≡ y.«end»
  pub bodies : BodiesAlike texts others x.body y.body

-- two lists have the same number of items, and items at the same position are alike (this project)
abbrev pub AreAlike : List CowStr → List CowStr → List Item → List Item → Type 0
AreAlike texts others [] [] = Unit
AreAlike texts others [] (y ∷ ys) = ⊥
AreAlike texts others (x ∷ xs) [] = ⊥
AreAlike texts others (x ∷ xs) (y ∷ ys) = ItemsAlike texts others x y × AreAlike texts others xs ys
