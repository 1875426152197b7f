-- Tokens as the last children of the innermost open node of a tree.
use Rattle.std.specs.Prelude.{◌≡◌, ℕ, ◌&&◌, false, List, [], ◌∷◌, map, Option, if◌then◌else◌}
use Rattle.first_pass_items.specs.declared.cow_str.CowStr.{CowStr}
use Rattle.first_pass_items.specs.declared.item.Item.{Item}
use Rattle.first_pass_tree.specs.Forest.{Forest, appended, is_text, joins_at, with_end}
use Rattle.first_pass_tokens.specs.Braces.{MathBraces}
use Rattle.first_pass_tokens.specs.Pieces.{Inline}
use Rattle.first_pass_tokens.specs.LineTokens.{AreLineTokens, IsCell}

-- the tree with a token after its nodes: a text is joined to the current node if that is a text that ends where it
-- begins (this project)
abbrev pub with_token : Forest Item → Item → Forest Item
with_token f x = if is_text x.body && joins_at f x.start f.current then with_end f x.«end» f.current else appended f x

-- the tree with these tokens after its nodes, one after the other (this project)
abbrev pub with_tokens : Forest Item → List Item → Forest Item
with_tokens f [] = f
with_tokens f (x ∷ xs) = with_tokens (with_token f x) xs

-- the tree with these items as the last children of the innermost open node, none of them joined; the last of them is
-- current (this project)
abbrev pub chained : Forest Item → List Item → Forest Item
chained f [] = f
chained f (x ∷ xs) = chained (appended f x) xs

-- the items of a chain as nodes without children, in a block of their own (this project)
abbrev pub leaves : List Item → List (ℕ × Item)
leaves chain = map (λ x. (0, x)) chain

-- no text can be joined to the current node: there is none, or it is no text (this project)
abbrev pub JoinsNone : Forest Item → Type 0
JoinsNone f = (at : ℕ) → joins_at f at f.current ≡ false

-- the new tree is the old one with the tokens of the line whose content is this, with each text that they name among
-- these; `after` has the brace contexts after the line (CommonMark 2.4, 2.5, 6.1 to 6.8)
pub record AppendsLine (texts : List CowStr) (s : Inline) (old new : Forest Item) (answer : ℕ × Option Item) (after : MathBraces) : Type 0 where
  pub tokens : List Item
  pub line : AreLineTokens texts s tokens answer after
  pub tree_is : new ≡ with_tokens old tokens

-- the new tree is the old one with the tokens of the cell whose content is this, with each text that they name among
-- these; `after` has the brace contexts after the cell (GFM 4.10)
pub record AppendsCell (texts : List CowStr) (s : Inline) (old new : Forest Item) (end : ℕ) (after : MathBraces) : Type 0 where
  pub tokens : List Item
  pub cell : IsCell texts s tokens end after
  pub tree_is : new ≡ with_tokens old tokens
