-- The outline of a text (this project).
use Rattle.std.specs.Prelude.{◌≡◌, ℕ, ◌≤◌, List, [], ◌∷◌, IsCharBoundary}
use Rattle.first_pass_items.specs.declared.item.Item.{Item}
use Rattle.first_pass_items.specs.declared.option_set.Options.{Options}
use Rattle.first_pass_grammar.specs.Derivation.{Derives, Tables}
use Rattle.first_pass_grammar.specs.Leaves.{document}
use Rattle.first_pass_grammar.specs.Names.{Names, read_nodes}
use Rattle.first_pass_outline.specs.Outline.{Entry, outline_of}

-- the outline of a tree that the block grammar derives from a text under options
pub record IsOutline (options : Options) (text : List ℕ) (entries : List Entry) : Type 0 where
  pub names : Names
  pub forest : List (ℕ × Item)
  pub tables : Tables
  pub derived : Derives (document text options names) forest tables
  pub entries_are : entries ≡ outline_of (read_nodes names forest)

-- the outline of every tree that the block grammar derives from a text under options, under any numbering of indices
abbrev pub IsOnlyOutline : Options → List ℕ → List Entry → Type 0
IsOnlyOutline options text entries =
    (names : Names) (forest : List (ℕ × Item)) (tables : Tables) → Derives (document text options names) forest tables
    → entries ≡ outline_of (read_nodes names forest)

-- a range that starts at or after an offset, and whose ends are character boundaries of a text
pub record IsRangeFrom (text : List ℕ) (from start «end» : ℕ) : Type 0 where
  pub following : from ≤ start
  pub order : start ≤ «end»
  pub starts : IsCharBoundary text start
  pub ends : IsCharBoundary text «end»

-- entries lie between two offsets of a text, one after the other
unfoldable pub LieBetween : List ℕ → ℕ → ℕ → List Entry → Type 0
LieBetween text from to [] = from ≤ to
LieBetween text from to (e ∷ entries) = IsRangeFrom text from e.start e.«end» × LieBetween text e.«end» to entries
