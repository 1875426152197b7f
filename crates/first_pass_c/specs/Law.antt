-- What the flat form determines (this project).
use Rattle.std.specs.Prelude.{◌≡◌, ℕ, List}
use Rattle.first_pass_items.specs.declared.item.Item.{Item}
use Rattle.first_pass_grammar.specs.Names.{Names, AreNamed, read_nodes}
use Rattle.first_pass_grammar.specs.Derivation.{Tables}
use Rattle.first_pass_c.specs.FlatForm.{flat_form}

-- Trees of the same flat form, whose indices all name entries, are equal once each index is replaced by its entry
-- (this project).
abbrev pub DeterminesNodes : Type 0
DeterminesNodes = (m n : Names) (f g : List (ℕ × Item)) (t u : Tables) → AreNamed m f → AreNamed n g → flat_form m f t ≡ flat_form n g u
    → read_nodes m f ≡ read_nodes n g

-- Tables of the same flat form are equal (this project).
abbrev pub DeterminesTables : Type 0
DeterminesTables = (m n : Names) (f g : List (ℕ × Item)) (t u : Tables) → flat_form m f t ≡ flat_form n g u → t ≡ u
