-- Texts that take no memory of their own.
use Rattle.std.specs.Prelude.{◌≡◌, ℕ, List, ⊤}
use Rattle.first_pass_items.specs.declared.cow_str.CowStr.{CowStr}
use Rattle.first_pass_items.specs.declared.cow_str.CowStr.TheVariants.{Borrowed, Boxed, Inlined}

-- the text is inside the value, or is a slice of the source: it takes no memory (this project)
abbrev pub TakesNoMemory : CowStr → Type 0
TakesNoMemory (Borrowed text) = ⊤
TakesNoMemory (Boxed text) = ⊥
TakesNoMemory (Inlined text) = ⊤

-- the text is borrowed and has these bytes (this project)
abbrev pub Borrows : List ℕ → CowStr → Type 0
Borrows bytes (Borrowed text) = text.now ≡ bytes
Borrows bytes (Boxed text) = ⊥
Borrows bytes (Inlined text) = ⊥
