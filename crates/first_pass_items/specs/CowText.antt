-- The value of a `CowStr` in contracts.
use Rattle.std.specs.Prelude.{ℕ, List}
use Rattle.std.specs.Box.{boxed_str_bytes}
use Rattle.first_pass_items.specs.declared.cow_str.CowStr.{CowStr}
use Rattle.first_pass_items.specs.declared.cow_str.CowStr.TheVariants.{Borrowed, Boxed, Inlined}

-- the bytes of the text, however they are stored (this project)
abbrev pub text_of : CowStr → List ℕ
text_of (Borrowed text) = text.now
text_of (Boxed text) = boxed_str_bytes text
text_of (Inlined text) = text
