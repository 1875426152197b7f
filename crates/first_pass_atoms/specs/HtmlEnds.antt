-- The record of ends that were sought in vain.
use Rattle.std.specs.Prelude.{◌≡◌, ℕ, List, drop, None, codes}
use Rattle.first_pass_atoms.specs.RawHtml.{end_len}
use Rattle.first_pass_atoms.specs.declared.html_ends.HtmlEnds.{HtmlEnds}

-- a text is at no place of a content from this one on (this project)
abbrev pub HasNoneFrom : List ℕ → List ℕ → ℕ → Type 0
HasNoneFrom text content place = end_len text (drop place content) ≡ None

-- from each of the places on there is no end of its kind in the content (this project)
pub record IsKnownOf (content : List ℕ) (ends : HtmlEnds) : Type 0 where
  pub for_comments : HasNoneFrom (codes "-->") content ends.comment
  pub for_instructions : HasNoneFrom (codes "?>") content ends.instruction
  pub for_declarations : HasNoneFrom (codes ">") content ends.declaration
  pub for_cdata : HasNoneFrom (codes "]]>") content ends.cdata
