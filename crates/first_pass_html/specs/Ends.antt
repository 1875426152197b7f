-- The end conditions of HTML blocks of types 1 to 5.
use Rattle.std.specs.Prelude.{ℕ, Bool, false, ◌||◌, List, [], ◌∷◌, codes}
use Rattle.std.specs.List.{list_any}
use Rattle.first_pass_html.specs.Names.{begins_with_name}
use Rattle.first_pass_html.specs.declared.ends.HtmlEnd.{HtmlEnd}
use Rattle.first_pass_html.specs.declared.ends.HtmlEnd.TheVariants.{AnyRawTag, Text}

-- an end condition of an HTML block of types 1 to 5 (CommonMark 4.6, end conditions 1 to 5)
pub data BlockEnd : Type 0 where
  -- the line contains any end tag of raw text, whichever tag opened the block: type 1
  AtRawEndTag : BlockEnd
  -- the line contains this text: types 2 to 5
  AtText : List ℕ → BlockEnd

-- the end condition that a value of the code denotes
abbrev pub condition_of : HtmlEnd → BlockEnd
condition_of AnyRawTag = AtRawEndTag
condition_of (Text text) = AtText text.now

-- the end tags of raw text (CommonMark 4.6, end condition 1)
abbrev pub raw_end_tags : List (List ℕ)
raw_end_tags = codes "</pre>" ∷ codes "</script>" ∷ codes "</style>" ∷ codes "</textarea>" ∷ []

-- the bytes begin with an end tag of raw text, in any case (CommonMark 4.6, end condition 1)
unfoldable pub begins_raw_end_tag : List ℕ → Bool
begins_raw_end_tag bs = list_any (λ tag. begins_with_name tag bs) raw_end_tags

-- the bytes contain an end tag of raw text, in any case (CommonMark 4.6, end condition 1)
unfoldable pub holds_raw_end_tag : List ℕ → Bool
holds_raw_end_tag [] = false
holds_raw_end_tag (b ∷ bs) = begins_raw_end_tag (b ∷ bs) || holds_raw_end_tag bs
