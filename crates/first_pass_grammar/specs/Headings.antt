-- The attribute block of a heading, and the text before it (this project).
use Rattle.std.specs.Prelude.{ℕ, ◌+◌, ◌-◌, Bool, List, [], ◌∷◌, take, Option, None, if◌then◌else◌}
use Rattle.std.specs.List.{slice_range, suffix_len}
use Rattle.std.specs.Option.{option_map, option_map_or}
use Rattle.first_pass_items.specs.OptionWords.{has, heading_attributes}
use Rattle.first_pass_items.specs.declared.item.Item.{Item}
use Rattle.first_pass_items.specs.declared.option_set.Options.{Options}
use Rattle.first_pass_lines.specs.Lines.{is_white}
use Rattle.first_pass_attributes.specs.AttributeBlocks.{Braces, attribute_block}
use Rattle.first_pass_attributes.specs.Attributes.{Attributes, attributes_of}

-- the attribute block of a heading with this text, if the option for heading attributes is on (this project)
unfoldable pub heading_attribute_block : Options → List ℕ → Option Braces
heading_attribute_block options bs = if has options heading_attributes then attribute_block bs else None

-- the attributes that the block gives the heading (this project)
abbrev pub heading_attributes_of : Options → List ℕ → Option Attributes
heading_attributes_of options bs = option_map (λ block. attributes_of (slice_range bs (block.opening + 1) block.closing)) (heading_attribute_block options bs)

-- the bytes before the attribute block, or all of them if there is none (this project)
abbrev pub before_attributes : Options → List ℕ → List ℕ
before_attributes options bs = option_map_or (λ block. take block.opening bs) (heading_attribute_block options bs) bs

-- the text up to the attribute block of a heading that begins at an offset and has these bytes; all of it if there is
-- no block (this project)
abbrev pub text_before_attributes : Options → List ℕ → ℕ → List ℕ → List ℕ
text_before_attributes options text start bs = option_map_or (λ block. take (start + block.opening) text) (heading_attribute_block options bs) text

-- the end of a chain that begins at an offset
abbrev pub chain_end : ℕ → List Item → ℕ
chain_end start [] = start
chain_end start (x ∷ []) = x.«end»
chain_end start (x ∷ y ∷ ys) = chain_end start (y ∷ ys)

-- the bytes from an offset to the end of a chain; none if the chain ends before the offset (this project)
abbrev pub chain_bytes : List ℕ → ℕ → List Item → List ℕ
chain_bytes text start chain = slice_range text start (chain_end start chain)

-- The number of bytes in a text before the brace at an offset, without the white space directly before the brace. The
-- white space is kept if a backslash breaks the last line of the text (this project).
abbrev pub kept_before : Bool → ℕ → List ℕ → ℕ
kept_before broken opening bs = if broken then opening else opening - suffix_len is_white (take opening bs)
