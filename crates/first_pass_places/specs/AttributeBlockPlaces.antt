-- Where the attribute block of a heading is written (this project).
use Rattle.std.specs.Prelude.{ℕ, ◌+◌, ◌-◌, ◌==◌, not, Bool, false, List, length, take, Option, Some, None, is_some, if◌then◌else◌}
use Rattle.std.specs.List.{slice_range, suffix_len}
use Rattle.std.specs.declared.ops.Range.{Range}
use Rattle.first_pass_items.specs.Bytes.{left_brace, right_brace}
use Rattle.first_pass_items.specs.declared.item.Item.{Item}
use Rattle.first_pass_items.specs.declared.item.ItemBody.{ItemBody}
use Rattle.first_pass_items.specs.declared.item.ItemBody.TheVariants.{Heading}

-- the number of bytes up to and including the last byte that equals `byte`; 0 if no byte does (this project)
abbrev pub upto_last : ℕ → List ℕ → ℕ
upto_last byte bs = length bs - suffix_len (λ b. not (b == byte)) bs

-- in the bytes from one offset up to another: the range between the last `}` and the last `{` before it (this project)
unfoldable pub block_range : List ℕ → ℕ → ℕ → Range ℕ
block_range text start «end» =
    let heading : List ℕ = slice_range text start «end» in
    let closing : ℕ = upto_last right_brace heading - 1 in
    record { start = start + upto_last left_brace (take closing heading); «end» = start + closing }

-- a heading with attributes (this project)
abbrev pub has_attributes : ItemBody → Bool
has_attributes (Heading level index) = is_some index
has_attributes _ = false

-- the range between the braces of a heading's attribute block, if the node is a heading with attributes (this project)
abbrev pub attribute_block_range : List ℕ → Item → Option (Range ℕ)
attribute_block_range text x = if has_attributes x.body then Some (block_range text x.start x.«end») else None
