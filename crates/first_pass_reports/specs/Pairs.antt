-- Where a token starts.
use Rattle.std.specs.Prelude.{ℕ, ◌-◌, Bool, false, if◌then◌else◌}
use Rattle.first_pass_items.specs.declared.item.Item.{Item}
use Rattle.first_pass_items.specs.declared.item.ItemBody.{ItemBody}
use Rattle.first_pass_items.specs.declared.item.ItemBody.TheVariants.{Text, MaybeCode}

-- a backslash before the token was dropped (CommonMark 2.4, 6.1)
abbrev pub is_escaped : ItemBody → Bool
is_escaped (Text escaped) = escaped
is_escaped (MaybeCode count escaped) = escaped
is_escaped _ = false

-- the start of a token, including the backslash that was dropped before it (CommonMark 2.4)
abbrev pub whole_start : Item → ℕ
whole_start token = if is_escaped token.body then token.start - 1 else token.start
