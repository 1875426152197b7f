-- The item of the break after a line.
use Rattle.std.specs.Prelude.{Option, true, false}
use Rattle.std.specs.Option.{option_map}
use Rattle.first_pass_items.specs.declared.item.Item.{Item}
use Rattle.first_pass_items.specs.declared.item.ItemBody.{ItemBody}
use Rattle.first_pass_items.specs.declared.item.ItemBody.TheVariants.{SoftBreak, HardBreak}
use Rattle.first_pass_leaves.specs.declared.line_break.BreakKind.{BreakKind}
use Rattle.first_pass_leaves.specs.declared.line_break.BreakKind.TheVariants.{Soft, BySpaces, ByBackslash}
use Rattle.first_pass_leaves.specs.declared.line_break.LineBreak.{LineBreak}

-- a soft break, or a hard one by white space or by a backslash (CommonMark 6.7, 6.8; white space other than spaces:
-- this project)
abbrev pub body_of : BreakKind → ItemBody
body_of Soft = SoftBreak
body_of BySpaces = HardBreak false
body_of ByBackslash = HardBreak true

-- the item of a break, if there is one (CommonMark 6.7, 6.8)
abbrev pub break_item : Option LineBreak → Option Item
break_item line_break = option_map (λ b. record { start = b.start; «end» = b.«end»; body = body_of b.kind }) line_break
