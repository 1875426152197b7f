-- When a `:` interrupts, for the calls of the pass.
use Rattle.std.specs.Prelude.{ℕ, ◌&&◌, ◌||◌, Bool, true, false, List, Option, Some, None}
use Rattle.first_pass_items.specs.Bytes.{colon}
use Rattle.first_pass_items.specs.declared.item.Item.{Item}
use Rattle.first_pass_items.specs.declared.item.ItemBody.{ItemBody}
use Rattle.first_pass_items.specs.declared.item.ItemBody.TheVariants.{TightParagraph}
use Rattle.first_pass_items.specs.declared.option_set.Options.{Options}
use Rattle.first_pass_tree.specs.Forest.{Forest}
use Rattle.first_pass_lines.specs.Lines.{begins}
use Rattle.first_pass_grammar.specs.WholeTables.{may_be_title}
use Rattle.first_pass_lists.specs.Closing.{top_body}
use Rattle.first_pass_open.specs.Path.{definition_at_depth}

-- the innermost open node holds text: a definition list may take it in, as a paragraph or a possible title, or it is a
-- tight paragraph (this project)
abbrev pub is_open_text : Option ItemBody → Bool
is_open_text None = false
is_open_text (Some TightParagraph) = true
is_open_text (Some body) = may_be_title body

-- A `:` interrupts in two cases: the line continues all open nodes and the innermost holds text; or the first open
-- node that the line doesn't continue, the one after the outermost `kept`, is a definition (this project).
abbrev pub colon_interrupts : Options → Bool → Forest Item → ℕ → List ℕ → Bool
colon_interrupts options whole f kept bs = begins colon bs && ((whole && is_open_text (top_body f)) || definition_at_depth options f kept)
