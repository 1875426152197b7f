-- The state after a paragraph, heading or table right after a definition (only private functions cite this).
use Rattle.std.specs.Prelude.{ℕ, Bool, false, if◌then◌else◌}
use Rattle.std.specs.Option.{option_and_then, option_map_or}
use Rattle.first_pass_items.specs.declared.item.Item.{Item}
use Rattle.first_pass_tree.specs.Forest.{Forest, item_at}
use Rattle.first_pass_grammar.specs.Before.{is_paragraph_body}
use Rattle.first_pass_lists.specs.Closing.{current_body, title_begun, definitions_left}
use Rattle.first_pass_lists.specs.declared.state.PassState.{PassState}

-- the end of the current node; 0 if there is none
abbrev pub current_end : Forest Item → ℕ
current_end f = option_map_or (λ x. x.«end») (option_and_then (item_at f) f.current) 0

-- the current node is a paragraph
abbrev pub is_paragraph_last : Forest Item → Bool
is_paragraph_last f = option_map_or is_paragraph_body (current_body f) false

-- The current node was read right after a definition that ends at an offset. A paragraph may be the next title. A
-- heading or a table ends the definition list (this project).
abbrev pub title_read : ℕ → PassState → PassState
title_read e r = if is_paragraph_last r.tree then title_begun e r else definitions_left e r
