-- Lines that may head a table, and so may need an allocation (this project).
use Rattle.std.specs.Prelude.{◌&&◌, ℕ, Bool, List, nat_lt}
use Rattle.first_pass_items.specs.Bytes.{pipe}
use Rattle.first_pass_items.specs.OptionWords.{has, tables}
use Rattle.first_pass_lines.specs.Lines.{begins}
use Rattle.first_pass_lines.specs.Rest.{Rest, indent}
use Rattle.first_pass_grammar.specs.Containers.{Context, front}
use Rattle.first_pass_grammar.specs.Kinds.{all_taken}

-- With tables, the bytes begin with a pipe: they may be a header row that interrupts a paragraph, and the alignments of
-- its table need an allocation (this project).
abbrev pub may_head_table : Context → List ℕ → Bool
may_head_table around bs = has around.options tables && begins pipe bs

-- A line may head a table: tables are on, and the line begins with `|`. Fewer than four columns are before it, after
-- the prefixes of the containers that the line continues (this project).
abbrev pub line_may_head_table : Context → Rest → Bool
line_may_head_table around line = nat_lt (indent (front around.path line)) 4 && may_head_table around (all_taken (front around.path line)).left
