-- What calls of a pass keep unchanged.
use Rattle.std.specs.Prelude.{◌≡◌}
use Rattle.first_pass_grammar.specs.Names.{AreNamed}
use Rattle.first_pass_grammar.specs.WholeTables.{HasWholeTables}
use Rattle.first_pass_names.specs.TableEntries.{names_of, NamesMore}
use Rattle.first_pass.specs.declared.state.FirstPass.{FirstPass}
use Rattle.first_pass.specs.Views.{allocs_of, braces_of, source_of, tree_of}

-- each index in the nodes names an entry, if each did before (this project)
abbrev pub StayNamed : FirstPass → FirstPass → Type 0
StayNamed old new = AreNamed (names_of (allocs_of old)) (tree_of old).nodes → AreNamed (names_of (allocs_of new)) (tree_of new).nodes

-- the tables among the nodes are whole, and no row is open, if they were before, and each index in the nodes named an
-- entry (GFM 4.10, and this project)
abbrev pub StayWhole : FirstPass → FirstPass → Type 0
StayWhole old new =
    AreNamed (names_of (allocs_of old)) (tree_of old).nodes → HasWholeTables (names_of (allocs_of old)) (tree_of old)
    → HasWholeTables (names_of (allocs_of new)) (tree_of new)

-- The text and the options are the same. Names and table entries from before are unchanged, and each index names an
-- entry if each did before (this project).
pub record KeepsEntries (old new : FirstPass) : Type 0 where
  pub source : source_of new ≡ source_of old
  pub more : NamesMore (allocs_of old) (allocs_of new)
  pub named : StayNamed old new

-- the same, and the brace contexts for a line that is read on its own are unchanged (this project)
pub record KeepsNames (old new : FirstPass) : Type 0 where
  pub entries : KeepsEntries old new
  pub braces : braces_of new ≡ braces_of old

-- The text, the options, the tables of entries and the brace contexts are the same. Each index names an entry if each
-- did before, and the tables among the nodes are then whole if they were (GFM 4.10, and this project).
pub record KeepsTables (old new : FirstPass) : Type 0 where
  pub source : source_of new ≡ source_of old
  pub tables : allocs_of new ≡ allocs_of old
  pub named : StayNamed old new
  pub whole : StayWhole old new
  pub braces : braces_of new ≡ braces_of old
