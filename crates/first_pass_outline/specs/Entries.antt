-- The view of the entries of an outline in contracts.
use Rattle.std.specs.Option.{option_map}
use Rattle.first_pass_outline.specs.Outline.{Entry}
use Rattle.first_pass_outline.specs.declared.outline.OutlineEntry.{OutlineEntry}

-- an entry, with its id as bytes
abbrev pub entry_in : OutlineEntry → Entry
entry_in e = record { level = e.level; id = option_map (λ id. id.now) e.id; start = e.range.start; «end» = e.range.«end» }
