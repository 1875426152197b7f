-- Runs of link reference definitions, and what follows them (CommonMark 4.7).
use Rattle.std.specs.Prelude.{◌≡◌, ◌⊎◌, ℕ, ◌+◌, ◌||◌, Bool, true, false, nat_lt, List, [], ◌∷◌, Option, Some, None, is_some, if◌then◌else◌}
use Rattle.std.specs.Option.{option_map}
use Rattle.first_pass_lines.specs.Places.{Place, offset}
use Rattle.first_pass_links.specs.Escapes.{unescaped}
use Rattle.first_pass_labels.specs.declared.label_table.LinkPlaces.{LinkPlaces}
use Rattle.first_pass_grammar.specs.Containers.{Context, at_rest, front}
use Rattle.first_pass_grammar.specs.Kinds.{Kind, LinkDefinitions, Paragraph, all_taken, unindented, is_blank_rest, is_ordinary_after_tag}
use Rattle.first_pass_grammar.specs.Definitions.{Target, LinkReference, reference_definition_at}
use Rattle.first_pass_grammar.specs.LinkTables.{LinkEntry}

-- the places of the parts of a definition, from the end of its label and the start of its target (CommonMark 4.7)
abbrev pub places_of : ℕ → ℕ → Target → LinkPlaces
places_of label_end at target = record {
  label_end = label_end;
  dest_start = at + target.dest_start;
  dest_end = at + target.dest_end;
  title_start = at + target.title_start;
}

-- the same for a definition that begins at an offset: `]` and a colon are between its label and its target
-- (CommonMark 4.7)
abbrev pub reference_places : ℕ → LinkReference → LinkPlaces
reference_places at x = places_of (at + x.label_end) (at + x.label_end + 2) x.target

-- the entry of a definition that begins at an offset: its destination and its title are unescaped (CommonMark 4.7)
abbrev pub entry_of : ℕ → LinkReference → LinkEntry
entry_of at x = record {
  label = x.label;
  dest = unescaped false x.target.dest;
  title = option_map (unescaped false) x.target.title;
  start = at;
  «end» = at + x.size;
  places = reference_places at x;
}

-- the definition that begins at a place
abbrev pub link_definition_at : Context → Place → Option LinkEntry
link_definition_at around p = option_map (entry_of (offset p)) (reference_definition_at false around p.rest.left)

-- Link reference definitions begin where a text would, if there is one there (CommonMark 4.7).
abbrev pub kind_in : Context → Place → Kind → Kind
kind_in around p Paragraph = if is_some (link_definition_at around (unindented p)) then LinkDefinitions else Paragraph
kind_in around p kind = kind

-- those of these lines that begin at or after an offset
unfoldable pub lines_beyond : ℕ → List Place → List Place
lines_beyond e [] = []
lines_beyond e (line ∷ lines) = if nat_lt line.line e then lines_beyond e lines else line ∷ lines

-- A run of definitions ends before a line that is blank, or that has fewer than four columns and would end a
-- paragraph, whichever containers it continues (CommonMark 4.7, 5.1).
abbrev pub ends_run : Context → List Place → Bool
ends_run around [] = true
ends_run around (line ∷ lines) = is_ordinary_after_tag around line.rest || is_blank_rest (all_taken (front around.path line.rest))

-- what follows a run: no text, with the place of its last definition and the lines after it; or a text, with its place
-- and the lines after that
pub data Beyond : Type 0 where
  Ended : Place → List Place → Beyond
  FlowsOn : Place → List Place → Beyond

-- These are the definitions of a run from a place on, before these lines. They follow one another, each at the start
-- of a line's text, up to a text or a line that ends the run (CommonMark 4.7).
unfoldable pub IsRun : Context → Place → List Place → List LinkEntry → Beyond → Type 0
IsRun around p lines [] beyond = (link_definition_at around p ≡ None) × (beyond ≡ FlowsOn p lines)
IsRun around p lines (x ∷ more) beyond =
    (link_definition_at around p ≡ Some x)
    × (((ends_run around (lines_beyond x.«end» lines) ≡ true) × (more ≡ []) × (beyond ≡ Ended p (lines_beyond x.«end» lines)))
    ⊎ ((line : Place) × (left : List Place) × (lines_beyond x.«end» lines ≡ line ∷ left) × (ends_run around (line ∷ left) ≡ false)
    × IsRun around (unindented (at_rest line (front around.path line.rest))) left more beyond))
