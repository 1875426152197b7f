-- Link definitions and the labels of footnotes as records, with the bytes that they name (this project).
use Rattle.std.specs.Prelude.{ℕ, ◌+◌, List, [], ◌∷◌, ◌++◌, length, map, None, is_some, unwrap_or}
use Rattle.first_pass_labels.specs.declared.label_table.LinkPlaces.{LinkPlaces}
use Rattle.first_pass_grammar.specs.LinkTables.{LinkEntry}
use Rattle.first_pass_grammar.specs.Derivation.{Tables}
use Rattle.first_pass_c.specs.Kinds.{flag}
use Rattle.first_pass_c.specs.declared.flat.records.FlatDefinition.{FlatDefinition}

-- the places of an entry that is no link definition (this project)
abbrev pub no_places : LinkPlaces
no_places = record { label_end = 0; dest_start = 0; dest_end = 0; title_start = 0 }

-- the label of a footnote as an entry: with no range, destination or title (this project)
abbrev pub label_entry : List ℕ → LinkEntry
label_entry label = record { label = label; dest = []; title = None; start = 0; «end» = 0; places = no_places }

-- the link definitions of tables, then the labels of footnotes (this project)
abbrev pub entries_of : Tables → List LinkEntry
entries_of tables = tables.links ++ map label_entry tables.footnotes

-- the bytes of a definition: its label, its destination, its title (this project)
abbrev pub definition_bytes : LinkEntry → List ℕ
definition_bytes e = (e.label ++ e.dest) ++ unwrap_or e.title []

-- the record of a definition whose bytes begin at an offset into the names (CommonMark 4.7, and this project)
abbrev pub flat_definition : ℕ → LinkEntry → FlatDefinition
flat_definition at e = record {
  start = e.start;
  «end» = e.«end»;
  label = at;
  label_length = length e.label;
  destination = at + length e.label;
  destination_length = length e.dest;
  title = (at + length e.label) + length e.dest;
  title_length = length (unwrap_or e.title []);
  has_title = flag (is_some e.title);
  label_end = e.places.label_end;
  destination_start = e.places.dest_start;
  destination_end = e.places.dest_end;
  title_start = e.places.title_start;
}

-- the records of definitions whose bytes follow one another from an offset on (this project)
unfoldable pub flat_definitions : ℕ → List LinkEntry → List FlatDefinition
flat_definitions at [] = []
flat_definitions at (e ∷ es) = flat_definition at e ∷ flat_definitions (at + length (definition_bytes e)) es
