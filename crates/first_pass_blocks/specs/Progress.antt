-- A pass that read a block (of public calls, only `parse_block` and `parse_text` cite this).
use Rattle.std.specs.Prelude.{◌≡◌, ℕ, ◌+◌, ◌<◌, ◌≤◌, false, List, length, drop, None, IsUtf8, IsCharBoundary}
use Rattle.first_pass_items.specs.declared.item.Item.{Item}
use Rattle.first_pass_tree.specs.Forest.{Forest}
use Rattle.first_pass_lines.specs.Lines.{line_len}
use Rattle.first_pass_lines.specs.Places.{Place, line_end, IsPlaceOf}
use Rattle.first_pass_grammar.specs.Names.{Names, Extends, AreNamed}
use Rattle.first_pass_grammar.specs.Leaves.{document}
use Rattle.first_pass_grammar.specs.Completion.{lines_from}
use Rattle.first_pass_grammar.specs.WholeTables.{HasWholeTables}
use Rattle.first_pass_names.specs.declared.items.Allocations.{Allocations}
use Rattle.first_pass_names.specs.TableEntries.{entries, tables_of, names_of}
use Rattle.first_pass_blocks.specs.Written.{HasFirstLabels, TablesAreWritten}
use Rattle.first_pass_open.specs.declared.source.Source.{Source}
use Rattle.first_pass_blocks.specs.declared.state.BlockPass.{BlockPass}
use Rattle.first_pass_blocks.specs.Views.{allocs_of, front_of, state_of, source_of, source_text, tree_of}
use Rattle.first_pass_kinds.specs.Fronts.{KnowsFront}
use Rattle.first_pass_ready.specs.State.{Ready}
use Rattle.first_pass_order.specs.Ordered.{IsReadFrom}
use Rattle.first_pass_containers.specs.Positions.{Position, LineAt, InLine, LeafAt, IsInLine, ReadyOn, OrderedOn, GrowsTo, GrowsFrom}

-- A pass is at a place of its text, as before it reads a block there. No item is empty, and the front of the next line
-- is not known (this project).
pub record IsAtPlace (pass : BlockPass) (p : Place) : Type 0 where
  pub utf8 : IsUtf8 (source_text pass)
  pub place : IsPlaceOf (source_text pass) p
  pub no_empty : (state_of pass).begin_list_item ≡ None
  pub none : (front_of pass).is_known ≡ false

-- what a pass reads, what its nodes name with the definition tables, and its tree (this project)
pub record Parts : Type 0 where
  pub source : Source
  pub allocs : Allocations
  pub tree : Forest Item

abbrev pub parts_of : BlockPass → Parts
parts_of pass = record { source = source_of pass; allocs = allocs_of pass; tree = tree_of pass }

-- A pass over a source reads the same text, and names are kept. If each index named an entry, each still does. If the
-- entries of the tables were written in the text, they still are. If the table of footnotes had copies of the first
-- labels that nodes name, it still has. If each index named an entry, and all tables were whole with no row open, they
-- still are (this project).
pub record KeepsParts (over : Source) (old new : Parts) : Type 0 where
  pub source : new.source ≡ old.source
  pub names : Extends (names_of new.allocs) (names_of old.allocs)
  pub named : AreNamed (names_of old.allocs) old.tree.nodes → AreNamed (names_of new.allocs) new.tree.nodes
  pub written : TablesAreWritten over.text.now old.allocs → TablesAreWritten over.text.now new.allocs
  pub labels : HasFirstLabels old.allocs old.tree.nodes → HasFirstLabels new.allocs new.tree.nodes
  pub tables : AreNamed (names_of old.allocs) old.tree.nodes → HasWholeTables (names_of old.allocs) old.tree → HasWholeTables (names_of new.allocs) new.tree

-- the same for the parts of two passes (this project)
abbrev pub KeepsPass : Source → BlockPass → BlockPass → Type 0
KeepsPass over old new = KeepsParts over (parts_of old) (parts_of new)

-- A pass over a source came from one position to another, in a line that begins at an offset or after that line. It
-- keeps what `KeepsPass` says. Under all names that extend the new ones, if the state began a derivation at the first position, it begins one at the
-- second. If it was in order, it still is, and it grew by at most four nodes for each byte (this project).
pub record PassesTo (over : Source) (line : ℕ) (old new : BlockPass) (from to : Position) : Type 0 where
  pub kept : KeepsPass over old new
  pub ready : (more : Names) → Extends more (names_of (allocs_of new))
      → ReadyOn (document over.text.now over.options more) (tables_of (allocs_of old)) (state_of old) from
      → ReadyOn (document over.text.now over.options more) (tables_of (allocs_of new)) (state_of new) to
  pub order : OrderedOn over.options over.text.now (state_of old) from → OrderedOn over.options over.text.now (state_of new) to
  pub node_bound : (first : List (ℕ × Item)) → GrowsTo over.text.now line first (tree_of old).nodes from
      → GrowsTo over.text.now line first (tree_of new).nodes to

-- A pass over a source read a block from a position on. Reading continues at a character boundary, not before a given
-- offset. It keeps what `KeepsPass` says. Under all names that extend the new ones, if the state began a derivation at
-- the position, it begins one where reading continues. If it was in order, it still is, and it has at most four more
-- nodes for each byte (this project).
pub record ReadsBlockOf (over : Source) (old new : BlockPass) (far : ℕ) (from : Position) (next : ℕ) : Type 0 where
  pub kept : KeepsPass over old new
  pub later : far ≤ next
  pub boundary : IsCharBoundary over.text.now next
  pub ready : (more : Names) → Extends more (names_of (allocs_of new))
      → ReadyOn (document over.text.now over.options more) (tables_of (allocs_of old)) (state_of old) from
      → Ready (document over.text.now over.options more) (tables_of (allocs_of new)) (state_of new) (lines_from over.text.now next)
  pub order : OrderedOn over.options over.text.now (state_of old) from → IsReadFrom over.options over.text.now (state_of new) next
  pub node_bound : GrowsFrom over.text.now from next (tree_of old).nodes (tree_of new).nodes

-- the same over the source of the old pass (this project)
abbrev pub ReadsBlock : BlockPass → BlockPass → ℕ → Position → ℕ → Type 0
ReadsBlock old new far from next = ReadsBlockOf (source_of old) old new far from next

-- A pass read the block at a place: for each pass that came from the start of a line to that place, this is the block
-- of the line (this project).
abbrev pub ReadsEntered : BlockPass → BlockPass → Place → ℕ → Type 0
ReadsEntered old new p next = (first : BlockPass) (start : ℕ) → start < length (source_text first)
    → IsInLine (source_text first) start (start + line_len (drop start (source_text first))) p
    → PassesTo (source_of first) start first old (LineAt start) (InLine p) → ReadsBlock first new (1 + start) (LineAt start) next

-- a pass read the leaf block that begins at a place: no container begins there, or the line follows the tag of a
-- block quote (CommonMark 4, and this project)
abbrev pub ReadsLeaf : BlockPass → BlockPass → Place → ℕ → Type 0
ReadsLeaf old new p next = ReadsBlock old new (line_end p) (LeafAt p) next

-- Two passes have the same text, options, state, names, definition tables and known front (this project).
pub record HasSameParts (old new : BlockPass) : Type 0 where
  pub source : source_of new ≡ source_of old
  pub state : state_of new ≡ state_of old
  pub names : names_of (allocs_of new) ≡ names_of (allocs_of old)
  pub entries : entries (allocs_of new) ≡ entries (allocs_of old)
  pub front : front_of new ≡ front_of old

-- if a pass knows a front, it is that of the line at an offset (this project)
abbrev pub KnowsNext : BlockPass → ℕ → Type 0
KnowsNext pass next = KnowsFront (source_of pass) (tree_of pass) next (front_of pass)
