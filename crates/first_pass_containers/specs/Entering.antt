-- The open nodes that a line closes, and a line that is entered (only calls of this crate cite this).
use Rattle.std.specs.Prelude.{◌≡◌, ℕ, zero, suc, ◌+◌, ◌≤◌, List, length, drop, Option, Some, None, if◌then◌else◌, IsCharBoundary}
use Rattle.first_pass_items.specs.declared.option_set.Options.{Options}
use Rattle.first_pass_items.specs.declared.item.Item.{Item}
use Rattle.first_pass_tree.specs.Forest.{Forest}
use Rattle.first_pass_tree.specs.declared.tree_index.TreeIndex.{TreeIndex}
use Rattle.first_pass_lines.specs.Lines.{line_len}
use Rattle.first_pass_lines.specs.Places.{Place, line_rest, place_at, start_of}
use Rattle.first_pass_grammar.specs.Containers.{front}
use Rattle.first_pass_grammar.specs.Counting.{counted_nodes}
use Rattle.first_pass_grammar.specs.Derivation.{Tables}
use Rattle.first_pass_grammar.specs.Kinds.{is_blank_rest}
use Rattle.first_pass_grammar.specs.Leaves.{Document}
use Rattle.first_pass_grammar.specs.Names.{Names, AreNamed}
use Rattle.first_pass_grammar.specs.WholeTables.{HasWholeTables}
use Rattle.first_pass_open.specs.Path.{path_in, path_of}
use Rattle.first_pass_open.specs.declared.source.Source.{Source}
use Rattle.first_pass_lists.specs.Closing.{popped}
use Rattle.first_pass_lists.specs.declared.state.PassState.{PassState}
use Rattle.first_pass_ready.specs.State.{NoMore, Ready}
use Rattle.first_pass_order.specs.Footnotes.{footnotes_in}
use Rattle.first_pass_order.specs.Ordered.{IsReadTo}
use Rattle.first_pass_containers.specs.Positions.{LineAt, InLine, IsInLine, ReadsTo}

-- the state after this many open nodes are closed at an offset, the innermost first (CommonMark 5)
unfoldable pub all_popped : ℕ → ℕ → PassState → PassState
all_popped zero at r = r
all_popped (suc n) at r = all_popped n at (popped at r)

-- If a state was in order up to an offset, it still is. No node is added, every index that named an entry still does,
-- the footnote definitions name the same indices, and whole tables stay whole (this project).
pub record KeepsState (old new : PassState) (ix : ℕ) : Type 0 where
  pub order : (text : List ℕ) → ix ≤ length text → IsCharBoundary text ix → IsReadTo text old ix → IsReadTo text new ix
  pub count : counted_nodes new.tree.nodes ≤ counted_nodes old.tree.nodes
  pub named : (names : Names) → AreNamed names old.tree.nodes → AreNamed names new.tree.nodes
  pub footnotes : footnotes_in new.tree.nodes ≡ footnotes_in old.tree.nodes
  pub tables : (names : Names) → HasWholeTables names old.tree → HasWholeTables names new.tree

-- The open nodes except the outermost `kept` are closed at an offset. No path of containers changes. If the lines
-- from there on continue none of the closed nodes, the state still begins a derivation. It keeps what `KeepsState`
-- says (CommonMark 5, and this project).
pub record ClosesAt (old new : PassState) (kept ix : ℕ) : Type 0 where
  pub paths : (options : Options) (s : List TreeIndex) → path_in options new.tree.nodes s ≡ path_in options old.tree.nodes s
  pub ready : (d : Document) (defined : Tables) (lines : List Place) → start_of (length d.text) lines ≡ ix → NoMore d.options old.tree kept lines
      → Ready d defined old lines → Ready d defined new lines
  pub state : KeepsState old new ix
  pub all_kept : kept ≡ length old.tree.spine → new ≡ old

-- in the line at an offset, the place after the prefixes of the open containers that it continues, unless the rest of
-- the line is blank (CommonMark 5)
abbrev pub place_entered : Source → Forest Item → ℕ → Option Place
place_entered source f start =
    let r = front (path_of source.options f) (line_rest (drop start source.text.now)) in
    if is_blank_rest r then None else Some (place_at start r)

-- The line at an offset is entered: reading is at a place in it, and no item is empty. Without a place, reading has
-- passed the line.
abbrev pub EntersLine : Source → PassState → PassState → ℕ → Option Place → Type 0
EntersLine source old new start None = ReadsTo source start old new (LineAt start) (LineAt (start + line_len (drop start source.text.now)))
EntersLine source old new start (Some p) =
    IsInLine source.text.now start (start + line_len (drop start source.text.now)) p × (new.begin_list_item ≡ None)
    × ReadsTo source start old new (LineAt start) (InLine p)
