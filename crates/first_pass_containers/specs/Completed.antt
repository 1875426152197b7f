-- Completions of the state of the pass between two blocks.
use Rattle.std.specs.Prelude.{ℕ, Bool, true, false, List, map, Option, Some, None}
use Rattle.first_pass_items.specs.declared.item.Item.{Item}
use Rattle.first_pass_tree.specs.Forest.{Forest}
use Rattle.first_pass_lines.specs.Places.{Place}
use Rattle.first_pass_grammar.specs.Leaves.{Document, document}
use Rattle.first_pass_grammar.specs.Skeleton.{Continues, Line, Blanks, next_is_blank}
use Rattle.first_pass_grammar.specs.Derivation.{Tables, Derives}
use Rattle.first_pass_grammar.specs.Completion.{NoList, Frame, last_of, Completion}
use Rattle.first_pass_lists.specs.declared.state.PassState.{PassState}
use Rattle.first_pass_open.specs.Path.{path_of}
use Rattle.first_pass_ready.specs.State.{closed_in, top_without_indent, AreOpen}

-- Blocks complete the open nodes of a tree, from a place or from these lines on, and the text derives the resulting
-- forest.
pub record CompletedAt (d : Document) (defined : Tables) (tree : Forest Item) (run : Bool) (from : Continues) (lines : List Place) : Type 0 where
  pub frames : List Frame
  pub are_open : AreOpen d.options tree.nodes tree.spine frames
  pub completion : Completion d frames (map (λ ix. ix.0) tree.spine)
      (record {
        nodes = tree.nodes;
        list = NoList (closed_in tree);
        before = record { last = last_of frames (closed_in tree); counted = run };
        defined = defined;
      }) from lines
  pub derives : Derives (document d.text d.options completion.names) completion.forest completion.tables

-- the same for an innermost item or definition that is empty and whose marker's line ends at an offset: the next line
-- decides whether it takes only blank lines
abbrev pub CompletedBeforeLine : Document → Tables → Forest Item → ℕ → List Place → Bool → Type 0
CompletedBeforeLine d defined tree e lines true = CompletedAt d defined (top_without_indent tree) false (Blanks e) lines
CompletedBeforeLine d defined tree e lines false = CompletedAt d defined tree false Line lines

-- the same; after a counting blank line, it takes only blank lines
abbrev pub CompletedInItem : Document → Tables → Forest Item → ℕ → List Place → Bool → Type 0
CompletedInItem d defined tree e lines true = CompletedAt d defined tree true (Blanks e) lines
CompletedInItem d defined tree e lines false = CompletedBeforeLine d defined tree e lines (next_is_blank (path_of d.options tree) lines)

-- the same for a state; its innermost open node may be such an item
abbrev pub CompletedWith : Document → Tables → PassState → List Place → Option ℕ → Type 0
CompletedWith d defined r lines None = CompletedAt d defined r.tree r.blank Line lines
CompletedWith d defined r lines (Some e) = CompletedInItem d defined r.tree e lines r.blank

-- blocks complete the state before these lines, and the text derives the tree
unfoldable pub IsCompleted : Document → Tables → PassState → List Place → Type 0
IsCompleted d defined r lines = CompletedWith d defined r lines r.begin_list_item
