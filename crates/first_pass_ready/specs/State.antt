-- The meaning of the pass's tree between two blocks.
use Rattle.std.specs.Prelude.{◌≡◌, ℕ, ◌<◌, ◌≤◌, ◌==◌, Bool, true, false, List, [], ◌∷◌, length, map, ◌&&◌, Option, Some, None, if◌then◌else◌}
use Rattle.std.specs.Option.{option_and_then, option_map_or}
use Rattle.first_pass_items.specs.declared.item.Item.{Item}
use Rattle.first_pass_items.specs.declared.item.ItemBody.{ItemBody}
use Rattle.first_pass_items.specs.declared.item.ItemBody.TheVariants.{BlockQuote as BlockQuoteBody, List as ListBody, ListItem as ListItemBody}
use Rattle.first_pass_items.specs.declared.item.ItemBody.TheVariants.{FootnoteDefinition as FootnoteDefinitionBody, Paragraph as ParagraphBody}
use Rattle.first_pass_items.specs.declared.item.ItemBody.TheVariants.{DefinitionList, DefinitionListDefinition, MaybeDefinitionListTitle}
use Rattle.first_pass_tree.specs.declared.tree_index.TreeIndex.{TreeIndex}
use Rattle.first_pass_tree.specs.Forest.{Forest, body_at, item_at}
use Rattle.first_pass_lines.specs.Places.{Place}
use Rattle.first_pass_grammar.specs.declared.kind.Container.TheVariants.{BlockQuote, ListItem, FootnoteDefinition, Definition}
use Rattle.first_pass_grammar.specs.Names.{Names, Extends}
use Rattle.first_pass_grammar.specs.Leaves.{Document, document}
use Rattle.first_pass_grammar.specs.Derivation.{Tables}
use Rattle.first_pass_grammar.specs.Containers.{footnote_columns, next_goes_on, is_footnote, in_footnote}
use Rattle.first_pass_grammar.specs.Skeleton.{Continues, Line, Blanks, next_is_blank}
use Rattle.first_pass_grammar.specs.Completion.{Closed, OtherClosed, ParagraphAt, DefinitionClosed, TitleAt, NoList, Frame, InContainer, InList, InDefinitions}
use Rattle.first_pass_grammar.specs.Completion.{containers_of, last_of, Completes}
use Rattle.first_pass_grammar.specs.WholeTables.{SilentClosed}
use Rattle.first_pass_lists.specs.Closing.{top_body, top_end, item_without_indent, definition_without_indent}
use Rattle.first_pass_lists.specs.declared.state.PassState.{PassState}
use Rattle.first_pass_open.specs.Path.{path_in, path_of, outer}
use Rattle.first_pass_items.specs.declared.option_set.Options.{Options}

-- a list of either kind, tight or loose so far
abbrev pub list_frame : (Bool → Frame) → ℕ → Option Frame
list_frame of flags = if flags == 1 then Some (of false) else (if flags == 0 then Some (of true) else None)

-- the frame of an open node under these options: a container, or a list
abbrev pub frame_of : Options → ItemBody → Option Frame
frame_of options (BlockQuoteBody kind) = Some (InContainer (BlockQuote kind))
frame_of options (ListItemBody columns) = Some (InContainer (ListItem columns))
frame_of options (FootnoteDefinitionBody label) = Some (InContainer (FootnoteDefinition (footnote_columns options)))
frame_of options (DefinitionListDefinition columns) = Some (InContainer (Definition columns))
frame_of options (ListBody flags byte number) = list_frame (InList byte) flags.0
frame_of options (DefinitionList flags) = list_frame InDefinitions flags.0
frame_of options _ = None

abbrev pub frame_at : Options → List (ℕ × Item) → ℕ → Option Frame
frame_at options nodes i = option_and_then (frame_of options) (body_at nodes i)

-- a footnote definition is directly in another one (this project)
abbrev pub is_footnote_in_another : Frame → List Frame → Bool
is_footnote_in_another (InContainer c) frames = is_footnote c && in_footnote (containers_of frames)
is_footnote_in_another (InList byte loose) frames = false
is_footnote_in_another (InDefinitions loose) frames = false

-- The frames describe the open nodes under these options, and no footnote definition is directly in another one.
abbrev pub AreOpen : Options → List (ℕ × Item) → List TreeIndex → List Frame → Type 0
AreOpen options nodes [] [] = Unit {0}
AreOpen options nodes [] (frame ∷ frames) = ⊥
AreOpen options nodes (ix ∷ spine) [] = ⊥
AreOpen options nodes (ix ∷ spine) (frame ∷ frames) =
    (frame_at options nodes ix.0 ≡ Some frame) × AreOpen options nodes spine frames × (is_footnote_in_another frame frames ≡ false)

-- the last child of a definition list that ends at an offset: the node at an index, which ends at another offset; a
-- possible title, or otherwise a definition
abbrev pub closed_in_definitions : ℕ → ℕ → ℕ → ItemBody → Closed
closed_in_definitions e place x MaybeDefinitionListTitle = TitleAt e place
closed_in_definitions e place x (DefinitionListDefinition columns) = DefinitionClosed x (columns == 0)
closed_in_definitions e place x _ = DefinitionClosed x true

-- the last child of another node: the node at an index
abbrev pub closed_elsewhere : ℕ → ItemBody → Closed
closed_elsewhere place ParagraphBody = ParagraphAt place
closed_elsewhere place _ = OtherClosed

-- the last child of an open node that ends at an offset: the node at an index
abbrev pub closed_below : ℕ → Option ItemBody → ℕ → Item → Closed
closed_below e (Some (DefinitionList flags)) place x = closed_in_definitions e place x.«end» x.body
closed_below e _ place x = closed_elsewhere place x.body

abbrev pub closed_none : Option ItemBody → Closed
closed_none (Some (DefinitionList flags)) = DefinitionClosed 0 true
closed_none _ = OtherClosed

-- the same, with this node or none
abbrev pub closed_with : Forest Item → Option TreeIndex → Closed
closed_with f None = closed_none (top_body f)
closed_with f (Some c) = option_map_or (closed_below (top_end f) (top_body f) c.0) (item_at f c) (closed_none (top_body f))

-- The last child of the innermost open node. An open definition list with a possible title ends where its last
-- definition does (this project).
abbrev pub closed_in : Forest Item → Closed
closed_in f = closed_with f f.current

-- Only containers and lists are open, and every completion of the nodes, from a place or from these lines on, is
-- derived by the text. `run` is true if the run of blank lines before has a counting one. A last child that is a
-- paragraph or a possible title has no part of a table in it.
pub record ReadyAt (d : Document) (defined : Tables) (tree : Forest Item) (run : Bool) (from : Continues) (lines : List Place) : Type 0 where
  pub frames : List Frame
  pub are_open : AreOpen d.options tree.nodes tree.spine frames
  pub completes : Completes d frames (map (λ ix. ix.0) tree.spine)
      (record {
        nodes = tree.nodes;
        list = NoList (closed_in tree);
        before = record { last = last_of frames (closed_in tree); counted = run };
        defined = defined;
      }) from lines
  pub silent : SilentClosed tree.nodes (closed_in tree)

-- the innermost open node, an item or a definition, takes only blank lines
abbrev pub body_without_indent : Forest Item → Option ItemBody → Forest Item
body_without_indent f (Some (DefinitionListDefinition columns)) = definition_without_indent f f.spine
body_without_indent f _ = item_without_indent f f.spine

abbrev pub top_without_indent : Forest Item → Forest Item
top_without_indent f = body_without_indent f (top_body f)

-- the same for an innermost item or definition that is empty and whose marker's line ends at an offset: the next line
-- decides whether it takes only blank lines
abbrev pub ReadyBeforeLine : Document → Tables → Forest Item → ℕ → List Place → Bool → Type 0
ReadyBeforeLine d defined tree e lines true = ReadyAt d defined (top_without_indent tree) false (Blanks e) lines
ReadyBeforeLine d defined tree e lines false = ReadyAt d defined tree false Line lines

-- the same if a blank line after that line is already read, or not yet
abbrev pub ReadyInItem : Document → Tables → Forest Item → ℕ → List Place → Bool → Type 0
ReadyInItem d defined tree e lines true = ReadyAt d defined tree true (Blanks e) lines
ReadyInItem d defined tree e lines false = ReadyBeforeLine d defined tree e lines (next_is_blank (path_of d.options tree) lines)

-- the indent of an item or of a definition
abbrev pub item_columns : ItemBody → Option ℕ
item_columns (ListItemBody columns) = Some columns
item_columns (DefinitionListDefinition columns) = Some columns
item_columns _ = None

-- the same for a state; once that blank line is read, the item or definition has the indent 0
pub record ReadyEmpty (d : Document) (defined : Tables) (r : PassState) (e : ℕ) (lines : List Place) : Type 0 where
  pub place : TreeIndex
  pub outer : List TreeIndex
  pub columns : ℕ
  pub spine : r.tree.spine ≡ place ∷ outer
  pub item : option_and_then item_columns (body_at r.tree.nodes place.0) ≡ Some columns
  pub none : r.blank ≡ true → columns ≡ 0
  pub ready : ReadyInItem d defined r.tree e lines r.blank

abbrev pub ReadyWith : Document → Tables → PassState → List Place → Option ℕ → Type 0
ReadyWith d defined r lines None = ReadyAt d defined r.tree r.blank Line lines
ReadyWith d defined r lines (Some e) = ReadyEmpty d defined r e lines

-- the state begins a derivation of the text that continues with these lines
unfoldable pub Ready : Document → Tables → PassState → List Place → Type 0
Ready d defined r lines = ReadyWith d defined r lines r.begin_list_item

-- it does so under any further names
abbrev pub StaysReady : Document → Tables → PassState → List Place → Type 0
StaysReady d defined r lines = (more : Names) → Extends more d.names → Ready (document d.text d.options more) defined r lines

-- the first of these lines continues at most this many of the open nodes
abbrev pub NoMore : Options → Forest Item → ℕ → List Place → Type 0
NoMore options f kept lines = (m : ℕ) → kept < m → m ≤ length f.spine → next_goes_on (path_in options f.nodes (outer m f.spine)) lines ≡ false
