-- How containers and lists are opened and closed: the result of each call on the state of the pass. In these comments,
-- a definition list is also a list, and its definitions are its items. An item is empty as long as only blank lines
-- follow its marker, or the task list item marker after that. A possible title is a paragraph right after a definition.
-- A `:` after it makes it the next title of the definition list. Otherwise it comes after that list. An index is that
-- of a node in reading order.
use Rattle.std.specs.Prelude.{ℕ, ◌==◌, ◌&&◌, not, Bool, true, false, List, [], ◌∷◌, length, Option, Some, None, is_some, slice_get, if◌then◌else◌}
use Rattle.std.specs.Int.RustNames.{bit_and}
use Rattle.std.specs.Option.{option_and_then, option_map_or}
use Rattle.first_pass_items.specs.declared.item.Item.{Item}
use Rattle.first_pass_items.specs.declared.item.ItemBody.{ItemBody}
use Rattle.first_pass_items.specs.declared.item.ItemBody.TheVariants.{BlockQuote as BlockQuoteBody, List as ListBody, ListItem as ListItemBody}
use Rattle.first_pass_items.specs.declared.item.ItemBody.TheVariants.{FootnoteDefinition as FootnoteDefinitionBody, Paragraph as ParagraphBody, DefinitionList}
use Rattle.first_pass_items.specs.declared.item.ItemBody.TheVariants.{DefinitionListTitle, MaybeDefinitionListTitle, DefinitionListDefinition}
use Rattle.first_pass_items.specs.declared.item.CowIndex.{CowIndex}
use Rattle.first_pass_items.specs.declared.option_set.Options.{Options}
use Rattle.first_pass_items.specs.OptionWords.{gfm_footnotes}
use Rattle.first_pass_tree.specs.declared.tree_index.TreeIndex.{TreeIndex}
use Rattle.first_pass_tree.specs.Forest.{Forest, appended, pushed, wrapped, moved_from, with_body_at, with_end, body_at, item_at}
use Rattle.first_pass_grammar.specs.Derivation.{list_flags}
use Rattle.first_pass_tree.specs.Tight.{tight_items}
use Rattle.first_pass_open.specs.OpenBlock.{closed_by}
use Rattle.first_pass_lists.specs.declared.state.PassState.{PassState}

-- a state from its parts
abbrev pub state_with : Forest Item → Option ℕ → Bool → PassState
state_with tree begin_list_item blank = record { tree = tree; begin_list_item = begin_list_item; blank = blank }

-- the state with another tree
abbrev pub with_tree : PassState → Forest Item → PassState
with_tree state tree = record state { tree = tree }

-- the state after something is added to the innermost open node: it records no empty item
abbrev pub with_block : PassState → Forest Item → PassState
with_block state tree = record state { tree = tree; begin_list_item = None }

-- a list at an index becomes loose, given the body there; any other node is unchanged
abbrev pub loosened_by : Forest Item → TreeIndex → Option ItemBody → Forest Item
loosened_by f ix (Some (ListBody flags byte number)) = with_body_at f ix (ListBody (list_flags false) byte number)
loosened_by f ix (Some (DefinitionList flags)) = with_body_at f ix (DefinitionList (list_flags false))
loosened_by f ix _ = f

-- the same; the body is read from the tree
abbrev pub loosened_at : Forest Item → TreeIndex → Forest Item
loosened_at f ix = loosened_by f ix (body_at f.nodes ix.0)

-- the body of the innermost open node
abbrev pub top_body : Forest Item → Option ItemBody
top_body f = option_and_then (λ ix. body_at f.nodes ix.0) (slice_get f.spine 0)

-- the body of the current node
abbrev pub current_body : Forest Item → Option ItemBody
current_body f = option_and_then (λ ix. body_at f.nodes ix.0) f.current

-- the body of a definition list
abbrev pub is_definition_list : Option ItemBody → Bool
is_definition_list (Some (DefinitionList flags)) = true
is_definition_list _ = false

-- the body of a list of items or of a definition list
abbrev pub is_list : Option ItemBody → Bool
is_list (Some (ListBody flags byte number)) = true
is_list (Some (DefinitionList flags)) = true
is_list _ = false

-- the body of a list of items whose markers end in the byte `ch`
abbrev pub is_list_of : ℕ → Option ItemBody → Bool
is_list_of ch (Some (ListBody flags byte number)) = byte == ch
is_list_of ch _ = false

-- the body of a list item or of a definition
abbrev pub is_item : Option ItemBody → Bool
is_item (Some (ListItemBody columns)) = true
is_item (Some (DefinitionListDefinition columns)) = true
is_item _ = false

-- the body of a footnote definition
abbrev pub is_footnote : Option ItemBody → Bool
is_footnote (Some (FootnoteDefinitionBody label)) = true
is_footnote _ = false

-- The state once a node is closed. Given are the state before, the tree with the node closed, and the index and the
-- body of the node. If the node is a tight list, the paragraphs directly in its items become tight. If it is an item or
-- a definition, the state records no empty item.
abbrev pub popped_by : PassState → Forest Item → TreeIndex → Option ItemBody → PassState
popped_by state f ix (Some (ListBody flags byte number)) = record state { tree = if bit_and flags.0 1 == 1 then tight_items f ix else f }
popped_by state f ix (Some (DefinitionList flags)) = record state { tree = if bit_and flags.0 1 == 1 then tight_items f ix else f }
popped_by state f ix (Some (ListItemBody columns)) = record state { tree = f; begin_list_item = None }
popped_by state f ix (Some (DefinitionListDefinition columns)) = record state { tree = f; begin_list_item = None }
popped_by state f ix _ = record state { tree = f }

-- the innermost open node, at the first of these indices, is closed at an offset
abbrev pub popped_at : ℕ → PassState → List TreeIndex → PassState
popped_at e state [] = state
popped_at e state (ix ∷ rest) = popped_by state (closed_by state.tree e (ix ∷ rest)) ix (body_at (closed_by state.tree e (ix ∷ rest)).nodes ix.0)

-- the last child of the list that was just closed is moved out of it; the child was the current node before the
-- closing
abbrev pub current_moved : PassState → Option TreeIndex → PassState
current_moved state None = state
current_moved state (Some ix) = with_tree state (moved_from state.tree ix.0)

-- a definition list, the innermost open node, is closed at an offset, and its last child, the current node, is moved
-- out of it (this project)
unfoldable pub definitions_closed : ℕ → PassState → PassState
definitions_closed e state = current_moved (popped_at e state state.tree.spine) state.tree.current

-- the end that is recorded in the innermost open node; 0 at the top level
abbrev pub top_end : Forest Item → ℕ
top_end f = option_map_or (λ x. x.«end») (option_and_then (λ ix. item_at f ix) (slice_get f.spine 0)) 0

-- The index of the current node, if that is a possible title and the innermost open node is a definition list.
-- Given are the body of the innermost open node, and the index and the body of the current node.
abbrev pub title_by : Option ItemBody → TreeIndex → Option ItemBody → Option TreeIndex
title_by top ix (Some MaybeDefinitionListTitle) = if is_definition_list top then Some ix else None
title_by top ix _ = None

-- the same for a tree
abbrev pub possible_title : Forest Item → Option TreeIndex
possible_title f = option_and_then (λ ix. title_by (top_body f) ix (body_at f.nodes ix.0)) f.current

-- The innermost open node is a definition list, and the current node is its possible title. The list is closed at the
-- end of its last definition, which `title_begun` has recorded in the list. The possible title becomes a paragraph
-- after the list (this project).
abbrev pub title_closed : PassState → TreeIndex → PassState
title_closed state title = definitions_closed (top_end state.tree) (with_tree state (with_body_at state.tree title ParagraphBody))

-- the same, if there is a possible title; otherwise the innermost open node is closed at an offset
abbrev pub popped_after : ℕ → PassState → Option TreeIndex → PassState
popped_after e state None = popped_at e state state.tree.spine
popped_after e state (Some title) = title_closed state title

-- The innermost open node is closed at an offset. But if it is a definition list whose last child is a possible title,
-- it is closed at the end of its last definition.
unfoldable pub popped : ℕ → PassState → PassState
popped e state = popped_after e state (possible_title state.tree)

-- The innermost open node is closed, if it is an empty item or definition and a counting blank line is directly
-- before. It ends at the offset that is given, which is after the line of its marker. In any case, the state then
-- records no empty item.
abbrev pub empty_item_closed_by : PassState → Option ℕ → PassState
empty_item_closed_by state None = state
empty_item_closed_by state (Some e) =
    record (if state.blank && is_item (top_body state.tree) then popped e state else state) { begin_list_item = None }

-- the same with the offset that the state records
unfoldable pub empty_item_closed : PassState → PassState
empty_item_closed state = empty_item_closed_by state state.begin_list_item

-- the innermost open node is closed at an offset, if it is a list
abbrev pub list_closed : ℕ → PassState → PassState
list_closed e state = if is_list (top_body state.tree) then popped e state else state

-- the innermost open node is closed at an offset, if it is a footnote definition
abbrev pub footnote_left : ℕ → PassState → PassState
footnote_left e state = if is_footnote (top_body state.tree) then popped e state else state

-- the same, if a counting blank line is directly before (used only for footnotes in the old form)
abbrev pub old_footnote_finished : ℕ → PassState → PassState
old_footnote_finished e state = if state.blank then footnote_left e state else state

-- the second of these open nodes, innermost first, becomes loose, if it is a list
abbrev pub gap_tree : Forest Item → List TreeIndex → Forest Item
gap_tree f [] = f
gap_tree f (ix ∷ []) = f
gap_tree f (ix ∷ outer ∷ rest) = loosened_at f outer

-- If a counting blank line is before a block, and the block is directly in an item, the list of that item becomes
-- loose. The blank line then no longer counts.
abbrev pub gap_marked : PassState → PassState
gap_marked state = if state.blank then record state { tree = gap_tree state.tree state.tree.spine; blank = false } else state

-- The current node, right after a definition, turned out to be a heading or a table. The definition list is closed at
-- an offset, and the current node is moved out of it. Suppose that a counting blank line is before the current node,
-- and that the definition list is directly in an item of another list. Then that other list becomes loose
-- (this project).
unfoldable pub definitions_left : ℕ → PassState → PassState
definitions_left e state = gap_marked (definitions_closed e state)

-- The state when a new block is added. First an empty item is closed. If the innermost open node is then a list, it is
-- closed at an offset. If a counting blank line is before a block directly in an item, the list of that item becomes
-- loose.
unfoldable pub list_finished : ℕ → PassState → PassState
list_finished e state = gap_marked (list_closed e (empty_item_closed state))

-- the innermost open node becomes loose, if it is a list
abbrev pub loosened_top : Forest Item → List TreeIndex → Forest Item
loosened_top f [] = f
loosened_top f (ix ∷ rest) = loosened_at f ix

-- The innermost open node, a list, continues. A counting blank line directly before makes it loose, and then no longer
-- counts.
abbrev pub list_kept : PassState → PassState
list_kept state = if state.blank then record state { tree = loosened_top state.tree state.tree.spine; blank = false } else state

-- a container or a list with this body is opened at an offset
abbrev pub begun : ℕ → ItemBody → PassState → PassState
begun start body state =
    record state { tree = pushed (appended state.tree (record { start = start; «end» = 0; body = body })) (record { 0 = length state.tree.nodes }) }

-- the tree with another body of the node at an index, if one is given
abbrev pub with_current : Forest Item → ItemBody → Option TreeIndex → Forest Item
with_current f body None = f
with_current f body (Some c) = with_body_at f c body

-- The current node, a paragraph right after a definition, becomes a possible title. The innermost open node, the
-- definition list, records an offset, which is the end of that definition. A blank line before the paragraph no longer
-- counts (this project).
unfoldable pub title_begun : ℕ → PassState → PassState
title_begun e state =
    record state { tree = with_end (with_current state.tree MaybeDefinitionListTitle state.tree.current) e (slice_get state.tree.spine 0); blank = false }

-- A `:` may begin a definition after the current node. Given are the bodies of the innermost open node and of the
-- current node. After a paragraph it may, unless the innermost open node is a list. If that node is a definition list,
-- it may after a possible title, and after a definition whose indent is not 0. A definition with the indent 0 takes
-- only blank lines (this project).
abbrev pub precedes_definition : Option ItemBody → Option ItemBody → Bool
precedes_definition top (Some ParagraphBody) = not (is_list top)
precedes_definition top (Some MaybeDefinitionListTitle) = is_definition_list top
precedes_definition top (Some (DefinitionListDefinition columns)) = is_definition_list top && not (columns == 0)
precedes_definition top _ = false

-- the same for a tree
abbrev pub may_begin_definition : Forest Item → Bool
may_begin_definition f = precedes_definition (top_body f) (current_body f)

-- A paragraph that begins here may become the next title. This is so if the innermost open node is a definition list
-- whose last child is not a possible title (this project).
abbrev pub is_after_definition : Forest Item → Bool
is_after_definition f = is_definition_list (top_body f) && not (is_some (possible_title f))

-- The tree in which a new definition can be opened. Given are the index, the start, the end and the body of the
-- current node. A possible title becomes the next title of the open definition list. A paragraph becomes the title of
-- a new list, which is tight so far and is opened. Otherwise nothing changes (this project).
abbrev pub definitions_by : Forest Item → TreeIndex → ℕ → ℕ → ItemBody → Forest Item
definitions_by f c start e MaybeDefinitionListTitle = with_body_at f c DefinitionListTitle
definitions_by f c start e ParagraphBody =
    pushed (wrapped (with_body_at f c (DefinitionList (list_flags true))) c (record { start = start; «end» = e; body = DefinitionListTitle })) c
definitions_by f c start e _ = f

-- the same, given the item of the current node
abbrev pub definitions_at : Forest Item → TreeIndex → Option Item → Forest Item
definitions_at f c None = f
definitions_at f c (Some x) = definitions_by f c x.start x.«end» x.body

-- the same, given the index of the current node
abbrev pub definitions_opened : Forest Item → Option TreeIndex → Forest Item
definitions_opened f None = f
definitions_opened f (Some c) = definitions_at f c (item_at f c)

-- A definition with an indent is opened at an offset, in the open definition list or in a new one. A counting blank
-- line before the definition makes that list loose (this project).
unfoldable pub definition_begun : ℕ → ℕ → PassState → PassState
definition_begun start indent state =
    begun start (DefinitionListDefinition indent) (list_kept (with_tree state (definitions_opened state.tree state.tree.current)))

-- A footnote definition with its label is opened at an offset. Before that, an empty item is closed. If the innermost
-- open node is then a list, it is closed at the offset. If the innermost open node is then a footnote definition, it
-- is closed there too. If a counting blank line is before a footnote definition directly in an item, the list of that
-- item becomes loose (this project).
unfoldable pub footnote_begun : ℕ → CowIndex → PassState → PassState
footnote_begun start label state =
    begun start (FootnoteDefinitionBody label) (gap_marked (footnote_left start (list_closed start (empty_item_closed state))))

-- The state in which an item with this byte and number can be opened at an offset. First an empty item is closed. If
-- the innermost open node is then a list with this byte, it continues. Otherwise what a new block ends is closed, and
-- a new list is opened.
unfoldable pub list_continued : ℕ → ℕ → ℕ → PassState → PassState
list_continued start byte number state =
    let next = empty_item_closed state in
    if is_list_of byte (top_body next.tree) then list_kept next else begun start (ListBody (list_flags true) byte number) (list_finished start next)

-- the innermost open node, an item, takes only blank lines from now on: its indent is 0
abbrev pub item_without_indent : Forest Item → List TreeIndex → Forest Item
item_without_indent f [] = f
item_without_indent f (ix ∷ rest) = with_body_at f ix (ListItemBody 0)

-- the innermost open node, a definition, takes only blank lines from now on: its indent is 0
abbrev pub definition_without_indent : Forest Item → List TreeIndex → Forest Item
definition_without_indent f [] = f
definition_without_indent f (ix ∷ rest) = with_body_at f ix (DefinitionListDefinition 0)

-- A blank line is read, given the body of the innermost open node. In a block quote the line does not count, and
-- nothing changes. Otherwise it counts, and an empty item or definition takes only blank lines from then on.
abbrev pub blank_read_by : PassState → Option ItemBody → PassState
blank_read_by state (Some (BlockQuoteBody kind)) = state
blank_read_by state (Some (ListItemBody columns)) =
    record state { tree = if is_some state.begin_list_item then item_without_indent state.tree state.tree.spine else state.tree; blank = true }
blank_read_by state (Some (DefinitionListDefinition columns)) =
    record state { tree = if is_some state.begin_list_item then definition_without_indent state.tree state.tree.spine else state.tree; blank = true }
blank_read_by state _ = record state { blank = true }

-- the same for a state
unfoldable pub blank_read : PassState → PassState
blank_read state = blank_read_by state (top_body state.tree)

-- If the innermost open node is a footnote definition in the old form, it is closed at the start of a line, after a
-- counting blank line (this project).
abbrev pub footnote_ended : Options → ℕ → PassState → PassState
footnote_ended options e state = if gfm_footnotes options then state else old_footnote_finished e state
