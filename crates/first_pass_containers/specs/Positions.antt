-- Positions in the lines of a text, and what holds there (calls of this crate cite this, and of those above it only
-- `parse_block`, for the start of a line).
use Rattle.std.specs.Prelude.{◌≡◌, ◌⊎◌, ℕ, ◌<◌, ◌≤◌, Bool, false, ◌&&◌, List, Option, Some, None, if◌then◌else◌, IsCharBoundary}
use Rattle.first_pass_items.specs.declared.item.Item.{Item}
use Rattle.first_pass_items.specs.declared.item.BlockQuoteKind.{BlockQuoteKind}
use Rattle.first_pass_items.specs.declared.item.ItemBody.TheVariants.{BlockQuote as BlockQuoteBody}
use Rattle.first_pass_items.specs.declared.option_set.Options.{Options}
use Rattle.first_pass_tree.specs.Forest.{Forest}
use Rattle.first_pass_lines.specs.Places.{Place, offset, line_end, IsPlaceOf}
use Rattle.first_pass_items.specs.OptionWords.{has, definition_list}
use Rattle.first_pass_grammar.specs.Footnotes.{footnote_head_at}
use Rattle.first_pass_grammar.specs.Openers.{start_at}
use Rattle.first_pass_grammar.specs.Leaves.{Document, document}
use Rattle.first_pass_grammar.specs.Derivation.{Tables}
use Rattle.first_pass_grammar.specs.Names.{Names, AreNamed}
use Rattle.first_pass_grammar.specs.WholeTables.{HasWholeTables}
use Rattle.first_pass_grammar.specs.Order.{GrowsBy}
use Rattle.first_pass_grammar.specs.OpenOrder.{IsOrderedTo}
use Rattle.first_pass_grammar.specs.Skeleton.{Continues, Inside, AtPlace, OnlyALeaf, TextOf, after_tag}
use Rattle.first_pass_grammar.specs.Completion.{lines_from, IsPlain}
use Rattle.first_pass_open.specs.Path.{context_of}
use Rattle.first_pass_open.specs.declared.source.Source.{Source}
use Rattle.first_pass_open.specs.Between.{MarkerBetween}
use Rattle.first_pass_lists.specs.Closing.{top_body, is_list, may_begin_definition}
use Rattle.first_pass_lists.specs.declared.state.PassState.{PassState}
use Rattle.first_pass_ready.specs.State.{Ready, ReadyAt}
use Rattle.first_pass_order.specs.Footnotes.{footnotes_in}
use Rattle.first_pass_order.specs.Ordered.{AreNested, CanClose, IsReadFrom}

-- the start of a line; in a line, where a container may begin; in a line, where none does, or after the tag of a
-- block quote; before the text of a task, after its marker; or the start of the line after a tag
pub data Position : Type 0 where
  LineAt : ℕ → Position
  InLine : Place → Position
  LeafAt : Place → Position
  TaskAt : Place → Item → Position
  TaggedAt : ℕ → Position

-- ready for the paragraph of a task at a place in the line, after its marker; the innermost open node is no list
pub record ReadyText (d : Document) (defined : Tables) (r : PassState) (marker : Item) (p : Place) (lines : List Place) : Type 0 where
  pub blank : r.blank ≡ false
  pub ready : ReadyAt d defined r.tree false (AtPlace p (TextOf marker)) lines
  pub plain : IsPlain ready.frames

-- the innermost open node is a block quote, whose blocks continue from there with these lines
pub record ReadyInQuote (d : Document) (defined : Tables) (r : PassState) (from : Continues) (lines : List Place) : Type 0 where
  pub kind : Option BlockQuoteKind
  pub quote : top_body r.tree ≡ Some (BlockQuoteBody kind)
  pub blank : r.blank ≡ false
  pub ready : ReadyAt d defined r.tree false from lines

-- ready before the line after the tag of a block quote
abbrev pub ReadyTagged : Document → Tables → PassState → List Place → Type 0
ReadyTagged d defined r lines = ReadyInQuote d defined r (after_tag (context_of d.options r.tree) lines).0 (after_tag (context_of d.options r.tree) lines).1

-- ready in that line, at the place of a leaf block that belongs to the quote
abbrev pub ReadyLazy : Document → Tables → PassState → Place → List Place → Type 0
ReadyLazy d defined r p lines = ReadyInQuote d defined r (AtPlace p OnlyALeaf) lines

-- under these options a `:` may begin a definition in this tree (this project)
abbrev pub may_define : Options → Forest Item → Bool
may_define options f = has options definition_list && may_begin_definition f

-- ready for a leaf block at a place: no container begins there, or the line follows the tag of a block quote
abbrev pub ReadyLeaf : Document → Tables → PassState → Place → List Place → Type 0
ReadyLeaf d defined r p lines =
    ((footnote_head_at (context_of d.options r.tree) p ≡ None) × (start_at d.options (may_define d.options r.tree) p ≡ None)
    × ReadyAt d defined r.tree r.blank (Inside p) lines) ⊎ ReadyLazy d defined r p lines

-- the state begins a derivation of the text that continues at a position
abbrev pub ReadyOn : Document → Tables → PassState → Position → Type 0
ReadyOn d defined r (LineAt n) = Ready d defined r (lines_from d.text n)
ReadyOn d defined r (InLine p) = ReadyAt d defined r.tree r.blank (Inside p) (lines_from d.text (line_end p))
ReadyOn d defined r (LeafAt p) = ReadyLeaf d defined r p (lines_from d.text (line_end p))
ReadyOn d defined r (TaskAt p marker) = ReadyText d defined r marker p (lines_from d.text (line_end p))
ReadyOn d defined r (TaggedAt n) = ReadyTagged d defined r (lines_from d.text n)

-- the offset up to which the tree is in order: the start of the line if a list is innermost, otherwise a place in the
-- line
abbrev pub line_or : Forest Item → ℕ → ℕ → ℕ
line_or f line at = if is_list (top_body f) then line else at

-- the tree is in order up to an offset, and the open nodes can be closed there in order
abbrev pub OrderedUpTo : List ℕ → Forest Item → ℕ → Type 0
OrderedUpTo text f at = IsOrderedTo text f at × CanClose text f at

-- a line begins at a character boundary, and the tree is in order up to a place in it
abbrev pub OrderedIn : List ℕ → Forest Item → Place → Type 0
OrderedIn text f p = IsCharBoundary text p.line × OrderedUpTo text f (line_or f p.line (offset p))

-- the tree is in order up to a task list item marker before an offset, and the innermost open node is no list
pub record OrderedText (text : List ℕ) (f : Forest Item) (marker : Item) (at : ℕ) : Type 0 where
  pub from : ℕ
  pub ordered : IsOrderedTo text f from
  pub nested : AreNested f.nodes f.spine
  pub plain : is_list (top_body f) ≡ false
  pub stands : MarkerBetween text from at (Some marker)

-- the state is in order up to a position
abbrev pub OrderedOn : Options → List ℕ → PassState → Position → Type 0
OrderedOn options text r (LineAt n) = IsReadFrom options text r n
OrderedOn options text r (InLine p) = OrderedIn text r.tree p
OrderedOn options text r (LeafAt p) = OrderedIn text r.tree p
OrderedOn options text r (TaskAt p marker) = OrderedText text r.tree marker (offset p)
OrderedOn options text r (TaggedAt n) = OrderedUpTo text r.tree n

-- The nodes grew by at most four (as `counted_nodes` counts) for each byte from the start of a line to a task list item
-- marker, which is before an offset.
pub record GrowsText (text : List ℕ) (line : ℕ) (old new : List (ℕ × Item)) (marker : Item) (at : ℕ) : Type 0 where
  pub from : ℕ
  pub grows : GrowsBy line from old new
  pub order : line ≤ from
  pub stands : MarkerBetween text from at (Some marker)
  pub before : from < at

-- the nodes grew by at most four (as `counted_nodes` counts) for each byte from the start of a line to a position in it or
-- after it
abbrev pub GrowsTo : List ℕ → ℕ → List (ℕ × Item) → List (ℕ × Item) → Position → Type 0
GrowsTo text line old new (LineAt n) = GrowsBy line n old new
GrowsTo text line old new (InLine p) = GrowsBy line (offset p) old new
GrowsTo text line old new (LeafAt p) = GrowsBy line (offset p) old new
GrowsTo text line old new (TaskAt p marker) = GrowsText text line old new marker (offset p)
GrowsTo text line old new (TaggedAt n) = GrowsBy line n old new

-- the nodes grew by at most four (as `counted_nodes` counts) for each byte from a position to an offset; before the text
-- of a task, from any offset after which its marker may be
abbrev pub GrowsFrom : List ℕ → Position → ℕ → List (ℕ × Item) → List (ℕ × Item) → Type 0
GrowsFrom text (LineAt n) next old new = GrowsBy n next old new
GrowsFrom text (InLine p) next old new = GrowsBy (offset p) next old new
GrowsFrom text (LeafAt p) next old new = GrowsBy (offset p) next old new
GrowsFrom text (TaskAt p marker) next old new = (from : ℕ) → MarkerBetween text from (offset p) (Some marker) → from < next → GrowsBy from next old new
GrowsFrom text (TaggedAt n) next old new = GrowsBy n next old new

-- a place is in the line at an offset, and the next line begins at another
abbrev pub IsInLine : List ℕ → ℕ → ℕ → Place → Type 0
IsInLine text line next p = IsPlaceOf text p × (p.line ≡ line) × (line_end p ≡ next)

-- a place is at or after another, in its line or a later one
abbrev pub IsNotBefore : List ℕ → Place → Place → Type 0
IsNotBefore text p q = IsPlaceOf text q × (p.line ≤ q.line) × (offset p ≤ offset q) × (line_end p ≤ line_end q)

-- Reading came from one position to another, in a line that begins at an offset. If the state began a derivation at
-- the first, it begins one at the second. If it was in order, it still is, and it grew by at most four nodes for each
-- byte. Every index that named an entry still does, the footnote definitions name the same indices, and whole tables
-- stay whole.
pub record ReadsTo (source : Source) (line : ℕ) (old new : PassState) (from to : Position) : Type 0 where
  pub ready : (names : Names) (defined : Tables)
      → ReadyOn (document source.text.now source.options names) defined old from → ReadyOn (document source.text.now source.options names) defined new to
  pub order : OrderedOn source.options source.text.now old from → OrderedOn source.options source.text.now new to
  pub node_bound : (first : List (ℕ × Item)) → GrowsTo source.text.now line first old.tree.nodes from → GrowsTo source.text.now line first new.tree.nodes to
  pub named : (names : Names) → AreNamed names old.tree.nodes → AreNamed names new.tree.nodes
  pub footnotes : footnotes_in new.tree.nodes ≡ footnotes_in old.tree.nodes
  pub tables : (names : Names) → HasWholeTables names old.tree → HasWholeTables names new.tree
