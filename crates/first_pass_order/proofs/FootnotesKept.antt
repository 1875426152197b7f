-- The strings that footnote definitions name: closing nodes and noting blank lines changes no such index, opening a
-- footnote definition adds its own at the end, and opening anything else adds none.
use Rattle.std.proofs.Common.{◌≡◌, ℕ, zero, suc, ◌+◌, ◌||◌, Bool, true, List, [], ◌∷◌, ◌++◌, length, map, take, drop, slice_get, Option, Some, None, IfSome}
use Rattle.std.proofs.Common.{refl, sym, ap, ap₂, subst, ◌∙◌, append_assoc, append-nil}
use Rattle.first_pass_grammar.proofs.Common.{false≢true, same_Some, CowIndex, Item, ItemBody, Paragraph, FootnoteDefinition, DefinitionList}
use Rattle.first_pass_grammar.proofs.Common.{MaybeDefinitionListTitle, TreeIndex, Forest, empty_forest, modify, with_end_at, with_end, with_body_at, body_at}
use Rattle.first_pass_grammar.proofs.Common.{body_of, added, at_depth, map_from, deeper, shallower, list_flags, is_task_marker, is_row, is_cell, Options, Place}
use Rattle.first_pass_grammar.proofs.Common.{line_end, Kind, Document, document, lines_from, Names, Taken, IsText, AreEachNode}
use Rattle.first_pass_order.proofs.Common.{PassState, with_child, begun_item, item_opened, Container, path_of, extends_none, AddsKind, block_nodes}
use Rattle.first_pass_grammar.proofs.Each.EachBlock.{is_first, is_later, HoldsOfBlocks, HoldsOfLeaves, table_nodes, text_holds, leaf_holds}
use Rattle.first_pass_grammar.proofs.Sequences.PlacesKept.{Anywhere, anywhere_kept, each_anywhere}
use Rattle.first_pass_grammar.specs.Blocks.{leaf_block}
use Rattle.first_pass_grammar.specs.Skeleton.{Line, OpensLeaf}
use Rattle.first_pass_lists.specs.Closing.{list_closed, popped, empty_item_closed, list_finished, begun, blank_read, footnote_begun, footnote_left, gap_marked}
use Rattle.first_pass_lists.specs.Closing.{current_body, with_current, title_begun, definition_begun}
use Rattle.first_pass_order.specs.Footnotes.{footnote_in, footnotes_in}
use Rattle.first_pass_order.proofs.AlikeNodes.{AreAlike, NoNodes, OneMore, opened_both, current_like, like_blank}
use Rattle.first_pass_order.proofs.PropertyKept.{Property, HoldsAt, HoldsBefore, popped_keeps, empty_item_closed_keeps, list_finished_keeps, quote_keeps}
use Rattle.first_pass_order.proofs.PropertyKept.{item_keeps, note_left_keeps, definition_keeps}

-- the indices of the state's nodes
abbrev pub notes : PassState → List CowIndex
notes r = footnotes_in r.tree.nodes

-- a body that is no footnote definition
abbrev pub NamesNone : ItemBody → Type 0
NamesNone body = footnote_in body ≡ []

-- more nodes
pub notes_both : (xs ys : List (ℕ × Item)) → footnotes_in (xs ++ ys) ≡ footnotes_in xs ++ footnotes_in ys
unfolding footnotes_in
notes_both [] ys = refl
notes_both (n ∷ xs) ys =
    ap (λ (l : List CowIndex). footnote_in n.1.body ++ l) (notes_both xs ys) ∙ sym (append_assoc (footnote_in n.1.body) (footnotes_in xs) (footnotes_in ys))

one_more : (nodes : List (ℕ × Item)) (n : ℕ × Item) → footnotes_in (nodes ++ n ∷ []) ≡ footnotes_in nodes ++ footnote_in n.1.body
unfolding footnotes_in
one_more nodes n = notes_both nodes (n ∷ []) ∙ ap (λ (l : List CowIndex). footnotes_in nodes ++ l) (append-nil (footnote_in n.1.body))

none_more : (nodes : List (ℕ × Item)) (l : List CowIndex) → l ≡ [] → footnotes_in nodes ++ l ≡ footnotes_in nodes
none_more nodes l none = ap (λ (m : List CowIndex). footnotes_in nodes ++ m) none ∙ append-nil (footnotes_in nodes)

-- nodes that are alike, at other depths, and with another end or body of one
notes_alike : (old new : List (ℕ × Item)) → AreAlike old new → footnotes_in new ≡ footnotes_in old
unfolding footnotes_in
notes_alike old new NoNodes = refl
notes_alike old new (OneMore n m xs ys a h) = ap₂ (λ (k l : List CowIndex). k ++ l) (ap (λ t. t.6) a.body.0) (notes_alike xs ys h)

notes_from : (g : ℕ × Item → ℕ × Item) → ((n : ℕ × Item) → (g n).1 ≡ n.1) → (place : ℕ) (nodes : List (ℕ × Item))
    → footnotes_in (map_from g place nodes) ≡ footnotes_in nodes
unfolding footnotes_in
notes_from g same zero [] = refl
notes_from g same zero (n ∷ nodes) =
    ap₂ (λ (k l : List CowIndex). k ++ l) (ap (λ (x : Item). footnote_in x.body) (same n)) (notes_from g same zero nodes)
notes_from g same (suc place) [] = refl
notes_from g same (suc place) (n ∷ nodes) = ap (λ (l : List CowIndex). footnote_in n.1.body ++ l) (notes_from g same place nodes)

notes_deeper : (depth : ℕ) (nodes : List (ℕ × Item)) → footnotes_in (at_depth depth nodes) ≡ footnotes_in nodes
unfolding footnotes_in
notes_deeper depth [] = refl
notes_deeper depth (n ∷ nodes) = ap (λ (l : List CowIndex). footnote_in n.1.body ++ l) (notes_deeper depth nodes)

notes_ended : (nodes : List (ℕ × Item)) (i e : ℕ) → footnotes_in (modify nodes i (λ x. record x { «end» = e })) ≡ footnotes_in nodes
unfolding footnotes_in
notes_ended [] i e = refl
notes_ended (n ∷ nodes) zero e = refl
notes_ended (n ∷ nodes) (suc i) e = ap (λ (l : List CowIndex). footnote_in n.1.body ++ l) (notes_ended nodes i e)

notes_changed : (nodes : List (ℕ × Item)) (i : ℕ) (a b : ItemBody) → body_at nodes i ≡ Some a → footnote_in b ≡ footnote_in a
    → footnotes_in (modify nodes i (λ x. record x { body = b })) ≡ footnotes_in nodes
unfolding footnotes_in
notes_changed [] i a b is same = refl
notes_changed (n ∷ nodes) zero a b is same =
    ap (λ (l : List CowIndex). l ++ footnotes_in nodes) (same ∙ ap footnote_in (sym (same_Some n.1.body a is)))
notes_changed (n ∷ nodes) (suc i) a b is same = ap (λ (l : List CowIndex). footnote_in n.1.body ++ l) (notes_changed nodes i a b is same)

notes_wrapped : (nodes : List (ℕ × Item)) (j : ℕ) (t : ℕ × Item) → NamesNone t.1.body
    → footnotes_in (take j nodes ++ t ∷ map deeper (drop j nodes)) ≡ footnotes_in nodes
unfolding footnotes_in
notes_wrapped nodes zero t own = ap₂ (λ (k l : List CowIndex). k ++ l) own (notes_from deeper (λ n. refl) zero nodes)
notes_wrapped [] (suc j) t own = ap (λ (l : List CowIndex). l ++ []) own
notes_wrapped (n ∷ nodes) (suc j) t own = ap (λ (l : List CowIndex). footnote_in n.1.body ++ l) (notes_wrapped nodes j t own)

-- ---- steps of the state

abbrev notes_kept : List CowIndex → Property
notes_kept l = record {
  Holds = λ a k f. footnotes_in f.nodes ≡ l;
  Goes = λ a b. Unit {0};
  Bounds = λ e. Unit {0};
  MovesOut = λ a e f c. Unit {0};
  Opens = NamesNone;
  more = λ a k f h. h;
  later = λ a b k f goes h. h;
  like = λ a k f g s h. notes_alike f.nodes g.nodes s.nodes ∙ h;
  closed = λ a e k f ix rest spine goes ends h. notes_ended f.nodes ix.0 e ∙ h;
  left = λ a e k f g c s leaves h.
      ap footnotes_in s.nodes ∙ notes_from shallower (λ n. refl) c.0 s.mid ∙ notes_alike _ s.mid s.alike ∙ notes_ended f.nodes s.list.0 e ∙ h;
  opened = λ a start k f body goes ends opens h.
      one_more f.nodes (length f.spine + 1, begun_item start body) ∙ none_more f.nodes (footnote_in body) opens ∙ h;
}

notes_at : (r : PassState) → HoldsAt (notes_kept (notes r)) 0 0 r
notes_at r = record { holds = refl; goes = tt; marked = λ e is. (tt, tt) }

notes_before : (r : PassState) → HoldsBefore (notes_kept (notes r)) 0 0 r
notes_before r = record { held = notes_at r; leaves = λ t is. tt }

pub popped_notes : (e : ℕ) (r : PassState) → notes (popped e r) ≡ notes r
popped_notes e r = popped_keeps (notes_kept (notes r)) 0 e 0 r (λ t is. tt) tt tt refl

pub empty_item_closed_notes : (r : PassState) → notes (empty_item_closed r) ≡ notes r
empty_item_closed_notes r = empty_item_closed_keeps (notes_kept (notes r)) 0 0 r (notes_at r)

pub list_finished_notes : (e : ℕ) (r : PassState) → notes (list_finished e r) ≡ notes r
list_finished_notes e r = list_finished_keeps (notes_kept (notes r)) 0 e 0 0 r (notes_before r) ((λ list. tt), tt, tt, tt)

pub blank_notes : (r : PassState) → notes (blank_read r) ≡ notes r
blank_notes r = notes_alike r.tree.nodes (blank_read r).tree.nodes (like_blank r).nodes

pub item_notes : (start byte number columns : ℕ) (r : PassState) → notes (item_opened start byte number columns r) ≡ notes r
item_notes start byte number columns r =
    item_keeps (notes_kept (notes r)) 0 start byte number columns 0 r (notes_before r) (tt, tt, tt, tt) refl refl

pub quote_notes : (line start : ℕ) (body : ItemBody) (r : PassState) → NamesNone body → notes (begun start body (list_finished line r)) ≡ notes r
quote_notes line start body r none =
    quote_keeps (notes_kept (notes r)) 0 line 0 start 0 body r (notes_before r) ((λ list. tt), tt, tt, tt) tt tt none

-- a footnote definition
pub note_notes : (start : ℕ) (index : CowIndex) (r : PassState) → notes (footnote_begun start index r) ≡ notes r ++ index ∷ []
unfolding footnote_begun
note_notes start index r =
    let left : PassState = gap_marked (footnote_left start (list_closed start (empty_item_closed r))) in
    one_more left.tree.nodes (length left.tree.spine + 1, begun_item start (FootnoteDefinition index))
    ∙ ap (λ (l : List CowIndex). l ++ index ∷ []) (note_left_keeps (notes_kept (notes r)) 0 start 0 r (notes_before r) tt tt tt)

-- a possible title is kept
end_notes : (f : Forest Item) (e : ℕ) (o : Option TreeIndex) → footnotes_in (with_end f e o).nodes ≡ footnotes_in f.nodes
end_notes f e None = refl
end_notes f e (Some c) = notes_ended f.nodes c.0 e

pub title_begun_notes : (e : ℕ) (r : PassState) → current_body r.tree ≡ Some Paragraph → notes (title_begun e r) ≡ notes r
unfolding title_begun
title_begun_notes e r is =
    let titled : Forest Item = with_current r.tree MaybeDefinitionListTitle r.tree.current in
    end_notes titled e (slice_get r.tree.spine 0) ∙ notes_alike r.tree.nodes titled.nodes (current_like r.tree r.tree.current is).nodes

-- a definition, in the open list or in a new one
pub definition_notes : (start columns : ℕ) (r : PassState) → notes (definition_begun start columns r) ≡ notes r
definition_notes start columns r =
    definition_keeps (notes_kept (notes r)) 0 start columns 0 r tt tt refl
    (opened_both r.tree (λ g. footnotes_in g.nodes ≡ notes r) (λ g l. notes_alike r.tree.nodes g.nodes l.nodes)
    (λ c y current here body.
    notes_wrapped (with_body_at r.tree c (DefinitionList (list_flags true))).nodes (c.0 + 1) _ refl
    ∙ notes_changed r.tree.nodes c.0 Paragraph (DefinitionList (list_flags true)) (body_of r.tree c y here ∙ ap (λ z. Some z) body) refl))

-- a task list item marker
pub task_names_none : (body : ItemBody) → is_task_marker body ≡ true → NamesNone body
task_names_none (FootnoteDefinition ix) h = absurd (false≢true h)
task_names_none body h = refl

pub child_notes : (f : Forest Item) (marker : Option Item)
    → ((x : Item) → marker ≡ Some x → is_task_marker x.body ≡ true) → footnotes_in (with_child f marker).nodes ≡ footnotes_in f.nodes
child_notes f None mark = refl
child_notes f (Some x) mark =
    one_more f.nodes (length f.spine + 1, x) ∙ none_more f.nodes (footnote_in x.body) (task_names_none x.body (mark x refl))

-- the root
pub first_notes : (tree : Forest Item) (root : TreeIndex) (e : ℕ) → tree ≡ with_end_at empty_forest root e → footnotes_in tree.nodes ≡ []
unfolding footnotes_in
first_notes tree root e is = ap (λ (f : Forest Item). footnotes_in f.nodes) is ∙ notes_ended empty_forest.nodes root.0 e

-- ---- leaf blocks

-- no node of these is a footnote definition
none_noted : (nodes : List (ℕ × Item)) → AreEachNode NamesNone nodes → footnotes_in nodes ≡ []
unfolding footnotes_in
none_noted [] h = refl
none_noted (n ∷ nodes) h = ap₂ (λ (k l : List CowIndex). k ++ l) h.0 (none_noted nodes h.1)

first_none : (body : ItemBody) → is_first body ≡ true → NamesNone body
first_none (FootnoteDefinition ix) h = absurd (false≢true h)
first_none body h = refl

later_none : (body : ItemBody) → is_later body ≡ true → NamesNone body
later_none (FootnoteDefinition ix) h = absurd (false≢true h)
later_none body h = refl

cells_none : (body : ItemBody) → (is_row body || is_cell body) ≡ true → NamesNone body
cells_none (FootnoteDefinition ix) h = absurd (false≢true h)
cells_none body h = refl

blocks_none : (d : Document) → HoldsOfBlocks d NamesNone (AreEachNode NamesNone)
blocks_none d = record {
  later = λ body is entry. later_none body is;
  block = λ x kids first entry h. block_nodes NamesNone x kids (first_none x.body first) h;
  none = tt;
}

leaves_none : (d : Document) → HoldsOfLeaves d Anywhere NamesNone (AreEachNode NamesNone)
leaves_none d = record {
  blocks = blocks_none d;
  kept = anywhere_kept;
  table = λ path p alignments lines t i headed h.
      subst (AreEachNode NamesNone) (sym h.items_are)
      (refl, table_nodes d NamesNone (AreEachNode NamesNone) (blocks_none d) cells_none path p alignments lines t h);
}

pub text_notes : (d : Document) (path : List Container) (p : Place) (marker : Option Item) (lines : List Place) (t : Taken)
    → IfSome marker (λ x. NamesNone x.body) → IsText d path p marker lines t → footnotes_in t.items ≡ []
text_notes d path p marker lines t none is =
    none_noted t.items (text_holds d Anywhere NamesNone (AreEachNode NamesNone) (leaves_none d) path p marker lines t tt none is)

-- an added leaf block of a kind
pub kind_notes : (text : List ℕ) (options : Options) (names : Names) (p : Place) (kind : Kind) (gap : Bool) (old new : Forest Item) (next : ℕ)
    → (a : AddsKind (document text options names) p kind gap old new next) → footnotes_in a.items ≡ []
kind_notes text options names p kind gap old new next a =
    let lines : List Place = lines_from text (line_end p) in
    none_noted a.items
    (leaf_holds (document text options names) Anywhere NamesNone (AreEachNode NamesNone) (leaves_none (document text options names))
    (path_of options old) p lines kind (OpensLeaf (leaf_block kind p a.items gap) Line (lines_from text next)) tt (each_anywhere lines)
    (a.opens names (extends_none names)))

-- a block that is added
pub block_notes : (f new : Forest Item) (items : List (ℕ × Item)) → new ≡ added f items → footnotes_in items ≡ []
    → footnotes_in new.nodes ≡ footnotes_in f.nodes
block_notes f new items is none =
    let more : List (ℕ × Item) = at_depth (length f.spine + 1) items in
    ap (λ (g : Forest Item). footnotes_in g.nodes) is ∙ notes_both f.nodes more
    ∙ none_more f.nodes (footnotes_in more) (notes_deeper (length f.spine + 1) items ∙ none)
