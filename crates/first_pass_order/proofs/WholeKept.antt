-- Tables stay whole: closing nodes and noting blank lines ends no row, opening a container adds no part of a table,
-- and a leaf block adds whole tables. A possible title that turns out to be none has no part of a table, nor does a
-- paragraph that becomes a title.
use Rattle.std.proofs.Common.{◌≡◌, ℕ, zero, suc, ◌+◌, ◌||◌, Bool, true, false, List, [], ◌∷◌, ◌++◌, length, Option, Some, None, refl, sym, ap, subst, ◌∙◌}
use Rattle.std.proofs.Common.{IsSomeAnd, true≢false, arith}
use Rattle.first_pass_grammar.proofs.Common.{option_map_or, or_parts, false_from_ne_true, Item, ItemBody, TableHead, TableRow, TaskListMarker, Options}
use Rattle.first_pass_grammar.proofs.Common.{TreeIndex, Forest, IsForest, modify, empty_forest, with_end_at, body_at, added, at_depth, map_from, shallower}
use Rattle.first_pass_grammar.proofs.Common.{body-kept, Place, line_end, IsPlaceOf, Names, Extends, AreNamed, Kind, Document, document, lines_from}
use Rattle.first_pass_grammar.proofs.Common.{is_task_marker, leaf_block, Line, OpensLeaf, Taken, IsText, is_row, Mark, shown, marks, AreWholeTables}
use Rattle.first_pass_grammar.proofs.Common.{ShowsNothing, AreEachNode, SilentFrom, may_be_title, HasWholeTables, CowIndex}
use Rattle.first_pass_order.proofs.Common.{PassState, closed_by, with_child, begun_item, opened_block, item_opened, Container, whole_both, whole_same, path_of}
use Rattle.first_pass_order.proofs.Common.{extends_none, AddsKind, HaveNoRows, IsSilentLast, deeper_nodes, heads_are_full}
use Rattle.std.proofs.lemmas.Bool.{or_from}
use Rattle.first_pass_grammar.proofs.Sequences.LinesLeft.{lines_from_at}
use Rattle.first_pass_completion.proofs.SilentNodes.{from_modified, from_from, marks_moved}
use Rattle.first_pass_grammar.proofs.WholeTables.TableMarks.{whole_deeper}
use Rattle.first_pass_order.proofs.WholeBefore.{whole_still}
use Rattle.first_pass_completion.proofs.SilentTexts.{silent_past}
use Rattle.first_pass_grammar.proofs.WholeTables.WholeBlocks.{whole_none, ShownBy, text_whole, opens_as}
use Rattle.first_pass_lists.specs.Closing.{popped, empty_item_closed, list_finished, begun, blank_read, footnote_begun, possible_title}
use Rattle.first_pass_order.proofs.Nests.{title_there, body-moved, first_there}
use Rattle.first_pass_order.proofs.AlikeNodes.{IsBodyLike, AreAlike, NoNodes, OneMore, LooksAlike, like_blank}
use Rattle.first_pass_order.proofs.PropertyKept.{IsLeft, Property, MayLeave, none_leaves, HoldsAt, HoldsBefore, popped_keeps, empty_item_closed_keeps}
use Rattle.first_pass_order.proofs.PropertyKept.{list_finished_keeps, quote_keeps, item_keeps, note_keeps}

-- the node at a place is neither a row nor a text that a definition list may take in
abbrev pub may_not_open : ItemBody → Bool
may_not_open b = is_row b || may_be_title b

abbrev pub IsNoRow : List (ℕ × Item) → ℕ → Type 0
IsNoRow nodes i = IsSomeAnd (body_at nodes i) (λ b. may_not_open b ≡ false)

-- each such place among these nodes is one among the others
abbrev pub KeepNoRows : List (ℕ × Item) → List (ℕ × Item) → Type 0
KeepNoRows old new = (i : ℕ) → IsNoRow old i → IsNoRow new i

pub none_kept : (old new : List (ℕ × Item)) (s : List TreeIndex) → KeepNoRows old new → HaveNoRows old s → HaveNoRows new s
none_kept old new [] k h = tt
none_kept old new (ix ∷ s) k h = (k ix.0 h.0, none_kept old new s k h.1)

same_keeps : (old new : List (ℕ × Item)) → ((i : ℕ) → body_at new i ≡ body_at old i) → KeepNoRows old new
same_keeps old new same i h = subst (λ o. IsSomeAnd o (λ b. may_not_open b ≡ false)) (sym (same i)) h

pub ended_keeps : (nodes : List (ℕ × Item)) (place e : ℕ) → KeepNoRows nodes (modify nodes place (λ x. record x { «end» = e }))
ended_keeps nodes place e = same_keeps nodes _ (λ i. body-kept nodes place i (λ x. record x { «end» = e }) (λ x. refl))

pub front_keeps : (nodes more : List (ℕ × Item)) → KeepNoRows nodes (nodes ++ more)
front_keeps [] more i h = absurd h
front_keeps (n ∷ nodes) more zero h = h
front_keeps (n ∷ nodes) more (suc i) h = front_keeps nodes more i h

-- another end of a node that is no row changes no mark
end_shows : (names : Names) (depth start «end» e : ℕ) (b : ItemBody) → is_row b ≡ false → shown names depth start e b ≡ shown names depth start «end» b
end_shows names depth start end e TableHead h = absurd (true≢false h)
end_shows names depth start end e TableRow h = absurd (true≢false h)
end_shows names depth start end e b h = refl

-- a node that may be open is no such text
silent_open : (nodes : List (ℕ × Item)) (i : ℕ) (o : Option ItemBody) → body_at nodes i ≡ o → IsSomeAnd o (λ b. may_not_open b ≡ false)
    → option_map_or may_be_title (body_at nodes i) false ≡ false
silent_open nodes i None is h = absurd h
silent_open nodes i (Some b) is h = ap (λ o. option_map_or may_be_title o false) is ∙ (or_parts (is_row b) (may_be_title b) h).1

-- a task list item marker has no part of a table
pub task_shows : (body : ItemBody) → is_task_marker body ≡ true → ShowsNothing body
task_shows (TaskListMarker checked) h = λ names depth start end. refl
task_shows body h = cc

-- a first item that a definition list may take in has no part of a table, nor do its descendants
abbrev pub IsSilentFirst : List (ℕ × Item) → Type 0
IsSilentFirst [] = Unit {0}
IsSilentFirst (x ∷ items) = may_be_title x.1.body ≡ true → AreEachNode ShowsNothing (x ∷ items)

none_there : (nodes : List (ℕ × Item)) → body_at (nodes ++ []) (length nodes) ≡ None
none_there [] = refl
none_there (m ∷ nodes) = none_there nodes

pub block_last : (nodes items : List (ℕ × Item)) (depth : ℕ) → IsSilentFirst items
    → IsSilentLast (nodes ++ at_depth depth items) (Some (record { 0 = length nodes }))
block_last nodes [] depth first may = absurd (true≢false (sym may ∙ ap (λ o. option_map_or may_be_title o false) (none_there nodes)))
block_last nodes (x ∷ items) depth first may =
    silent_past nodes (depth + x.0, x.1) (at_depth depth items)
    (deeper_nodes ShowsNothing depth (x ∷ items)
    (first (sym (ap (λ o. option_map_or may_be_title o false) (first_there nodes (depth + x.0, x.1) (at_depth depth items))) ∙ may)))

task_untitled : (b : ItemBody) → is_task_marker b ≡ true → may_be_title b ≡ false
task_untitled (TaskListMarker checked) h = refl
task_untitled b h = cc

-- the tables of a tree are whole, and no row or text of a title is open
pub record IsKept (names : Names) (f : Forest Item) : Type 0 where
  pub whole : AreWholeTables names f.nodes
  pub none_open : HaveNoRows f.nodes f.spine

-- alike nodes have the same marks
marks_alike : (names : Names) (old new : List (ℕ × Item)) → AreAlike old new → marks names new ≡ marks names old
unfolding marks
marks_alike names old new NoNodes = refl
marks_alike names old new (OneMore n m xs ys a h) = grind (arith, marks_alike names xs ys h)

silent_like : (b c : ItemBody) → IsBodyLike b c → ShowsNothing b → ShowsNothing c
silent_like b c like h = λ names depth start end. ap (λ t. t.5 names depth start end) like.0 ∙ h names depth start end

each_alike : (old new : List (ℕ × Item)) → AreAlike old new → AreEachNode ShowsNothing old → AreEachNode ShowsNothing new
each_alike old new NoNodes h = tt
each_alike old new (OneMore n m xs ys a l) h = (silent_like n.1.body m.1.body a.body h.0, each_alike xs ys l h.1)

from_alike : (old new : List (ℕ × Item)) (i : ℕ) → AreAlike old new → SilentFrom old i → SilentFrom new i
from_alike old new i NoNodes h = h
from_alike old new zero (OneMore n m xs ys a l) h = (silent_like n.1.body m.1.body a.body h.0, each_alike xs ys l h.1)
from_alike old new (suc i) (OneMore n m xs ys a l) h = from_alike xs ys i l h

still_open : (b c : ItemBody) → IsBodyLike b c → may_not_open b ≡ false → may_not_open c ≡ false
still_open b c like h = grind (arith, or_parts, or_from, false_from_ne_true)

rows_alike : (old new : List (ℕ × Item)) → AreAlike old new → KeepNoRows old new
rows_alike old new NoNodes i h = h
rows_alike old new (OneMore n m xs ys a l) zero h = still_open n.1.body m.1.body a.body h
rows_alike old new (OneMore n m xs ys a l) (suc i) h = rows_alike xs ys l i h

title_alike : (old new : List (ℕ × Item)) (i : ℕ) → AreAlike old new → option_map_or may_be_title (body_at new i) false ≡ true
    → option_map_or may_be_title (body_at old i) false ≡ true
title_alike old new i NoNodes h = h
title_alike old new zero (OneMore n m xs ys a l) h = a.body.1 h
title_alike old new (suc i) (OneMore n m xs ys a l) h = title_alike xs ys i l h

last_alike : (old new : List (ℕ × Item)) (c : Option TreeIndex) → AreAlike old new → IsSilentLast old c → IsSilentLast new c
last_alike old new None l h = tt
last_alike old new (Some c) l h = λ may. from_alike old new c.0 l (h (title_alike old new c.0 l may))

module _ (names : Names) where
  pub marks_ended : (nodes : List (ℕ × Item)) (place e : ℕ) → IsNoRow nodes place
      → marks names (modify nodes place (λ x. record x { «end» = e })) ≡ marks names nodes
  unfolding marks
  marks_ended [] place e h = refl
  marks_ended (n ∷ nodes) zero e h = grind (arith, end_shows, or_parts)
  marks_ended (n ∷ nodes) (suc place) e h = ap (λ (z : List Mark). shown names n.0 n.1.start n.1.«end» n.1.body ++ z) (marks_ended nodes place e h)

  -- the tables of the state
  abbrev pub IsReadWhole : PassState → Type 0
  IsReadWhole r = HasWholeTables names r.tree

  pub kept_of : (f : Forest Item) → HasWholeTables names f → IsKept names f
  kept_of f h = record { whole = h.whole; none_open = h.none_open }

  -- one more node without any part of a table
  one_whole : (nodes : List (ℕ × Item)) (n : ℕ × Item) → ShowsNothing n.1.body → AreWholeTables names nodes → AreWholeTables names (nodes ++ n ∷ [])
  unfolding marks
  one_whole nodes n own h = grind (arith, whole_both, whole_none)

  pub like_whole : (f g : Forest Item) → LooksAlike f g → HasWholeTables names f → HasWholeTables names g
  like_whole f g l h = record {
    whole = whole_same names f.nodes g.nodes (marks_alike names f.nodes g.nodes l.nodes) h.whole;
    none_open = subst (HaveNoRows g.nodes) (sym l.spine) (none_kept f.nodes g.nodes f.spine (rows_alike f.nodes g.nodes l.nodes) h.none_open);
    last = subst (IsSilentLast g.nodes) (sym l.current) (last_alike f.nodes g.nodes f.current l.nodes h.last);
  }

  -- the innermost open node, which is no row, is closed
  pub closed_whole : (f : Forest Item) (e : ℕ) (ix : TreeIndex) (rest : List TreeIndex) → f.spine ≡ ix ∷ rest → HasWholeTables names f
      → HasWholeTables names (closed_by f e (ix ∷ rest))
  closed_whole f e ix rest spine h =
      let none : HaveNoRows f.nodes (ix ∷ rest) = subst (HaveNoRows f.nodes) spine h.none_open in
      let to : Item → Item = λ x. record x { «end» = e } in
      let keeps = ended_keeps f.nodes ix.0 e in
      record {
        whole = whole_same names f.nodes (modify f.nodes ix.0 to) (marks_ended f.nodes ix.0 e none.0) h.whole;
        none_open = none_kept f.nodes (modify f.nodes ix.0 to) rest keeps none.1;
        last = λ may. absurd (true≢false (sym may
            ∙ silent_open (modify f.nodes ix.0 to) ix.0 (body_at (modify f.nodes ix.0 to) ix.0) refl (keeps ix.0 none.0)));
      }

  -- and its last child, which has no part of a table, is moved out of it
  pub left_whole : (f g : Forest Item) (e : ℕ) (c : TreeIndex) → IsLeft f g e c → SilentFrom f.nodes c.0 → IsForest f → HasWholeTables names f
      → HasWholeTables names g
  left_whole f g e c l silent forest h =
      let to : Item → Item = λ x. record x { «end» = e } in
      let ended : List (ℕ × Item) = modify f.nodes l.list.0 to in
      let moved : List (ℕ × Item) = map_from shallower c.0 l.mid in
      let none : HaveNoRows f.nodes (l.list ∷ l.rest) = subst (HaveNoRows f.nodes) l.spine h.none_open in
      let still : SilentFrom l.mid c.0 = from_alike ended l.mid c.0 l.alike (from_modified f.nodes l.list.0 c.0 to (λ x k. k) silent) in
      let keeps : KeepNoRows f.nodes moved =
      λ i k. same_keeps l.mid moved (body-moved c.0 l.mid) i (rows_alike ended l.mid l.alike i (ended_keeps f.nodes l.list.0 e i k)) in
      record {
        whole = whole_same names f.nodes g.nodes
            (ap (marks names) l.nodes ∙ marks_moved shallower (λ n k. k) names c.0 l.mid still ∙ marks_alike names ended l.mid l.alike
            ∙ marks_ended f.nodes l.list.0 e none.0) h.whole;
        none_open = rw (l.nodes, l.outer) (none_kept f.nodes moved l.rest keeps none.1);
        last = rw (l.nodes, l.last forest) (λ may. from_from shallower (λ n k. k) c.0 l.mid c.0 still);
      }

  -- a node without any part of a table is opened
  pub opened_whole : (f : Forest Item) (start : ℕ) (body : ItemBody) → ShowsNothing body → may_not_open body ≡ false → IsKept names f
      → HasWholeTables names (opened_block f start body)
  opened_whole f start body own other h =
      let n : ℕ × Item = (length f.spine + 1, begun_item start body) in
      record {
        whole = one_whole f.nodes n own h.whole;
        none_open = (rw (first_there f.nodes n []) other, none_kept f.nodes (f.nodes ++ n ∷ []) f.spine (front_keeps f.nodes (n ∷ [])) h.none_open);
        last = tt;
      }

  abbrev pub whole_kept : Property
  whole_kept = record {
    Holds = λ a k f. HasWholeTables names f;
    Goes = λ a b. Unit {0};
    Bounds = λ e. Unit {0};
    MovesOut = λ a e f c. SilentFrom f.nodes c.0 × IsForest f;
    Opens = λ b. ShowsNothing b × (may_not_open b ≡ false);
    more = λ a k f h. h;
    later = λ a b k f goes h. h;
    like = λ a k f g l h. like_whole f g l h;
    closed = λ a e k f ix rest spine goes ends h. closed_whole f e ix rest spine h;
    left = λ a e k f g c l leaves h. left_whole f g e c l leaves.0 leaves.1 h;
    opened = λ a start k f body goes ends opens h. opened_whole f start body opens.0 opens.1 (kept_of f h);
  }

  -- a last child that is a possible title has no part of a table
  may_leave : (f : Forest Item) → IsForest f → HasWholeTables names f → MayLeave whole_kept 0 f
  may_leave f forest h title is = grind (arith, title_there)

  whole_at : (r : PassState) → IsReadWhole r → HoldsAt whole_kept 0 0 r
  whole_at r h = record { holds = h; goes = tt; marked = λ e is. (tt, tt) }

  whole_before : (r : PassState) → IsForest r.tree → IsReadWhole r → HoldsBefore whole_kept 0 0 r
  whole_before r forest h = record { held = whole_at r h; leaves = may_leave r.tree forest h }

  pub popped_whole : (e : ℕ) (r : PassState) → IsForest r.tree → IsReadWhole r → IsReadWhole (popped e r)
  popped_whole e r forest h = popped_keeps whole_kept 0 e 0 r (may_leave r.tree forest h) tt tt h

  pub empty_item_closed_whole : (r : PassState) → IsReadWhole r → IsReadWhole (empty_item_closed r)
  empty_item_closed_whole r h = empty_item_closed_keeps whole_kept 0 0 r (whole_at r h)

  pub list_finished_whole : (e : ℕ) (r : PassState) → IsForest r.tree → IsReadWhole r → IsReadWhole (list_finished e r)
  list_finished_whole e r forest h = list_finished_keeps whole_kept 0 e 0 0 r (whole_before r forest h) ((λ list. tt), tt, tt, tt)

  pub item_whole : (start byte number columns : ℕ) (r : PassState) → IsForest r.tree → IsReadWhole r
      → IsReadWhole (item_opened start byte number columns r)
  item_whole start byte number columns r forest h =
      item_keeps whole_kept 0 start byte number columns 0 r (whole_before r forest h) (tt, tt, tt, tt)
      (λ names depth start end. refl, refl) (λ names depth start end. refl, refl)

  pub quote_whole : (line start : ℕ) (body : ItemBody) (r : PassState) → ShowsNothing body → may_not_open body ≡ false → IsForest r.tree → IsReadWhole r
      → IsReadWhole (begun start body (list_finished line r))
  quote_whole line start body r own other forest h =
      quote_keeps whole_kept 0 line 0 start 0 body r (whole_before r forest h) ((λ list. tt), tt, tt, tt) tt tt (own, other)

  pub note_whole : (start : ℕ) (index : CowIndex) (r : PassState) → IsForest r.tree → IsReadWhole r → IsReadWhole (footnote_begun start index r)
  note_whole start index r forest h =
      note_keeps whole_kept 0 start 0 index r (whole_before r forest h) tt tt tt (λ names depth start end. refl, refl)

  pub blank_whole : (r : PassState) → IsReadWhole r → IsReadWhole (blank_read r)
  blank_whole r h = like_whole r.tree (blank_read r).tree (like_blank r) h

  -- the same if the last child is no possible title
  pub popped_plain_whole : (e : ℕ) (r : PassState) → possible_title r.tree ≡ None → IsReadWhole r → IsReadWhole (popped e r)
  popped_plain_whole e r none h = popped_keeps whole_kept 0 e 0 r (none_leaves whole_kept 0 r.tree none) tt tt h

  -- under further names
  pub more_whole : (old : Names) (f : Forest Item) → Extends names old → AreNamed old f.nodes → HasWholeTables old f → HasWholeTables names f
  more_whole old f more named h = record { whole = whole_still names old f.nodes more named h.whole; none_open = h.none_open; last = h.last }

  -- a task list item marker
  pub child_whole : (f : Forest Item) (marker : Option Item) → ((x : Item) → marker ≡ Some x → is_task_marker x.body ≡ true) → HasWholeTables names f
      → HasWholeTables names (with_child f marker)
  child_whole f None mark h = h
  child_whole f (Some x) mark h =
      let n : ℕ × Item = (length f.spine + 1, x) in
      record {
        whole = one_whole f.nodes n (task_shows x.body (mark x refl)) h.whole;
        none_open = none_kept f.nodes (f.nodes ++ n ∷ []) f.spine (front_keeps f.nodes (n ∷ [])) h.none_open;
        last = λ may. absurd (true≢false (sym may ∙ ap (λ o. option_map_or may_be_title o false) (first_there f.nodes n [])
            ∙ task_untitled x.body (mark x refl)));
      }

  -- a block that is added, under further names; a paragraph or a possible title that is first in it has no part of a
  -- table
  pub block_whole : (old : Names) (f new : Forest Item) (items : List (ℕ × Item)) → Extends names old → new ≡ added f items → AreWholeTables names items
      → IsSilentFirst items → AreNamed old f.nodes → IsKept old f → HasWholeTables names new
  block_whole old f new items more is own first named h =
      let block : List (ℕ × Item) = at_depth (length f.spine + 1) items in
      subst (HasWholeTables names) (sym is)
      (record {
        whole = whole_both names f.nodes block (whole_still names old f.nodes more named h.whole) (whole_deeper names (length f.spine + 1) items own);
        none_open = none_kept f.nodes (f.nodes ++ block) f.spine (front_keeps f.nodes block) h.none_open;
        last = block_last f.nodes items (length f.spine + 1) first;
      })

  -- only the root
  first_shows : (i e : ℕ) → marks names (modify empty_forest.nodes i (λ x. record x { «end» = e })) ≡ []
  unfolding marks
  first_shows zero e = refl
  first_shows (suc i) e = refl

  pub first_whole : (tree : Forest Item) (root : TreeIndex) (e : ℕ) → tree ≡ with_end_at empty_forest root e → HasWholeTables names tree
  first_whole tree root e is = grind (arith, whole_none, first_shows)

-- an added leaf block of a kind
pub kind_whole : (text : List ℕ) (options : Options) (names : Names) (p : Place) (kind : Kind) (gap : Bool) (old new : Forest Item) (next : ℕ)
    → IsPlaceOf text p → (a : AddsKind (document text options names) p kind gap old new next) → AreWholeTables names a.items
kind_whole text options names p kind gap old new next place a =
    let d : Document = document text options names in
    opens_as d (heads_are_full d) (path_of options old) p (lines_from text (line_end p)) kind
    (OpensLeaf (leaf_block kind p a.items gap) Line (lines_from text next)) place.left (lines_from_at text (line_end p)) (a.opens names (extends_none names))

-- a paragraph, heading or table
pub added_text_whole : (d : Document) (path : List Container) (p : Place) (marker : Option Item) (lines : List Place) (t : Taken) → IsPlaceOf d.text p
    → ShownBy marker → IsText d path p marker lines t → AreWholeTables d.names t.items
added_text_whole d path p marker lines t place shows is = text_whole d (heads_are_full d) path p marker lines t place.left shows is
