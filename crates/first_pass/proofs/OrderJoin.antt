-- A text joined to the last child of the innermost open node keeps the tree in order.
use Rattle.std.proofs.Common.{◌≡◌, ℕ, suc, ◌+◌, ◌≤◌, ◌==◌, ◌&&◌, Bool, true, false, List, [], ◌∷◌, ◌++◌, length, Option, Some, None, IfSome, IsUtf8}
use Rattle.std.proofs.Common.{IsCharBoundary, refl, sym, ap, subst, ◌∙◌, ◌-◌, arith, if◌then◌else◌, eqb-true, take, length-take-le}
use Rattle.first_pass_grammar.proofs.Common.{and_parts, CowStr, MathBraces, Item, ItemBody, Text, TreeIndex, Forest, IsForest, IsLastAt, depths, item_at}
use Rattle.first_pass_grammar.proofs.Common.{is_text, with_end_at, with_end, appended, modified-is, AreInOrder, EscapesStand, with_tokens, AppendsLine}
use Rattle.first_pass_grammar.proofs.Common.{order_bound, order_to, order_from, line_in_order, cell_end_place, Document, text_upto, Ranged, extent_of}
use Rattle.first_pass_grammar.proofs.Common.{is_task_marker, Empty, laid, IsBetween, laid_open, FitsOpen, IsOrderedTo}
use Rattle.first_pass.proofs.Common.{last_child, fits_open_last, ends_text_at, get_or-take, cell_in_order}
use Rattle.first_pass_blocks.proofs.Common.{joins_at, with_token, AppendsCell, Node, ended_at, length-places, PassState, reached, IsOrderedAt, ordered_later}
use Rattle.first_pass_blocks.proofs.Common.{ordered_appended, ordered_none}
use Rattle.first_pass_tree.proofs.Keeps.{appended-is}
use Rattle.first_pass_leaves.proofs.TextFronts.{front_utf8, place_in_front, place_in_text, order_in_text}
use Rattle.first_pass_grammar.proofs.Order.Orders.{beside, laid_open-beside, extents-ended}

-- the last child of the innermost open node ends later; it is not a task list item marker
pub ordered_ended : (text : List ℕ) (f : Forest Item) (a e : ℕ) (c : TreeIndex) (y : Item) → IsLastAt (depths f.nodes) (length f.spine + 1) c.0
    → item_at f c ≡ Some y → is_task_marker y.body ≡ false → y.«end» ≤ e → IsCharBoundary text e
    → IsOrderedTo text f a → IsOrderedTo text (with_end_at f c e) e
unfolding laid
ordered_ended text f a e c y last here plain later b o =
    let root = o.root in
    let levels = o.levels in
    let d : ℕ = suc (length levels) in
    let x : Ranged = extent_of y in
    let deep : length f.spine + 1 ≡ d = (let n = length-places root levels f.spine o.places in omega arith) in
    let l = last_child f.nodes root levels o.row c.0 y o.nodes (subst (λ k. IsLastAt (depths f.nodes) k c.0) deep last) here in
    let front : List (ℕ × Ranged) = laid_open root levels l.before in
    let split : laid_open root levels o.row ≡ front ++ (d, x) ∷ (laid (suc d) l.kids ++ []) =
    ap (laid_open root levels) l.row_is ∙ laid_open-beside root levels l.before (Node x l.kids Empty) in
    record {
      root = root;
      levels = levels;
      row = beside l.before (Node (ended_at x e) l.kids Empty);
      nodes = extents-ended f.nodes front (d, x) (laid (suc d) l.kids ++ []) c.0 e (o.nodes ∙ split) l.place_is
          ∙ sym (laid_open-beside root levels l.before (Node (ended_at x e) l.kids Empty));
      places = o.places;
      fits = fits_open_last text a e levels l.before x l.kids plain later b (subst (FitsOpen text a levels) l.row_is o.fits);
      within = b.0;
      whole = o.whole;
    }

text_unmarked : (b : ItemBody) → is_text b ≡ true → is_task_marker b ≡ false
text_unmarked (Text escaped) h = refl
text_unmarked b h = cc

found_by : (f : Forest Item) (at : ℕ) (c : TreeIndex) (o : Option Item)
    → item_at f c ≡ o → ends_text_at at o ≡ true → (y : Item) × (item_at f c ≡ Some y) × (is_text y.body ≡ true) × (y.«end» ≡ at)
found_by f at c None is h = cc
found_by f at c (Some y) is h = (let p = and_parts (is_text y.body) (y.«end» == at) h in (y, is, p.0, eqb-true y.«end» at p.1))

joined_by : (text : List ℕ) (f : Forest Item) (a at e : ℕ) (o : Option TreeIndex) → f.current ≡ o → IsForest f → joins_at f at o ≡ true → at ≤ e
    → IsCharBoundary text e → IsOrderedTo text f a → IsOrderedTo text (with_end f e o) e
joined_by text f a at e None is forest joins low b o = cc
joined_by text f a at e (Some c) is forest joins low b o =
    let y = found_by f at c (item_at f c) refl joins in
    let last : IsLastAt (depths f.nodes) (length f.spine + 1) c.0 =
    subst (λ z. IfSome z (λ c. IsLastAt (depths f.nodes) (length f.spine + 1) c.0)) is forest.at_current in
    let ends = y.3 in
    ordered_ended text f a e c y.0 last y.1 (text_unmarked y.0.body y.2) (omega arith) b o

ended_forest : (f : Forest Item) (e : ℕ) (o : Option TreeIndex) → IsForest f → IsForest (with_end f e o)
ended_forest f e None forest = forest
ended_forest f e (Some c) forest = modified-is f c.0 (λ x. record { start = x.start; «end» = e; body = x.body }) forest

token_by : (t : Bool) (text : List ℕ) (f : Forest Item) (a : ℕ) (x : Item)
    → (is_text x.body && joins_at f x.start f.current) ≡ t → IsForest f → IsBetween text a x.«end» (extent_of x) → x.«end» ≤ length text → IsOrderedTo text f a
    → (let g : Forest Item = if t then with_end f x.«end» f.current else appended f x in IsForest g × IsOrderedTo text g x.«end»)
token_by true text f a x is forest between high o =
    let p = and_parts (is_text x.body) (joins_at f x.start f.current) is in
    (ended_forest f x.«end» f.current forest, joined_by text f a x.start x.«end» f.current refl forest p.1 between.order between.ends o)
token_by false text f a x is forest between high o = (appended-is f x forest, ordered_appended text f a x.«end» x between high o)

-- tokens in order are added; the first of them may be joined
pub ordered_tokens : (text : List ℕ) (f : Forest Item) (from to : ℕ) (tokens : List Item)
    → IsForest f → AreInOrder text from to tokens → to ≤ length text → IsOrderedTo text f from → IsOrderedTo text (with_tokens f tokens) to
ordered_tokens text f from to [] forest h high o = ordered_later text f from to h high o
ordered_tokens text f from to (x ∷ xs) forest h high o =
    let within = order_bound text x.«end» to xs h.4 in
    let one = token_by (is_text x.body && joins_at f x.start f.current) text f from x refl forest
    (record { following = h.0; order = h.1; before = omega arith; starts = h.2; ends = h.3 }) (omega arith) o in
    ordered_tokens text (with_token f x) x.«end» to xs one.0 h.4 high one.1

-- the end of a part of a text, if it has one: it is not before the start, and at a character boundary
pub both_ends : (text : List ℕ) (start : ℕ) (end : Option ℕ)
    → IfSome end (λ e. (start ≤ e) × (e ≤ length text)) → IfSome end (λ e. IsCharBoundary text e) → IfSome end (λ e. (start ≤ e) × IsCharBoundary text e)
both_ends text start None h b = tt
both_ends text start (Some e) h b = (h.0, b)

-- A range of a text, which may be cut off at an offset, begins at a character boundary. The cut is one too, and not before
-- that.
pub record IsRange (text : List ℕ) (start : ℕ) (end : Option ℕ) : Type 0 where
  pub utf8 : IsUtf8 text
  pub boundary : IsCharBoundary text start
  pub cut : IfSome end (λ e. (start ≤ e) × IsCharBoundary text e)

-- the same of the text up to the cut, whose tokens are in order in the whole text, and whose boundaries are boundaries there
pub record IsFront (text front : List ℕ) (start : ℕ) : Type 0 where
  pub utf8 : IsUtf8 front
  pub boundary : IsCharBoundary front start
  pub tokens : (to : ℕ) (chain : List Item) → AreInOrder front start to chain → AreInOrder text start to chain
  pub escapes : (to : ℕ) (chain : List Item) → AreInOrder front start to chain → EscapesStand front start chain → EscapesStand text start chain
  pub place : (i : ℕ) → IsCharBoundary front i → IsCharBoundary text i

-- a backslash before a cut
escapes_in_text : (text : List ℕ) (e from to : ℕ) (chain : List Item) → e ≤ length text → AreInOrder (take e text) from to chain
    → EscapesStand (take e text) from chain → EscapesStand text from chain
escapes_in_text text e from to [] high h k = tt
escapes_in_text text e from to (x ∷ xs) high h k =
    let size = length-take-le e text high in
    let within = h.3.0 in
    let order = h.1 in (
      λ escaped.
          let stands = k.0 escaped in
          let later = stands.0 in
          (later, sym (get_or-take e text (x.start - 1) 0 (omega arith)) ∙ stands.1),
      escapes_in_text text e x.«end» to xs high h.4 k.1,
    )

pub front_of : (text : List ℕ) (start : ℕ) (end : Option ℕ) → IsRange text start end → IsFront text (text_upto text end) start
front_of text start None r =
    record { utf8 = r.utf8; boundary = r.boundary; tokens = λ to chain h. h; escapes = λ to chain h k. k; place = λ i b. b }
front_of text start (Some e) r = record {
  utf8 = front_utf8 text e r.utf8 r.cut.1;
  boundary = place_in_front text e r.utf8 r.cut.1 start r.cut.0 r.boundary;
  tokens = order_in_text text e r.utf8 r.cut.1 start;
  escapes = λ to chain. escapes_in_text text e start to chain r.cut.1.0;
  place = place_in_text text e r.utf8 r.cut.1;
}

-- a tree is in order up to an offset that is not after another
pub record IsOrderedBefore (text : List ℕ) (f : Forest Item) (start : ℕ) : Type 0 where
  pub from : ℕ
  pub low : from ≤ start
  pub forest : IsForest f
  pub order : IsOrderedTo text f from

-- a state in order, at an offset or later
pub state_before : (text : List ℕ) (r : PassState) (at start : ℕ) → IsForest r.tree → IsOrderedAt text r at → at ≤ start → IsOrderedBefore text r.tree start
state_before text r at start forest o low =
    record { from = reached r.begin_list_item at; low = (let before = o.later in omega arith); forest = forest; order = o.ordered }

-- tokens in order are added after an offset
pub tokens_after : (text : List ℕ) (old new : Forest Item) (start to : ℕ) (tokens : List Item) → IsOrderedBefore text old start
    → AreInOrder text start to tokens → to ≤ length text → new ≡ with_tokens old tokens → IsOrderedTo text new to
tokens_after text old new start to tokens o h high is =
    rw is (ordered_tokens text old o.from to tokens o.forest (order_from text o.from start to tokens h o.low) high o.order)

-- a line, and a cell, of a range end at a character boundary
pub line_ends : {texts : List CowStr} {after : MathBraces} (d : Document) (braces : MathBraces) (start : ℕ) (end : Option ℕ) (old new : Forest Item)
    (answer : ℕ × Option Item) → IsRange d.text start end
    → AppendsLine texts (record { options = d.options; whole = d.text; text = text_upto d.text end; start = start; row = false; braces = braces }) old new
    answer after → IsCharBoundary d.text answer.0
line_ends d braces start end old new (next, line_break) r h =
    let f = front_of d.text start end r in
    f.place next (line_in_order f.utf8 f.boundary f.boundary.0 h.line).ends

pub cell_ends : {texts : List CowStr} {after : MathBraces} (d : Document) (braces : MathBraces) (start : ℕ) (end : Option ℕ) (old new : Forest Item)
    (stop : ℕ) → IsRange d.text start end
    → AppendsCell texts (record { options = d.options; whole = d.text; text = text_upto d.text end; start = start; row = true; braces = braces }) old new
    stop after → IsCharBoundary d.text stop
cell_ends d braces start end old new stop r h = (let f = front_of d.text start end r in f.place stop (cell_end_place f.boundary.0 h.cell))

-- an offset that is not after the cut
pub before_cut : (text : List ℕ) (end : Option ℕ) (at : ℕ) → IfSome end (λ e. IsCharBoundary text e) → at ≤ length (text_upto text end)
    → IfSome end (λ e. (at ≤ e) × IsCharBoundary text e)
before_cut text None at ends within = tt
before_cut text (Some e) at ends within = (let n = length-take-le e text ends.0 in (omega arith, ends))

-- the tokens of a line in a range of a text are added
pub ordered_line : {texts : List CowStr} {after : MathBraces} (d : Document) (braces : MathBraces) (start : ℕ) (end : Option ℕ) (old new : Forest Item)
    (answer : ℕ × Option Item) → IsRange d.text start end → IsOrderedBefore d.text old start
    → AppendsLine texts (record { options = d.options; whole = d.text; text = text_upto d.text end; start = start; row = false; braces = braces }) old new
    answer after → IsOrderedTo d.text new answer.0
ordered_line d braces start end old new (next, line_break) r o h =
    let f = front_of d.text start end r in
    let l = line_in_order f.utf8 f.boundary f.boundary.0 h.line in
    tokens_after d.text old new start next h.tokens o
    (f.tokens next h.tokens (order_to (text_upto d.text end) start _ next h.tokens l.tokens_fit l.before)) (f.place next l.ends).0 h.tree_is

-- the tokens of a cell in a range of a text are added
pub ordered_cell : {texts : List CowStr} {after : MathBraces} (d : Document) (braces : MathBraces) (start : ℕ) (end : Option ℕ) (old new : Forest Item)
    (stop : ℕ) → IsRange d.text start end → IsOrderedBefore d.text old start
    → AppendsCell texts (record { options = d.options; whole = d.text; text = text_upto d.text end; start = start; row = true; braces = braces }) old new
    stop after → IsOrderedTo d.text new stop
ordered_cell d braces start end old new stop r o h =
    let f = front_of d.text start end r in
    tokens_after d.text old new start stop h.tokens o (f.tokens stop h.tokens (cell_in_order f.utf8 f.boundary f.boundary.0 h.cell))
    (f.place stop (cell_end_place f.boundary.0 h.cell)).0 h.tree_is

-- tokens are added to a state in order: the item to which they are added is no longer empty
pub tokens_ordered : (text : List ℕ) (old new : PassState) (start to : ℕ) (tokens : List Item) → IsOrderedBefore text old.tree start
    → AreInOrder text start to tokens → to ≤ length text → new.tree ≡ with_tokens old.tree tokens → new.begin_list_item ≡ None → IsOrderedAt text new to
tokens_ordered text old new start to tokens o order within is none =
    ordered_none text new to none within (tokens_after text old.tree new.tree start to tokens o order within is)
