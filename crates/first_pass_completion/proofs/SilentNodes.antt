-- Nodes that are no part of a table stay so when more nodes follow, and when lists and containers are closed.
use Rattle.std.proofs.Common.{◌≡◌, ℕ, zero, suc, ◌==◌, ◌||◌, not, Bool, true, false, List, [], ◌∷◌, ◌++◌, map, Option, Some, None, refl, sym, ap, ◌∙◌}
use Rattle.std.proofs.Common.{if◌then◌else◌, subst, append_assoc, arith}
use Rattle.first_pass_grammar.proofs.Common.{Item, ItemBody, DefinitionList, modify, map_from, deeper, shallower, tight_body, tightened, Names, Definitions}
use Rattle.first_pass_grammar.proofs.Common.{definitions_first, Rows, is_loose, list_until, items_after, list_after, items_of, ended, flagged, with_title}
use Rattle.first_pass_grammar.proofs.Common.{title_taken, title_left, list_closed, ParagraphAt, DefinitionClosed, TitleAt, Pending, NoList, OneList}
use Rattle.first_pass_grammar.proofs.Common.{OneTitle, after_paragraph, after_title, rendered, closed_as, definitions_open, Mark, marks, TableRows}
use Rattle.first_pass_grammar.proofs.Common.{table_marks, AreWholeTables, AreEachNode, ShowsNothing, SilentClosed, SilentFrom}
use Rattle.first_pass_items.specs.declared.item.ItemBody.TheVariants.{List as ListBody, Paragraph as ParagraphBody}
use Rattle.first_pass_grammar.specs.declared.kind.Container.{Container}
use Rattle.first_pass_grammar.specs.declared.kind.Container.TheVariants.{BlockQuote}
use Rattle.first_pass_grammar.specs.Completion.{not_apart, closed_with}
use Rattle.first_pass_grammar.proofs.Each.EachRow.{HoldsOfFirst, first_rows, items_rows, list_rows}
use Rattle.first_pass_grammar.proofs.WholeTables.TableMarks.{marks-append}
pub use Rattle.first_pass_grammar.proofs.WholeTables.TableMarks.{none_shown}
use Rattle.first_pass_grammar.proofs.WholeTables.WholeForests.{table_marks-append, whole_both, tight_shows, marks-tightened, WholeRows, forest_whole}
use Rattle.first_pass_completion.proofs.States.{OpenDefinitions}

-- there is a node at a place, and it is no part of a table
abbrev pub IsSilent : List (ℕ × Item) → ℕ → Type 0
IsSilent [] i = ⊥
IsSilent (n ∷ nodes) zero = ShowsNothing n.1.body
IsSilent (n ∷ nodes) (suc i) = IsSilent nodes i

-- the same at each of these places
abbrev pub AreSilent : List (ℕ × Item) → List ℕ → Type 0
AreSilent nodes [] = Unit {0}
AreSilent nodes (place ∷ places) = IsSilent nodes place × AreSilent nodes places

-- the same for a list that may continue, and for the last child if there is no such list
abbrev pub SilentList : List (ℕ × Item) → Pending → Type 0
SilentList nodes (NoList closed) = SilentClosed nodes closed
SilentList nodes (OneList place joins loose) = IsSilent nodes place
SilentList nodes (OneTitle place title e loose) = IsSilent nodes place × SilentFrom nodes title

-- a change after which an item that is no part of a table is still none
abbrev pub StaysSilent : (Item → Item) → Type 0
StaysSilent g = (x : Item) → ShowsNothing x.body → ShowsNothing (g x).body

-- more nodes after them; the next lemma: an item that is changed
pub silent_front : (nodes more : List (ℕ × Item)) (i : ℕ) → IsSilent nodes i → IsSilent (nodes ++ more) i
silent_front [] more i h = absurd h
silent_front (n ∷ nodes) more zero h = h
silent_front (n ∷ nodes) more (suc i) h = silent_front nodes more i h

pub silent_modified : (nodes : List (ℕ × Item)) (place i : ℕ) (g : Item → Item) → StaysSilent g → IsSilent nodes i → IsSilent (modify nodes place g) i
silent_modified [] place i g stays h = absurd h
silent_modified (n ∷ nodes) zero zero g stays h = stays n.1 h
silent_modified (n ∷ nodes) zero (suc i) g stays h = h
silent_modified (n ∷ nodes) (suc place) zero g stays h = h
silent_modified (n ∷ nodes) (suc place) (suc i) g stays h = silent_modified nodes place i g stays h

pub marks_modified : (names : Names) (nodes : List (ℕ × Item)) (place : ℕ) (g : Item → Item) → StaysSilent g → IsSilent nodes place
    → marks names (modify nodes place g) ≡ marks names nodes
unfolding marks
marks_modified names [] place g stays h = absurd h
marks_modified names (n ∷ nodes) zero g stays h =
    let now : Item = g n.1 in
    ap (λ (z : List Mark). z ++ marks names nodes) (stays n.1 h names n.0 now.start now.«end» ∙ sym (h names n.0 n.1.start n.1.«end»))
marks_modified names (n ∷ nodes) (suc place) g stays h = grind (arith, marks_modified names nodes place g stays h)

pub from_at : (nodes : List (ℕ × Item)) (i : ℕ) → SilentFrom nodes i → IsSilent nodes i
from_at [] i h = absurd h
from_at (n ∷ nodes) zero h = h.0
from_at (n ∷ nodes) (suc i) h = from_at nodes i h

pub each_modified : (nodes : List (ℕ × Item)) (place : ℕ) (g : Item → Item) → StaysSilent g → AreEachNode ShowsNothing nodes
    → AreEachNode ShowsNothing (modify nodes place g)
each_modified [] place g stays h = tt
each_modified (n ∷ nodes) zero g stays h = (stays n.1 h.0, h.1)
each_modified (n ∷ nodes) (suc place) g stays h = (h.0, each_modified nodes place g stays h.1)

pub from_modified : (nodes : List (ℕ × Item)) (place i : ℕ) (g : Item → Item) → StaysSilent g → SilentFrom nodes i → SilentFrom (modify nodes place g) i
from_modified [] place i g stays h = absurd h
from_modified (n ∷ nodes) zero zero g stays h = (stays n.1 h.0, h.1)
from_modified (n ∷ nodes) (suc place) zero g stays h = (h.0, each_modified nodes place g stays h.1)
from_modified (n ∷ nodes) zero (suc i) g stays h = h
from_modified (n ∷ nodes) (suc place) (suc i) g stays h = from_modified nodes place i g stays h

-- nodes at other depths, and paragraphs that are tightened
module _ (g : ℕ × Item → ℕ × Item) (stays : (n : ℕ × Item) → ShowsNothing n.1.body → ShowsNothing (g n).1.body) where
  pub silent_from : (place : ℕ) (nodes : List (ℕ × Item)) (i : ℕ) → IsSilent nodes i → IsSilent (map_from g place nodes) i
  silent_from place [] i h = absurd h
  silent_from zero (n ∷ nodes) zero h = stays n h
  silent_from zero (n ∷ nodes) (suc i) h = silent_from zero nodes i h
  silent_from (suc place) (n ∷ nodes) zero h = h
  silent_from (suc place) (n ∷ nodes) (suc i) h = silent_from place nodes i h

  pub each_from : (place : ℕ) (nodes : List (ℕ × Item)) → AreEachNode ShowsNothing nodes → AreEachNode ShowsNothing (map_from g place nodes)
  each_from zero [] h = tt
  each_from (suc place) [] h = tt
  each_from zero (n ∷ nodes) h = (stays n h.0, each_from zero nodes h.1)
  each_from (suc place) (n ∷ nodes) h = (h.0, each_from place nodes h.1)

  pub from_from : (place : ℕ) (nodes : List (ℕ × Item)) (i : ℕ) → SilentFrom nodes i → SilentFrom (map_from g place nodes) i
  from_from place [] i h = absurd h
  from_from zero (n ∷ nodes) zero h = each_from zero (n ∷ nodes) h
  from_from zero (n ∷ nodes) (suc i) h = from_from zero nodes i h
  from_from (suc place) (n ∷ nodes) zero h = each_from (suc place) (n ∷ nodes) h
  from_from (suc place) (n ∷ nodes) (suc i) h = from_from place nodes i h

  pub marks_moved : (names : Names) (place : ℕ) (nodes : List (ℕ × Item)) → SilentFrom nodes place → marks names (map_from g place nodes) ≡ marks names nodes
  unfolding marks
  marks_moved names place [] h = absurd h
  marks_moved names zero (n ∷ nodes) h = search (none_shown, each_from)
  marks_moved names (suc place) (n ∷ nodes) h = grind (arith, marks_moved names place nodes h)

tight_stays : (t : Bool) (x : Item) → ShowsNothing x.body
    → (let y : Item = if t then record { start = x.start; «end» = x.«end»; body = tight_body x.body } else x in ShowsNothing y.body)
tight_stays true x h = λ names depth start end. tight_shows names depth start end x.body ∙ h names depth start end
tight_stays false x h = h

stays_tight : (depth : ℕ) (n : ℕ × Item) → ShowsNothing n.1.body → ShowsNothing (tightened depth n).1.body
stays_tight depth n h = tight_stays (n.0 == depth) n.1 h

marks_from : (names : Names) (depth place : ℕ) (nodes : List (ℕ × Item)) → marks names (map_from (tightened depth) place nodes) ≡ marks names nodes
unfolding marks
marks_from names depth zero nodes = marks-tightened names depth nodes
marks_from names depth (suc place) [] = refl
marks_from names depth (suc place) (n ∷ nodes) = grind (arith, marks_from names depth place nodes)

-- a list that is closed
pub silent_flagged : (loose : Bool) (b : ItemBody) → ShowsNothing b → ShowsNothing (flagged loose b)
silent_flagged loose (ListBody flags byte number) h = λ names depth start end. refl
silent_flagged loose (DefinitionList flags) h = λ names depth start end. refl
silent_flagged loose b h = h

pub from_closed : (nodes : List (ℕ × Item)) (place depth : ℕ) (loose : Bool) (e i : ℕ)
    → SilentFrom nodes i → SilentFrom (list_closed nodes place depth loose e) i
unfolding list_closed
from_closed nodes place depth true e i h = from_modified nodes place i _ (λ x k. silent_flagged true x.body k) h
from_closed nodes place depth false e i h = grind (arith, from_modified, silent_flagged, from_from, stays_tight)

-- a container that is closed
pub marks_ended : (names : Names) (nodes : List (ℕ × Item)) (place e : ℕ) → IsSilent nodes place → marks names (ended nodes place e) ≡ marks names nodes
unfolding ended
marks_ended names nodes place e h = marks_modified names nodes place _ (λ x k. k) h

-- a paragraph that becomes a title, below a list
silent_shifted : (nodes : List (ℕ × Item)) (i : ℕ) → AreEachNode ShowsNothing nodes → IsSilent nodes (suc i) → IsSilent (map deeper nodes) i
silent_shifted [] i h k = absurd k
silent_shifted (n ∷ nodes) zero h k = h.0
silent_shifted (n ∷ nodes) (suc i) h k = silent_shifted nodes i h.1 k

silent_titled : (nodes : List (ℕ × Item)) (place i : ℕ) → SilentFrom nodes place → IsSilent nodes i → IsSilent (with_title nodes place) i
unfolding with_title
silent_titled [] place i from h = absurd h
silent_titled (n ∷ nodes) zero zero from h = λ names depth start end. refl
silent_titled (n ∷ nodes) zero (suc zero) from h = λ names depth start end. refl
silent_titled (n ∷ nodes) zero (suc (suc i)) from h = silent_shifted nodes i from.1 h
silent_titled (n ∷ nodes) (suc place) zero from h = h
silent_titled (n ∷ nodes) (suc place) (suc i) from h = silent_titled nodes place i from h

pub marks_titled : (names : Names) (nodes : List (ℕ × Item)) (place : ℕ) → SilentFrom nodes place → marks names (with_title nodes place) ≡ marks names nodes
unfolding marks with_title
marks_titled names [] place h = absurd h
marks_titled names (n ∷ nodes) zero h =
    none_shown names (map deeper nodes) (each_from deeper (λ m k. k) zero nodes h.1) ∙ sym (none_shown names (n ∷ nodes) h)
marks_titled names (n ∷ nodes) (suc place) h = grind (arith, marks_titled names nodes place h)

-- a possible title that becomes a paragraph after its list
pub from_left : (nodes : List (ℕ × Item)) (place i : ℕ) → SilentFrom nodes i → SilentFrom (title_left nodes place) i
unfolding title_left
from_left nodes place i h = grind (arith, from_from, from_modified)

-- After a change the nodes have the same marks, and what was no part of a table is still none.
record KeepsShown (nodes now : List (ℕ × Item)) : Type 0 where
  pub marks_are : (names : Names) → marks names now ≡ marks names nodes
  pub silent : (i : ℕ) → IsSilent nodes i → IsSilent now i

kept_both : (nodes mid now : List (ℕ × Item)) → KeepsShown nodes mid → KeepsShown mid now → KeepsShown nodes now
kept_both nodes mid now h k =
    record { marks_are = λ names. k.marks_are names ∙ h.marks_are names; silent = λ i is. k.silent i (h.silent i is) }

kept_same : (nodes : List (ℕ × Item)) → KeepsShown nodes nodes
kept_same nodes = record { marks_are = λ names. refl; silent = λ i is. is }

kept_modified : (nodes : List (ℕ × Item)) (place : ℕ) (g : Item → Item) → StaysSilent g → IsSilent nodes place → KeepsShown nodes (modify nodes place g)
kept_modified nodes place g stays h = search (marks_modified, silent_modified)

kept_closed : (nodes : List (ℕ × Item)) (place depth : ℕ) (loose : Bool) (e : ℕ) → IsSilent nodes place
    → KeepsShown nodes (list_closed nodes place depth loose e)
unfolding list_closed
kept_closed nodes place depth true e h = kept_modified nodes place _ (λ x k. silent_flagged true x.body k) h
kept_closed nodes place depth false e h =
    let tight : List (ℕ × Item) = map_from (tightened depth) place nodes in
    let keeps : KeepsShown nodes tight = record {
      marks_are = λ names. marks_from names depth place nodes;
      silent = λ i is. silent_from (tightened depth) (stays_tight depth) place nodes i is;
    } in
    kept_both nodes tight _ keeps (kept_modified tight place _ (λ x k. silent_flagged false x.body k) (keeps.silent place h))

kept_titled : (nodes : List (ℕ × Item)) (place : ℕ) → SilentFrom nodes place → KeepsShown nodes (with_title nodes place)
kept_titled nodes place from = record { marks_are = λ names. marks_titled names nodes place from; silent = λ i is. silent_titled nodes place i from is }

kept_taken : (nodes : List (ℕ × Item)) (place : ℕ) → SilentFrom nodes place → KeepsShown nodes (title_taken nodes place)
unfolding title_taken
kept_taken nodes place from = kept_modified nodes place _ (λ x k names depth start end. refl) (from_at nodes place from)

kept_left : (nodes : List (ℕ × Item)) (place : ℕ) → SilentFrom nodes place → KeepsShown nodes (title_left nodes place)
unfolding title_left
kept_left nodes place from =
    let g : Item → Item = λ x. record x { body = ParagraphBody } in
    let stays : StaysSilent g = λ x k names depth start end. refl in
    kept_both nodes (modify nodes place g) _ (kept_modified nodes place g stays (from_at nodes place from)) (record {
      marks_are = λ names. marks_moved shallower (λ n k. k) names place (modify nodes place g) (from_modified nodes place place g stays from);
      silent = λ i is. silent_from shallower (λ n k. k) place (modify nodes place g) i is;
    })

-- the rendered nodes have the marks of these nodes, followed by whole tables
abbrev pub ShowsMore : Names → List (ℕ × Item) → List (ℕ × Item) → Type 0
ShowsMore names nodes after = (more : List TableRows) × (marks names after ≡ marks names nodes ++ table_marks more)

pub more_both : (names : Names) (nodes mid after : List (ℕ × Item)) → ShowsMore names nodes mid → ShowsMore names mid after → ShowsMore names nodes after
more_both names nodes mid after (a, e) (b, f) = (
  a ++ b,
  f ∙ ap (λ (z : List Mark). z ++ table_marks b) e ∙ append_assoc (marks names nodes) (table_marks a) (table_marks b)
      ∙ ap (λ (z : List Mark). marks names nodes ++ z) (sym (table_marks-append a b)),
)

-- The rendered nodes are nodes that keep what these show, and items that these rows add; they are whole tables if the
-- rows have such.
record RendersAs (nodes : List (ℕ × Item)) (rows : Rows) (after : List (ℕ × Item)) : Type 0 where
  pub now : List (ℕ × Item)
  pub more : List (ℕ × Item)
  pub are : after ≡ now ++ more
  pub keeps : KeepsShown nodes now
  pub whole : (names : Names) → WholeRows names rows → AreWholeTables names more

-- the definitions have whole tables if the rows have
abbrev WholeIf : Rows → Option Definitions → Type 0
WholeIf rows o = (names : Names) → WholeRows names rows → HoldsOfFirst (AreWholeTables names) o

renders_with : (depth : ℕ) (nodes now : List (ℕ × Item)) (place : ℕ) (loose : Bool) (ds : Definitions) (rows : Rows)
    → KeepsShown nodes now → IsSilent now place → WholeIf rows (Some ds) → RendersAs nodes rows (closed_with depth now place loose ds)
renders_with depth nodes now place loose ds rows keeps silent whole = record {
  now = list_closed now place (suc (suc depth)) loose ds.«end»;
  more = items_of (suc depth) (not loose) ds.items ++ items_of depth false ds.beside;
  are = refl;
  keeps = kept_both nodes now _ keeps (kept_closed now place (suc (suc depth)) loose ds.«end» silent);
  whole = λ names h. whole_both names (items_of (suc depth) (not loose) ds.items) (items_of depth false ds.beside)
      (forest_whole names (suc depth) (not loose) ds.items (whole names h).0) (forest_whole names depth false ds.beside (whole names h).1);
}

renders_beside : (depth : ℕ) (nodes now : List (ℕ × Item)) (rows : Rows) → KeepsShown nodes now → RendersAs nodes rows (now ++ items_of depth false rows)
renders_beside depth nodes now rows keeps =
    record { now = now; more = items_of depth false rows; are = refl; keeps = keeps; whole = λ names h. forest_whole names depth false rows h }

renders_paragraph : (depth : ℕ) (nodes now : List (ℕ × Item)) (place : ℕ) (o : Option Definitions) (rows : Rows)
    → KeepsShown nodes now → SilentFrom now place → WholeIf rows o → RendersAs nodes rows (after_paragraph depth now place o rows)
renders_paragraph depth nodes now place None rows keeps from whole = renders_beside depth nodes now rows keeps
renders_paragraph depth nodes now place (Some ds) rows keeps from whole =
    grind (arith, renders_with, now, kept_both, keeps, kept_titled, silent_titled, from_at, whole)

-- the list of a possible title, with or without the title
apart_by : (names : Names) (t : Bool) (ds : Definitions) → HoldsOfFirst (AreWholeTables names) (Some ds)
    → HoldsOfFirst (AreWholeTables names) (if◌then◌else◌ {A = Option Definitions} t None (Some ds))
apart_by names true ds h = tt
apart_by names false ds h = h

unless_apart : (names : Names) (o : Option Definitions) → HoldsOfFirst (AreWholeTables names) o → HoldsOfFirst (AreWholeTables names) (not_apart o)
unless_apart names None h = tt
unless_apart names (Some ds) h = apart_by names ds.apart ds h

-- a definition list with a possible title after it
renders_title : (depth : ℕ) (nodes : List (ℕ × Item)) (l : OpenDefinitions) (title : ℕ) (o : Option Definitions) (rows : Rows)
    → IsSilent nodes l.place → SilentFrom nodes title → WholeIf rows o
    → RendersAs nodes rows (after_title depth nodes (l.place, title, l.«end») l.loose o rows)
renders_title depth nodes l title (Some ds) rows silent from whole = grind (arith, kept_taken, renders_with, silent, whole)
renders_title depth nodes l title None rows silent from whole =
    let closed : List (ℕ × Item) = list_closed nodes l.place (suc (suc depth)) l.loose l.«end» in
    let still = from_closed nodes l.place (suc (suc depth)) l.loose l.«end» title from in
    renders_paragraph depth nodes (title_left closed title) title (definitions_first rows) rows
    (kept_both nodes closed _ (kept_closed nodes l.place (suc (suc depth)) l.loose l.«end» silent) (kept_left closed title still))
    (from_left closed title title still) (λ names h. first_rows (AreWholeTables names) rows h)

renders : (depth last : ℕ) (nodes : List (ℕ × Item)) (list : Pending) (rows : Rows) → SilentList nodes list
    → RendersAs nodes rows (rendered depth last nodes list rows)
unfolding rendered
renders depth last nodes (NoList (ParagraphAt place)) rows silent = grind (arith, renders_paragraph, kept_same, silent, first_rows)
renders depth last nodes (NoList closed) rows silent = renders_beside depth nodes nodes rows (kept_same nodes)
renders depth last nodes (OneList place joins loose) rows silent =
    let now : Bool = loose || is_loose (items_after joins rows) in record {
      now = list_closed nodes place (suc (suc depth)) now (list_until joins last rows);
      more = items_of (suc depth) (not now) (items_after joins rows) ++ items_of depth false (list_after joins rows);
      are = refl;
      keeps = kept_closed nodes place (suc (suc depth)) now (list_until joins last rows) silent;
      whole = λ names h. whole_both names (items_of (suc depth) (not now) (items_after joins rows)) (items_of depth false (list_after joins rows))
          (forest_whole names (suc depth) (not now) (items_after joins rows) (items_rows (AreWholeTables names) joins rows h))
          (forest_whole names depth false (list_after joins rows) (list_rows (AreWholeTables names) joins rows h));
    }
renders depth last nodes (OneTitle place title e loose) rows silent =
    renders_title depth nodes (record { place = place; «end» = e; loose = loose }) title (not_apart (definitions_first rows)) rows silent.0 silent.1
    (λ names h. unless_apart names (definitions_first rows) (first_rows (AreWholeTables names) rows h))

pub rendered_shows : (names : Names) (depth last : ℕ) (nodes : List (ℕ × Item)) (list : Pending) (rows : Rows) → SilentList nodes list → WholeRows names rows
    → ShowsMore names nodes (rendered depth last nodes list rows)
unfolding AreWholeTables
rendered_shows names depth last nodes list rows silent h =
    let r = renders depth last nodes list rows silent in
    let (tables, e, full) = r.whole names h in (
      tables,
      ap (marks names) r.are ∙ marks-append names r.now r.more ∙ ap (λ (z : List Mark). z ++ marks names r.more) (r.keeps.marks_are names)
          ∙ ap (λ (z : List Mark). marks names nodes ++ z) e,
    )

-- the nodes that are still open are no part of a table afterwards
pub silent_rendered : (depth last : ℕ) (nodes : List (ℕ × Item)) (list : Pending) (rows : Rows) (i : ℕ) → SilentList nodes list → IsSilent nodes i
    → IsSilent (rendered depth last nodes list rows) i
silent_rendered depth last nodes list rows i silent h =
    let r = renders depth last nodes list rows silent in subst (λ z. IsSilent z i) (sym r.are) (silent_front r.now r.more i (r.keeps.silent i h))

pub silent_place : (depth last place e : ℕ) (nodes : List (ℕ × Item)) (list : Pending) (rows : Rows) (i : ℕ) → SilentList nodes list → IsSilent nodes i
    → IsSilent (ended (rendered depth last nodes list rows) place e) i
unfolding ended
silent_place depth last place e nodes list rows i silent h = grind (arith, silent_modified, silent_rendered, silent)

-- a closed container becomes no title; a node that may continue an open definition list is no part of a table
pub silent_as : (nodes : List (ℕ × Item)) (c : Container) (e : ℕ) → SilentClosed nodes (closed_as c e)
silent_as nodes (BlockQuote kind) e = tt
silent_as nodes c e = tt

pub silent_definitions : (nodes : List (ℕ × Item)) (place : ℕ) (loose : Bool) (list : Pending) → IsSilent nodes place → SilentList nodes list
    → SilentList nodes (definitions_open place loose list)
silent_definitions nodes place loose (NoList (DefinitionClosed e blanks)) h silent = h
silent_definitions nodes place loose (NoList (TitleAt e at)) h silent = (h, silent)
silent_definitions nodes place loose list h silent = tt
