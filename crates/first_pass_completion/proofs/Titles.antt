-- Nodes with one more leaf block.
use Rattle.std.proofs.Common.{◌≡◌, ℕ, suc, ◌<◌, Bool, true, false, not, ◌||◌, List, [], ◌++◌, length, Option, Some, None, refl, sym, ap, ◌∙◌, append_assoc}
use Rattle.std.proofs.Common.{if◌then◌else◌, option_map, subst, append-nil, true≢false, arith}
use Rattle.first_pass_grammar.proofs.Common.{option_map_or, or-false, Item, at_depth, begins_paragraph, is_run, LeafBlock, DefinitionsTo, Rows, End, OneOf}
use Rattle.first_pass_grammar.proofs.Common.{Definitions, apart_after, definitions_first, titled, leaf_row, row_of_leaf, ATitle, Row, any_gap, is_loose}
use Rattle.first_pass_grammar.proofs.Common.{is_untitled, is_run_row, list_after, continues_list, as_title, block_items, items_of, with_title, title_taken}
use Rattle.first_pass_grammar.proofs.Common.{title_left, list_closed, Closed, OtherClosed, ParagraphAt, NoList, OneList, OneTitle, rows_beyond}
use Rattle.first_pass_grammar.proofs.Common.{after_paragraph, after_title, rendered, Pending}
use Rattle.first_pass_grammar.specs.Rows.{ADefinitionList, WithTitle, Apart, is_apart, was_possible_title}
use Rattle.first_pass_grammar.specs.Completion.{beside_or, not_apart, closed_with}
use Rattle.first_pass_completion.proofs.FlatBlocks.{FlatBlock, OwnParagraph}
use Rattle.first_pass_grammar.proofs.Sequences.Tightening.{length-closed}
use Rattle.first_pass_completion.proofs.States.{OpenDefinitions}
use Rattle.first_pass_completion.proofs.TitleNodes.{as_possible, titled_closed, closed-kept, title-flat, taken-mid, left-closed}

-- the last child after a leaf block whose node is at a place
abbrev pub closed_after : ℕ → LeafBlock → Closed → Closed
closed_after place b closed = if begins_paragraph b.items then ParagraphAt place else (if is_run b.kind then closed else OtherClosed)

-- Definitions take a paragraph before them as their title only if the rows begin with link reference definitions or
-- with a definition list without a title.
first_none : (row : Row) (inner next : Rows) → is_untitled row.what ≡ false → is_run_row row.what ≡ false → definitions_first (OneOf row inner next) ≡ None
unfolding definitions_first
first_none row inner next u r = rw (u, r) refl

-- Rows that do not begin with definitions follow the last child.
pub beside_all : (k last : ℕ) (nodes : List (ℕ × Item)) (closed : Closed) (rows : Rows) → definitions_first rows ≡ None
    → (rendered k last nodes (NoList closed) rows ≡ nodes ++ items_of k false rows) × (rows_beyond (NoList closed) rows ≡ rows)
unfolding rendered
beside_all k last nodes (ParagraphAt at) rows none = (rw none refl, rw none refl)
beside_all k last nodes closed rows none = (refl, refl)

-- rows after nodes and their last child lead to these nodes, and have a gap or not
abbrev pub LeadsTo : ℕ → ℕ → List (ℕ × Item) → Closed → Rows → List (ℕ × Item) → Bool → Type 0
LeadsTo k last nodes closed rows now gap = (rendered k last nodes (NoList closed) rows ≡ now) × (any_gap (rows_beyond (NoList closed) rows) ≡ gap)

-- a leaf block before rows
abbrev before_definitions : LeafBlock → Bool → Option Definitions → Rows → Rows
before_definitions b gap o r = option_map_or (titled b gap) o (OneOf (row_of_leaf b gap) End r)

no_run : (items : List (ℕ × Item)) (t : Bool) → begins_paragraph items ≡ true → (t ≡ true → items ≡ []) → t ≡ false
no_run items false is none = refl
no_run items true is none = let e : items ≡ [] = none refl in absurd (true≢false (sym is ∙ ap begins_paragraph e))

pub titled_by : (t : Bool) (e : ℕ) → is_untitled (ADefinitionList (if t then Apart else WithTitle) e) ≡ false
titled_by true e = refl
titled_by false e = refl

-- a paragraph that is the title of definitions
titled_nodes : (k : ℕ) (nodes : List (ℕ × Item)) (b : LeafBlock) (gap : Bool) (ds : Definitions)
    → begins_paragraph b.items ≡ true → FlatBlock b → OwnParagraph b
    → nodes ++ items_of k false (titled b gap ds)
    ≡ closed_with k (with_title (nodes ++ block_items k false b) (length nodes)) (length nodes) (is_loose ds.items) ds
unfolding items_of is_loose any_gap
titled_nodes k nodes b gap ds is flat own =
    let loose : Bool = is_loose ds.items in
    let further : List (ℕ × Item) = items_of (suc k) (not loose) ds.items ++ items_of k false ds.beside in
    sym (ap (λ z. z ++ further) (titled_closed k nodes b.items b.start (suc (suc k)) loose ds.«end» is (flat.tokens is) (own.first is))
    ∙ simp append_assoc)

-- one more leaf block, with no definitions after it as its own
other_added : (k last : ℕ) (nodes : List (ℕ × Item)) (closed : Closed) (b : LeafBlock) (gap : Bool) (r : Rows) → is_run b.kind ≡ false
    → LeadsTo k last nodes closed (OneOf (row_of_leaf b gap) End r) ((nodes ++ block_items k false b) ++ items_of k false r) (gap || any_gap r)
unfolding items_of any_gap
other_added k last nodes closed b gap r run =
    let row : Row = row_of_leaf b gap in
    let e = beside_all k last nodes closed (OneOf row End r) (first_none row End r refl run) in
    (e.0 ∙ sym (append_assoc nodes (block_items k false b) (items_of k false r)), ap any_gap e.1)

-- one more paragraph, with definitions after it or not
paragraph_by : (k last : ℕ) (nodes : List (ℕ × Item)) (closed : Closed) (b : LeafBlock) (gap : Bool) (r : Rows) (o : Option Definitions)
    → begins_paragraph b.items ≡ true → FlatBlock b × OwnParagraph b
    → LeadsTo k last nodes closed (before_definitions b gap o r) (after_paragraph k (nodes ++ block_items k false b) (length nodes) o r)
    (gap || any_gap (beside_or o r))
unfolding items_of any_gap
paragraph_by k last nodes closed b gap r None is (flat, own) = other_added k last nodes closed b gap r (no_run b.items (is_run b.kind) is flat.none)
paragraph_by k last nodes closed b gap r (Some ds) is (flat, own) =
    let e = beside_all k last nodes closed (titled b gap ds) (first_none _ _ ds.beside (titled_by ds.apart ds.«end») refl) in
    (e.0 ∙ titled_nodes k nodes b gap ds is flat own, ap any_gap e.1)

-- only link reference definitions
run_items : (k : ℕ) (b : LeafBlock) (gap : Bool) (r : Rows) → b.items ≡ [] → items_of k false (OneOf (row_of_leaf b gap) End r) ≡ items_of k false r
unfolding items_of
run_items k b gap r none = ap (λ z. at_depth k z ++ items_of k false r) none

run_by : (k : ℕ) (nodes : List (ℕ × Item)) (at : ℕ) (b : LeafBlock) (gap : Bool) (r : Rows) (o : Option Definitions) → b.items ≡ []
    → (let row : Row = row_of_leaf b gap in
    (after_paragraph k nodes at (option_map (apart_after row End) o) (OneOf row End r) ≡ after_paragraph k nodes at o r)
    × (any_gap (beside_or (option_map (apart_after row End) o) (OneOf row End r)) ≡ (gap || any_gap (beside_or o r))))
unfolding any_gap
run_by k nodes at b gap r None none = (ap (λ z. nodes ++ z) (run_items k b gap r none), refl)
run_by k nodes at b gap r (Some ds) none = grind (arith, run_items)

run_added : (k last : ℕ) (nodes : List (ℕ × Item)) (closed : Closed) (b : LeafBlock) (gap : Bool) (r : Rows) → is_run b.kind ≡ true → b.items ≡ []
    → LeadsTo k last nodes closed (OneOf (row_of_leaf b gap) End r) (rendered k last nodes (NoList closed) r) (gap || any_gap (rows_beyond (NoList closed) r))
unfolding rendered any_gap definitions_first
run_added k last nodes (ParagraphAt at) b gap r is none = rw is (run_by k nodes at b gap r (definitions_first r) none)
run_added k last nodes closed b gap r is none = (ap (λ z. nodes ++ z) (run_items k b gap r none), refl)

-- one more leaf block
leaf_by : (k last : ℕ) (nodes : List (ℕ × Item)) (closed : Closed) (b : LeafBlock) (gap : Bool) (r : Rows) (p t : Bool)
    → begins_paragraph b.items ≡ p → is_run b.kind ≡ t → FlatBlock b × OwnParagraph b
    → (let later : Pending = NoList (if p then ParagraphAt (length nodes) else (if t then closed else OtherClosed)) in
    LeadsTo k last nodes closed (leaf_row b gap r) (rendered k last (nodes ++ block_items k false b) later r) (gap || any_gap (rows_beyond later r)))
unfolding rendered
leaf_by k last nodes closed b gap r true t is run own = rw is (paragraph_by k last nodes closed b gap r (definitions_first r) is own)
leaf_by k last nodes closed b gap r false true is run (flat, own) =
    let none : b.items ≡ [] = flat.none run in
    rw is (subst (λ z. LeadsTo k last nodes closed (OneOf (row_of_leaf b gap) End r) (rendered k last z (NoList closed) r)
    (gap || any_gap (rows_beyond (NoList closed) r)))
    (sym (ap (λ z. nodes ++ at_depth k z) none ∙ append-nil nodes)) (run_added k last nodes closed b gap r run none))
leaf_by k last nodes closed b gap r false false is run own = rw is (other_added k last nodes closed b gap r run)

pub leaf_added : (k last : ℕ) (nodes : List (ℕ × Item)) (closed : Closed) (b : LeafBlock) (gap : Bool) (r : Rows) → FlatBlock b × OwnParagraph b
    → (let later : Pending = NoList (closed_after (length nodes) b closed) in
    LeadsTo k last nodes closed (leaf_row b gap r) (rendered k last (nodes ++ block_items k false b) later r) (gap || any_gap (rows_beyond later r)))
leaf_added k last nodes closed b gap r own = leaf_by k last nodes closed b gap r _ _ refl refl own

-- a definition list that is closed before what might have been its next title
left_row : (k last : ℕ) (nodes : List (ℕ × Item)) (place e : ℕ) (loose : Bool) (row : Row) (inner next : Rows)
    → continues_list (DefinitionsTo e) row.what ≡ false → was_possible_title row.what ≡ true
    → rendered k last nodes (OneList place (DefinitionsTo e) loose) (OneOf row inner next)
    ≡ list_closed nodes place (suc (suc k)) loose e ++ items_of k false (OneOf row inner next)
unfolding rendered is_loose items_of
left_row k last nodes place e loose row inner next h w = rw (h, w, or-false loose) refl

apart_by : (t : Bool) → not (is_apart (if t then Apart else WithTitle)) ≡ not t
apart_by true = refl
apart_by false = refl

-- a leaf block that begins with a paragraph, which starts where the block does, and in which nothing is nested
pub record IsParagraphBlock (b : LeafBlock) : Type 0 where
  pub begins : begins_paragraph b.items ≡ true
  pub flat : FlatBlock b
  pub own : OwnParagraph b

-- A possible title becomes a paragraph after its list if what follows does not continue that list.
possible_after : (k last : ℕ) (nodes : List (ℕ × Item)) (l : OpenDefinitions) (b : LeafBlock) (r : Rows) (o : Option Definitions)
    → IsParagraphBlock b → l.place < length nodes → definitions_first r ≡ o
    → (let list : Pending = OneList l.place (DefinitionsTo l.«end») l.loose in
    let closed : List (ℕ × Item) = list_closed nodes l.place (suc (suc k)) l.loose l.«end» in
    rendered k last nodes list (before_definitions b false o r) ≡ closed ++ items_of k false (before_definitions b false o r)
    → rendered k last nodes list (before_definitions b false o r)
    ≡ after_title k (nodes ++ at_depth (suc k) (as_possible b.items)) (l.place, length nodes, l.«end») l.loose None r)
unfolding rendered
possible_after k last nodes l b r o is h first left =
    let closed : List (ℕ × Item) = list_closed nodes l.place (suc (suc k)) l.loose l.«end» in
    let same = length-closed nodes l.place (suc (suc k)) l.loose l.«end» in
    let title = left-closed k nodes b.items l.place (suc (suc k)) l.loose l.«end» is.begins (is.flat.tokens is.begins) h in
    rw first (left ∙ (paragraph_by k last closed OtherClosed b false r o is.begins (is.flat, is.own)).0 ∙ rw (same, title) refl)

-- After a definition these rows become a possible title before other rows. Given are the definitions at the start of
-- those, and the ones that the title takes in.
abbrev pub LeavesTitle : ℕ → ℕ → List (ℕ × Item) → OpenDefinitions → LeafBlock → Rows → Rows → Option Definitions → Option Definitions → Type 0
LeavesTitle k last nodes l b r rows first taken =
    (rendered k last nodes (OneList l.place (DefinitionsTo l.«end») l.loose) rows
    ≡ after_title k (nodes ++ at_depth (suc k) (as_possible b.items)) (l.place, length nodes, l.«end») l.loose taken r)
    × (any_gap (list_after (DefinitionsTo l.«end») rows) ≡ any_gap (beside_or first r))

-- a possible title before definitions, with link reference definitions between or not
possible_by : (t : Bool) (k last : ℕ) (nodes : List (ℕ × Item)) (l : OpenDefinitions) (b : LeafBlock) (r : Rows) (ds : Definitions)
    → ds.apart ≡ t → IsParagraphBlock b → l.place < length nodes → definitions_first r ≡ Some ds
    → LeavesTitle k last nodes l b r (titled b false ds) (Some ds) (if t then None else Some ds)
unfolding rendered items_of is_loose any_gap
possible_by true k last nodes l b r ds apart is h first =
    let joins = apart_by ds.apart ∙ ap not apart in (
      possible_after k last nodes l b r (Some ds) is h first
          (left_row k last nodes l.place l.«end» l.loose
          (record { what = ADefinitionList (if ds.apart then Apart else WithTitle) ds.«end»; line = b.line; start = b.start; gap = false })
          (OneOf (record { what = ATitle b; line = b.line; start = b.start; gap = false }) End ds.items) ds.beside joins refl),
      rw joins refl,
    )
possible_by false k last nodes l b r ds apart is h first =
    let now : Bool = l.loose || is_loose ds.items in
    let a : List (ℕ × Item) = at_depth (suc k) (as_title b.items) in
    let c : List (ℕ × Item) = items_of (suc k) (not now) ds.items in
    let f : List (ℕ × Item) = items_of k false ds.beside in
    let joins = apart_by ds.apart ∙ ap not apart in
    let taken : title_taken (nodes ++ at_depth (suc k) (as_possible b.items)) (length nodes) ≡ nodes ++ a = taken-mid (suc k) nodes b.items is.begins in (
      rw joins
          (sym (ap (λ z. closed_with k z l.place now ds) taken
          ∙ ap (λ z. z ++ (c ++ f)) (closed-kept nodes a l.place (suc (suc k)) now ds.«end» h (title-flat (suc k) b.items (is.flat.tokens is.begins)))
          ∙ simp append_assoc)),
      rw joins refl,
    )

-- a possible title, with definitions after it or not
possible_any : (k last : ℕ) (nodes : List (ℕ × Item)) (l : OpenDefinitions) (b : LeafBlock) (r : Rows) (o : Option Definitions)
    → IsParagraphBlock b → l.place < length nodes → definitions_first r ≡ o
    → LeavesTitle k last nodes l b r (before_definitions b false o r) o (not_apart o)
unfolding any_gap
possible_any k last nodes l b r None is h first = (
  possible_after k last nodes l b r None is h first
      (left_row k last nodes l.place l.«end» l.loose (row_of_leaf b false) End r refl (is.own.kind is.begins)),
  refl,
)
possible_any k last nodes l b r (Some ds) is h first = possible_by ds.apart k last nodes l b r ds refl is h first

-- a possible title after a definition
pub possible_title : (k last : ℕ) (nodes : List (ℕ × Item)) (l : OpenDefinitions) (b : LeafBlock) (r : Rows)
    → IsParagraphBlock b → l.place < length nodes
    → LeavesTitle k last nodes l b r (leaf_row b false r) (definitions_first r) (not_apart (definitions_first r))
possible_title k last nodes l b r is h = let begins = is.begins in rw begins (possible_any k last nodes l b r (definitions_first r) is h refl)

-- A possible title becomes a paragraph after its list if no definitions follow it directly: link reference definitions
-- or another block come between.
abbrev pub BeginsOther : Rows → Type 0
BeginsOther End = Unit {0}
BeginsOther (OneOf row inner next) = is_untitled row.what ≡ false

only_apart : (t : Bool) (row : Row) (inner : Rows) (o : Option Definitions)
    → not_apart (if t then option_map (apart_after row inner) o else None) ≡ None
only_apart true row inner None = refl
only_apart true row inner (Some ds) = refl
only_apart false row inner o = refl

begins_apart : (r : Rows) → BeginsOther r → not_apart (definitions_first r) ≡ None
unfolding definitions_first
begins_apart End h = refl
begins_apart (OneOf row inner next) h = rw h (only_apart (is_run_row row.what) row inner (definitions_first next))

pub title_stays : (k last : ℕ) (nodes : List (ℕ × Item)) (place at e : ℕ) (loose : Bool) (r : Rows) → BeginsOther r
    → rendered k last nodes (OneTitle place at e loose) r
    ≡ rendered k last (title_left (list_closed nodes place (suc (suc k)) loose e) at) (NoList (ParagraphAt at)) r
unfolding rendered
title_stays k last nodes place at e loose r h = ap (λ z. after_title k nodes (place, at, e) loose z r) (begins_apart r h)
