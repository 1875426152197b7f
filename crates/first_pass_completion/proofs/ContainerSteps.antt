-- The steps of reading that open a block quote, a list, an item or a footnote definition.
use Rattle.std.proofs.Common.{◌≡◌, ℕ, suc, ◌+◌, Bool, false, not, ◌||◌, List, [], ◌∷◌, ◌++◌, length, Option, refl, sym, ap, ◌∙◌, subst, arith, append_assoc}
use Rattle.std.proofs.Common.{length-append, add-one, None}
use Rattle.first_pass_grammar.proofs.Common.{Item, ListFlags, BlockQuoteKind, CowIndex, modify-at, Document, Head, QuoteMarker, FootnoteMarker, Skeleton}
use Rattle.first_pass_grammar.proofs.Common.{Node, opened, LastItem, Before, nothing, before_end, Inside, OpensNode, level, onward, end_before, IsSequence}
use Rattle.first_pass_grammar.proofs.Common.{Remaining, ItemsOf, Rows, any_gap, is_loose, list_until, list_after, rows_of, definitions_first, with_labels}
use Rattle.first_pass_grammar.proofs.Common.{with_footnote_label, with_all_of, node_of, items_of, ended, Closed, OtherClosed, Pending, NoList, OneList}
use Rattle.first_pass_grammar.proofs.Common.{rendered, InContainer, InList, containers_of, IsPlain, Frame, closed_as, StandsIn, ItemBody}
use Rattle.first_pass_items.specs.declared.item.ItemBody.TheVariants.{BlockQuote as BlockQuoteBody, List as ListBody, ListItem as ListItemBody}
use Rattle.first_pass_items.specs.declared.item.ItemBody.TheVariants.{FootnoteDefinition as FootnoteDefinitionBody}
use Rattle.first_pass_grammar.specs.declared.kind.Container.{Container}
use Rattle.first_pass_grammar.specs.declared.kind.Container.TheVariants.{BlockQuote, ListItem, FootnoteDefinition}
use Rattle.first_pass_grammar.proofs.Sequences.Tightening.{eqb-same}
use Rattle.first_pass_grammar.proofs.Sequences.Finishes.{Finish, before_of}
use Rattle.first_pass_completion.proofs.Completions.{fresh}
use Rattle.first_pass_completion.proofs.JoinedNodes.{joined, AddsMember, IsChild, Member, after_member, child, children, rows_in, rows_past, with_member}
use Rattle.first_pass_completion.proofs.JoinedNodes.{rows_with}
use Rattle.first_pass_completion.proofs.Extending.{tail, lvl, plain_loosened, stepped, stands_after, StaysAt, first_here, alike_onward}
use Rattle.first_pass_completion.proofs.Extending.{OpensContainer, extend_same, container_stays, labelled, told_node}
use Rattle.first_pass_completion.proofs.States.{CompletesFrom, IsCompleted, IsStep, ItemHead, OpenNodes, Reading, item_head_of, reading, reading_at, with_inner}
use Rattle.first_pass_completion.proofs.States.{with_new, open_nodes}
use Rattle.first_pass_completion.proofs.TitleNodes.{closed-mid}
use Rattle.first_pass_completion.proofs.Titles.{beside_all}

ended-mid : (nodes more : List (ℕ × Item)) (k e : ℕ) (x : Item)
    → ended (nodes ++ (k, x) ∷ more) (length nodes) e ≡ nodes ++ (k, record { start = x.start; «end» = e; body = x.body }) ∷ more
unfolding ended
ended-mid nodes more k e x = modify-at nodes more (k, x) (length nodes) (λ y. record { start = y.start; «end» = e; body = y.body }) refl

-- the nodes before the end of a container that has these blocks
abbrev with_open : Member → ℕ → Skeleton → List (ℕ × Item)
with_open m e kids =
    (m.nodes ++ (suc (length m.places), node_of m.head.start 0 m.body) ∷ []) ++ items_of (suc (suc (length m.places))) false (rows_in m e kids)

-- A container opens, and ends after its blocks: what completes the open nodes with it completes them without it.
pub member_step : (d : Document) (w : OpenNodes) (list : Pending) (before : Before) (m : Member) (later : ℕ → Bool → Pending)
    (b : OpensContainer d (level (containers_of w.frames) before) m.head) (kids : Skeleton) (mid : Remaining)
    → StaysAt d (containers_of w.frames) b.place → AddsMember w list before m later
    → IsSequence d kids (level (opened m.head.opener ∷ containers_of w.frames) nothing) b.inside b.following mid
    → (let e : ℕ = end_before (length d.text) (containers_of w.frames) b.inside mid in
    let now : OpenNodes = record w { defined = with_all_of (labelled w.defined m.head) kids; nodes = ended (with_open m e kids) (length m.nodes) e } in
    IsStep d (reading w list before (Inside b.place) b.lines)
    (reading now (later e (any_gap (rows_in m e kids))) (after_member m kids) (onward mid).0 (onward mid).1))
unfolding IsSequence before_end
member_step d w list before m later b kids mid stays adds inner forest tables fin =
    let path : List Container = containers_of w.frames in
    let e : ℕ = end_before (length d.text) path b.inside mid in
    let depth : ℕ = suc (length m.places) in
    let x : Item = node_of m.head.start 0 m.body in
    let items : List (ℕ × Item) = items_of (suc depth) false (rows_in m e kids) in
    let same : ended (with_open m e kids) (length m.nodes) e ≡ with_member m e kids =
    ap (λ z. ended z (length m.nodes) e) (append_assoc m.nodes ((depth, x) ∷ []) items) ∙ ended-mid m.nodes items depth e x in
    let next : Reading =
    reading (record w { defined = with_all_of (labelled w.defined m.head) kids; nodes = with_member m e kids }) (later e (any_gap (rows_in m e kids)))
    (after_member m kids) (onward mid).0 (onward mid).1 in
    let first = first_here d (level path before) b.place b.lines (OpensNode m.head b.inside b.following) stays b.opens in
    extend_same d (reading w list before (Inside b.place) b.lines) next (λ s. Node m.head e kids s) (record {
      plain = adds.plain;
      ends = alike_onward (length d.text) b.place mid;
      adds = λ s left seq. record {
        seq = (b.inside, b.following, mid, first, inner, refl, seq);
        items = λ last is. adds.items e last kids s;
        counts = refl;
        gaps = λ last. adds.gaps e last kids s;
      };
      defines = λ s. told_node w.defined m.head e kids s;
    }) forest tables (subst (λ z. IsCompleted d (record next { nodes = z }) forest tables) same fin)

-- a container outside of lists, before which no gap is noted
abbrev beside : OpenNodes → Head → ItemBody → Member
beside w head body = record { head = head; body = body; nodes = w.nodes; places = w.places }

-- its rows follow the last child: they begin with no definitions, and with its node
record IsBeside (w : OpenNodes) (before : Before) (m : Member) : Type 0 where
  none : (e last : ℕ) (kids s : Skeleton) → definitions_first (rows_with w before m e last kids s) ≡ None
  items : (e last : ℕ) (kids s : Skeleton) → (let k : ℕ = suc (length w.places) in
      items_of k false (rows_with w before m e last kids s)
      ≡ ((k, node_of m.head.start e m.body) ∷ items_of (suc k) false (rows_in m e kids)) ++ items_of k false (rows_past w m last kids s))
  gaps : (e last : ℕ) (kids s : Skeleton) → any_gap (rows_with w before m e last kids s) ≡ any_gap (rows_past w m last kids s)

completes-beside : (d : Document) (w : OpenNodes) (closed : Closed) (head : Head) (body : ItemBody)
    (b : OpensContainer d (lvl w.frames (tail closed false)) head)
    → IsPlain w.frames → StandsIn (opened head.opener) w.frames → ((e : ℕ) → closed_as (opened head.opener) e ≡ OtherClosed)
    → StaysAt d (containers_of w.frames) b.place → IsBeside w (before_of w.frames (tail closed false)) (beside w head body)
    → CompletesFrom d w (tail closed false) (Inside b.place) b.lines
    → (let now : OpenNodes = record w { defined = labelled w.defined head } in
    CompletesFrom d (with_new now (InContainer (opened head.opener)) (node_of head.start 0 body)) fresh b.inside b.following)
unfolding Finish rendered
completes-beside d w closed head body b plain stands other stays is k =
    let m : Member = beside w head body in
    let l = length-append w.nodes ((suc (length w.places), node_of head.start 0 body) ∷ []) in
    let rows : ℕ → ℕ → Skeleton → Skeleton → Rows = rows_with w (before_of w.frames (tail closed false)) m in
    let all = λ (e last : ℕ) (kids s : Skeleton). beside_all (suc (length w.places)) last w.nodes closed (rows e last kids s) (is.none e last kids s) in
    let adds : AddsMember w (NoList closed) (before_of w.frames (tail closed false)) m (λ e gap. NoList OtherClosed) = record {
      plain = plain;
      items = λ e last kids s. (all e last kids s).0 ∙ ap (λ z. w.nodes ++ z) (is.items e last kids s) ∙ sym (append_assoc w.nodes _ _);
      gaps = λ e last kids s. ap any_gap (all e last kids s).1 ∙ is.gaps e last kids s;
    } in
    stepped d _ _ _ _ _ _ _ _ k (λ forest tables (kids, mid, inner, fin).
    let e : ℕ = end_before (length d.text) (containers_of w.frames) b.inside mid in
    let now : List Frame → Closed → Reading = λ frames closed.
    reading (open_nodes (with_all_of (labelled w.defined head) kids) frames (ended (with_open m e kids) (length w.nodes) e) w.places) (NoList closed)
    (after_member m kids) (onward mid).0 (onward mid).1 in
    member_step d w (NoList closed) _ m _ b kids mid stays adds inner forest tables
    (subst (λ z. IsCompleted d (now w.frames z) forest tables) (other e)
    (subst (λ z. IsCompleted d (now z (closed_as (opened head.opener) e)) forest tables) (plain_loosened (any_gap (rows_in m e kids)) w.frames plain) fin)))
    ((omega arith, k.below), (stands, k.shape))

-- the head of a block quote that starts at an offset, in a line
abbrev pub quote_head_at : Option BlockQuoteKind → ℕ → ℕ → Head
quote_head_at kind start line = record { opener = QuoteMarker kind; start = start; line = line }

-- a block quote is opened
pub completes-quote : (d : Document) (w : OpenNodes) (closed : Closed) (kind : Option BlockQuoteKind) (start line : ℕ)
    (b : OpensContainer d (lvl w.frames (tail closed false)) (quote_head_at kind start line))
    → IsPlain w.frames → CompletesFrom d w (tail closed false) (Inside b.place) b.lines
    → CompletesFrom d (with_new w (InContainer (BlockQuote kind)) (node_of start 0 (BlockQuoteBody kind))) fresh b.inside b.following
unfolding rows_of items_of any_gap definitions_first with_labels
completes-quote d w closed kind start line b plain k =
    let head : Head = quote_head_at kind start line in
    completes-beside d w closed head (BlockQuoteBody kind) b plain plain (λ e. refl) (container_stays d _ head b refl)
    (record { none = λ e last kids s. refl; items = λ e last kids s. refl; gaps = λ e last kids s. refl }) k

-- the head of a footnote definition that starts at an offset, in a line
abbrev pub footnote_head : ℕ → CowIndex → List ℕ → ℕ → ℕ → Head
footnote_head columns index label start line = record { opener = FootnoteMarker columns index label; start = start; line = line }

-- a footnote definition is opened where no other one ends
pub completes-footnote : (d : Document) (w : OpenNodes) (closed : Closed) (columns : ℕ) (index : CowIndex) (label : List ℕ) (start line : ℕ)
    (b : OpensContainer d (lvl w.frames (tail closed false)) (footnote_head columns index label start line))
    → IsPlain w.frames → StaysAt d (containers_of w.frames) b.place
    → CompletesFrom d w (tail closed false) (Inside b.place) b.lines
    → (let now : OpenNodes = record w { defined = with_footnote_label w.defined label } in
    CompletesFrom d (with_new now (InContainer (FootnoteDefinition columns)) (node_of start 0 (FootnoteDefinitionBody index))) fresh b.inside b.following)
unfolding rows_of items_of any_gap definitions_first with_labels
completes-footnote d w closed columns index label start line b plain stays k =
    completes-beside d w closed (footnote_head columns index label start line) (FootnoteDefinitionBody index) b plain plain (λ e. refl) stays
    (record { none = λ e last kids s. refl; items = λ e last kids s. refl; gaps = λ e last kids s. refl }) k

-- the open nodes after an item is opened in the list at a place
abbrev pub item_opened : OpenNodes → ℕ → Bool → ItemHead → OpenNodes
item_opened w place loose m =
    with_new (with_inner w (InList m.byte loose) place) (InContainer (ListItem m.columns)) (node_of m.start 0 (ListItemBody m.columns))

-- an item of the list at a place, with these nodes before it; before rows it is a child of that list
abbrev item : OpenNodes → ℕ → List (ℕ × Item) → ItemHead → Member
item w place nodes m = child w place nodes (item_head_of m) (ListItemBody m.columns)

abbrev IsItem : OpenNodes → Pending → Before → List (ℕ × Item) → ℕ → Bool → ItemHead → Type 0
IsItem w list before nodes place loose m = IsChild w list before (item w place nodes m) (λ e. ItemsOf m.byte) place loose

item_step : (d : Document) (w : OpenNodes) (list : Pending) (before : Before) (nodes : List (ℕ × Item)) (place : ℕ) (loose : Bool) (m : ItemHead)
    (b : OpensContainer d (level (containers_of w.frames) before) (item_head_of m))
    → IsItem w list before nodes place loose m
    → IsStep d (reading w list before (Inside b.place) b.lines)
    (reading_at (item_opened (record w { nodes = nodes }) place (loose || before.counted) m) fresh b.inside b.following)
unfolding Finish items_of rendered with_labels
item_step d w list before nodes place loose m b is forest tables (kids, mid, inner, fin) =
    member_step d w list before (item w place nodes m) _ b kids mid (container_stays d _ (item_head_of m) b refl)
    (joined w list before _ (ListItemBody m.columns) nodes (λ e. ItemsOf m.byte) place loose (λ k e tight gap inner more. refl) refl is) inner forest tables fin

-- an item is opened in a list that continues
pub completes-item : (d : Document) (w : OpenNodes) (closed : Closed) (run loose : Bool) (o : ℕ) (m : ItemHead)
    (b : OpensContainer d (lvl (InList m.byte loose ∷ w.frames) (tail closed run)) (item_head_of m))
    → CompletesFrom d (with_inner w (InList m.byte loose) o) (tail closed run) (Inside b.place) b.lines
    → CompletesFrom d (item_opened w o (loose || run) m) fresh b.inside b.following
unfolding Finish items_of rows_of rendered
completes-item d w closed run loose o m b k =
    let l : length (item_opened w o (loose || run) m).nodes ≡ length w.nodes + 1 = length-append w.nodes _ in
    let same = eqb-same m.byte in
    stepped d _ _ _ _ _ _ _ _ k (item_step d w (OneList o (ItemsOf m.byte) loose) (stands_after LastItem run) w.nodes o loose m b
    (record { plain = k.shape.0; within = k.below.0; items = λ e last kids s. rw same refl; gaps = λ e last kids s. rw same refl }))
    ((omega arith, k.below), (tt, k.shape))

-- the open nodes after a list is opened with its first item
abbrev pub list_opened : OpenNodes → ListFlags → ItemHead → OpenNodes
list_opened w flags m = record w {
  frames = InContainer (ListItem m.columns) ∷ InList m.byte false ∷ w.frames;
  nodes = w.nodes ++ (suc (length w.places), node_of m.start 0 (ListBody flags m.byte m.number))
      ∷ (suc (suc (length w.places)), node_of m.start 0 (ListItemBody m.columns)) ∷ [];
  places = suc (length w.nodes) ∷ length w.nodes ∷ w.places;
}

-- The first item of a list is a child of that list, whose node is then the last one.
first_item : (w : OpenNodes) (closed : Closed) (flags : ListFlags) (m : ItemHead) → IsPlain w.frames
    → IsItem w (NoList closed) (before_of w.frames (tail closed false))
    (w.nodes ++ (suc (length w.places), node_of m.start 0 (ListBody flags m.byte m.number)) ∷ []) (length w.nodes) false m
unfolding rows_of items_of any_gap is_loose rendered definitions_first
first_item w closed flags m plain =
    let k : ℕ = suc (length w.places) in
    let l = length-append w.nodes ((k, node_of m.start 0 (ListBody flags m.byte m.number)) ∷ []) in record {
      plain = plain;
      within = omega arith;
      items = λ e last kids s.
          let next : Rows = rows_past w (item w 0 [] m) last kids s in
          let all : Rows = children (item_head_of m) e false (rows_of false nothing e kids) (ItemsOf m.byte) next in
          let until : ℕ = list_until (ItemsOf m.byte) last next in
          let rest : List (ℕ × Item) = items_of (suc k) (not (is_loose all)) all ++ items_of k false (list_after (ItemsOf m.byte) next) in
          (beside_all k last w.nodes closed _ refl).0
          ∙ sym (ap (λ z. z ++ rest) (closed-mid w.nodes [] (k, node_of m.start 0 (ListBody flags m.byte m.number)) (suc (suc k)) (is_loose all) until
          (refl, tt)) ∙ append_assoc w.nodes (_ ∷ []) rest);
      gaps = λ e last kids s. ap any_gap (beside_all 0 last w.nodes closed _ refl).1;
    }

-- a list is opened, with its first item
pub completes-list : (d : Document) (w : OpenNodes) (closed : Closed) (flags : ListFlags) (m : ItemHead)
    (b : OpensContainer d (lvl w.frames (tail closed false)) (item_head_of m))
    → IsPlain w.frames → CompletesFrom d w (tail closed false) (Inside b.place) b.lines
    → CompletesFrom d (list_opened w flags m) fresh b.inside b.following
completes-list d w closed flags m b plain k =
    let y : ℕ × Item = (suc (length w.places), node_of m.start 0 (ListBody flags m.byte m.number)) in
    let x : ℕ × Item = (suc (suc (length w.places)), node_of m.start 0 (ListItemBody m.columns)) in
    let l : length (w.nodes ++ y ∷ []) ≡ suc (length w.nodes) = length-append w.nodes (y ∷ []) ∙ add-one (length w.nodes) in
    let n = length-append (w.nodes ++ y ∷ []) (x ∷ []) in
    let frames : List Frame = InContainer (ListItem m.columns) ∷ InList m.byte false ∷ w.frames in
    subst (λ z. CompletesFrom d (open_nodes w.defined frames (w.nodes ++ y ∷ x ∷ []) (z ∷ length w.nodes ∷ w.places)) fresh b.inside b.following) l
    (subst (λ z. CompletesFrom d (open_nodes w.defined frames z (length (w.nodes ++ y ∷ []) ∷ length w.nodes ∷ w.places)) fresh b.inside b.following)
    (append_assoc w.nodes (y ∷ []) (x ∷ []))
    (stepped d _ _ _ _ _ _ _ _ k (item_step d w (NoList closed) _ (w.nodes ++ y ∷ []) (length w.nodes) false m b (first_item w closed flags m plain))
    ((omega arith, (omega arith, k.below)), (tt, (plain, k.shape)))))
