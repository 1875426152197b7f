use Rattle.std.proofs.Common.{◌≡◌, inl, ℕ, ◌+◌, Bool, true, false, drop, Option, Some, None, if◌then◌else◌, is_some, IsUtf8, refl, sym, ap, subst, ◌∙◌, arith}
use Rattle.std.proofs.Common.{inr}
use Rattle.first_pass_grammar.proofs.Common.{blank_len, line_len, Rest, Place, place_at, Document, document, Names, Tables, Options, in_old_footnote}
use Rattle.first_pass_containers.proofs.Common.{path_of, PassState, blank_whole, empty_item_closed_whole, popped_plain_whole, finished_none, IsReadTo, front_is}
use Rattle.first_pass_containers.proofs.Common.{blank_named, empty_item_closed_named, place_entered, KeepsState, OrderedUpTo, ended_as, in_old}
use Rattle.first_pass_lists.specs.Closing.{footnote_ended}
use Rattle.first_pass_order.specs.Footnotes.{footnotes_in}
use Rattle.first_pass_order.proofs.FootnotesKept.{blank_notes, empty_item_closed_notes}
use Rattle.first_pass_order.proofs.CountLemmas.{count, empty_item_closed_count, blank_count}
use Rattle.first_pass_containers.proofs.OrderSteps.{entered_whole, ordered_blank_line, ordered_other_line, state_kept, kept_both, popped_kept, ordered_at_place}
use Rattle.first_pass_ready.proofs.LineLemmas.{IsSettled, settled, at_line, blank_line_read, line_entered, line_kept}
use Rattle.first_pass_order.proofs.Nests.{note_untitled}
use Rattle.first_pass_containers.proofs.containers.enter_front.Goals.{After-is_some}
use Rattle.first_pass_containers.proofs.containers.enter_front.Goals as goal

-- ---- a footnote definition in the old form that ends at a line: names, whole tables, order and the number of nodes

ended_kept : (options : Options) (e : ℕ) (r : PassState) → KeepsState r (footnote_ended options e r) e
ended_kept options e r = elim (ended_as options e r) [
  | inl stays ↦ subst (λ q. KeepsState r q e) (sym stays.0) (state_kept r e)
  | inr left ↦ subst (λ q. KeepsState r q e) (sym left.0)
      (popped_kept e r (λ names h. popped_plain_whole names e r (note_untitled r.tree left.3) h))
]

-- without a counting blank line, nothing ends if a footnote definition in the old form is innermost
ended_unblank : (options : Options) (e : ℕ) (old closed : PassState) → (in_old_footnote (path_of options old.tree) ≡ true → old.blank ≡ false)
    → closed ≡ old → footnote_ended options e closed ≡ old
ended_unblank options e old closed none same = grind (arith, ended_as, in_old)

-- ---- the line that is entered

-- the rest of the line, and whether it is blank
abbrev left : After-is_some → Rest
left c = c.args.rest

blank : (c : After-is_some) → is_some (blank_len (left c).left) ≡ c.is_some.result
blank c = ap (λ bs. is_some (blank_len bs)) (sym c.left.ensures) ∙ ap is_some (sym c.scan_blank_line.ensures.value) ∙ sym c.is_some.ensures

settled_line : (c : After-is_some) (names : Names) (defined : Tables)
    → IsSettled (document c.args.source.now.text.now c.args.source.now.options names) defined c.args.state.now c.end_old_footnote.new.state
    c.args.start_ix (left c)
settled_line c names defined =
    let d : Document = document c.args.source.now.text.now c.args.source.now.options names in
    subst (λ (q : PassState). IsSettled d defined c.args.state.now q c.args.start_ix (left c)) (sym c.end_old_footnote.ensures)
    (settled d defined c.args.state.now c.close_containers.new.state c.args.start_ix (left c)
    (at_line d defined c.args.state.now c.close_containers.new.state c.args.start_ix c.args.continued (left c) c.requires.within
    (record { spine = c.close_containers.ensures.spine; paths = c.close_containers.ensures.kept.paths; ready = c.close_containers.ensures.kept.ready })
    c.requires.front.taken c.requires.front.stops))

-- what is kept after the containers that the line does not continue are closed
closed_kept : (c : After-is_some) → KeepsState c.args.state.now c.end_old_footnote.new.state c.args.start_ix
closed_kept c = kept_both c.args.state.now c.close_containers.new.state _ c.args.start_ix c.close_containers.ensures.kept.state
    (rw c.end_old_footnote.ensures (ended_kept c.args.source.now.options c.args.start_ix c.close_containers.new.state))

-- the place after the prefixes, for a rest that is blank or not
abbrev entered_by : ℕ → Rest → Bool → Option Place
entered_by start r t = if t then None else Some (place_at start r)

-- that rest is the front of the line
entered_is : (c : After-is_some) (t : Bool) → c.is_some.result ≡ t
    → entered_by c.args.start_ix (left c) t ≡ place_entered c.args.source.now c.args.state.now.tree c.args.start_ix
entered_is c t is = grind (arith, blank, front_is)

pub returns-then-is_some-clause-value : goal.returns-then-is_some-clause-value
returns-then-is_some-clause-value c = entered_is (goal.at.returns-then-is_some-clause-value c).After-is_some true c.if-is_some.true

pub returns-clause-value : goal.returns-clause-value
returns-clause-value c = entered_is (goal.at.returns-clause-value c).After-is_some false c.if-is_some.false

pub returns-then-is_some-clause-entered : goal.returns-then-is_some-clause-entered
returns-then-is_some-clause-entered c =
    let a : After-is_some = (goal.at.returns-then-is_some-clause-entered c).After-is_some in
    let source = c.args.source.now in
    let text = source.text.now in
    let start = c.args.start_ix in
    let options = source.options in
    let closed : PassState = c.close_containers.new.state in
    let now : PassState = c.end_old_footnote.new.state in
    let is : now ≡ footnote_ended options start closed = c.end_old_footnote.ensures in
    let kept = closed_kept a in
    let w = c.requires.within in
    let same = ap count c.read_blank_line.ensures in
    let unchanged = blank_count now in
    let first = kept.count in
    record {
      ready = λ names defined ready.
          let d : Document = document text source.options names in
          rw c.read_blank_line.ensures (blank_line_read d defined _ now start _ (settled_line a names defined) (blank a ∙ c.if-is_some.true) ready);
      order = λ ordered. inl (subst (λ (q : PassState). IsReadTo text q (start + line_len (drop start text))) (sym c.read_blank_line.ensures)
          (ordered_blank_line options text c.args.state.now now start (subst IsUtf8 c.as_bytes.ensures.value c.as_bytes.ensures.utf8) w
          c.requires.boundary
          (λ o. kept.order text (omega arith) c.requires.boundary o)
          (λ h uncounted. is ∙ ended_unblank options start c.args.state.now closed uncounted
          (c.close_containers.ensures.kept.all_kept (entered_whole options text c.args.state.now start c.args.continued
          _ (left a) refl c.requires.front.within c.requires.front.taken
          c.requires.front.stops h).0)) ordered));
      node_bound = λ first grows. omega arith;
      named = λ names h. rw c.read_blank_line.ensures (blank_named names now (kept.named names h));
      footnotes = ap (λ (q : PassState). footnotes_in q.tree.nodes) c.read_blank_line.ensures ∙ blank_notes now ∙ kept.footnotes;
      tables = λ names h. rw c.read_blank_line.ensures (blank_whole names now (kept.tables names h));
    }

pub returns-clause-entered : goal.returns-clause-entered
returns-clause-entered c =
    let a : After-is_some = (goal.at.returns-clause-entered c).After-is_some in
    let source = c.args.source.now in
    let text = source.text.now in
    let start = c.args.start_ix in
    let p : Place = place_at start (left a) in
    let options = source.options in
    let now : PassState = c.end_old_footnote.new.state in
    let kept = closed_kept a in
    let w = c.requires.within in
    let same = ap count c.finish_empty_list_item.ensures in
    let item = empty_item_closed_count now in
    let first = kept.count in
    let here = line_kept source.options text start c.args.continued c.args.state.now.tree (left a)
    (subst IsUtf8 c.as_bytes.ensures.value c.as_bytes.ensures.utf8)
    c.requires.boundary c.requires.front.taken in (
      (here.0, refl, here.1),
      ap (λ (q : PassState). q.begin_list_item) c.finish_empty_list_item.ensures ∙ finished_none now,
      record {
        ready = λ names defined ready.
            let d : Document = document text source.options names in
            rw (c.finish_empty_list_item.ensures, here.1)
            (line_entered d defined _ now start _ (settled_line a names defined) (blank a ∙ c.if-is_some.false) ready);
        order = λ ordered. ordered_at_place text _ start p refl c.requires.boundary here.0
            (subst (λ (q : PassState). OrderedUpTo text q.tree start) (sym c.finish_empty_list_item.ensures)
            (ordered_other_line options text c.args.state.now now start
            (λ o. kept.order text (omega arith) c.requires.boundary o)
            (λ h. let some = (entered_whole source.options text c.args.state.now start c.args.continued _ (left a)
            refl c.requires.front.within c.requires.front.taken c.requires.front.stops h).1 in
            let none = blank a ∙ c.if-is_some.false in cc) ordered));
        node_bound = λ first grows. omega arith;
        named = λ names h. rw c.finish_empty_list_item.ensures (empty_item_closed_named names now (kept.named names h));
        footnotes = ap (λ (q : PassState). footnotes_in q.tree.nodes) c.finish_empty_list_item.ensures ∙ empty_item_closed_notes now ∙ kept.footnotes;
        tables = λ names h. rw c.finish_empty_list_item.ensures (empty_item_closed_whole names now (kept.tables names h));
      },
    )
