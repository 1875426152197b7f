use Rattle.std.proofs.Common.{◌≡◌, ◌<◌, length, IsCharBoundary, refl, sym, subst, arith}
use Rattle.first_pass_grammar.proofs.Common.{Place, line_end}
use Rattle.first_pass_blocks.proofs.Common.{AfterMarker, OnLine, TriesFootnote, Position, InLine, LeafAt, ReadsTo, last_at, FinishesNothing, state_of}
use Rattle.first_pass_blocks.proofs.Common.{only_leaf, BlockPass, start_opened, after_at, BeginsNoContainer, Start}
use Rattle.first_pass_blocks.proofs.Leaves.TextLemmas.{IsAtPlain, plain_leaf, new_text}
use Rattle.first_pass_blocks.proofs.BlockRead.{passes_state, passes_both, entered_read, state_at, ReachesPlace, place_reached, reached_start, reached_still}
use Rattle.first_pass_blocks.proofs.BlockRead.{same_parts, leaf_reached}
use Rattle.first_pass_blocks.proofs.OpenedContainer.{IsBegun, begun, last_is}
use Rattle.first_pass_blocks.proofs.TriedFootnote.{IsTried, tried, IsNested, opens_note}
use Rattle.first_pass_containers.proofs.Openings.StartLemmas.{start_just_opened, no_start, not_after_definition, finishes_none}
use Rattle.first_pass_containers.proofs.Openings.Indented.{plain_begins_none, start_found, start_missing}
use Rattle.first_pass_blocks.proofs.state.BlockPass.parse_containers.Goals.{Then-not-branch, In_ok-open_start, Joined-not-branch, in-OnLine, in_default-matches}
use Rattle.first_pass_blocks.proofs.state.BlockPass.parse_containers.Goals.{then-not-branch+in-Some+in_ok-open_start+else-not-matches, else-not-branch}
use Rattle.first_pass_blocks.proofs.state.BlockPass.parse_containers.Goals as goal

pub loop-place-init : goal.loop-place-init
loop-place-init c = reached_still (reached_start c.requires) (same_parts c.args.self.now)

-- at the place of the search for another container
at_place : (c : Then-not-branch) → IsTried c.args.place c.args.self.now c.open_footnote.new.self c.open_footnote.new.place
at_place c =
    tried c.args.place c.args.self.now c.loop-place.self c.open_footnote.new.self c.loop-place.place c.open_footnote.new.place
    c.in_ok-open_footnote.field-0 c.if-not-branch.true c.loop-place.invariant c.in_ok-open_footnote.ensures

-- no container begins there
pub parse_leaf_by_kind-requires : goal.parse_leaf_by_kind-requires
parse_leaf_by_kind-requires c =
    let here = at_place (goal.at.parse_leaf_by_kind-requires c).Then-not-branch in
    let missing = start_missing _ _ _ c.start_at.new.place c.in_default.is (here.searched _ _ _ c.may_define-may_define.ensures c.start_at.ensures) in
    place_reached c.requires.utf8 (reached_still (subst (ReachesPlace c.args.place c.args.self.now c.open_footnote.new.self) (sym missing.1) here.reached)
    (same_parts c.open_footnote.new.self))

pub returns-in_default-clause-block : goal.returns-in_default-clause-block
returns-in_default-clause-block c =
    let over = c.args.self.now.source in
    let first : Place = c.args.place in
    let mid : BlockPass = c.open_footnote.new.self in
    let here = at_place (goal.at.returns-in_default-clause-block c).Then-not-branch in
    let r = here.reached in
    let missing = start_missing _ _ _ c.start_at.new.place c.in_default.is (here.searched _ _ _ c.may_define-may_define.ensures c.start_at.ensures) in
    leaf_reached (reached_still (subst (ReachesPlace first c.args.self.now mid) (sym missing.1) r) (same_parts mid))
    (subst (λ (q : Place). ReadsTo over first.line mid.state mid.state (InLine q) (LeafAt q)) (sym missing.1)
    (no_start over mid.state c.open_footnote.new.place c.requires.utf8 r.here.0 c.recall_forest.ensures r.no_empty first.line r.here.1 here.bare missing.0))
    c.in_ok-next.ensures.block

-- another container begins there
pub open_start-requires : goal.open_start-requires
open_start-requires c =
    let p : Place = c.open_footnote.new.place in
    let new : Place = c.start_at.new.place in
    let here = at_place (goal.at.open_start-requires c).Then-not-branch in
    let found = start_found _ _ c.in-Some.start p new c.in-Some.is (here.searched _ new _ c.may_define-may_define.ensures c.start_at.ensures) in
    rw here.reached.opened.kept.source (begun {q = start_opened new.line c.in-Some.start (line_end new) (state_of c.open_footnote.new.self)}
    c.requires.utf8 c.recall_forest.ensures here found refl).here.0

-- that container is open
at_marker : (c : In_ok-open_start) → IsTried c.args.place c.args.self.now c.open_footnote.new.self c.open_footnote.new.place
    → IsBegun c.args.self.now.source c.args.place c.open_footnote.new.self c.open_footnote.new.place c.start_at.new.place c.in-Some.start.after
    c.open_start.new.state
at_marker c here =
    begun c.requires.utf8 c.recall_forest.ensures here
    (start_found _ _ c.in-Some.start c.open_footnote.new.place c.start_at.new.place c.in-Some.is
    (here.searched _ _ _ c.may_define-may_define.ensures c.start_at.ensures)) c.in_ok-open_start.ensures

pub parse_after_marker-requires : goal.parse_after_marker-requires
parse_after_marker-requires c =
    let at = goal.at.parse_after_marker-requires c in
    let here = at_place at.Then-not-branch in
    let r = here.reached in
    let marker = at_marker at.In_ok-open_start here in
    record {
      utf8 = rw r.opened.kept.source c.requires.utf8;
      place = rw r.opened.kept.source marker.here.0;
      after = marker.stands;
      none = r.none;
    }

-- the last marker ends there
pub returns-then-not-matches-clause-block : goal.returns-then-not-matches-clause-block
returns-then-not-matches-clause-block c =
    let over = c.args.self.now.source in
    let first : Place = c.args.place in
    let mid : BlockPass = c.open_footnote.new.self in
    let p : Place = c.open_footnote.new.place in
    let new : Place = c.start_at.new.place in
    let after = c.in-Some.start.after in
    let at = goal.at.returns-then-not-matches-clause-block c in
    let here = at_place at.Then-not-branch in
    let marker = at_marker at.In_ok-open_start here in
    let other : after ≡ OnLine → ⊥ = elim c.match-matches.branch [
      | in-OnLine w ↦ (let a = w.matches-is in let b = c.if-not-matches.true in cc)
      | in_default-matches w ↦ w.in_default-matches.not-OnLine
    ] in
    let there : Position = last_at new (line_end new) after in
    let opens = subst (ReadsTo over first.line mid.state c.open_start.new.state (InLine p)) (last_is new (line_end new) after other) marker.reads in
    entered_read c.args.self.now _ c.parse_after_marker.new.self first new after c.in_ok-next-2.next marker.here
    (passes_both here.reached.opened (passes_state over first.line mid _ (InLine p) there refl refl opens))
    c.in_ok-next-2.ensures.block

-- after a footnote definition or another container
nested : (c : Joined-not-branch) → IsNested c.args.place c.args.self.now c.if-not-branch.self c.loop-place.place c.if-not-branch.place
nested c =
    let first : Place = c.args.place in
    let old : BlockPass = c.args.self.now in
    let mid : BlockPass = c.open_footnote.new.self in
    let at : Place = c.loop-place.place in
    let p : Place = c.open_footnote.new.place in
    let r = c.loop-place.invariant in
    let tries = c.in_ok-open_footnote.ensures in
    elim c.if-not-branch.branch [
      | then-not-branch+in-Some+in_ok-open_start+else-not-matches w ↦
          let new : Place = w.start_at.new.place in
          let told : Start = w.in-Some.start in
          let no = subst (TriesFootnote c.loop-place.self mid at p) w.if-not-branch.true tries in
          let here = tried first old c.loop-place.self mid at p _ w.if-not-branch.true r tries in
          let found = start_found _ _ told p new w.in-Some.is (here.searched _ _ _ w.may_define-may_define.ensures w.start_at.ensures) in
          let marker = begun {told = told} c.requires.utf8 w.recall_forest.ensures here found w.in_ok-open_start.ensures in
          let on : told.after ≡ OnLine = elim w.match-matches.branch [
            | in-OnLine v ↦ v.in-OnLine.is
            | in_default-matches v ↦ (let a = v.matches-is in let b = w.if-not-matches.false in cc)
          ] in
          let opens = subst (λ (a : AfterMarker). ReadsTo old.source first.line mid.state w.open_start.new.state (InLine p) (after_at new (line_end new) a)) on
          marker.reads in
          let just = subst FinishesNothing (sym w.in_ok-open_start.ensures)
          (start_just_opened new.line (line_end new) told mid.state on here.reached.no_empty) in
          rw (w.self-is, w.place-is) (record {
            reached = record {
              no_empty = just.none;
              none = here.reached.none;
              here = marker.here;
              opened = passes_both here.reached.opened
                  (passes_state old.source first.line mid _ (InLine p) (InLine new) refl refl opens);
            };
            less = subst (λ (z : Place). length new.rest.left < length z.rest.left) no.1 marker.less;
            just = just;
          })
      | else-not-branch w ↦ rw (w.self-is, w.place-is) (opens_note first old c.loop-place.self mid at p _ w.if-not-branch.false r tries)
    ]

pub loop-place-smaller : goal.loop-place-smaller
loop-place-smaller c = (nested (goal.at.loop-place-smaller c).Joined-not-branch).less

pub loop-place-preserved : goal.loop-place-preserved
loop-place-preserved c =
    reached_still (nested (goal.at.loop-place-preserved c).Joined-not-branch).reached (same_parts c.if-not-branch.self)

-- a plain byte follows in a container that was just opened: the text that it begins
pub offset-requires : goal.offset-requires
offset-requires c =
    let place = (nested (goal.at.offset-requires c).Joined-not-branch).reached.here.0 in
    let short = c.recall_length.ensures in
    omega (arith, place.within)

pub parse_text-requires-clause-boundary : goal.parse_text-requires-clause-boundary
parse_text-requires-clause-boundary c =
    let r = (nested (goal.at.parse_text-requires-clause-boundary c).Joined-not-branch).reached in
    subst (IsCharBoundary c.if-not-branch.self.source.text.now) (sym c.offset.ensures) (place_reached c.requires.utf8 r).place.boundary

pub returns-then-is_at_plain-clause-block : goal.returns-then-is_at_plain-clause-block
returns-then-is_at_plain-clause-block c =
    let first : Place = c.args.place in
    let old : BlockPass = c.args.self.now in
    let mid : BlockPass = c.if-not-branch.self in
    let new : BlockPass = c.parse_text.new.self in
    let p : Place = c.if-not-branch.place in
    let next = c.in_ok-next-3.next in
    let read = c.in_ok-next-3.ensures in
    let inner = nested (goal.at.returns-then-is_at_plain-clause-block c).Joined-not-branch in
    let plain = subst IsAtPlain c.place-in-loop-place.view_is
    (c.is_at_plain.ensures.owed c.if-is_at_plain.true, c.is_at_plain.ensures.plain c.if-is_at_plain.true) in
    let text = rw c.offset.ensures at
    (new_text mid new mid.state c.offset.result next (not_after_definition mid.state inner.just) (sym (finishes_none c.offset.result mid.state inner.just))
    read.source read.more read.block (read.fits tt) read.state) in
    leaf_reached inner.reached (only_leaf old.source mid.state p first.line (plain_begins_none p.rest plain.0 plain.1))
    (plain_leaf mid new p next (state_at (place_reached c.requires.utf8 inner.reached) c.recall_forest-in-loop-place.ensures) plain text)

-- no container begins with the next byte
pub parse_leaf_by_kind-requires-then-begins_no_container : goal.parse_leaf_by_kind-requires-then-begins_no_container
parse_leaf_by_kind-requires-then-begins_no_container c =
    let r = (nested (goal.at.parse_leaf_by_kind-requires-then-begins_no_container c).Joined-not-branch).reached in
    place_reached c.requires.utf8 (reached_still r (same_parts c.if-not-branch.self))

pub returns-then-begins_no_container-clause-block : goal.returns-then-begins_no_container-clause-block
returns-then-begins_no_container-clause-block c =
    let mid : BlockPass = c.if-not-branch.self in
    let p : Place = c.if-not-branch.place in
    let inner = nested (goal.at.returns-then-begins_no_container-clause-block c).Joined-not-branch in
    leaf_reached (reached_still inner.reached (same_parts mid))
    (only_leaf c.args.self.now.source mid.state p c.args.place.line
    (subst (λ (q : Place). BeginsNoContainer q.rest) c.place-in-loop-place.view_is (c.begins_no_container.ensures c.if-begins_no_container.true)))
    c.in_ok-next-4.ensures.block
