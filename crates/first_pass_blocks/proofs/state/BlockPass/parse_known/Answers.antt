use Rattle.std.proofs.Common.{◌+◌, drop, refl, subst, ap, ◌∙◌}
use Rattle.first_pass_grammar.proofs.Common.{line_len, Place}
use Rattle.first_pass_blocks.proofs.Common.{BlockPass, BeginsNoContainer}
use Rattle.first_pass_blocks.proofs.BlockRead.{HasState, IsEntered, line_entered, line_passed, line_leaf_read}
use Rattle.first_pass_blocks.proofs.state.BlockPass.parse_known.Goals.{In-Some}
use Rattle.first_pass_blocks.proofs.state.BlockPass.parse_known.Goals as goal

pub returns-in_default-clause-block : goal.returns-in_default-clause-block
returns-in_default-clause-block c =
    let self = c.args.self.now in
    let start = c.args.start_ix in
    line_passed self _ start c.next_line.result c.enter_known.ensures.utf8 c.requires.within c.requires.boundary refl refl
    (c.next_line.ensures.value ∙ ap (λ bs. start + line_len (drop start bs)) c.as_bytes.ensures.value)
    (rw c.in_default.is at c.enter_known.ensures.entered)

entered : (c : In-Some) (mid : BlockPass) → HasState c.args.self.now c.enter_known.new.state mid → IsEntered c.args.self.now mid c.args.start_ix c.in-Some.place
entered c =
    line_entered c.args.self.now _ c.args.start_ix c.in-Some.place _ c.enter_known.ensures.utf8 c.requires.within c.in-Some.is c.enter_known.ensures.entered

pub parse_leaf-requires : goal.parse_leaf-requires
parse_leaf-requires c = (entered (goal.at.parse_leaf-requires c).In-Some _ refl).at

pub returns-then-begins_no_container-clause-block : goal.returns-then-begins_no_container-clause-block
returns-then-begins_no_container-clause-block c =
    line_leaf_read (entered (goal.at.returns-then-begins_no_container-clause-block c).In-Some _ refl)
    (subst (λ (q : Place). BeginsNoContainer q.rest) c.place.view_is (c.begins_no_container.ensures c.if-begins_no_container.true))
    c.in_ok-next.ensures.block

pub parse_containers-requires : goal.parse_containers-requires
parse_containers-requires c = (entered (goal.at.parse_containers-requires c).In-Some _ refl).at

pub returns-clause-block : goal.returns-clause-block
returns-clause-block c = (entered (goal.at.returns-clause-block c).In-Some _ refl).reads _ _ c.in_ok-next-2.ensures.block
