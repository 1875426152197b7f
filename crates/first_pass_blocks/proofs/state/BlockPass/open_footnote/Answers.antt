use Rattle.std.proofs.Common.{◌+◌, ◌<◌, Bool, drop, IsCharBoundary, refl, sym, ap, ◌∙◌}
use Rattle.first_pass_grammar.proofs.Common.{footnote_at}
use Rattle.first_pass_blocks.proofs.Common.{all_keep, context_in, head_at_mark, BlockPass, no_mark}
use Rattle.first_pass_blocks.proofs.FootnoteOpened.{IsRead, footnote_opened}
use Rattle.first_pass_blocks.proofs.LinkDefinitions.{found_by, none_by}
use Rattle.first_pass_blocks.proofs.state.BlockPass.open_footnote.Goals.{In-Some-2}
use Rattle.first_pass_blocks.proofs.state.BlockPass.open_footnote.Goals as goal

pub returns-in_default : goal.returns-in_default
returns-in_default c =
    let self = c.args.self.now in
    let bare = no_mark (context_in self) c.args.place.now (sym c.footnote_mark.ensures.value ∙ c.in_default.is) in
    ((refl, refl, refl, refl), refl, λ no_table. bare)

-- the length of the head that was read
read : (c : In-Some-2)
    → (3 < c.in-Some-2.size) × IsCharBoundary c.args.self.now.source.text.now (c.in-Some.start + c.in-Some-2.size)
read c =
    rw c.in-Some-2.is at c.in_ok-parse_footnote.ensures.within

pub returns-in-None : goal.returns-in-None
returns-in-None c =
    let self : BlockPass = c.args.self.now in
    let new : BlockPass = c.parse_footnote.new.self in
    let p = c.args.place.now in
    let text = self.source.text.now in
    let f = none_by _ _ _ (IsRead self new c.in-Some.start) c.in_ok-parse_footnote.ensures.head c.in-None.is in
    let i = all_keep text p.line p.rest c.requires.utf8 c.requires.place in
    let m = head_at_mark text (context_in self) p c.in-Some.start i (sym c.footnote_mark.ensures.value ∙ c.in-Some.is) in (
      f.1.1,
      refl,
      λ no_table. m.1 ∙ ap (λ (t : Bool). footnote_at t (context_in self) (drop c.in-Some.start text)) (sym no_table) ∙ f.0,
    )

pub returns-in-Some-2 : goal.returns-in-Some-2
returns-in-Some-2 c =
    let self : BlockPass = c.args.self.now in
    let new : BlockPass = c.parse_footnote.new.self in
    let f = found_by _ _ c.in-Some-2.size _ (IsRead self new c.in-Some.start) c.in_ok-parse_footnote.ensures.head (λ none. none.0) c.in-Some-2.is in
    let r = read (goal.at.returns-in-Some-2 c).In-Some-2 in
    let source = c.parse_footnote.ensures.source in
    footnote_opened self new c.args.place.now c.place_after_head.result c.in-Some.start c.in-Some-2.size f.0
    (record { utf8 = c.requires.utf8; place = c.requires.place; forest = c.recall_forest.ensures; none = c.requires.no_empty })
    (source, c.parse_footnote.ensures.front) (record { mark = sym c.footnote_mark.ensures.value ∙ c.in-Some.is; here = f.1; some = r.0 }) f.2
    (rw source at c.place_after_head.ensures)
