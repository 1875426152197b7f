use Rattle.std.proofs.Common.{◌≡◌, IsUtf8, inl, inr, ℕ, ◌+◌, List, drop, Option, false, Some, None, refl, subst, ◌∙◌, if◌then◌else◌, ap, arith}
use Rattle.first_pass_grammar.proofs.Common.{line_len, Rest, Place, line_rest, place_at, line_end, IsPlaceOf, Context, is_ordinary_after_tag, document}
use Rattle.first_pass_blocks.proofs.Common.{context_in, text_place, ordered_none, place_before_end, tables_of, BlockPass, ordered_at_place, ready_any_line}
use Rattle.first_pass_blocks.proofs.Common.{ready_its_line}
use Rattle.first_pass_blocks.proofs.BlockRead.{keeps_none}
use Rattle.first_pass_blocks.proofs.LinkDefinitions.{stops_by, goes_by, rest_at}
use Rattle.first_pass_blocks.proofs.state.BlockPass.parse_tagged.Goals.{In_ok-scan_flowing_line, In-Some}
use Rattle.first_pass_blocks.proofs.state.BlockPass.parse_tagged.Goals as goal

-- whether the line belongs to the quote, and what is left of it then
abbrev answer_for : Context → List ℕ → Option Rest
answer_for around bs = if is_ordinary_after_tag around (line_rest bs) then None else Some (rest_at around bs)

answered : (c : In_ok-scan_flowing_line)
    → c.in_ok-scan_flowing_line.field-0 ≡ answer_for (context_in c.args.self.now) (drop c.args.start c.args.self.now.source.text.now)
answered c =
    c.in_ok-scan_flowing_line.ensures.value
    ∙ ap (answer_for (context_in c.args.self.now)) (c.rest_of-bytes.ensures.value ∙ ap (drop c.args.start) c.as_bytes.ensures.value)

pub returns-in-None-clause-block : goal.returns-in-None-clause-block
returns-in-None-clause-block c =
    let self : BlockPass = c.args.self.now in
    let at = c.args.start in
    let text = self.source.text.now in
    let h = answered (goal.at.returns-in-None-clause-block c).In_ok-scan_flowing_line in
    let any = stops_by (is_ordinary_after_tag (context_in self) (line_rest (drop at text))) _ _ h c.in-None.is in
    record {
      kept = keeps_none self;
      later = omega arith;
      boundary = c.requires.boundary;
      ready = λ names more tagged.
          ready_any_line (document text self.source.options names) (tables_of self.allocs) self.state at any c.requires.no_empty tagged;
      order = λ ordered. inl (ordered_none text self.state at c.requires.no_empty c.requires.boundary.0 ordered.0, ordered.1);
      node_bound = omega arith;
    }

-- the line belongs to the quote
its_line : (c : In-Some) → c.in_ok-scan_flowing_line.field-0 ≡ answer_for (context_in c.args.self.now) (drop c.args.start c.args.self.now.source.text.now)
    → (is_ordinary_after_tag (context_in c.args.self.now) (line_rest (drop c.args.start c.args.self.now.source.text.now)) ≡ false)
    × (c.in-Some.rest ≡ rest_at (context_in c.args.self.now) (drop c.args.start c.args.self.now.source.text.now))
    × IsUtf8 c.args.self.now.source.text.now × IsPlaceOf c.args.self.now.source.text.now (place_at c.args.start c.in-Some.rest)
    × (line_end (place_at c.args.start c.in-Some.rest) ≡ c.args.start + line_len (drop c.args.start c.args.self.now.source.text.now))
its_line c h =
    let text = c.args.self.now.source.text.now in
    let at = c.args.start in
    let its = goes_by (is_ordinary_after_tag (context_in c.args.self.now) (line_rest (drop at text))) _ c.in-Some.rest _ h c.in-Some.is in
    let u = subst IsUtf8 c.as_bytes.ensures.value c.as_bytes.ensures.utf8 in
    let here = text_place text at (context_in c.args.self.now).path u c.requires.boundary in (
      its.0,
      its.1,
      u,
      rw its.1 here.0,
      rw its.1 here.1,
    )

pub returns-in_ok-next-in-Some-clause-block : goal.returns-in_ok-next-in-Some-clause-block
returns-in_ok-next-in-Some-clause-block c =
    let self : BlockPass = c.args.self.now in
    let text = self.source.text.now in
    let at = c.args.start in
    let q : Place = place_at at c.in-Some.rest in
    let e = c.in_ok-next-in-Some.ensures.block in
    let its = its_line (goal.at.returns-in_ok-next-in-Some-clause-block c).In-Some
    (answered (goal.at.returns-in_ok-next-in-Some-clause-block c).In_ok-scan_flowing_line) in
    let ends = its.4 in
    let later = e.later in
    let before = place_before_end q in
    let node_bound = e.node_bound in
    record {
      kept = e.kept;
      later = omega arith;
      boundary = e.boundary;
      ready = λ names more tagged. e.ready names more (inr (rw (ends, its.1)
          (ready_its_line (document text self.source.options names) (tables_of self.allocs) self.state at its.0 tagged)));
      order = λ ordered. e.order (ordered_at_place text self.state.tree at q refl c.requires.boundary its.3 ordered);
      node_bound = omega arith;
    }

pub parse_leaf-requires : goal.parse_leaf-requires
parse_leaf-requires c =
    let its = its_line (goal.at.parse_leaf-requires c).In-Some (answered (goal.at.parse_leaf-requires c).In_ok-scan_flowing_line) in
    record { utf8 = its.2; place = its.3; no_empty = c.requires.no_empty; none = c.requires.none }
