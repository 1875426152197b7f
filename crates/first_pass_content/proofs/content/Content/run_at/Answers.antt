use Rattle.std.proofs.Common.{ℕ, ◌<◌, List, length, leb, rules, of_calls, arith, sym, ap, subst, ◌∙◌}
use Rattle.std.proofs.lemmas.Fn.{always_returns_same}
use Rattle.std.specs.Cow.{cow_slice_items}
use Rattle.first_pass_content.specs.Content.{ContentByte, byte_at}
use Rattle.first_pass_content.specs.declared.run.Run.{Run}
use Rattle.first_pass_content.proofs.RunLists.{at_last, found_run, index_inside, last_has, split_point}
use Rattle.first_pass_content.proofs.content.Content.run_at.Goals as goal

pub returns-then-self-place-clause-run : goal.returns-then-self-place-clause-run
returns-then-self-place-clause-run c =
    let s = c.self.inside in
    last_has (cow_slice_items s.bytes) s.runs.items s.last c.self.invariant c.args.place
    (subst (λ (l : List ContentByte). c.args.place < length l) (sym c.self.view_is) c.requires) c.if-self-place.true

pub returns-then-self-place-clause-start : goal.returns-then-self-place-clause-start
returns-then-self-place-clause-start c =
    let s = c.self.inside in
    let bytes = cow_slice_items s.bytes in
    let has = last_has bytes s.runs.items s.last c.self.invariant c.args.place
    (subst (λ (l : List ContentByte). c.args.place < length l) (sym c.self.view_is) c.requires) c.if-self-place.true in
    sym (at_last bytes s.runs.items s.last c.self.invariant c.args.place c.if-self-place.true has.before).start
    ∙ ap (λ (l : List ContentByte). (byte_at l c.args.place).start) c.self.view_is

pub returns-then-self-place-clause-end : goal.returns-then-self-place-clause-end
returns-then-self-place-clause-end c =
    let s = c.self.inside in
    let bytes = cow_slice_items s.bytes in
    let has = last_has bytes s.runs.items s.last c.self.invariant c.args.place
    (subst (λ (l : List ContentByte). c.args.place < length l) (sym c.self.view_is) c.requires) c.if-self-place.true in
    sym (at_last bytes s.runs.items s.last c.self.invariant c.args.place c.if-self-place.true has.before).«end»
    ∙ ap (λ (l : List ContentByte). (byte_at l c.args.place).«end») c.self.view_is

pub index-requires : goal.index-requires
index-requires c =
    let s = c.self.inside in
    let bytes = cow_slice_items s.bytes in
    let p : ℕ = c.args.place in
    let i : ℕ = c.partition_point-index.result in
    let is = split_point 0 s.last.place p i s.runs.items c.deref.result.now c.self.invariant.before c.deref.ensures.value
    (λ parts. c.partition_point-index.ensures.partitioned (λ (r : Run). leb r.past p)
    (always_returns_same _ _ _ (λ a r f k. search (rules, of_calls))) parts) in
    let before = c.if-self-place.false in
    let inside = index_inside bytes s.runs.items s.last c.self.invariant p i before is in
    omega (arith, inside, s.runs.ok.0)

pub returns-clause-run : goal.returns-clause-run
returns-clause-run c =
    let s = c.self.inside in
    let bytes = cow_slice_items s.bytes in
    let p : ℕ = c.args.place in
    let i : ℕ = c.partition_point-index.result in
    let found = found_run bytes s.runs.items s.last c.self.invariant p i c.deref.result.now c.index.result.now c.if-self-place.false c.deref.ensures.value
    (λ parts. c.partition_point-index.ensures.partitioned (λ (r : Run). leb r.past p)
    (always_returns_same _ _ _ (λ a r f k. search (rules, of_calls))) parts)
    c.index.ensures in
    found.1

pub returns-clause-start : goal.returns-clause-start
returns-clause-start c =
    let s = c.self.inside in
    let bytes = cow_slice_items s.bytes in
    let p : ℕ = c.args.place in
    let i : ℕ = c.partition_point-index.result in
    let found = found_run bytes s.runs.items s.last c.self.invariant p i c.deref.result.now c.index.result.now c.if-self-place.false c.deref.ensures.value
    (λ parts. c.partition_point-index.ensures.partitioned (λ (r : Run). leb r.past p)
    (always_returns_same _ _ _ (λ a r f k. search (rules, of_calls))) parts)
    c.index.ensures in
    sym found.0.start ∙ ap (λ (l : List ContentByte). (byte_at l p).start) c.self.view_is

pub returns-clause-end : goal.returns-clause-end
returns-clause-end c =
    let s = c.self.inside in
    let bytes = cow_slice_items s.bytes in
    let p : ℕ = c.args.place in
    let i : ℕ = c.partition_point-index.result in
    let found = found_run bytes s.runs.items s.last c.self.invariant p i c.deref.result.now c.index.result.now c.if-self-place.false c.deref.ensures.value
    (λ parts. c.partition_point-index.ensures.partitioned (λ (r : Run). leb r.past p)
    (always_returns_same _ _ _ (λ a r f k. search (rules, of_calls))) parts)
    c.index.ensures in
    sym found.0.«end» ∙ ap (λ (l : List ContentByte). (byte_at l p).«end») c.self.view_is
