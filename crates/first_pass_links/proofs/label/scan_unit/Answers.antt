use Rattle.std.proofs.Common.{◌≡◌, ℕ, ◌+◌, ◌==◌, ◌&&◌, List, slice_index, refl, ◌∙◌, sym, arith, ne_eqb}
use Rattle.std.proofs.lemmas.Bool.{cond_both}
use Rattle.first_pass_items.specs.Bytes.{backslash, space}
use Rattle.first_pass_links.specs.declared.label.Unit.{Unit}
use Rattle.first_pass_links.specs.Units.{space_unit}
use Rattle.first_pass_links.proofs.Handlers.{under_map, under_none}
use Rattle.first_pass_links.proofs.Labels.{byte_reads, run_reads, space_is_unit, backslash_is_unit}
use Rattle.first_pass_links.proofs.PlainRuns.{are_plain, no_escape, plain_run_reads}
use Rattle.first_pass_links.proofs.label.scan_unit.Goals as goal

pub returns-in-Some-clause-some : goal.returns-in-Some-clause-some
returns-in-Some-clause-some g c =
    rw c.space_unit.ensures (space_is_unit c.args.bytes.now c.args.at c.in-Some.next c.in-Some.characters
    (rw c.in-Some.is at c.in_ok-next.ensures.some) (sym c.is_white_or_line_end.ensures ∙ c.if-is_white_or_line_end.true))

-- such a unit ends where the run ends
space_next : (text : List ℕ) (at next characters : ℕ) → (space_unit text at next characters).next ≡ next
space_next text at next characters =
    cond_both (next == at + 1 && slice_index text at == space) _ _ (λ (unit : Unit). unit.next ≡ next) (λ h. refl) (λ h. refl)

pub returns-in-Some-clause-reads : goal.returns-in-Some-clause-reads
returns-in-Some-clause-reads g c =
    let ends = rw c.in-Some.is at c.in_ok-next.ensures.some in
    let stops = rw c.in-Some.is at c.in_ok-next.ensures.ends in
    let reads = rw c.in-Some.is at c.in_ok-next.ensures.reads in
    let e = space_next c.args.bytes.now c.args.at c.in-Some.next c.in-Some.characters in
    rw c.space_unit.ensures (under_map reads (omega arith) (omega arith)
    (λ h r. run_reads h c.args.in_table c.args.bytes.now c.args.at c.in-Some.next c.in-Some.characters r ends stops))

pub returns-in-None-clause-none : goal.returns-in-None-clause-none
returns-in-None-clause-none g c = λ e. c.in_ok-next.ensures.none c.in-None.is

pub returns-then-bytes-at-eq92-clause-some : goal.returns-then-bytes-at-eq92-clause-some
returns-then-bytes-at-eq92-clause-some g c =
    rw c.backslash_unit.ensures
    (backslash_is_unit c.args.in_table c.args.bytes.now c.args.at c.requires.within c.if-bytes-at-eq92.true c.requires.text).kind

pub returns-then-bytes-at-eq92-clause-reads : goal.returns-then-bytes-at-eq92-clause-reads
returns-then-bytes-at-eq92-clause-reads g c = under_none (λ h. rw c.backslash_unit.ensures
    ((backslash_is_unit c.args.in_table c.args.bytes.now c.args.at c.requires.within c.if-bytes-at-eq92.true c.requires.text).reads h))

pub returns-clause-reads : goal.returns-clause-reads
returns-clause-reads g c =
    under_none (λ h. rw c.kept_unit-2.ensures (byte_reads h c.args.in_table c.args.bytes.now c.args.at _ c.requires.within
    (sym c.is_white_or_line_end.ensures ∙ c.if-is_white_or_line_end.false) c.requires.no_bracket
    (no_escape c.args.bytes.now c.args.at c.requires.within (ne_eqb _ backslash c.if-bytes-at-eq92.false)) c.begun_characters.ensures))

pub returns-then-plain-gt0-clause-reads : goal.returns-then-plain-gt0-clause-reads
returns-then-plain-gt0-clause-reads g c = under_none (λ h. grind (arith, plain_run_reads, are_plain))
