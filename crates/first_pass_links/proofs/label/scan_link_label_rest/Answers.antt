use Rattle.std.proofs.Common.{inl, ◌≡◌, ℕ, ◌+◌, ◌++◌, Bool, List, length, Option, Result, Some, None, MatchOption, refl, ◌∙◌, arith, Bor}
use Rattle.std.specs.declared.alloc.AllocError.{AllocError}
use Rattle.std.proofs.lemmas.Str.{IsCharBoundary-after_ascii}
use Rattle.first_pass_items.specs.declared.cow_str.CowStr.{CowStr}
use Rattle.first_pass_items.specs.CowText.{text_of}
use Rattle.first_pass_items.proofs.ResultFacts.{on_err}
use Rattle.first_pass_links.specs.Labels.{IsLabelUnder, label_at}
use Rattle.first_pass_links.specs.Units.{part, ReadsUnits, UnderAnswers}
use Rattle.first_pass_links.proofs.Handlers.{under_with, under_map, under_read, under_fails}
use Rattle.first_pass_links.proofs.label.scan_link_label_rest.Goals as goal

abbrev NoUnits : Option (ℕ × ℕ) → Type 0
NoUnits read = read ≡ None

abbrev NoLabel : Option (ℕ × CowStr) → Type 0
NoLabel answer = answer ≡ None

-- there is no label, or it is written
none_read : (o : Option (ℕ × List ℕ)) → MatchOption o (NoUnits None) (λ l. ⊥) → MatchOption o (NoLabel None) (λ l. ⊥)
none_read None h = refl
none_read (Some l) h = h

written_read : (o : Option (ℕ × List ℕ)) (from at : ℕ) (bytes : List ℕ) (label : CowStr) → text_of label ≡ bytes
    → MatchOption o (NoUnits (Some (from, at))) (λ l. (at + 1 ≡ l.0) × (bytes ≡ l.1))
    → MatchOption o (NoLabel (Some (at + 1, label))) (λ l. (at + 1 ≡ l.0) × (text_of label ≡ l.1))
written_read None from at bytes label e h = cc
written_read (Some l) from at bytes label e h = (h.0, e ∙ h.1)

no_label : {text : List ℕ} {in_table : Bool} {post : Bor (List ℕ) → Result (Option ℕ) AllocError → Type 0} {written : List ℕ}
    → ReadsUnits text in_table post written None → UnderAnswers text post 0 (length text) (λ prefix. IsLabelUnder prefix in_table text None)
no_label {text} {in_table} r = under_map r.value (omega arith) (omega arith) (λ h k. none_read (label_at h in_table text) k)

written_label : {text : List ℕ} {in_table : Bool} {post : Bor (List ℕ) → Result (Option ℕ) AllocError → Type 0} {written : List ℕ} {from at : ℕ}
    (label : CowStr) → text_of label ≡ written ++ part text from at → ReadsUnits text in_table post written (Some (from, at))
    → UnderAnswers text post 0 (length text) (λ prefix. IsLabelUnder prefix in_table text (Some (at + 1, label)))
written_label {text} {in_table} {post} {written} {from} {at} label e r =
    under_map r.value (omega arith) (omega arith) (λ h k. written_read (label_at h in_table text) from at _ label e k)

pub returns-in_default-clause-value : goal.returns-in_default-clause-value
returns-in_default-clause-value g c = λ h a. under_with (no_label (rw c.in_default.is at c.in_ok-from.ensures.ok)) h a

pub returns-in_default-clause-read : goal.returns-in_default-clause-read
returns-in_default-clause-read g c = under_read (no_label (rw c.in_default.is at c.in_ok-from.ensures.ok))

pub finish-requires-clause-read : goal.finish-requires-clause-read
finish-requires-clause-read g c = (rw c.in-Some.is at c.in_ok-from.ensures.ok).lighter

pub finish-requires-clause-boundary : goal.finish-requires-clause-boundary
finish-requires-clause-boundary g c = grind arith

pub returns-clause-value : goal.returns-clause-value
returns-clause-value g c = λ h a. under_with (written_label _ c.in_ok-finish.ensures.value (rw c.in-Some.is at c.in_ok-from.ensures.ok)) h a

pub returns-clause-read : goal.returns-clause-read
returns-clause-read g c = under_read (written_label _ c.in_ok-finish.ensures.value (rw c.in-Some.is at c.in_ok-from.ensures.ok))

pub returns-clause-within : goal.returns-clause-within
returns-clause-within g c = let there = (rw c.in-Some.is at c.in_ok-from.ensures.ok).closes in (omega arith, omega (arith, there.0))

pub returns-clause-following : goal.returns-clause-following
returns-clause-following g c =
    let there = (rw c.in-Some.is at c.in_ok-from.ensures.ok).closes in
    IsCharBoundary-after_ascii c.args.text.now c.in-Some.at c.utf8.text there.0 (omega (arith, there.1))

pub returns-in_err-finish-clause-err : goal.returns-in_err-finish-clause-err
returns-in_err-finish-clause-err g c =
    on_err c.from_residual-in_err-finish.result
    (λ prefix a. inl (under_with ((rw c.in-Some.is at c.in_ok-from.ensures.ok).changes c.in_err-finish.ensures.err) prefix a))

pub returns-in_err-finish-clause-fails : goal.returns-in_err-finish-clause-fails
returns-in_err-finish-clause-fails g c =
    on_err c.from_residual-in_err-finish.result
    (under_fails (under_map ((rw c.in-Some.is at c.in_ok-from.ensures.ok).changes c.in_err-finish.ensures.err) (omega arith) (omega arith) (λ h z. inl z)))

-- the units can't be read
pub returns-in_err-from-clause-err : goal.returns-in_err-from-clause-err
returns-in_err-from-clause-err g c = on_err c.from_residual.result (λ prefix a. under_with c.in_err-from.ensures.err prefix a)

pub returns-in_err-from-clause-fails : goal.returns-in_err-from-clause-fails
returns-in_err-from-clause-fails g c = on_err c.from_residual.result (under_fails c.in_err-from.ensures.err)
