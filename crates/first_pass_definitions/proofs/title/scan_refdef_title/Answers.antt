use Rattle.std.proofs.Common.{◌≡◌, slice_get, Some, None, refl, ap, ◌∙◌, option_and_then}
use Rattle.first_pass_grammar.proofs.Common.{title_end}
use Rattle.first_pass_open.specs.Path.{context_of}
use Rattle.first_pass_definitions.proofs.Titles.{title_none, title_read, after_first}
use Rattle.first_pass_definitions.proofs.Spaces.{rest_further}
use Rattle.first_pass_definitions.proofs.title.scan_refdef_title.Goals as goal
use Rattle.first_pass_definitions.proofs.title.scan_refdef_title.Goals.{In-Some}

pub returns-in_default-clause-value : goal.returns-in_default-clause-value
returns-in_default-clause-value c =
    rw (title_none (context_of c.args.source.now.options c.args.tree.now) c.args.text.now
    (c.in_default.ensures.value ∙ ap (λ xs. option_and_then title_end (slice_get xs 0)) c.as_bytes-bytes.ensures.value)) refl

first_is : (c : In-Some) → Some c.in-Some.close ≡ option_and_then title_end (slice_get c.args.text.now 0)
first_is c = c.in-Some.ensures.value ∙ ap (λ xs. option_and_then title_end (slice_get xs 0)) c.as_bytes-bytes.ensures.value

pub range_from-requires : goal.range_from-requires
range_from-requires c = λ h. after_first c.args.text.now c.in-Some.close c.utf8.text (first_is c)

pub scan_title_text-requires-clause-rest : goal.scan_title_text-requires-clause-rest
scan_title_text-requires-clause-rest c =
    rest_further c.args.source.now.text.now c.args.text.now c.range_from.result.now 1 c.requires c.range_from.ensures.value
    (after_first c.args.text.now c.in-Some.close c.utf8.text (first_is (goal.at.scan_title_text-requires-clause-rest c).In-Some))

pub returns-in-Some-2-clause-value : goal.returns-in-Some-2-clause-value
returns-in-Some-2-clause-value c =
    title_read (context_of c.args.source.now.options c.args.tree.now) c.args.text.now _ c.in-Some.close (Some (c.in-Some-2.len, c.in-Some-2.title))
    (first_is (goal.at.returns-in-Some-2-clause-value c).In-Some) c.range_from.ensures.value (rw c.in-Some-2.is at c.in_ok-len.ensures.value)

pub returns-in-None-clause-value : goal.returns-in-None-clause-value
returns-in-None-clause-value c =
    title_read (context_of c.args.source.now.options c.args.tree.now) c.args.text.now _ c.in-Some.close None
    (first_is (goal.at.returns-in-None-clause-value c).In-Some) c.range_from.ensures.value (rw c.in-None.is at c.in_ok-len.ensures.value)
