use Rattle.std.proofs.Common.{◌≡◌, false, sym, ap, ◌∙◌, arith, ne_eqb}
use Rattle.std.proofs.lemmas.List.{get_or_past}
use Rattle.first_pass_links.specs.Destinations.{ends_run}
use Rattle.first_pass_links.specs.Escapes.{begins_escape}
use Rattle.first_pass_links.proofs.PlainRuns.{are_plain, no_escape, run_part}
use Rattle.first_pass_links.proofs.Runs.{end_escapes_none, run_backslash}
use Rattle.first_pass_links.proofs.destination.text_len.Goals as goal
use Rattle.first_pass_links.proofs.destination.text_len.Goals.{then-bytes-lt2-via-then-bytes-lt2, then-bytes-lt2-via-else-bytes-lt2+then-ends_run}

pub returns-then-bytes-ne92-clause-passed : goal.returns-then-bytes-ne92-clause-passed
returns-then-bytes-ne92-clause-passed c =
    λ deepest nesting bound.
    let bs = c.args.bytes.now in
    run_part deepest nesting bs c.plain_run.result c.requires.some c.requires.part (no_escape bs 0 c.requires.some (ne_eqb _ _ c.if-bytes-ne92.true))
    (omega (arith, c.plain_run.ensures.within, c.rest_of.ensures.whole))
    (are_plain bs _ 1 c.plain_run.result c.rest_of.ensures.value c.plain_run.ensures.plain) bound

-- a backslash by itself
pub returns-then-bytes-lt2-clause-passed : goal.returns-then-bytes-lt2-clause-passed
returns-then-bytes-lt2-clause-passed c =
    λ deepest nesting bound.
    let bs = c.args.bytes.now in
    let none : begins_escape bs ≡ false = elim c.then-bytes-lt2.branch [
      | then-bytes-lt2-via-then-bytes-lt2 w ↦ end_escapes_none bs (ap ends_run (get_or_past bs 1 0 (omega (arith, w.if-bytes-lt2.true))))
      | then-bytes-lt2-via-else-bytes-lt2+then-ends_run w ↦ end_escapes_none bs (sym w.ends_run.ensures ∙ w.if-ends_run.true)
    ] in
    run_part deepest nesting bs 0 c.requires.some c.requires.part none (omega (arith, c.requires.some)) (λ k below. absurd (omega arith)) bound

pub returns-clause-passed : goal.returns-clause-passed
returns-clause-passed c = grind (arith, run_backslash)
