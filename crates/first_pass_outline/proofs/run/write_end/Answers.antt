use Rattle.std.proofs.Common.{[], ◌∷◌, ◌++◌, ap, ◌∙◌, rules}
use Rattle.first_pass_host.proofs.HeldLines.{written_as}
use Rattle.first_pass_outline.specs.ContentsLines.{closed}
use Rattle.first_pass_outline.proofs.Written.{none_appended}
use Rattle.first_pass_outline.proofs.run.write_end.Goals as goal

pub returns-in_err-append_closed : goal.returns-in_err-append_closed
returns-in_err-append_closed g c = none_appended _ _ _ (search rules)

pub returns-in_err-extend_from_slice : goal.returns-in_err-extend_from_slice
returns-in_err-extend_from_slice g c = none_appended _ _ _ (search rules)

pub returns : goal.returns
returns g c =
    let bytes_are = c.as_slice.ensures.value ∙ c.in_ok-extend_from_slice.ensures.items
    ∙ ap (λ l. l ++ 93 ∷ 10 ∷ [])
    (c.in_ok-append_closed.ensures ∙ ap (λ l. l ++ closed c.open_count.result) c.new-end.ensures.items ∙ ap closed c.open_count.ensures) in
    written_as _ _ _ _ bytes_are c.write_bytes.ensures
