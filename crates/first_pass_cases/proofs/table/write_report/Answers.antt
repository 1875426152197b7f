use Rattle.std.proofs.Common.{[], refl, sym, ◌∙◌, append-nil, inl, inr, rules}
use Rattle.first_pass_host.proofs.HeldLines.{first_failed, then_written, written_as}
use Rattle.first_pass_cases.proofs.table.write_report.Goals as goal

pub returns-in_err-write_whole : goal.returns-in_err-write_whole
returns-in_err-write_whole g c = first_failed _ _ _ _ _ _ (search rules) (written_as _ _ _ _ c.as_bytes.ensures.value
    record { ok = tt; front = c.in_err-write_whole.ensures.front; fault = inl c.in_err-write_whole.ensures.fault })

pub returns-in_err-line : goal.returns-in_err-line
returns-in_err-line g c = first_failed _ _ _ _ _ _ (search rules) (written_as _ _ _ _ c.as_bytes.ensures.value record {
  ok = tt;
  front = record { written = c.as_bytes.result.now; left = []; split = sym (append-nil _); appended = c.in_ok-write_whole.ensures.ok };
  fault = inr refl;
})

pub returns : goal.returns
returns g c = then_written _ _ _ _ _ _
    (written_as _ _ _ _ c.as_bytes.ensures.value record { ok = c.in_ok-write_whole.ensures.ok; front = tt; fault = tt })
    (written_as _ _ _ _ (c.as_bytes-2.ensures.value ∙ c.in_ok-line.ensures)
    record { ok = c.write_whole-2.ensures.ok; front = c.write_whole-2.ensures.front; fault = search rules })
