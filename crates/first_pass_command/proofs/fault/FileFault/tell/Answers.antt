use Rattle.std.proofs.Common.{subst, refl, sym, [], inl, inr}
use Rattle.first_pass_command.specs.Faults.{AppendsFault}
use Rattle.first_pass_command.proofs.fault.FileFault.tell.Goals as goal

pub returns-in-Ok : goal.returns-in-Ok
returns-in-Ok g c =
    let name = c.args.name.now in
    let fault = c.args.self.now in
    let line = subst (λ l. AppendsFault name fault l c.append_fault.new.line.items) c.new-line.ensures.items c.in-Ok.ensures in
    record {
      line = _;
      line_is = inl (subst (AppendsFault name fault []) (sym c.as_slice.ensures.value) line);
      written = c.is_written.ensures;
    }

pub returns : goal.returns
returns g c = record { line = _; line_is = inr refl; written = c.tell_no_memory.ensures }
