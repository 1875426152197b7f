-- What is written before an allocation fails, and by one write of all bytes.
use Rattle.std.proofs.Common.{◌≡◌, ℕ, List, Option, Result, Ok, Err, inl, inr, OnOk, OnErr, IfErr, refl, sym, subst}
use Rattle.std.specs.Io.KnownBytes.{Appends}
use Rattle.first_pass_host.specs.declared.fault.RunFault.{RunFault}
use Rattle.first_pass_host.specs.declared.fault.RunFault.TheVariants.{OutOfMemory, WriteFailed}
use Rattle.first_pass_host.specs.Streams.{AppendsFront, WritesText, stream_between}
use Rattle.first_pass_host.proofs.HeldLines.{none_written, front_so_far}

-- before anything is written, an allocation fails
pub none_appended : (lines : List ℕ) (known : Option (List ℕ)) (result : Result (Unit {0}) RunFault) → result ≡ Err OutOfMemory
    → WritesText lines (stream_between known known) result
none_appended lines known result is =
    subst (WritesText lines (stream_between known known)) (sym is) record {
      ok = tt;
      front = front_so_far lines _ lines known known (none_written lines _ lines known refl refl);
      fault = inr refl;
    }

-- one write of all bytes
pub bytes_written : (bytes : List ℕ) (old new : Option (List ℕ)) (result : Result (Unit {0}) RunFault) → OnOk result (Appends old new bytes)
    → OnErr result (AppendsFront old new bytes) → IfErr result (λ fault. fault ≡ WriteFailed) → WritesText bytes (stream_between old new) result
bytes_written bytes old new (Ok x) ok front fault = record { ok = ok; front = tt; fault = tt }
bytes_written bytes old new (Err failed) ok front fault = record { ok = tt; front = front; fault = inl fault }
