-- Lines that are written, held back or remain, and the effect of a step on them.
use Rattle.std.proofs.Common.{◌≡◌, ℕ, List, [], ◌++◌, Option, Result, Ok, Err, refl, sym, ap, subst, ◌∙◌, append_assoc, append-nil}
use Rattle.std.proofs.KnownBytes.{Appends-nil, Appends-trans}
use Rattle.std.specs.Io.KnownBytes.{Appends}
use Rattle.first_pass_host.specs.declared.fault.RunFault.{RunFault}
use Rattle.first_pass_host.specs.Held.{IsPartlyWritten}
use Rattle.first_pass_host.specs.Streams.{Stream, stream_between, AppendsFront, WritesText}

-- before the first line: all lines remain
pub none_written : (lines held left : List ℕ) (known : Option (List ℕ)) → held ≡ [] → left ≡ lines
    → IsPartlyWritten lines held left (stream_between known known)
none_written lines held left known empty is = record {
  written = [];
  split = ap (λ l. l ++ left) empty ∙ is;
  appended = Appends-nil known;
}

-- after the next line is held back
pub next_held : (lines held left next more rest : List ℕ) (output : Stream) → left ≡ next ++ rest → more ≡ held ++ next
    → IsPartlyWritten lines held left output → IsPartlyWritten lines more rest output
next_held lines held left next more rest output left_is more_is u = record {
  written = u.written;
  split = ap (λ l. (u.written ++ l) ++ rest) more_is ∙ ap (λ l. l ++ rest) (sym (append_assoc u.written held next))
      ∙ append_assoc (u.written ++ held) next rest ∙ ap (λ l. (u.written ++ held) ++ l) (sym left_is) ∙ u.split;
  appended = u.appended;
}

-- after a beginning of the held bytes is written
pub piece_written : (lines held kept left : List ℕ) (old mid new : Option (List ℕ)) → IsPartlyWritten held kept [] (stream_between mid new)
    → IsPartlyWritten lines held left (stream_between old mid) → IsPartlyWritten lines kept left (stream_between old new)
piece_written lines held kept left old mid new piece u = record {
  written = u.written ++ piece.written;
  split = ap (λ l. l ++ left) (append_assoc u.written piece.written kept
      ∙ ap (λ l. u.written ++ l) (sym (append-nil (piece.written ++ kept)) ∙ piece.split)) ∙ u.split;
  appended = Appends-trans old mid new u.written piece.written u.appended piece.appended;
}

-- after all held bytes are written and no line remains
pub all_written : (lines held left : List ℕ) (old mid new : Option (List ℕ)) → left ≡ [] → IsPartlyWritten lines held left (stream_between old mid)
    → Appends mid new held → Appends old new lines
all_written lines held left old mid new none u appended =
    subst (Appends old new) (sym (append-nil (u.written ++ held)) ∙ ap (λ l. (u.written ++ held) ++ l) (sym none) ∙ u.split)
    (Appends-trans old mid new u.written held u.appended appended)

-- the written lines and a beginning of the held bytes are a beginning of all lines
pub front_written : (lines held left : List ℕ) (old mid new : Option (List ℕ)) → IsPartlyWritten lines held left (stream_between old mid)
    → AppendsFront mid new held → AppendsFront old new lines
front_written lines held left old mid new u front = record {
  written = u.written ++ front.written;
  left = front.left ++ left;
  split = sym u.split ∙ ap (λ l. l ++ left) (ap (λ l. u.written ++ l) front.split ∙ sym (append_assoc u.written front.written front.left))
      ∙ append_assoc (u.written ++ front.written) front.left left;
  appended = Appends-trans old mid new u.written front.written u.appended front.appended;
}

-- the written lines are a beginning of all lines
pub front_so_far : (lines held left : List ℕ) (old new : Option (List ℕ)) → IsPartlyWritten lines held left (stream_between old new)
    → AppendsFront old new lines
front_so_far lines held left old new u =
    front_written lines held left old new new u record { written = []; left = held; split = refl; appended = Appends-nil new }

-- a beginning of the first of two texts is a beginning of both, and so is the first with a beginning of the second
pub front_first : (lines others : List ℕ) (old new : Option (List ℕ)) → AppendsFront old new lines → AppendsFront old new (lines ++ others)
front_first lines others old new front = record {
  written = front.written;
  left = front.left ++ others;
  split = ap (λ l. l ++ others) front.split ∙ append_assoc front.written front.left others;
  appended = front.appended;
}

pub front_after : (lines others : List ℕ) (old mid new : Option (List ℕ))
    → Appends old mid lines → AppendsFront mid new others → AppendsFront old new (lines ++ others)
front_after lines others old mid new appended front = record {
  written = lines ++ front.written;
  left = front.left;
  split = ap (λ l. lines ++ l) front.split ∙ sym (append_assoc lines front.written front.left);
  appended = Appends-trans old mid new lines front.written appended front.appended;
}

-- a text that equals the written one is written
pub written_as : (lines same : List ℕ) (output : Stream) (result : Result (Unit {0}) RunFault) → lines ≡ same → WritesText lines output result
    → WritesText same output result
written_as lines same output result is writes = subst (λ l. WritesText l output result) is writes

-- a fault in the first of two texts
pub first_failed : (lines others : List ℕ) (old new : Option (List ℕ)) (fault : RunFault) (result : Result (Unit {0}) RunFault)
    → result ≡ Err fault → WritesText lines (stream_between old new) (Err fault) → WritesText (lines ++ others) (stream_between old new) result
first_failed lines others old new fault result is writes =
    subst (WritesText (lines ++ others) (stream_between old new)) (sym is)
    record { ok = tt; front = front_first lines others old new writes.front; fault = writes.fault }

-- the second of two texts, after the first
pub then_written : (lines others : List ℕ) (old mid new : Option (List ℕ)) (result : Result (Unit {0}) RunFault)
    → WritesText lines (stream_between old mid) (Ok tt) → WritesText others (stream_between mid new) result
    → WritesText (lines ++ others) (stream_between old new) result
then_written lines others old mid new (Ok x) first writes =
    record { ok = Appends-trans old mid new lines others first.ok writes.ok; front = tt; fault = tt }
then_written lines others old mid new (Err fault) first writes =
    record { ok = tt; front = front_after lines others old mid new first.ok writes.front; fault = writes.fault }
