-- Lines that are held back, so that they are written in pieces (this project).
use Rattle.std.specs.Prelude.{◌≡◌, ℕ, List, [], ◌++◌, Option, Some, None, Result, Ok, Vec}
use Rattle.std.specs.declared.alloc.AllocError.{AllocError}
use Rattle.std.specs.declared.alloc.Global.{Global}
use Rattle.std.specs.Borrow.{MutBor}
use Rattle.std.specs.Io.KnownBytes.{Appends}
use Rattle.first_pass_host.specs.Streams.{Stream}

-- lines in three parts: the first is written to an output, the next is held back, and the rest remains
pub record IsPartlyWritten (lines held left : List ℕ) (output : Stream) : Type 0 where
  pub written : List ℕ
  pub split : (written ++ held) ++ left ≡ lines
  pub appended : Appends output.old output.new written

-- the effect of a call with bytes and an item: its result, and the bytes after it
abbrev pub Calls : Type 0 → Type 1
Calls A = MutBor (Vec ℕ Global) → A → Result (Unit {0}) AllocError → MutBor (Vec ℕ Global) → Type 0

-- each call that succeeds appends the line of its item
abbrev pub CallsAppendLine : {A : Type 0} → Calls A → (A → List ℕ) → Type 0
CallsAppendLine {A} calls line = (old new : MutBor (Vec ℕ Global)) (x : A) → calls old x (Ok tt) new → new.now.items ≡ old.now.items ++ line x

-- The lines of the items of an iterator. A call appends the line of its item. The lines of an iterator are the line
-- of its next item and the lines of the remaining ones.
pub record AreItemLines {I A : Type 0} (steps : I → Option A → I → Type 0) (calls : Calls A) (line : A → List ℕ) (lines : I → List ℕ) : Type 0 where
  pub appended : CallsAppendLine calls line
  pub next : (s t : I) (x : A) → steps s (Some x) t → lines s ≡ line x ++ lines t
  pub none : (s t : I) → steps s None t → lines s ≡ []
