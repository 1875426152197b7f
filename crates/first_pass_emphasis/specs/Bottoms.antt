-- Bottoms: below which index of the stack no run can be the opener of a closer. Only contracts of private functions cite
-- this.
use Rattle.std.specs.Prelude.{◌≡◌, ℕ, ◌<◌, ◌≤◌, false, List, length, min, slice_get, Some}
use Rattle.first_pass_emphasis.specs.declared.run.Run.{Run}
use Rattle.first_pass_emphasis.specs.declared.reduce.Entry.{Entry}
use Rattle.first_pass_emphasis.specs.declared.reduce.Bottom.{Bottom}
use Rattle.first_pass_emphasis.specs.Runs.{fits}

-- two closers have the same openers, whatever they have left
abbrev pub IsSameClass : Run → Run → Type 0
IsSameClass a b = (o : Run) (left more : ℕ) → fits o left a more ≡ fits o left b more

-- below an index of the stack no run is an opener of the closer, whatever this has left
pub record IsBottom (es : List Entry) (c : Run) (low : ℕ) : Type 0 where
  pub within : low ≤ length es
  pub below : (k : ℕ) (e : Entry) (more : ℕ) → k < low → slice_get es k ≡ Some e → fits e.run e.left c more ≡ false

-- these are bottoms of the stack
abbrev pub AreBottoms : List Entry → List Bottom → Type 0
AreBottoms es bs = (i : ℕ) (b : Bottom) → slice_get bs i ≡ Some b → IsBottom es b.run b.low

-- a bottom once the stack is not higher than `height`
abbrev pub lowered : ℕ → Bottom → Bottom
lowered height b = record { run = b.run; low = min b.low height }
