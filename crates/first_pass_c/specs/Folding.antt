-- The result of a folding, in memory of the caller (this project).
use Rattle.std.specs.Prelude.{◌≡◌, ◌<◌, ℕ, List, length, IsUtf8}
use Rattle.first_pass_labels.specs.Foldings.{folded}
use Rattle.first_pass_c.specs.declared.fault.Fault.{Fault}
use Rattle.first_pass_c.specs.declared.fault.Fault.TheVariants.{OutOfMemory, NotUtf8, TooSmall}
use Rattle.first_pass_c.specs.Memory.{BeginsWith}

-- an array begins with the folding of a label, and the count is the folding's length (CommonMark 6.3,
-- and this project)
pub record IsFolded (label old new : List ℕ) (count : ℕ) : Type 0 where
  pub utf8 : IsUtf8 label
  pub written : BeginsWith (folded label) old new
  pub counted : count ≡ length (folded label)

-- the count is the length of the folding of a label, and the array is shorter (CommonMark 6.3, and this project)
pub record HasNoRoomFor (label array : List ℕ) (count : ℕ) : Type 0 where
  pub utf8 : IsUtf8 label
  pub counted : count ≡ length (folded label)
  pub no_room : length array < count

-- the state after a fault of a folding: every fault except `TooSmall` leaves the count unchanged (this project)
abbrev pub FoldLeaves : Fault → List ℕ → List ℕ → ℕ → ℕ → Type 0
FoldLeaves OutOfMemory label array old new = IsUtf8 label × (new ≡ old)
FoldLeaves NotUtf8 label array old new = (IsUtf8 label → ⊥) × (new ≡ old)
FoldLeaves TooSmall label array old new = HasNoRoomFor label array new
FoldLeaves _ label array old new = ⊥
