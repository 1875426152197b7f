use Rattle.std.proofs.Common.{◌≡◌, ℕ, ◌<◌, false, length, slice_index_or}
use Rattle.first_pass_walk.proofs.Common.{is_special}
use Rattle.first_pass_walk.proofs.walk.special_bytes.Given as goal

abbrev pub invariant-loop-byte : goal.invariant-loop-byte
invariant-loop-byte l = (length l.table ≡ 256) × ((b : ℕ) → b < l.byte → slice_index_or l.table b false ≡ is_special l.options b)
