use Rattle.std.proofs.Common.{rules, ◌≡◌, ℕ, List, ◌<◌, length, slice_index, arith, IsUtf8, IsCharBoundary}
use Rattle.std.proofs.lemmas.Str.{IsCharBoundary-after_ascii}
use Rattle.scan_cases.proofs.links.quoted_label.Goals as goal
use Rattle.first_pass_items.specs.Bytes.{space}

after_space : (bs : List ℕ) (n : ℕ) → IsUtf8 bs → (n ≡ 2) × (1 < length bs) × (slice_index bs 1 ≡ space) → IsCharBoundary bs n
after_space bs n u h = rw h.0 (IsCharBoundary-after_ascii bs 1 u h.1 (omega (arith, h.2)))

pub scan_link_label_rest-requires-clause-places : goal.scan_link_label_rest-requires-clause-places
scan_link_label_rest-requires-clause-places c = λ following n at b e p u. after_space following.now n u (search rules)
