-- The bits that `from_bits` accepts: those of options.
use Rattle.std.proofs.Common.{◌≡◌, ℕ, ◌↔◌, Option, Some, None, IfSome, IsSome, IsNone, bit_and, refl, true≢false}
use Rattle.first_pass_items.specs.declared.option_set.Options.{Options}
use Rattle.first_pass_c.specs.Parsed.{AreKnown}

-- the bits that it accepts are known
pub known_if_some : (bits : ℕ) (r : Option Options) → (IsSome r ↔ (bit_and bits 65534 ≡ bits)) → IfSome r (λ o. AreKnown bits)
known_if_some bits None known = tt
known_if_some bits (Some o) known = known.0 refl

-- it accepts known bits
pub unknown_if_none : (bits : ℕ) (r : Option Options) → (IsSome r ↔ (bit_and bits 65534 ≡ bits)) → IsNone r → AreKnown bits → ⊥
unknown_if_none bits (Some o) known none are = true≢false none
unknown_if_none bits None known none are = let here : IsSome {T = Options} None = known.1 are in cc
