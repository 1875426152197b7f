-- The text of a range, if its bytes are UTF-8.
use Rattle.std.proofs.Common.{◌≡◌, ℕ, List, [], Bool, true, false, cond, refl, IsUtf8}
use Rattle.std.proofs.lemmas.Str.{IsUtf8-from_is_utf8, is_utf8-from_IsUtf8}
use Rattle.std.specs.Str.{is_utf8}

pub whole_text : (bytes part : List ℕ) → part ≡ bytes → IsUtf8 bytes → part ≡ cond (is_utf8 bytes) bytes []
whole_text bytes part is utf8 = rw (is_utf8-from_IsUtf8 bytes utf8) is

broken_by : (bytes : List ℕ) → (IsUtf8 bytes → ⊥) → (t : Bool) → is_utf8 bytes ≡ t → [] ≡ cond (is_utf8 bytes) bytes []
broken_by bytes broken true e = absurd (broken (IsUtf8-from_is_utf8 bytes e))
broken_by bytes broken false e = rw e refl

pub broken_text : (bytes : List ℕ) → (IsUtf8 bytes → ⊥) → [] ≡ cond (is_utf8 bytes) bytes []
broken_text bytes broken = broken_by bytes broken (is_utf8 bytes) refl
