-- Prefixes of the bytes that are tags or parts of tags.
use Rattle.std.specs.Prelude.{◌≡◌, ◌≤◌, ℕ, List, ◌++◌, length, drop, take}
use Rattle.std.specs.List.{concat}
use Rattle.first_pass_html.specs.Tags.{AreAttributes, IsOpenTagEnd}

-- the prefix of n bytes is accepted, and it is the only accepted prefix of the bytes (this project)
pub record IsOnlyFront (Accepts : List ℕ → Type 0) (bs : List ℕ) (n : ℕ) : Type 0 where
  pub within : n ≤ length bs
  pub is_text : Accepts (take n bs)
  pub only : (front rest : List ℕ) → bs ≡ front ++ rest → Accepts front → length front ≡ n

-- no prefix of the bytes is accepted (this project)
abbrev pub HasNoFront : (List ℕ → Type 0) → List ℕ → Type 0
HasNoFront Accepts bs = (front rest : List ℕ) → bs ≡ front ++ rest → Accepts front → ⊥

-- attributes and the end of an open tag, followed by the given bytes (CommonMark 6.6, open tag)
pub record IsTagRest (bs : List ℕ) (following : List ℕ) : Type 0 where
  pub attributes : List (List ℕ)
  pub ending : List ℕ
  pub parts : bs ≡ concat attributes ++ (ending ++ following)
  pub are_attributes : AreAttributes attributes
  pub ends : IsOpenTagEnd ending

-- the end of an open tag, followed by the given bytes (CommonMark 6.6, open tag)
pub record IsEndBefore (bs : List ℕ) (following : List ℕ) : Type 0 where
  pub ending : List ℕ
  pub parts : bs ≡ ending ++ following
  pub ends : IsOpenTagEnd ending

-- The first n bytes are attributes. If the bytes begin with the rest of an open tag, the end of that tag directly
-- follows these attributes (CommonMark 6.6, open tag).
pub record IsPastAttributes (bs : List ℕ) (n : ℕ) : Type 0 where
  pub attributes : List (List ℕ)
  pub parts : take n bs ≡ concat attributes
  pub are_attributes : AreAttributes attributes
  pub all : (following : List ℕ) → IsTagRest bs following → IsEndBefore (drop n bs) following
