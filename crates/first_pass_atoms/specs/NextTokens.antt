-- The tables of next tokens, as they are made from the end of a chain. Only contracts of private functions cite this, apart
-- from `AreEndsOf`.
use Rattle.std.specs.Prelude.{◌≡◌, ℕ, ◌+◌, ◌<◌, ◌≤◌, Bool, List, length, get_or, Option, Some, IsSomeAnd}
use Rattle.first_pass_items.specs.declared.item.Item.{Item}
use Rattle.first_pass_items.specs.declared.item.ItemBody.{ItemBody}
use Rattle.first_pass_atoms.specs.TokenEnds.{code_key, code_sought, math_key, key_at, is_number, first_from}
use Rattle.first_pass_atoms.specs.declared.token_ends.Mark.{Mark}
use Rattle.first_pass_atoms.specs.declared.token_ends.Mark.TheVariants.{Code, Math}
use Rattle.first_pass_atoms.specs.declared.token_ends.TokenEnds.{TokenEnds}

-- the number of a mark that a token has
abbrev pub key : Mark → ItemBody → Option ℕ
key Code = code_key
key Math = math_key

-- the number of a mark that a token seeks
abbrev pub sought : Mark → ItemBody → Option ℕ
sought Code = code_sought
sought Math = math_key

-- a token that has a number
abbrev pub has_key : Mark → ℕ → ℕ × Item → Bool
has_key mark n token = is_number n (key mark token.1.body)

-- the numbers that tokens have are below a bound
abbrev pub KeysBelow : Mark → List (ℕ × Item) → ℕ → Type 0
KeysBelow mark tokens bound = (i n : ℕ) → key_at (key mark) tokens i ≡ Some n → n < bound

-- the numbers that tokens before an index have are at most a number; if there is none, these tokens have none
abbrev pub KeysIn : Mark → List (ℕ × Item) → ℕ → Option ℕ → Type 0
KeysIn mark tokens before most = (i n : ℕ) → i < before → key_at (key mark) tokens i ≡ Some n → IsSomeAnd most (λ m. n ≤ m)

-- for each number the index of the first token from an index on that has it
abbrev pub IsLastFrom : Mark → List (ℕ × Item) → ℕ → List ℕ → Type 0
IsLastFrom mark tokens from last = (n : ℕ) → n < length last → get_or last n 0 ≡ first_from (has_key mark n) tokens from

-- a token that seeks a number has an entry: the index of the next token that has that number
abbrev pub HasNext : Mark → List (ℕ × Item) → List ℕ → ℕ → ℕ → Type 0
HasNext mark tokens next i n = (i < length next) × (get_or next i 0 ≡ first_from (has_key mark n) tokens (i + 1))

-- each token from an index on that seeks a number has an entry
abbrev pub IsNextFrom : Mark → List (ℕ × Item) → ℕ → List ℕ → Type 0
IsNextFrom mark tokens from next = (i n : ℕ) → from ≤ i → key_at (sought mark) tokens i ≡ Some n → HasNext mark tokens next i n

-- the tables are those of a chain
pub record AreEndsOf (tokens : List (ℕ × Item)) (ends : TokenEnds) : Type 0 where
  pub for_code : IsNextFrom Code tokens 0 ends.code.items
  pub for_math : IsNextFrom Math tokens 0 ends.math.items
