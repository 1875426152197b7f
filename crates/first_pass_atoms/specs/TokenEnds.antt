-- The tokens with which code spans and math end, among those of a chain. A token is known by its index.
use Rattle.std.specs.Prelude.{ℕ, ◌+◌, ◌-◌, ◌==◌, nat_lt, Bool, true, false, List, length, drop, Option, None, Some, is_some, if◌then◌else◌}
use Rattle.std.specs.List.{position_or_len, slice_get}
use Rattle.std.specs.Option.{option_and_then}
use Rattle.first_pass_items.specs.declared.item.Item.{Item}
use Rattle.first_pass_items.specs.declared.item.ItemBody.{ItemBody}
use Rattle.first_pass_items.specs.declared.item.ItemBody.TheVariants.{MaybeCode, MaybeMath}
use Rattle.first_pass_atoms.specs.declared.token_ends.MathEnd.{MathEnd}

-- the length of a run of backquotes, with one that a backslash precedes (CommonMark 6.1, backtick string)
abbrev pub code_key : ItemBody → Option ℕ
code_key (MaybeCode count escaped) = Some count
code_key _ = None

-- a run of backquotes that a backslash precedes (CommonMark 2.4)
abbrev pub follows_backslash : ItemBody → Bool
follows_backslash (MaybeCode count escaped) = escaped
follows_backslash _ = false

-- the length of the run that ends the code span that a run of backquotes begins: its own, or one less if a backslash
-- precedes it, since its first backquote is text then (CommonMark 2.4, 6.1)
abbrev pub code_sought : ItemBody → Option ℕ
code_sought body =
    option_and_then (λ count. let n = if follows_backslash body then count - 1 else count in if n == 0 then None else Some n) (code_key body)

-- the brace context of a dollar sign (this project)
abbrev pub math_key : ItemBody → Option ℕ
math_key (MaybeMath can_open can_close context) = Some context
math_key _ = None

-- the brace context of a dollar sign that can open math (this project)
abbrev pub opening_context : ItemBody → Option ℕ
opening_context (MaybeMath true can_close context) = Some context
opening_context _ = None

-- a dollar sign that can close math (this project)
abbrev pub closes_math : ItemBody → Bool
closes_math (MaybeMath can_open can_close context) = can_close
closes_math _ = false

-- what a test of bodies gives for the token with an index, if there is one
abbrev pub key_at : (ItemBody → Option ℕ) → List (ℕ × Item) → ℕ → Option ℕ
key_at f tokens i = option_and_then (λ (token : ℕ × Item). f token.1.body) (slice_get tokens i)

-- the number is there
abbrev pub is_number : ℕ → Option ℕ → Bool
is_number n None = false
is_number n (Some m) = m == n

-- a run of n backquotes, counted whole (CommonMark 6.1)
abbrev pub has_code : ℕ → ℕ × Item → Bool
has_code n token = is_number n (code_key token.1.body)

-- a dollar sign of a brace context (this project)
abbrev pub has_math : ℕ → ℕ × Item → Bool
has_math context token = is_number context (math_key token.1.body)

-- the index, if a token has it
abbrev pub in_chain : List (ℕ × Item) → ℕ → Option ℕ
in_chain tokens i = if nat_lt i (length tokens) then Some i else None

-- the index of the first token from one on that passes a test; that of no token, if there is none
abbrev pub first_from : (ℕ × Item → Bool) → List (ℕ × Item) → ℕ → ℕ
first_from test tokens i = i + position_or_len test (drop i tokens)

-- the index of the first token after one that passes a test, if there is one
abbrev pub later : (ℕ × Item → Bool) → List (ℕ × Item) → ℕ → Option ℕ
later test tokens i = in_chain tokens (first_from test tokens (i + 1))

-- The index of the token that ends the code span that a token begins, if it begins one: of the next run of exactly as many
-- backquotes as it begins the span with, whether a backslash precedes that run or not (CommonMark 6.1)
unfoldable pub code_end : List (ℕ × Item) → ℕ → Option ℕ
code_end tokens i = option_and_then (λ n. later (has_code n) tokens i) (key_at code_sought tokens i)

-- the token with an index is a dollar sign
abbrev pub is_dollar_at : List (ℕ × Item) → ℕ → Bool
is_dollar_at tokens i = is_some (key_at math_key tokens i)

-- there is a token, and it is a dollar sign that can close math
abbrev pub closes_by : Option (ℕ × Item) → Bool
closes_by None = false
closes_by (Some token) = closes_math token.1.body

-- the token with an index is a dollar sign that can close math
abbrev pub closes_at : List (ℕ × Item) → ℕ → Bool
closes_at tokens i = closes_by (slice_get tokens i)

-- the end of display math, or of inline math, with the token of an index
abbrev pub ended_at : Bool → ℕ → MathEnd
ended_at display i = record { last = i; display = display }

-- The end of the display math that a dollar sign of a brace context and the next token begin, both dollar signs: the next
-- dollar sign of that context after both, if another one directly follows it. That one is the last (this project).
unfoldable pub display_end : List (ℕ × Item) → ℕ → ℕ → Option MathEnd
display_end tokens i context =
    option_and_then (λ j. if is_dollar_at tokens (j + 1) then Some (ended_at true (j + 1)) else None) (later (has_math context) tokens (i + 1))

-- the end of the inline math that a dollar sign of a brace context begins: the next dollar sign of that context, if it can
-- close (this project)
unfoldable pub inline_end : List (ℕ × Item) → ℕ → ℕ → Option MathEnd
inline_end tokens i context =
    option_and_then (λ j. if closes_at tokens j then Some (ended_at false j) else None) (later (has_math context) tokens i)

-- The end of the math that a token begins, if it begins any: it is a dollar sign that can open, and if the next token is
-- one too, the math is display math (this project)
unfoldable pub math_end : List (ℕ × Item) → ℕ → Option MathEnd
math_end tokens i =
    option_and_then (λ context. if is_dollar_at tokens (i + 1) then display_end tokens i context else inline_end tokens i context)
    (key_at opening_context tokens i)
