-- Brace contexts: the braces around a dollar sign (math; this project).
use Rattle.std.specs.Prelude.{ℕ, ◌+◌, ◌-◌, ◌%◌, ◌^◌, ◌==◌, ◌&&◌, List, [], ◌∷◌, ◌++◌, length, take, slice_index, min, nat_lt, if◌then◌else◌}
use Rattle.first_pass_tokens.specs.declared.pieces.TokenStart.{TokenStart}
use Rattle.first_pass_tokens.specs.declared.pieces.TokenStart.TheVariants.{Ready, Reference, Dashes, Dollar, OpenBrace, CloseBrace}

-- The brace contexts of a block: the numbers of the open ones, the innermost last, and the counter from which the next
-- one gets its number. The counter is stored whole. Only where it is used as a number is it taken modulo 256 (this
-- project).
pub record MathBraces : Type 0 where
  pub stack : List ℕ
  pub next : ℕ

-- the brace contexts at the start of a block: none is open (this project)
abbrev pub no_braces : MathBraces
no_braces = record { stack = []; next = 0 }

-- the number of the context of a dollar sign: that of the innermost open one, or 255 if none is open; if more than 25
-- are open, the counter, modulo 256 (this project)
unfoldable pub dollar_context : MathBraces → ℕ
dollar_context b =
    if nat_lt 25 (length b.stack) then b.next % 256
    else (if length b.stack == 0 then 255 else slice_index b.stack (length b.stack - 1))

-- the brace contexts after a dollar sign: at least one is open (this project)
unfoldable pub after_dollar : MathBraces → MathBraces
after_dollar b = if length b.stack == 0 then record { stack = 255 ∷ []; next = b.next } else b

-- one more, up to the largest value of the counter (this project)
abbrev pub one_more : ℕ → ℕ
one_more n = min (n + 1) (2 ^ 64 - 1)

-- The brace contexts after `{`. If none was open, nothing changes. Otherwise one more is open, and its number is the
-- counter, modulo 256. The counter then grows by one, or becomes 25 at the twenty-sixth. If more than 25 were open,
-- only the counter grows by one (this project).
unfoldable pub after_open : MathBraces → MathBraces
after_open b =
    if length b.stack == 25 then record { stack = b.stack ++ b.next % 256 ∷ []; next = 25 }
    else (if nat_lt 25 (length b.stack) then record { stack = b.stack; next = one_more b.next }
    else (if length b.stack == 0 then b else record { stack = b.stack ++ b.next % 256 ∷ []; next = one_more b.next }))

-- The brace contexts after `}`. The innermost one is closed. But if only one is open, it stays open, and its number is
-- one less, modulo 256. If more than 25 were open and the counter is above 25, only the counter is one less (this
-- project).
unfoldable pub after_close : MathBraces → MathBraces
after_close b =
    if length b.stack == 1 then record { stack = (slice_index b.stack 0 + 255) % 256 ∷ []; next = b.next }
    else (if nat_lt 25 (length b.stack) && nat_lt 25 b.next then record { stack = b.stack; next = b.next - 1 }
    else record { stack = take (length b.stack - 1) b.stack; next = b.next })

-- the brace contexts after the piece at an offset (this project)
abbrev pub braces_after : TokenStart → MathBraces → MathBraces
braces_after (Ready piece) b = b
braces_after (Reference n c) b = b
braces_after (Dashes n) b = b
braces_after (Dollar opens closes) b = after_dollar b
braces_after OpenBrace b = after_open b
braces_after CloseBrace b = after_close b
