use Rattle.std.proofs.Common.{◌≡◌, ◌++◌, encode_utf8, string_bytes}
use Rattle.first_pass_tokens.proofs.Common.{times}
use Rattle.first_pass_tokens.proofs.named.push_times.Given as goal

-- the character is written this many times
abbrev pub invariant-loop : goal.invariant-loop
invariant-loop l = string_bytes l.text ≡ string_bytes l.fn.text ++ times l.counter (encode_utf8 l.character)
