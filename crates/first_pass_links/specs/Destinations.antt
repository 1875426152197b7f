-- Link destinations (CommonMark 6.3). Here an argument `bs` has the bytes from an offset up to the end of the text.
use Rattle.std.specs.Prelude.{ℕ, zero, suc, ◌+◌, ◌-◌, ◌==◌, ◌&&◌, ◌||◌, Bool, List, [], ◌∷◌, take, drop, Option, Some, None, nat_lt, if◌then◌else◌}
use Rattle.std.specs.Option.{option_map, option_and_then}
use Rattle.std.specs.Char.{is_ascii_control}
use Rattle.first_pass_items.specs.Bytes.{space, left_parenthesis, right_parenthesis, less_than, greater_than}
use Rattle.first_pass_lines.specs.Lines.{begins, is_line_end}
use Rattle.first_pass_links.specs.Escapes.{begins_escape}

-- the number of bytes before the first one that passes a test and is not escaped; the first n bytes are not tested
-- (CommonMark 2.4)
unfoldable pub unescaped_upto : (ℕ → Bool) → ℕ → List ℕ → ℕ
unescaped_upto stops n [] = 0
unescaped_upto stops (suc n) (b ∷ bs) = 1 + unescaped_upto stops n bs
unescaped_upto stops zero (b ∷ bs) =
    if begins_escape (b ∷ bs)
    then 1 + unescaped_upto stops 1 bs
    else (if stops b then 0 else 1 + unescaped_upto stops 0 bs)

-- a byte that ends the search inside `<..>` unless it is escaped: `<`, `>`, or a byte of a line ending, which is never
-- escaped (CommonMark 6.3)
abbrev pub ends_bracketed : ℕ → Bool
ends_bracketed b = is_line_end b || b == less_than || b == greater_than

-- a destination inside `<..>`, after its `<`: its length with both brackets, and the text between them (CommonMark
-- 6.3)
unfoldable pub bracketed_at : List ℕ → Option (ℕ × List ℕ)
bracketed_at bs =
    let n = unescaped_upto ends_bracketed 0 bs in
    if begins greater_than (drop n bs) then Some (n + 2, take n bs) else None

-- a byte that ends a destination outside `<..>`: an ASCII control character or a space (CommonMark 6.3)
abbrev pub ends_run : ℕ → Bool
ends_run b = is_ascii_control b || b == space

-- a length that is n bytes longer, if there is one (this project)
abbrev pub longer : ℕ → Option ℕ → Option ℕ
longer n len = option_map (λ k. n + k) len

-- the length 0 if no parenthesis is open, otherwise none (CommonMark 6.3)
abbrev pub if_closed : ℕ → Option ℕ
if_closed nesting = if nesting == 0 then Some 0 else None

-- a `)` that closes no parenthesis of the destination (CommonMark 6.3)
abbrev pub closes_none : ℕ → ℕ → Bool
closes_none b nesting = b == right_parenthesis && nesting == 0

-- the number of open parentheses after a byte (CommonMark 6.3)
abbrev pub nesting_after : ℕ → ℕ → ℕ
nesting_after b nesting = if b == left_parenthesis then nesting + 1 else (if b == right_parenthesis then nesting - 1 else nesting)

-- The length of a run inside `nesting` open parentheses; its first n bytes are not tested. The run ends before a
-- control character or a space, or before an unescaped `)` that closes none. Unescaped parentheses are balanced, and
-- nested at most `deepest` deep (CommonMark 6.3).
unfoldable pub bare_len : ℕ → ℕ → ℕ → List ℕ → Option ℕ
bare_len deepest nesting n [] = if_closed nesting
bare_len deepest nesting (suc n) (b ∷ bs) = longer 1 (bare_len deepest nesting n bs)
bare_len deepest nesting zero (b ∷ bs) =
    if ends_run b then if_closed nesting
    else (if begins_escape (b ∷ bs) then longer 1 (bare_len deepest nesting 1 bs)
    else (if closes_none b nesting then Some 0
    else (if nat_lt deepest (nesting_after b nesting) then None
    else longer 1 (bare_len deepest (nesting_after b nesting) 0 bs))))

-- a destination outside `<..>`: a run that is not empty (CommonMark 6.3)
abbrev pub unbracketed : List ℕ → ℕ → Option (ℕ × List ℕ)
unbracketed bs n = if n == 0 then None else Some (n, take n bs)

-- the destination at the start of these bytes: its length, and its text (CommonMark 6.3)
unfoldable pub destination_at : ℕ → List ℕ → Option (ℕ × List ℕ)
destination_at deepest bs =
    if begins less_than bs then bracketed_at (drop 1 bs) else option_and_then (unbracketed bs) (bare_len deepest 0 0 bs)
