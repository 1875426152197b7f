-- Delimiter runs: which one can be the opener of which closer.
use Rattle.std.specs.Prelude.{ℕ, ◌+◌, ◌%◌, ◌==◌, ◌&&◌, ◌||◌, not, Bool, nat_lt, min, if◌then◌else◌}
use Rattle.first_pass_items.specs.Bytes.{circumflex, tilde}
use Rattle.first_pass_emphasis.specs.declared.role.Format.{Format}
use Rattle.first_pass_emphasis.specs.declared.role.Format.TheVariants.{Emphasis, Strong, Strikethrough, Superscript, Subscript}
use Rattle.first_pass_emphasis.specs.declared.run.Run.{Run}

-- one of the runs can open and close, the sum of their lengths is a multiple of three, and not both lengths are
-- (CommonMark 6.2)
abbrev pub clash : Run → Run → Bool
clash o c = (o.closes || c.opens) && (((o.size + c.size) % 3 == 0) && not (o.size % 3 == 0 && c.size % 3 == 0))

-- by their lengths two runs of a byte can be opener and closer: runs of `~` have the same length (CommonMark 6.2; GFM 6.5)
abbrev pub agree : Run → Run → Bool
agree o c = if o.byte == tilde then o.size == c.size else not (clash o c)

-- A run, of which so many delimiters are left, can be the opener of a closer, of which so many are left. For what the
-- lengths say, those count that the runs had (CommonMark 6.2; GFM 6.5).
unfoldable pub fits : Run → ℕ → Run → ℕ → Bool
fits o left c more = (nat_lt 0 left && nat_lt 0 more) && (((o.byte == c.byte) && (o.opens && c.closes)) && agree o c)

-- how many delimiters an opener and a closer lose: of `~` all, otherwise two if both have two left, or one
-- (CommonMark 6.2; GFM 6.5)
unfoldable pub width : Run → ℕ → ℕ → ℕ
width o left more = if o.byte == tilde then min left more else min 2 (min left more)

-- The format of a text that has so many delimiters of a run on each side (CommonMark 6.2; GFM 6.5;
-- superscript and subscript: this project).
unfoldable pub format : Run → ℕ → Format
format o w =
    if o.byte == circumflex then Superscript
    else (if o.byte == tilde then (if o.has_subscript && w == 1 then Subscript else Strikethrough)
    else (if w == 2 then Strong else Emphasis))
