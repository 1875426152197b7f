-- The line of output for a timing of the pass (this project).
use Rattle.std.specs.Prelude.{ℕ, ◌*◌, ◌/◌, ◌%◌, max, List, ◌++◌, codes, decimal}

-- a number of thousandths, as a decimal fraction
abbrev pub thousandths : ℕ → List ℕ
thousandths n = decimal (n / 1000) ++ codes "." ++ decimal (n / 100 % 10) ++ decimal (n / 10 % 10) ++ decimal (n % 10)

-- a number of tenths, as a decimal fraction
abbrev pub tenths : ℕ → List ℕ
tenths n = decimal (n / 10) ++ codes "." ++ decimal (n % 10)

-- the rate in tenths of a megabyte (10^6 bytes) a second, from bytes and nanoseconds; zero nanoseconds count as one
abbrev pub rate : ℕ → ℕ → ℕ
rate bytes nanos = bytes * 10_000 / max 1 nanos

-- a time in nanoseconds, in milliseconds and as a rate for a number of bytes
abbrev pub time_text : ℕ → ℕ → List ℕ
time_text bytes nanos = thousandths (nanos / 1000) ++ codes " ms, " ++ tenths (rate bytes nanos) ++ codes " MB/s"

-- the length of the text, the number of nodes of its tree, and the number of runs
abbrev pub counts_text : ℕ → ℕ → ℕ → List ℕ
counts_text bytes nodes runs =
    decimal bytes ++ codes " bytes, " ++ decimal nodes ++ codes " nodes, best of " ++ decimal runs ++ codes " runs: "

-- the line of a timing: these numbers, the least time of a run, and the time of the first
abbrev pub report_line : ℕ → ℕ → ℕ → ℕ → ℕ → List ℕ
report_line bytes nodes runs nanos first =
    counts_text bytes nodes runs ++ time_text bytes nanos ++ codes "; first run: " ++ time_text bytes first ++ codes "\n"
