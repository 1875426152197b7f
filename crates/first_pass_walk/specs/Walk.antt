-- The special bytes, the next of them, and the walk over them. A special byte may begin a token other than plain text,
-- end a cell, or open or close a brace context.
use Rattle.std.specs.Prelude.{◌≡◌, ℕ, ◌+◌, ◌-◌, ◌^◌, ◌<◌, ◌≤◌, ◌==◌, ◌&&◌, ◌||◌, ◌⊎◌, Bool, true, false, nat_lt, List, [], ◌∷◌, length}
use Rattle.std.specs.Prelude.{slice_index, Option, None}
use Rattle.std.specs.List.{slice_index_or, list_any}
use Rattle.std.specs.Char.{is_ascii_alphabetic}
use Rattle.std.specs.Int.{bit_at}
use Rattle.first_pass_items.specs.Bytes.{nul, line_feed, carriage_return, space, exclamation_mark, quotation_mark, dollar_sign, ampersand, apostrophe, asterisk}
use Rattle.first_pass_items.specs.Bytes.{hyphen, full_stop, less_than, left_bracket, backslash, right_bracket, circumflex, underscore, backquote, left_brace}
use Rattle.first_pass_items.specs.Bytes.{pipe, right_brace, tilde}
use Rattle.first_pass_items.specs.declared.option_set.Options.{Options}
use Rattle.first_pass_items.specs.OptionWords.{has, tables, strikethrough, smart_punctuation, math, superscript, subscript}
use Rattle.first_pass_walk.specs.declared.walk.LoopInstruction.{LoopInstruction}
use Rattle.first_pass_walk.specs.declared.walk.LoopInstruction.TheVariants.{ContinueAndSkip, BreakAtWith}

-- the byte is one of these (this project)
abbrev pub is_one_of : List ℕ → ℕ → Bool
is_one_of bytes b = list_any (λ c. b == c) bytes

-- line endings, `! & * < [ \ ] _` and the backquote (CommonMark 6)
abbrev pub begins_token : ℕ → Bool
begins_token =
    is_one_of (line_feed ∷ carriage_return ∷ exclamation_mark ∷ ampersand ∷ asterisk ∷ less_than
    ∷ left_bracket ∷ backslash ∷ right_bracket ∷ underscore ∷ backquote ∷ [])

-- with tables, the pipe, which ends a cell (GFM 4.10)
abbrev pub begins_cell : Options → ℕ → Bool
begins_cell options b = has options tables && b == pipe

-- `~` with strikethrough (GFM 6.5) or subscript, and `^` with superscript (this project)
abbrev pub begins_script : Options → ℕ → Bool
begins_script options b = ((has options strikethrough || has options subscript) && b == tilde) || (has options superscript && b == circumflex)

-- with math, `$`, and the braces that open and close brace contexts (this project)
abbrev pub begins_math : Options → ℕ → Bool
begins_math options b = has options math && is_one_of (dollar_sign ∷ left_brace ∷ right_brace ∷ []) b

-- with smart punctuation, full stops, hyphens and quotes (this project)
abbrev pub begins_smart : Options → ℕ → Bool
begins_smart options b = has options smart_punctuation && is_one_of (quotation_mark ∷ apostrophe ∷ hyphen ∷ full_stop ∷ []) b

-- the special bytes under these options (CommonMark 6; the extensions: this project)
unfoldable pub is_special : Options → ℕ → Bool
is_special options b =
    begins_token b || (begins_cell options b || (begins_script options b || (begins_math options b || begins_smart options b)))

-- the table marks exactly the special bytes (this project)
abbrev pub MarksSpecial : List Bool → Options → Type 0
MarksSpecial lut options = (b : ℕ) → b < 256 → slice_index_or lut b false ≡ is_special options b

-- the table marks the byte at an offset (this project)
abbrev pub is_marked : List Bool → List ℕ → ℕ → Bool
is_marked lut bytes k = slice_index_or lut (slice_index bytes k) false

-- j is the offset of the first marked byte from ix on (this project)
pub record IsNextMarked (lut : List Bool) (bytes : List ℕ) (ix j : ℕ) : Type 0 where
  pub from : ix ≤ j
  pub within : j < length bytes
  pub marked : is_marked lut bytes j ≡ true
  pub least : (k : ℕ) → ix ≤ k → k < j → is_marked lut bytes k ≡ false

-- no byte from ix on is marked (this project)
abbrev pub NoneMarkedFrom : List Bool → List ℕ → ℕ → Type 0
NoneMarkedFrom lut bytes ix = (k : ℕ) → ix ≤ k → k < length bytes → is_marked lut bytes k ≡ false

-- a letter, a space or a byte of a character beyond ASCII (this project)
abbrev pub is_word_byte : ℕ → Bool
is_word_byte b = (is_ascii_alphabetic b || b == space) || (nat_lt 127 b && nat_lt b 256)

-- NUL or a word byte (this project)
abbrev pub is_passed : ℕ → Bool
is_passed b = b == nul || is_word_byte b

-- The mask of n bytes from an offset on. Bit k is 1 exactly if byte k of them is neither NUL nor a word byte, and no bit
-- from n on is set (this project).
pub record AreWordStops (bytes : List ℕ) (at n mask : ℕ) : Type 0 where
  pub within : mask < 2 ^ n
  pub stops : (k : ℕ) → k < n → is_passed (slice_index bytes (at + k)) ≡ (bit_at mask k == 0)

-- j is the offset of the first marked byte among those whose bit is set; bit k is that of the byte at `at + k` (this
-- project)
pub record IsFirstStop (lut : List Bool) (bytes : List ℕ) (at mask j : ℕ) : Type 0 where
  pub from : at ≤ j
  pub within : j < length bytes
  pub set : bit_at mask (j - at) ≡ 1
  pub marked : is_marked lut bytes j ≡ true
  pub least : (k : ℕ) → at + k < j → bit_at mask k ≡ 1 → is_marked lut bytes (at + k) ≡ false

-- the table marks neither NUL nor a word byte (this project)
abbrev pub SparesWords : List Bool → Type 0
SparesWords lut = (b : ℕ) → is_passed b ≡ true → slice_index_or lut b false ≡ false

-- a table of marks, and the bytes of a walk with that table (this project)
pub record Marking : Type 0 where
  pub lut : List Bool
  pub bytes : List ℕ

-- A walk from an offset with a closure f, to a result and the final state of f. `step f k b i g` means: a call of f at
-- the offset k with the byte b may return i and leave the state g. Each call is at the next marked byte after those
-- that the previous call skips; there is one call for each number in the list of skips. Then the walk returns the
-- length if no marked byte is left, or the result with which one more call breaks (this project).
abbrev pub Walks : {F T : Type 0} → (F → ℕ → ℕ → LoopInstruction (Option T) → F → Type 0) → Marking → List ℕ → ℕ × F → (ℕ × Option T) × F → Type 0
Walks {F} {T} step marking [] (ix, f) (answer, last) =
    (NoneMarkedFrom marking.lut marking.bytes ix × (answer ≡ (length marking.bytes, None)) × (last ≡ f))
    ⊎ ((j : ℕ) × IsNextMarked marking.lut marking.bytes ix j × step f j (slice_index marking.bytes j) (BreakAtWith answer.0 answer.1) last)
Walks {F} {T} step marking (n ∷ ns) (ix, f) (answer, last) =
    (j : ℕ) × IsNextMarked marking.lut marking.bytes ix j × (g : F) × step f j (slice_index marking.bytes j) (ContinueAndSkip n) g
    × Walks step marking ns (j + n + 1, g) (answer, last)

-- the result of a walk from ix with the closure f, and the state of f after the last call: some sequence of calls leads
-- to them (this project)
pub record IsWalk {F T : Type 0} (step : F → ℕ → ℕ → LoopInstruction (Option T) → F → Type 0) (lut : List Bool) (bytes : List ℕ) (ix : ℕ) (f : F)
    (answer : ℕ × Option T) (last : F) : Type 0 where
  pub skips : List ℕ
  pub walk : Walks step (record { lut = lut; bytes = bytes }) skips (ix, f) (answer, last)
