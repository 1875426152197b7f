-- The bytes in the range of each token of possible markup.
use Rattle.std.specs.Prelude.{◌≡◌, ◌⊎◌, ℕ, ◌+◌, ◌-◌, ◌==◌, ◌<◌, ◌≤◌, true, false, List, [], ◌∷◌, drop, slice_index, Option, Some, None, if◌then◌else◌}
use Rattle.first_pass_items.specs.Bytes.{exclamation_mark, dollar_sign, hyphen, full_stop, less_than, left_bracket, backslash, right_bracket, backquote, pipe}
use Rattle.first_pass_items.specs.declared.item.Item.{Item}
use Rattle.first_pass_items.specs.declared.item.ItemBody.{ItemBody}
use Rattle.first_pass_items.specs.declared.item.ItemBody.TheVariants.{MaybeEmphasis, MaybeMath, MaybeSmartQuote, SynthesizeChar, SynthesizeText, MaybeCode}
use Rattle.first_pass_items.specs.declared.item.ItemBody.TheVariants.{MaybeHtml, MaybeLinkOpen, MaybeLinkClose, MaybeImage}
use Rattle.first_pass_tree.specs.Forest.{is_text}
use Rattle.first_pass_entities.specs.Entities.{entity_at}
use Rattle.first_pass_tokens.specs.Pieces.{is_delimiter, is_quote, run_at}

-- n backquotes from an offset on, and none after them (CommonMark 6.1, backtick string)
pub record AreBackquotes (text : List ℕ) (start n : ℕ) : Type 0 where
  pub some : 0 < n
  pub each : (k : ℕ) → start ≤ k → k < start + n → slice_index text k ≡ backquote
  pub following : (slice_index text (start + n) == backquote) ≡ false

-- the character for n equal bytes in a row: a horizontal ellipsis for three full stops, an en dash for two hyphens,
-- an em dash for three (this project)
abbrev pub smart_char : ℕ → ℕ → Option ℕ
smart_char byte n =
    if byte == full_stop then (if n == 3 then Some 0x2026 else None)
    else (if byte == hyphen then (if n == 2 then Some 0x2013 else (if n == 3 then Some 0x2014 else None)) else None)

-- the bytes from one offset up to another are equal, and a character replaces them (this project)
pub record IsSmartRun (text : List ℕ) (start «end» c : ℕ) : Type 0 where
  pub byte : ℕ
  pub n : ℕ
  pub to : «end» ≡ start + n
  pub each : (k : ℕ) → start ≤ k → k < start + n → slice_index text k ≡ byte
  pub char : smart_char byte n ≡ Some c

-- the bytes from one offset up to another are the reference that begins there (CommonMark 2.5)
pub record IsReferred (text : List ℕ) (start «end» : ℕ) : Type 0 where
  pub n : ℕ
  pub char : ℕ
  pub to : «end» ≡ start + n
  pub referred : entity_at (drop start text) ≡ Some (n, char)

-- the bytes from one offset up to another are the whole run of hyphens there, four or more (this project)
pub record AreHyphens (text : List ℕ) (start «end» : ℕ) : Type 0 where
  pub to : «end» ≡ start + run_at text start
  pub many : 3 < run_at text start
  pub hyphens : slice_index text start ≡ hyphen

-- A token of possible markup has the bytes of its kind: a delimiter, with the length of the rest of its run; a run of
-- backquotes, after a backslash if it is marked as escaped; its quote; a dollar sign; the bytes that its character or
-- its text replaces; `<`; `![`, `[` or `]` (CommonMark 2.5, 6.1 to 6.6; smart punctuation: this project).
abbrev pub StandsOver : List ℕ → ℕ → ℕ → ItemBody → Type 0
StandsOver text start end (MaybeEmphasis left opens closes) = (end ≡ start + 1) × (is_delimiter (slice_index text start) ≡ true) × (left ≡ run_at text start)
StandsOver text start end (MaybeMath opens closes context) = (end ≡ start + 1) × (slice_index text start ≡ dollar_sign)
StandsOver text start end (MaybeSmartQuote quote opens closes) = (end ≡ start + 1) × (slice_index text start ≡ quote) × (is_quote quote ≡ true)
StandsOver text start end (SynthesizeChar c) = IsSmartRun text start end c
StandsOver text start end (SynthesizeText ix) = IsReferred text start end ⊎ AreHyphens text start end
StandsOver text start end (MaybeCode n escaped) = (end ≡ start + n) × AreBackquotes text start n × (escaped ≡ true → slice_index text (start - 1) ≡ backslash)
StandsOver text start end MaybeHtml = (end ≡ start + 1) × (slice_index text start ≡ less_than)
StandsOver text start end MaybeImage = (end ≡ start + 2) × (slice_index text start ≡ exclamation_mark) × (slice_index text (start + 1) ≡ left_bracket)
StandsOver text start end MaybeLinkOpen = (end ≡ start + 1) × (slice_index text start ≡ left_bracket)
StandsOver text start end (MaybeLinkClose active) = (end ≡ start + 1) × (slice_index text start ≡ right_bracket) × (active ≡ true)
StandsOver text start end _ = Unit {0}

-- each of these tokens has the bytes of its kind (this project)
abbrev pub StandOver : List ℕ → List Item → Type 0
StandOver text [] = Unit {0}
StandOver text (x ∷ xs) = StandsOver text x.start x.«end» x.body × StandOver text xs

-- no byte from one offset up to another is a backquote (CommonMark 6.1)
abbrev pub HasNoBackquote : List ℕ → ℕ → ℕ → Type 0
HasNoBackquote text start end = (k : ℕ) → start ≤ k → k < end → (slice_index text k == backquote) ≡ false

-- no text among these tokens has a backquote (CommonMark 6.1)
abbrev pub TextsHaveNoBackquote : List ℕ → List Item → Type 0
TextsHaveNoBackquote text [] = Unit {0}
TextsHaveNoBackquote text (x ∷ xs) = (is_text x.body ≡ true → HasNoBackquote text x.start x.«end») × TextsHaveNoBackquote text xs

-- each pipe from one offset up to another is directly after a backslash in that range (GFM 4.10)
abbrev pub PipesAreEscaped : List ℕ → ℕ → ℕ → Type 0
PipesAreEscaped text start end = (k : ℕ) → start ≤ k → k < end → slice_index text k ≡ pipe → (start < k) × (slice_index text (k - 1) ≡ backslash)
