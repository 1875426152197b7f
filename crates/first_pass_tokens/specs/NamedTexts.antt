-- The texts that tokens name: those of references (CommonMark 2.5), and of runs of four and more hyphens (smart
-- punctuation).
use Rattle.std.specs.Prelude.{◌≡◌, ◌≤◌, ℕ, zero, suc, ◌+◌, ◌-◌, ◌/◌, ◌%◌, ◌==◌, List, [], ◌∷◌, ◌++◌, slice_get, Some, encode_utf8, if◌then◌else◌}
use Rattle.first_pass_items.specs.declared.cow_str.CowStr.{CowStr}
use Rattle.first_pass_items.specs.CowText.{text_of}
use Rattle.first_pass_items.specs.declared.item.CowIndex.{CowIndex}
use Rattle.first_pass_items.specs.declared.item.ItemBody.TheVariants.{SynthesizeText, MaybeMath}
use Rattle.first_pass_entities.specs.Texts.{TakesNoMemory}
use Rattle.first_pass_tokens.specs.Braces.{MathBraces, dollar_context}
use Rattle.first_pass_tokens.specs.declared.pieces.TokenStart.{TokenStart}
use Rattle.first_pass_tokens.specs.declared.pieces.TokenStart.TheVariants.{Ready, Reference, Dashes, Dollar, OpenBrace, CloseBrace}
use Rattle.first_pass_tokens.specs.declared.pieces.Piece.{Piece}
use Rattle.first_pass_tokens.specs.declared.pieces.Piece.TheVariants.{Left, Token}

-- a text, repeated n times (this project)
abbrev pub times : ℕ → List ℕ → List ℕ
times zero text = []
times (suc n) text = text ++ times n text

-- The numbers of em dashes, and of en dashes after them, for a run of hyphens. If 3 divides its length, only em
-- dashes; otherwise, if 2 does, only en dashes. Otherwise the fewest en dashes such that the rest are em dashes of
-- three hyphens each (this project).
unfoldable pub dash_counts : ℕ → ℕ × ℕ
dash_counts n =
    if n % 3 == 0 then (n / 3, 0)
    else (if n % 2 == 0 then (0, n / 2)
    else (if n % 3 == 2 then ((n - 2) / 3, 1)
    else ((n - 4) / 3, 2)))

-- the dashes for a run of hyphens: U+2014, then U+2013 (this project)
abbrev pub dashes : ℕ → List ℕ
dashes n = times (dash_counts n).0 (encode_utf8 0x2014) ++ times (dash_counts n).1 (encode_utf8 0x2013)

-- an index names this text among these (this project)
abbrev pub NamesAmong : List CowStr → CowIndex → List ℕ → Type 0
NamesAmong texts ix text = (named : CowStr) × (slice_get texts ix.0 ≡ Some named) × (text_of named ≡ text)

-- the piece is a token of n bytes, whose index names this text among these (this project)
abbrev pub IsNamingToken : List CowStr → ℕ → List ℕ → Piece → Type 0
IsNamingToken texts n text piece = (ix : CowIndex) × NamesAmong texts ix text × (piece ≡ Token 0 n (SynthesizeText ix))

-- The piece at an offset after these brace contexts, with the text that it names among these. A reference names its
-- character, a run of hyphens its dashes. A dollar sign is a token of possible math with its context; a brace is
-- plain text (CommonMark 2.5; smart punctuation and math: this project).
abbrev pub MakesPiece : List CowStr → MathBraces → TokenStart → Piece → Type 0
MakesPiece texts braces (Ready ready) piece = piece ≡ ready
MakesPiece texts braces (Reference n c) piece = IsNamingToken texts n (encode_utf8 c) piece
MakesPiece texts braces (Dashes n) piece = IsNamingToken texts n (dashes n) piece
MakesPiece texts braces (Dollar opens closes) piece = piece ≡ Token 0 1 (MaybeMath opens closes (dollar_context braces))
MakesPiece texts braces OpenBrace piece = piece ≡ Left 1
MakesPiece texts braces CloseBrace piece = piece ≡ Left 1

-- these texts are the old ones with others after them, so each index still names the same text (this project)
abbrev pub AreMore : List CowStr → List CowStr → Type 0
AreMore new old = (more : List CowStr) × (new ≡ old ++ more)

-- these texts are the old ones with one more (this project)
abbrev pub AddsOne : (CowStr → Type 0) → List CowStr → List CowStr → Type 0
AddsOne P new old = (text : CowStr) × P text × (new ≡ old ++ text ∷ [])

-- these texts are the old ones with that of the piece at an offset, if it has one; the character of a reference takes
-- no memory, nor do seven dashes or fewer (this project)
abbrev pub AddsNamed : TokenStart → List CowStr → List CowStr → Type 0
AddsNamed (Ready piece) new old = new ≡ old
AddsNamed (Reference n c) new old = AddsOne TakesNoMemory new old
AddsNamed (Dashes n) new old = AddsOne (λ text. (dash_counts n).0 + (dash_counts n).1 ≤ 7 → TakesNoMemory text) new old
AddsNamed (Dollar opens closes) new old = new ≡ old
AddsNamed OpenBrace new old = new ≡ old
AddsNamed CloseBrace new old = new ≡ old
