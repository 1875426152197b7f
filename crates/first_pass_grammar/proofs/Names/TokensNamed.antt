-- Each text that the tokens of a line or a cell name is among the texts that the line is read with.
use Rattle.std.proofs.Common.{◌≡◌, ℕ, ◌<◌, false, List, length, sym, subst, true≢false}
use Rattle.first_pass_grammar.proofs.Common.{slice_get_within, CowStr, ItemBody, SynthesizeText, Piece, Token, MathBraces, Inline, found_at}
use Rattle.first_pass_tokens.specs.declared.pieces.TokenStart.{TokenStart}
use Rattle.first_pass_tokens.specs.declared.pieces.TokenStart.TheVariants.{Ready, Reference, Dashes}
use Rattle.first_pass_tokens.specs.NamedTexts.{MakesPiece}
use Rattle.first_pass_tokens.proofs.AlikeLemmas.{names_text, NamesNone, ReadyNamesNone, found_none}

-- a body that names a text names one of these
abbrev pub NamesWithin : List CowStr → ItemBody → Type 0
NamesWithin texts (SynthesizeText ix) = ix.0 < length texts
NamesWithin texts _ = Unit {0}

-- a piece whose token names a text names one of these
abbrev pub PieceWithin : List CowStr → Piece → Type 0
PieceWithin texts (Token dropped n body) = NamesWithin texts body
PieceWithin texts _ = Unit {0}

none_within : (texts : List CowStr) (body : ItemBody) → names_text body ≡ false → NamesWithin texts body
none_within texts (SynthesizeText ix) h = absurd (true≢false h)
none_within texts _ h = tt

ready_within : (texts : List CowStr) (p : Piece) → NamesNone p → PieceWithin texts p
ready_within texts (Token dropped n body) h = none_within texts body h
ready_within texts p h = tt

becomes_within : (texts : List CowStr) (b : MathBraces) (found : TokenStart) (p : Piece) → ReadyNamesNone found → MakesPiece texts b found p
    → PieceWithin texts p
becomes_within texts b (Ready piece) p none is = subst (PieceWithin texts) (sym is) (ready_within texts piece none)
becomes_within texts b (Reference n c) p none is = subst (PieceWithin texts) (sym is.2) (slice_get_within texts is.0.0 is.1.0 is.1.1)
becomes_within texts b (Dashes n) p none is = subst (PieceWithin texts) (sym is.2) (slice_get_within texts is.0.0 is.1.0 is.1.1)
becomes_within texts b found p none is = subst (PieceWithin texts) (sym is) tt

-- the piece at a place names one of these texts, if it names a text
pub piece_within : (texts : List CowStr) (b : MathBraces) (s : Inline) (at : ℕ) (p : Piece) → MakesPiece texts b (found_at s at) p → PieceWithin texts p
piece_within texts b s at p is = becomes_within texts b (found_at s at) p (found_none s at) is
