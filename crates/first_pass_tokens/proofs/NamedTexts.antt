-- Texts that tokens name stay named while more are appended, and each token of a line names one of them, if it names
-- a text.
use Rattle.std.proofs.Common.{◌≡◌, ℕ, zero, suc, ◌+◌, List, ◌∷◌, ◌++◌, length, slice_get, Option, Some, sym, ap, ◌∙◌, append_assoc, append-nil, arith, []}
use Rattle.first_pass_tokens.proofs.Common.{CowStr, Item, Piece, MathBraces, braces_after, Reference, Dashes, Inline, found_at, size, NamesAmong, MakesPiece}
use Rattle.first_pass_tokens.proofs.Common.{AreMore, Spot, ArePieces, IsInPieces, AreLineTokens, IsCell, CowIndex, TokenStart}
use Rattle.first_pass_tokens.proofs.ChainLemmas.{slice_get-following}

pub more_none : (texts : List CowStr) → AreMore texts texts
more_none texts = ([], sym (append-nil texts))

pub more_both : (new mid old : List CowStr) → AreMore new mid → AreMore mid old → AreMore new old
more_both new mid old e f = (f.0 ++ e.0, e.1 ∙ ap (λ (xs : List CowStr). xs ++ e.0) f.1 ∙ append_assoc old f.0 e.0)

got_front : (xs ys : List CowStr) (k : ℕ) (cow : CowStr) → slice_get xs k ≡ Some cow → slice_get (xs ++ ys) k ≡ Some cow
got_front [] ys k cow h = cc
got_front (x ∷ xs) ys zero cow h = h
got_front (x ∷ xs) ys (suc k) cow h = got_front xs ys k cow h

pub among_more : (new old : List CowStr) (ix : CowIndex) (text : List ℕ) → AreMore new old → NamesAmong old ix text → NamesAmong new ix text
among_more new old ix text more named = (named.0, ap (λ (xs : List CowStr). slice_get xs ix.0) more.1 ∙ got_front old more.0 ix.0 named.0 named.1, named.2)

pub among_last : (new old : List CowStr) (ix : CowIndex) (cow : CowStr) → ix.0 ≡ length old → new ≡ old ++ cow ∷ [] → slice_get new ix.0 ≡ Some cow
among_last new old ix cow at is = ap (slice_get new) at ∙ ap (λ (xs : List CowStr). slice_get xs (length old)) is ∙ slice_get-following old cow

pub becomes_more : (new old : List CowStr) (b : MathBraces) (found : TokenStart) (p : Piece) → AreMore new old → MakesPiece old b found p
    → MakesPiece new b found p
becomes_more new old b (Reference n c) p more is = (is.0, among_more new old is.0 _ more is.1, is.2)
becomes_more new old b (Dashes n) p more is = (is.0, among_more new old is.0 _ more is.1, is.2)
becomes_more new old b _ p more is = is

pub pieces_more : (new old : List CowStr) (s : Inline) (at : ℕ) (b : MathBraces) (ps : List Piece) (to : Spot) → AreMore new old → ArePieces old s at b ps to
    → ArePieces new s at b ps to
pieces_more new old s at b [] to more h = h
pieces_more new old s at b (p ∷ ps) to more h = grind (arith, becomes_more, pieces_more new old s (at + size p) (braces_after (found_at s at) b) ps to more h.2)

division_more : {new old : List CowStr} {s : Inline} {ps : List Piece} {to : Spot} → AreMore new old → IsInPieces old s ps to → IsInPieces new s ps to
division_more {new} {old} {s} {ps} {to} more d = record { divided = pieces_more new old s s.start s.braces ps to more d.divided; ended = d.ended }

-- a line stays one while more texts are appended, and so does a cell
pub line_more : {new old : List CowStr} {s : Inline} {tokens : List Item} {answer : ℕ × Option Item} {after : MathBraces}
    → AreMore new old → AreLineTokens old s tokens answer after
    → AreLineTokens new s tokens answer after
line_more more line = grind (arith, division_more)

pub cell_more : {new old : List CowStr} {s : Inline} {tokens : List Item} {end : ℕ} {after : MathBraces}
    → AreMore new old → IsCell old s tokens end after → IsCell new s tokens end after
cell_more more cell = record { pieces = cell.pieces; division = division_more more cell.division; tokens_are = cell.tokens_are }
