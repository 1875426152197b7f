-- The pieces that `quick_piece` finds at once.
use Rattle.std.proofs.Common.{◌≡◌, ℕ, ◌+◌, ◌<◌, ◌==◌, Bool, false, true, List, length, refl, sym, ap, arith, slice_index}
use Rattle.first_pass_tokens.proofs.Common.{cases_lt, or_parts, ampersand, dollar_sign, left_brace, right_brace, less_than, left_bracket, backslash, backquote}
use Rattle.first_pass_tokens.proofs.Common.{pipe, right_bracket, exclamation_mark, full_stop, hyphen, Piece, Token, Left, Begins, nat_tests, Ready, Inline}
use Rattle.first_pass_tokens.proofs.Common.{is_delimiter, delimiter_piece, backslash_piece_in, backquote_piece, run_at, is_quote, is_bracket_at, is_quick_at}
use Rattle.first_pass_tokens.proofs.Common.{IsReadyAt, MaybeHtml, MaybeImage, MaybeLinkOpen, MaybeLinkClose, is_ascii_punctuation, isnt}
use Rattle.first_pass_tokens.specs.Pieces.{special_found, special_piece, backslash_piece, bracket_piece, dot_piece, dash_found, dash_piece}
use Rattle.first_pass_tokens.proofs.PieceFacts.{run_some, run_same}

pub less_ready : (z : Inline) (at : ℕ) → slice_index z.text at ≡ less_than → (slice_index z.text (at + 1) == backslash) ≡ false
    → IsReadyAt z at (Token 0 1 MaybeHtml)
unfolding special_found special_piece bracket_piece
less_ready z at here other = rw here (rw other refl)

pub left_ready : (z : Inline) (at : ℕ) → slice_index z.text at ≡ left_bracket → IsReadyAt z at (Token 0 1 MaybeLinkOpen)
unfolding special_found special_piece bracket_piece
left_ready z at here = rw here refl

pub right_ready : (z : Inline) (at : ℕ) → slice_index z.text at ≡ right_bracket → IsReadyAt z at (Token 0 1 (MaybeLinkClose true))
unfolding special_found special_piece bracket_piece
right_ready z at here = rw here refl

pub image_ready : (z : Inline) (at : ℕ) → slice_index z.text at ≡ exclamation_mark → (slice_index z.text (at + 1) == left_bracket) ≡ true
    → IsReadyAt z at (Token 0 2 MaybeImage)
unfolding special_found special_piece bracket_piece
image_ready z at here other = rw here (rw other refl)

pub exclamation_ready : (z : Inline) (at : ℕ) → slice_index z.text at ≡ exclamation_mark → (slice_index z.text (at + 1) == left_bracket) ≡ false
    → IsReadyAt z at (Left 1)
unfolding special_found special_piece bracket_piece
exclamation_ready z at here other = rw here (rw other refl)

pub stop_ready : (z : Inline) (at : ℕ) → slice_index z.text at ≡ full_stop → (slice_index z.text (at + 1) == full_stop) ≡ false
    → IsReadyAt z at (Left 1)
unfolding special_found special_piece dot_piece
stop_ready z at here other = rw here (rw other refl)

-- a byte that is no ASCII punctuation is no pipe, backslash or backquote
backslash_first : (b : ℕ) → is_ascii_punctuation b ≡ false → ((b == pipe) ≡ false) × (((b == backslash) ≡ false) × ((b == backquote) ≡ false))
backslash_first b other = (grind (arith, nat_tests, other), (grind (arith, nat_tests, other), grind (arith, nat_tests, other)))

backslash_left : (row : Bool) (text : List ℕ) (at : ℕ) → is_ascii_punctuation (slice_index text (at + 1)) ≡ false
    → backslash_piece_in row text at ≡ Left 1
unfolding backslash_piece
backslash_left row text at other = grind (arith, backslash_first)

pub backslash_ready : (z : Inline) (at : ℕ) → slice_index z.text at ≡ backslash → is_ascii_punctuation (slice_index z.text (at + 1)) ≡ false
    → IsReadyAt z at (Left 1)
unfolding special_found special_piece
backslash_ready z at here other = rw here (ap Ready (backslash_left z.row z.text at other))

-- outside a row, a backslash before ASCII punctuation other than a backquote is an escape
pub escape_ready : (z : Inline) (at : ℕ) → slice_index z.text at ≡ backslash → z.row ≡ false → is_ascii_punctuation (slice_index z.text (at + 1)) ≡ true
    → (slice_index z.text (at + 1) == backquote) ≡ false → IsReadyAt z at (Begins 1 true)
unfolding special_found special_piece backslash_piece
escape_ready z at here outside escaped other = rw (here, outside, other, escaped) refl

pub backquote_ready : (z : Inline) (at : ℕ) (piece : Piece) → slice_index z.text at ≡ backquote → piece ≡ backquote_piece z.text at → IsReadyAt z at piece
unfolding special_found special_piece
backquote_ready z at piece here is = rw here (ap Ready (sym is))

-- a byte with no equal one after it is a run of one
pub run_one : (text : List ℕ) (at b : ℕ) → at < length text → slice_index text at ≡ b → (slice_index text (at + 1) == b) ≡ false → run_at text at ≡ 1
run_one text at b within here other = grind (arith, cases_lt, run_same, run_some)

pub hyphen_ready : (z : Inline) (at : ℕ) → at < length z.text → slice_index z.text at ≡ hyphen → (slice_index z.text (at + 1) == hyphen) ≡ false
    → IsReadyAt z at (Left 1)
unfolding special_found dash_found dash_piece
hyphen_ready z at within here other = let one = run_one z.text at hyphen within here other in rw here (rw one refl)

-- the run of delimiters that begins with a byte
pub delimiter_ready : (z : Inline) (at : ℕ) (piece : Piece) → is_delimiter (slice_index z.text at) ≡ true → piece ≡ delimiter_piece z at → IsReadyAt z at piece
unfolding special_found special_piece
delimiter_ready z at piece h is =
    let no : (c : ℕ) → is_delimiter c ≡ false → slice_index z.text at == c ≡ false = λ c k. isnt is_delimiter (slice_index z.text at) c h k in
    rw (no ampersand refl, no hyphen refl, no dollar_sign refl, no left_brace refl, no right_brace refl, no backslash refl, no backquote refl, h)
    (ap Ready (sym is))

bracket_left : (text : List ℕ) (at : ℕ) → is_bracket_at text at ≡ false → bracket_piece text at ≡ Left 1
unfolding bracket_piece
bracket_left text at none = grind (arith, or_parts)

-- where `quick_piece` finds none, each byte but a backslash, a quote and a full stop is plain text
pub other_plain : (z : Inline) (at : ℕ) → is_quick_at z.row z.text at ≡ false → (slice_index z.text at == backslash) ≡ false
    → is_quote (slice_index z.text at) ≡ false → (slice_index z.text at == full_stop) ≡ false → special_piece z at ≡ Left 1
unfolding special_piece
other_plain z at none first quote stop = grind (arith, or_parts, bracket_left)
