-- The pieces of the content of a line. Each offset is into the text.
use Rattle.std.specs.Prelude.{◌≡◌, ℕ, ◌+◌, ◌-◌, ◌==◌, ◌<◌, ◌&&◌, ◌||◌, not, Bool, true, false, List, take, drop, slice_index, length, Option, Some, None}
use Rattle.std.specs.Prelude.{unwrap_or, nat_lt, if◌then◌else◌}
use Rattle.std.specs.Option.{option_map_or}
use Rattle.std.specs.Char.{is_ascii_punctuation, is_ascii_alphanumeric}
use Rattle.std.specs.List.{prefix_len, slice_range}
use Rattle.first_pass_lines.specs.Lines.{is_white_or_line_end}
use Rattle.first_pass_items.specs.Bytes.{exclamation_mark, quotation_mark, dollar_sign, ampersand, apostrophe, hyphen, full_stop, less_than, left_bracket}
use Rattle.first_pass_items.specs.Bytes.{backslash, right_bracket, backquote, left_brace, pipe, right_brace, asterisk, underscore, circumflex, tilde}
use Rattle.first_pass_walk.specs.declared.flank.DelimiterRun.{DelimiterRun}
use Rattle.first_pass_walk.specs.Flank.{first_char, last_char, ends_with_pipe, can_open, can_close}
use Rattle.first_pass_items.specs.declared.item.ItemBody.TheVariants.{MaybeCode, MaybeHtml, MaybeLinkOpen, MaybeLinkClose, MaybeImage, MaybeSmartQuote}
use Rattle.first_pass_items.specs.declared.item.ItemBody.TheVariants.{SynthesizeChar}
use Rattle.first_pass_items.specs.declared.option_set.Options.{Options}
use Rattle.first_pass_entities.specs.Entities.{entity_at}
use Rattle.first_pass_walk.specs.Walk.{is_special}
use Rattle.first_pass_tokens.specs.declared.pieces.TokenStart.{TokenStart}
use Rattle.first_pass_tokens.specs.declared.pieces.TokenStart.TheVariants.{Ready, Reference, Dashes, Dollar, OpenBrace, CloseBrace}
use Rattle.first_pass_tokens.specs.declared.pieces.Piece.{Piece}
use Rattle.first_pass_tokens.specs.declared.pieces.Piece.TheVariants.{Left, Begins, Token, Run}
use Rattle.first_pass_tokens.specs.declared.pieces.Content.{Content}
use Rattle.first_pass_tokens.specs.Braces.{MathBraces}

-- Inline content: its options, the whole text around it, that text up to the last possible end of the content, its
-- start, whether it is that of a cell in a table row, and the brace contexts before it (this project).
pub record Inline : Type 0 where
  pub options : Options
  pub whole : List ℕ
  pub text : List ℕ
  pub start : ℕ
  pub row : Bool
  pub braces : MathBraces

-- a text up to an offset, or all of it (this project)
abbrev pub text_upto : List ℕ → Option ℕ → List ℕ
text_upto text None = text
text_upto text (Some e) = take e text

-- the content, with the text up to its last possible end, after these brace contexts (this project)
abbrev pub content_in : List ℕ → Content → MathBraces → Inline
content_in text c braces = record { options = c.options; whole = c.whole.now; text = text; start = c.start; row = c.row; braces = braces }

-- the content, after these brace contexts (this project)
abbrev pub source : Content → MathBraces → Inline
source c braces = content_in (text_upto c.whole.now c.«end») c braces

-- the length of the run of equal bytes at an offset (CommonMark 6.1, backtick string)
unfoldable pub run_at : List ℕ → ℕ → ℕ
run_at text at = prefix_len (λ b. b == slice_index text at) (drop at text)

-- the piece at a run of backquotes: the whole run is one token, which may begin or end code (CommonMark 6.1)
unfoldable pub backquote_piece : List ℕ → ℕ → Piece
backquote_piece text at = Token 0 (run_at text at) (MaybeCode (run_at text at) false)

-- the piece at a backslash in a row: a pipe after one backslash begins a text that is not escaped, and a pipe after
-- two of them one that is; the backslashes are dropped (GFM 4.10)
abbrev pub pipe_piece : List ℕ → ℕ → Option Piece
pipe_piece text at =
    if slice_index text (at + 1) == pipe then Some (Begins 1 false)
    else (if slice_index text (at + 1) == backslash && slice_index text (at + 2) == pipe then Some (Begins 2 true) else None)

-- The piece at a backslash. Before a run of backquotes it is dropped, and the token of the run is marked as escaped.
-- Before other ASCII punctuation it is dropped, and that byte begins an escaped text. Otherwise it is plain text
-- (CommonMark 2.4, 6.1).
unfoldable pub backslash_piece : List ℕ → ℕ → Piece
backslash_piece text at =
    if slice_index text (at + 1) == backquote then Token 1 (run_at text (at + 1)) (MaybeCode (run_at text (at + 1)) true)
    else (if is_ascii_punctuation (slice_index text (at + 1)) then Begins 1 true else Left 1)

-- the piece at a backslash, in a row or elsewhere (CommonMark 2.4, GFM 4.10)
abbrev pub backslash_piece_in : Bool → List ℕ → ℕ → Piece
backslash_piece_in row text at = unwrap_or (if row then pipe_piece text at else None) (backslash_piece text at)

-- a byte of a delimiter run: * or _ (CommonMark 6.2), ~ (GFM 6.5) or ^ (this project)
abbrev pub is_delimiter : ℕ → Bool
is_delimiter b = b == asterisk || (b == underscore || (b == tilde || b == circumflex))

-- a quote, double or single (this project)
abbrev pub is_quote : ℕ → Bool
is_quote b = b == quotation_mark || b == apostrophe

-- the character before an offset of a content, unless the offset is its start (this project)
unfoldable pub char_before : Inline → ℕ → Option ℕ
char_before s at = if nat_lt s.start at then last_char (take at s.whole) else None

-- the delimiter run of this many bytes at an offset of a content: the character before it is one of the content, the
-- character after it one of the whole text (CommonMark 6.2, delimiter run)
unfoldable pub run_in : Inline → ℕ → ℕ → DelimiterRun
run_in s at size = record {
  delimiter = slice_index s.text at;
  size = size;
  in_row = s.row;
  after_pipe = ends_with_pipe (slice_range s.text s.start at);
  before = char_before s at;
  after = first_char (drop (at + size) s.whole);
}

-- a run of tildes with more than two is no delimiter run (GFM 6.5)
abbrev pub is_too_long : DelimiterRun → Bool
is_too_long r = r.delimiter == tilde && nat_lt 2 r.size

-- the piece of a delimiter run: a token for each of its bytes if it can open or close, otherwise plain text
-- (CommonMark 6.2, GFM 6.5)
abbrev pub run_piece : DelimiterRun → Piece
run_piece r = if (can_open r || can_close r) && not (is_too_long r) then Run r.size (can_open r) (can_close r) else Left r.size

-- the length of the delimiter run at an offset: all equal bytes, or one quote (CommonMark 6.2; quotes: this project)
unfoldable pub run_size : List ℕ → ℕ → ℕ
run_size text at = if is_quote (slice_index text at) then 1 else run_at text at

-- the piece at a delimiter: that of its whole run (CommonMark 6.2)
unfoldable pub delimiter_piece : Inline → ℕ → Piece
delimiter_piece s at = run_piece (run_in s at (run_size s.text at))

-- the token of a quote: a delimiter run of one, with whether it can open and close (this project)
abbrev pub quote_token : DelimiterRun → Piece
quote_token r = Token 0 1 (MaybeSmartQuote r.delimiter (can_open r) (can_close r))

-- the piece at a quote (this project)
unfoldable pub quote_piece : Inline → ℕ → Piece
quote_piece s at = quote_token (run_in s at (run_size s.text at))

-- the piece at a full stop: three of them are a horizontal ellipsis, U+2026 (this project)
unfoldable pub dot_piece : List ℕ → ℕ → Piece
dot_piece text at = if slice_index text (at + 1) == full_stop && slice_index text (at + 2) == full_stop then Token 0 3 (SynthesizeChar 0x2026) else Left 1

-- the piece at a hyphen: a run of two is an en dash, U+2013, a run of three an em dash, U+2014; any other run is
-- plain text (this project)
unfoldable pub dash_piece : List ℕ → ℕ → Piece
dash_piece text at =
    if run_at text at == 2 then Token 0 2 (SynthesizeChar 0x2013)
    else (if run_at text at == 3 then Token 0 3 (SynthesizeChar 0x2014)
    else Left (run_at text at))

-- the piece at a byte that may open or close a link, an image or HTML: the first case that fits, otherwise plain text
-- (CommonMark 6.3 to 6.6)
unfoldable pub bracket_piece : List ℕ → ℕ → Piece
bracket_piece text at =
    if slice_index text at == less_than && not (slice_index text (at + 1) == backslash) then Token 0 1 MaybeHtml
    else (if slice_index text at == exclamation_mark && slice_index text (at + 1) == left_bracket then Token 0 2 MaybeImage
    else (if slice_index text at == left_bracket then Token 0 1 MaybeLinkOpen
    else (if slice_index text at == right_bracket then Token 0 1 (MaybeLinkClose true)
    else Left 1)))

-- the bytes at an offset are `[`, `]`, `![`, or `<` with no backslash after it (CommonMark 6.3 to 6.6)
abbrev pub is_bracket_at : List ℕ → ℕ → Bool
is_bracket_at text at =
    (slice_index text at == less_than && not (slice_index text (at + 1) == backslash))
    || ((slice_index text at == exclamation_mark && slice_index text (at + 1) == left_bracket)
    || (slice_index text at == left_bracket || slice_index text at == right_bracket))

-- The byte at an offset is `!` with no `[` after it, `.` with no `.` after it, `-` with no `-` after it, or a backslash
-- with no ASCII punctuation after it. The piece is one byte of plain text (CommonMark 2.4, 6.4; smart punctuation: this
-- project).
abbrev pub is_plain_mark_at : List ℕ → ℕ → Bool
is_plain_mark_at text at =
    (slice_index text at == exclamation_mark && not (slice_index text (at + 1) == left_bracket))
    || ((slice_index text at == full_stop && not (slice_index text (at + 1) == full_stop))
    || ((slice_index text at == hyphen && not (slice_index text (at + 1) == hyphen))
    || (slice_index text at == backslash && not (is_ascii_punctuation (slice_index text (at + 1))))))

-- the byte at an offset is a backslash before ASCII punctuation other than a backquote (CommonMark 2.4)
abbrev pub is_plain_escape_at : List ℕ → ℕ → Bool
is_plain_escape_at text at =
    slice_index text at == backslash && (is_ascii_punctuation (slice_index text (at + 1)) && not (slice_index text (at + 1) == backquote))

-- A run of delimiters or backquotes, a bracket, a plain mark or, outside a row, a plain escape is at an offset. The
-- piece there needs neither a text nor the brace contexts (this project).
abbrev pub is_quick_at : Bool → List ℕ → ℕ → Bool
is_quick_at row text at =
    is_delimiter (slice_index text at) || (slice_index text at == backquote
    || (is_bracket_at text at || (is_plain_mark_at text at || (not row && is_plain_escape_at text at))))

-- the byte at an offset of a content is an underscore between two ASCII letters or digits of the content: it neither
-- opens nor closes (CommonMark 6.2)
abbrev pub is_inside_word : List ℕ → ℕ → ℕ → Bool
is_inside_word text start at =
    slice_index text at == underscore
    && (nat_lt start at && (is_ascii_alphanumeric (slice_index text (at - 1)) && is_ascii_alphanumeric (slice_index text (at + 1))))

-- the piece at any other special byte: the first case that fits, otherwise plain text (CommonMark 2.4, 6.1 to 6.6;
-- smart punctuation: this project)
unfoldable pub special_piece : Inline → ℕ → Piece
special_piece s at =
    if slice_index s.text at == backslash then backslash_piece_in s.row s.text at
    else (if slice_index s.text at == backquote then backquote_piece s.text at
    else (if is_delimiter (slice_index s.text at) then delimiter_piece s at
    else (if is_quote (slice_index s.text at) then quote_piece s at
    else (if slice_index s.text at == full_stop then dot_piece s.text at
    else bracket_piece s.text at))))

-- the piece at an ampersand: a reference if there is one, otherwise plain text (CommonMark 2.5)
unfoldable pub reference_found : List ℕ → ℕ → TokenStart
reference_found text at = option_map_or (λ (e : ℕ × ℕ). Reference e.0 e.1) (entity_at (drop at text)) (Ready (Left 1))

-- the piece at a hyphen: dashes for a run of four and more (this project)
unfoldable pub dash_found : List ℕ → ℕ → TokenStart
dash_found text at = if nat_lt 3 (run_at text at) then Dashes (run_at text at) else Ready (dash_piece text at)

-- the text has a byte at this offset, and it is neither white space nor part of a line ending (this project)
abbrev pub is_solid_at : List ℕ → ℕ → Bool
is_solid_at text at = nat_lt at (length text) && not (is_white_or_line_end (slice_index text at))

-- the piece at a dollar sign: it can open if a byte follows that is neither white space nor part of a line ending, and
-- close if the content has such a byte before it; no byte past the end of the content counts (math; this project)
unfoldable pub dollar_found : Inline → ℕ → TokenStart
dollar_found s at = Dollar (is_solid_at s.text (at + 1)) (nat_lt s.start at && is_solid_at s.text (at - 1))

-- the piece at a special byte (CommonMark 2.4, 2.5, 6.1 to 6.6; smart punctuation and math: this project)
unfoldable pub special_found : Inline → ℕ → TokenStart
special_found s at =
    if slice_index s.text at == ampersand then reference_found s.text at
    else (if slice_index s.text at == hyphen then dash_found s.text at
    else (if slice_index s.text at == dollar_sign then dollar_found s at
    else (if slice_index s.text at == left_brace then OpenBrace
    else (if slice_index s.text at == right_brace then CloseBrace
    else Ready (special_piece s at)))))

-- what is found at a special byte is this piece, which needs neither a text nor the brace contexts (this project)
abbrev pub IsReadyAt : Inline → ℕ → Piece → Type 0
IsReadyAt s at piece = special_found s at ≡ Ready piece

-- the piece at an offset: a byte that is not special is plain text (CommonMark 6.9, textual content)
unfoldable pub found_at : Inline → ℕ → TokenStart
found_at s at = if is_special s.options (slice_index s.text at) then special_found s at else Ready (Left 1)

-- the number of bytes that a piece takes (this project)
abbrev pub size : Piece → ℕ
size (Left n) = n
size (Begins dropped escaped) = dropped + 1
size (Token dropped n body) = dropped + n
size (Run n opens closes) = n

-- the number of bytes of the piece found at an offset (this project)
abbrev pub found_size : TokenStart → ℕ
found_size (Ready piece) = size piece
found_size (Reference n c) = n
found_size (Dashes n) = n
found_size (Dollar opens closes) = 1
found_size OpenBrace = 1
found_size CloseBrace = 1

-- a piece is not empty, the bytes that it drops before a text end with a backslash, and a token has bytes of its own
-- (this project)
abbrev pub EndsSolid : List ℕ → ℕ → Piece → Type 0
EndsSolid text at (Left n) = 0 < n
EndsSolid text at (Begins dropped escaped) = (0 < dropped) × (slice_index text (at + dropped - 1) ≡ backslash)
EndsSolid text at (Token dropped n body) = 0 < n
EndsSolid text at (Run n opens closes) = 0 < n

-- the same for the piece found at an offset (this project)
abbrev pub FoundSolid : List ℕ → ℕ → TokenStart → Type 0
FoundSolid text at (Ready piece) = EndsSolid text at piece
FoundSolid text at (Reference n c) = 0 < n
FoundSolid text at (Dashes n) = 0 < n
FoundSolid text at (Dollar opens closes) = Unit
FoundSolid text at OpenBrace = Unit
FoundSolid text at CloseBrace = Unit
