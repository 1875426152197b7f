-- The tokens of a line: the pieces of its content, the texts and other tokens that they give, and the break after
-- them.
use Rattle.std.specs.Prelude.{◌≡◌, ℕ, ◌+◌, ◌-◌, ◌%◌, ◌==◌, ◌<◌, ◌≤◌, ◌&&◌, ◌||◌, Bool, true, false, List, [], ◌∷◌, length, drop, slice_index, Option, Some}
use Rattle.std.specs.Prelude.{None, IfSome, nat_lt, nat_le, min, if◌then◌else◌}
use Rattle.std.specs.List.{slice_range, prefix_len, suffix_len}
use Rattle.std.specs.Char.{is_ascii_alphanumeric}
use Rattle.first_pass_items.specs.Bytes.{line_feed, carriage_return, backslash, hyphen, pipe}
use Rattle.first_pass_items.specs.OptionWords.{has, tables}
use Rattle.first_pass_items.specs.declared.item.Item.{Item}
use Rattle.first_pass_items.specs.declared.item.ItemBody.{ItemBody}
use Rattle.first_pass_items.specs.declared.item.ItemBody.TheVariants.{SoftBreak, HardBreak}
use Rattle.first_pass_lines.specs.Lines.{is_line_end, is_content, is_white, line_len}
use Rattle.first_pass_walk.specs.Walk.{IsNextMarked}
use Rattle.first_pass_tokens.specs.declared.pieces.Piece.{Piece}
use Rattle.first_pass_tokens.specs.declared.pieces.Piece.TheVariants.{Left, Begins, Token, Run}
use Rattle.first_pass_tokens.specs.Chains.{token, run_tokens, add_token, add_tokens, add_text}
use Rattle.first_pass_items.specs.declared.cow_str.CowStr.{CowStr}
use Rattle.first_pass_tokens.specs.Pieces.{Inline, found_at, size}
use Rattle.first_pass_tokens.specs.Braces.{MathBraces, braces_after}
use Rattle.first_pass_tokens.specs.NamedTexts.{MakesPiece}

-- with tables, a pipe ends the content of a cell (GFM 4.10)
abbrev pub ends_cell : Inline → ℕ → Bool
ends_cell s b = s.row && (has s.options tables && b == pipe)

-- the content ends at this offset: at a line ending or the end of the text (CommonMark 2.1), or at a pipe that ends a
-- cell; an escaped pipe is inside a piece (GFM 4.10)
unfoldable pub content_ends_at : Inline → ℕ → Bool
content_ends_at s at = nat_le (length s.text) at || (is_line_end (slice_index s.text at) || ends_cell s (slice_index s.text at))

-- an ASCII letter, a digit or a hyphen (this project)
abbrev pub is_word_or_hyphen : ℕ → Bool
is_word_or_hyphen b = is_ascii_alphanumeric b || b == hyphen

-- the byte at an offset is a pipe, or a letter, digit or hyphen before a pipe (this project)
abbrev pub is_near_pipe : List ℕ → ℕ → Bool
is_near_pipe text at = slice_index text at == pipe || (is_word_or_hyphen (slice_index text at) && slice_index text (at + 1) == pipe)

-- the content ends at this offset, and the first marked byte from its start on is there (this project)
pub record EndsAtFirstMark (lut : List Bool) (s : Inline) (at : ℕ) : Type 0 where
  pub first : IsNextMarked lut s.text s.start at
  pub ended : content_ends_at s at ≡ true

-- an offset with the brace contexts before it (this project)
pub record Spot : Type 0 where
  pub at : ℕ
  pub braces : MathBraces

abbrev pub spot : ℕ → MathBraces → Spot
spot at braces = record { at = at; braces = braces }

-- the pieces of a content from one offset up to another: each is that at its offset, with its text among these; the
-- next one follows it, with the brace contexts after it (this project)
abbrev pub ArePieces : List CowStr → Inline → ℕ → MathBraces → List Piece → Spot → Type 0
ArePieces texts s at braces [] to = spot at braces ≡ to
ArePieces texts s at braces (p ∷ ps) to =
    (content_ends_at s at ≡ false) × MakesPiece texts braces (found_at s at) p × ArePieces texts s (at + size p) (braces_after (found_at s at) braces) ps to

-- the content up to the end of its line, divided into pieces, with their texts among these (this project)
pub record IsInPieces (texts : List CowStr) (s : Inline) (pieces : List Piece) (to : Spot) : Type 0 where
  pub divided : ArePieces texts s s.start s.braces pieces to
  pub ended : content_ends_at s to.at ≡ true

-- the chain with the text or the tokens of a piece after it, and no text past an offset; a dropped backslash is in no
-- token (CommonMark 2.4)
abbrev pub add_piece : ℕ → ℕ → Piece → List Item → List Item
add_piece stop at (Left n) chain = add_text at (min (at + n) stop) false chain
add_piece stop at (Begins dropped escaped) chain = add_text (at + dropped) (min (at + (dropped + 1)) stop) escaped chain
add_piece stop at (Token dropped n body) chain = add_token chain (token (at + dropped) n body)
add_piece stop at (Run n opens closes) chain = add_tokens chain (run_tokens at n opens closes)

-- the chain with the texts and tokens of these pieces after it (this project)
abbrev pub add_pieces : ℕ → ℕ → List Piece → List Item → List Item
add_pieces stop at [] chain = chain
add_pieces stop at (p ∷ ps) chain = add_pieces stop (at + size p) ps (add_piece stop at p chain)

-- the length of the line ending at an offset: 0 at the end of the text, 2 for `\r\n` (CommonMark 2.1)
unfoldable pub line_end_len : Inline → ℕ → ℕ
line_end_len s end =
    if nat_le (length s.text) end then 0
    else (if slice_index s.text end == carriage_return && slice_index s.text (end + 1) == line_feed then 2 else 1)

-- the number of bytes of white space at the end of the content (this project; CommonMark 6.7 and 6.8 have spaces)
unfoldable pub blanks_at_end : Inline → ℕ → ℕ
blanks_at_end s end = suffix_len is_white (slice_range s.text s.start end)

-- the number of backslashes at the end of the content (CommonMark 2.4)
unfoldable pub backslashes_at_end : Inline → ℕ → ℕ
backslashes_at_end s end = suffix_len (λ b. b == backslash) (slice_range s.text s.start end)

-- a backslash that is not escaped is directly before the line ending, and bytes follow the line ending (CommonMark
-- 6.7)
unfoldable pub breaks_by_backslash : Inline → ℕ → Bool
breaks_by_backslash s end = (backslashes_at_end s end % 2 == 1) && nat_lt (end + line_end_len s end) (length s.text)

-- the end of the last text of the content: before a backslash that breaks the line (CommonMark 6.7), or before the
-- white space (this project; CommonMark 6.8 has spaces)
unfoldable pub text_end : Inline → ℕ → ℕ
text_end s end = if breaks_by_backslash s end then end - 1 else end - blanks_at_end s end

-- The break from the end of a content up to an offset: hard by the last backslash of the content (CommonMark 6.7);
-- hard by two or more bytes of white space at its end, also tabs (this project; CommonMark 6.7 requires two or more
-- spaces); otherwise soft (CommonMark 6.8).
abbrev pub break_of : ℕ → ℕ → Bool → ℕ → Item
break_of end next by_backslash blanks =
    if by_backslash then record { start = end - 1; «end» = next; body = HardBreak true }
    else (if nat_le 2 blanks then record { start = end - blanks; «end» = next; body = HardBreak false }
    else record { start = end; «end» = next; body = SoftBreak })

-- the break after the content; none if the text ends without a line ending (CommonMark 6.7, 6.8)
unfoldable pub line_break : Inline → ℕ → Option Item
line_break s end =
    if nat_le (length s.text) end then None
    else Some (break_of end (end + line_end_len s end) (breaks_by_backslash s end) (blanks_at_end s end))

-- The tokens of the line whose content is this, no cell's, with each text that they name among these. `answer` has
-- the end of the line, after its line ending, and its break; `after` has the brace contexts there (CommonMark 2.4,
-- 2.5, 6.1 to 6.8).
pub record AreLineTokens (texts : List CowStr) (s : Inline) (tokens : List Item) (answer : ℕ × Option Item) (after : MathBraces) : Type 0 where
  pub no_cell : s.row ≡ false
  pub pieces : List Piece
  pub content_end : ℕ
  pub division : IsInPieces texts s pieces (spot content_end after)
  pub tokens_are : tokens ≡ add_pieces (text_end s content_end) s.start pieces []
  pub answer_is : answer ≡ (content_end + line_end_len s content_end, line_break s content_end)

-- The tokens of the cell whose content is this, with each text that they name among these. The content ends at a pipe
-- that is not escaped, or with its line; `after` has the brace contexts there. White space at its end is in no text,
-- and no break follows (GFM 4.10).
pub record IsCell (texts : List CowStr) (s : Inline) (tokens : List Item) (end : ℕ) (after : MathBraces) : Type 0 where
  pub pieces : List Piece
  pub division : IsInPieces texts s pieces (spot end after)
  pub tokens_are : tokens ≡ add_pieces (end - blanks_at_end s end) s.start pieces []

-- a soft or a hard break (CommonMark 6.7, 6.8)
abbrev pub is_break : ItemBody → Bool
is_break SoftBreak = true
is_break (HardBreak by_backslash) = true
is_break _ = false

-- a break of the line from one offset up to another: it begins in the line, and ends at the end of the line
-- (CommonMark 6.7, 6.8)
pub record IsBreak (start next : ℕ) (x : Item) : Type 0 where
  pub from : start ≤ x.start
  pub before : x.start < x.«end»
  pub to : x.«end» ≡ next
  pub kind : is_break x.body ≡ true

-- the end of a line and its break: the end is after the first line ending from the start of the content on, or that
-- of the text (CommonMark 2.1, 6.7, 6.8)
pub record EndsLine (s : Inline) (answer : ℕ × Option Item) : Type 0 where
  pub within : answer.0 ≤ length s.text
  pub from : s.start ≤ answer.0
  pub later : s.start < length s.text → s.start < answer.0
  pub place : answer.0 ≡ s.start + line_len (drop s.start s.text)
  pub broken : IfSome answer.1 (λ x. IsBreak s.start answer.0 x)

-- the end of the content of a cell: at a pipe that is not escaped, or at the end of the line; after its first byte
-- unless it is empty (GFM 4.10)
pub record EndsCell (s : Inline) (end : ℕ) : Type 0 where
  pub from : s.start ≤ end
  pub within : end ≤ length s.text
  pub in_line : end ≤ s.start + prefix_len is_content (drop s.start s.text)
  pub ended : content_ends_at s end ≡ true
  pub later : content_ends_at s s.start ≡ false → s.start < end
