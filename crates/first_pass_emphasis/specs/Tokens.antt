-- What a mark is in its level.
use Rattle.std.specs.Prelude.{◌≡◌, ◌⊎◌, ◌≤◌, length, ℕ, zero, suc, ◌+◌, ◌-◌, ◌&&◌, ◌==◌, not, Bool, false, nat_lt, List, [], ◌∷◌, slice_get, Option, Some}
use Rattle.std.specs.Prelude.{None, if◌then◌else◌, unwrap_or}
use Rattle.first_pass_items.specs.Bytes.{tilde}
use Rattle.first_pass_items.specs.OptionWords.{has, strikethrough, subscript}
use Rattle.first_pass_items.specs.declared.item.ItemBody.{ItemBody}
use Rattle.first_pass_items.specs.declared.item.ItemBody.TheVariants.{MaybeEmphasis, MaybeSmartQuote}
use Rattle.first_pass_items.specs.declared.option_set.Options.{Options}
use Rattle.first_pass_inline.specs.declared.mark.Mark.{Mark}
use Rattle.first_pass_inline.specs.declared.mark.MarkKind.{MarkKind}
use Rattle.first_pass_inline.specs.declared.mark.MarkKind.TheVariants.{Link, LinkEnd, Name, NameEnd, Token}
use Rattle.first_pass_inline.specs.declared.mark.Span.{Span}
use Rattle.first_pass_emphasis.specs.declared.run.Run.{Run}
use Rattle.first_pass_emphasis.specs.declared.token.Side.{Side}
use Rattle.first_pass_emphasis.specs.declared.token.Side.TheVariants.{Before, After, Within}
use Rattle.first_pass_emphasis.specs.declared.token.Token.{Token as LevelToken}
use Rattle.first_pass_emphasis.specs.declared.token.Token.TheVariants.{Delimiter, Quotation, Other}

-- what is shown of the name of a wikilink begins at this place: after the pipe, or nothing of it is a level
abbrev pub shown_from : ℕ → Option Span → ℕ
shown_from to None = to
shown_from to (Some shown) = shown.start

-- A level is what is between the brackets of a link or an image (CommonMark 6.2, 6.3, 6.4), or what is shown in the name of
-- a wikilink (this project).
abbrev pub side_of : MarkKind → Side
side_of (Link l) = Before 0
side_of (Name n) = Before (shown_from n.name.«end» n.shown)
side_of LinkEnd = After
side_of NameEnd = After
side_of _ = Within

-- how many delimiters a run has from one of them on, or 0
abbrev pub count_of_token : ItemBody → ℕ
count_of_token (MaybeEmphasis count opens closes) = count
count_of_token _ = 0

abbrev pub count_of : MarkKind → ℕ
count_of (Token body) = count_of_token body
count_of _ = 0

-- how many of these marks, from the first on, are delimiters that count down from this number
abbrev pub counted : ℕ → List Mark → ℕ
counted zero ms = 0
counted (suc n) [] = 0
counted (suc n) (m ∷ ms) = if count_of m.kind == suc n then suc (counted n ms) else 0

-- a run neither opens nor closes if it is of two `~` and strikethrough is off (GFM 6.5)
abbrev pub run_of : Run → Options → Run
run_of r options =
    if (r.byte == tilde && r.size == 2) && not (has options strikethrough)
    then record { byte = r.byte; size = r.size; opens = false; closes = false; has_subscript = r.has_subscript }
    else r

-- the run of so many delimiters that begins with a mark
abbrev pub run_at : List ℕ → Options → Mark → ℕ → Bool → Bool → Run
run_at content options m size opens closes = run_of (record {
  byte = unwrap_or (slice_get content m.part.start) 0;
  size = size;
  opens = opens;
  closes = closes;
  has_subscript = has options subscript;
}) options

abbrev pub token_of_body : List ℕ → Options → Mark → ℕ → ItemBody → LevelToken
token_of_body content options m size (MaybeEmphasis count opens closes) = Delimiter (run_at content options m size opens closes)
token_of_body content options m size (MaybeSmartQuote byte opens closes) = Quotation (record { byte = byte; opens = opens; closes = closes })
token_of_body content options m size _ = Other

abbrev pub token_of_kind : List ℕ → Options → Mark → ℕ → MarkKind → LevelToken
token_of_kind content options m size (Token body) = token_of_body content options m size body
token_of_kind content options m size _ = Other

-- What a mark is in a level that begins at a place, given the marks after it. What is before that place is in no level.
unfoldable pub token_of : List ℕ → Options → ℕ → Mark → List Mark → LevelToken
token_of content options from m following =
    if nat_lt m.part.start from then Other else token_of_kind content options m (1 + counted (count_of m.kind - 1) following) m.kind

-- how many marks a token has
abbrev pub size_of : LevelToken → ℕ
size_of (Delimiter run) = run.size
size_of token = 1

-- how many marks a token has after its first
abbrev pub more_of : LevelToken → ℕ
more_of (Delimiter run) = run.size - 1
more_of token = 0

-- a token has at least its first mark; and those after it count down
pub record HasMarks (m : Mark) (following : List Mark) (t : LevelToken) : Type 0 where
  pub within : more_of t ≤ length following
  pub counts : (more_of t ≡ 0) ⊎ (more_of t ≡ counted (count_of m.kind - 1) following)
  pub size : size_of t ≡ more_of t + 1
