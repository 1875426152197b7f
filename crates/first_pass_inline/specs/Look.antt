-- What begins at a place of a chain.
use Rattle.std.specs.Prelude.{ℕ, ◌+◌, ◌-◌, ◌<◌, ◌≤◌, nat_lt, Bool, true, false, All, List, [], ◌∷◌, drop, slice_get, Option, Some, None, if◌then◌else◌}
use Rattle.std.specs.Option.{option_map_or}
use Rattle.first_pass_items.specs.declared.cow_str.CowStr.{CowStr}
use Rattle.first_pass_items.specs.declared.item.Item.{Item}
use Rattle.first_pass_items.specs.declared.item.ItemBody.{ItemBody}
use Rattle.first_pass_items.specs.declared.item.ItemBody.TheVariants.{MaybeCode, MaybeHtml, MaybeLinkOpen, MaybeLinkClose, MaybeImage, MaybeMath}
use Rattle.first_pass_items.specs.declared.option_set.Options.{Options}
use Rattle.first_pass_atoms.specs.Autolinks.{autolink_at}
use Rattle.first_pass_atoms.specs.RawHtml.{raw_html_at}
use Rattle.first_pass_atoms.specs.TokenEnds.{code_end, math_end}
use Rattle.first_pass_atoms.specs.declared.autolinks.Autolink.{Autolink}
use Rattle.first_pass_atoms.specs.declared.token_ends.MathEnd.{MathEnd}
use Rattle.first_pass_content.specs.Tokens.{IsWholeToken}
use Rattle.first_pass_content.specs.declared.tokens.PlacedToken.{PlacedToken}
use Rattle.first_pass_labels.specs.declared.label_table.FootnoteDef.{FootnoteDef}
use Rattle.first_pass_labels.specs.declared.label_table.LinkDef.{LinkDef}
use Rattle.first_pass_inline.specs.declared.mark.Mark.{Mark}
use Rattle.first_pass_inline.specs.declared.mark.MarkKind.{MarkKind}
use Rattle.first_pass_inline.specs.declared.mark.MarkKind.TheVariants.{Autolink as AutolinkMark, Code, Math, RawHtml, Token}
use Rattle.first_pass_inline.specs.declared.mark.Span.{Span}
use Rattle.first_pass_inline.specs.declared.pair.Place.{Place}
use Rattle.first_pass_inline.specs.declared.pair.View.{View}
use Rattle.first_pass_inline.specs.declared.pair.View.TheVariants.{AtEnd, Opens, Closes, Piece}

-- A chain: its tokens as nodes and with their places, the bytes of its content, the options, and the tables of
-- definitions and of footnotes.
pub record Chain : Type 0 where
  pub nodes : List (ℕ × Item)
  pub tokens : List PlacedToken
  pub bytes : List ℕ
  pub options : Options
  pub definitions : List (CowStr × LinkDef)
  pub footnotes : List (CowStr × FootnoteDef)

abbrev pub span : ℕ → ℕ → Span
span from to = record { start = from; «end» = to }

abbrev pub mark_of : ℕ → ℕ → MarkKind → Mark
mark_of from to kind = record { part = span from to; kind = kind }

abbrev pub place_with : ℕ → ℕ → Place
place_with index offset = record { index = index; offset = offset }

-- the mark of a token that stands for itself, from a place on
abbrev pub token_from : ℕ → PlacedToken → Mark
token_from from t = mark_of from t.«end» (Token t.body)

-- the place after the token with an index
abbrev pub after_token : ℕ → PlacedToken → Place
after_token index t = place_with (index + 1) t.«end»

-- a token that stands for itself
abbrev pub plain : ℕ → PlacedToken → View
plain index t = Piece (token_from t.start t) (after_token index t)

-- the index of the first of these tokens that ends after an offset, given the index of the first one
abbrev pub index_at : List PlacedToken → ℕ → ℕ → ℕ
index_at [] index offset = index
index_at (t ∷ ts) index offset = if nat_lt offset t.«end» then index else index_at ts (index + 1) offset

-- the place at an offset that is in the token with an index, or after it
abbrev pub place_in : List PlacedToken → ℕ → ℕ → Place
place_in tokens index offset = place_with (index_at (drop index tokens) index offset) offset

abbrev pub place_at : Chain → ℕ → ℕ → Place
place_at c index offset = place_in c.tokens index offset

-- the length of the run of backquotes that a token is, or 0 (CommonMark 6.1)
abbrev pub run_len : ItemBody → ℕ
run_len (MaybeCode count escaped) = count
run_len _ = 0

-- The code span from one token to another, which has this index. It begins with as many backquotes as it ends with. If a
-- backslash precedes the first token, its first backquote is text, and not in the span (CommonMark 2.4, 6.1).
abbrev pub code_piece : PlacedToken → ℕ → PlacedToken → View
code_piece t last u = Piece (mark_of (t.«end» - run_len u.body) u.«end» (Code (span t.«end» u.start))) (after_token last u)

-- what a run of backquotes begins: a code span, or itself (CommonMark 6.1)
unfoldable pub view_code : Chain → ℕ → PlacedToken → View
view_code c index t =
    option_map_or (λ last. option_map_or (code_piece t last) (slice_get c.tokens last) (plain index t)) (code_end c.nodes index) (plain index t)

-- the place after the opening dollar signs of math (this project)
abbrev pub math_from : Chain → ℕ → PlacedToken → Bool → ℕ
math_from c index t display = if display then option_map_or (λ (u : PlacedToken). u.«end») (slice_get c.tokens (index + 1)) t.«end» else t.«end»

-- the place of the closing dollar signs of math (this project)
abbrev pub math_to : Chain → MathEnd → ℕ
math_to c e =
    option_map_or (λ (u : PlacedToken). u.start) (slice_get c.tokens (if e.display then e.last - 1 else e.last)) 0

-- the math from the token with an index to the last one of this end (this project)
abbrev pub math_piece : Chain → ℕ → PlacedToken → MathEnd → PlacedToken → View
math_piece c index t e u =
    Piece (mark_of t.start u.«end» (Math e.display (span (math_from c index t e.display) (math_to c e)))) (after_token e.last u)

-- what a dollar sign begins: math, or itself (this project)
unfoldable pub view_math : Chain → ℕ → PlacedToken → View
view_math c index t =
    option_map_or (λ (e : MathEnd). option_map_or (math_piece c index t e) (slice_get c.tokens e.last) (plain index t)) (math_end c.nodes index)
    (plain index t)

-- what a `<` begins if it begins no autolink: raw HTML up to this place, or itself (CommonMark 6.6)
abbrev pub view_raw : Chain → ℕ → PlacedToken → Option ℕ → View
view_raw c index t None = plain index t
view_raw c index t (Some to) = Piece (mark_of t.start to RawHtml) (place_at c (index + 1) to)

-- what a `<` begins: this autolink, or without one raw HTML or itself (CommonMark 6.5, 6.6)
unfoldable pub view_html : Chain → ℕ → PlacedToken → Option Autolink → View
view_html c index t None = view_raw c index t (raw_html_at c.bytes t.start)
view_html c index t (Some a) = Piece (mark_of t.start a.«end» (AutolinkMark a.form)) (place_at c (index + 1) a.«end»)

-- What a token begins: a bracket, an atom, which binds tighter than brackets, or itself (CommonMark 6.1 to 6.6, and this
-- project).
abbrev pub view_body : Chain → ℕ → PlacedToken → ItemBody → View
view_body c index t MaybeLinkOpen = Opens (token_from t.start t) (after_token index t)
view_body c index t MaybeImage = Opens (token_from t.start t) (after_token index t)
view_body c index t (MaybeLinkClose active) = Closes (token_from t.start t) (after_token index t)
view_body c index t (MaybeCode count escaped) = view_code c index t
view_body c index t (MaybeMath can_open can_close context) = view_math c index t
view_body c index t MaybeHtml = view_html c index t (autolink_at c.bytes t.start)
view_body c index t _ = plain index t

-- what begins at a place of a token; the rest of a token of which a part is read is text
abbrev pub view_token : Chain → Place → Option PlacedToken → View
view_token c p None = AtEnd
view_token c p (Some t) =
    if nat_lt t.start p.offset then Piece (token_from p.offset t) (after_token p.index t) else view_body c p.index t t.body

-- what begins at a place
unfoldable pub look : Chain → Place → View
look c p = view_token c p (slice_get c.tokens p.index)

-- the place after what begins at a place is after its token, and within the chain
abbrev pub IsFurther : ℕ → ℕ → View → Type 0
IsFurther from to AtEnd = to ≤ from
IsFurther from to (Opens mark q) = (from < q.index) × (q.index ≤ to)
IsFurther from to (Closes mark q) = (from < q.index) × (q.index ≤ to)
IsFurther from to (Piece mark q) = (from < q.index) × (q.index ≤ to)

-- each token begins and ends between characters of the content
abbrev pub AreWhole : Chain → Type 0
AreWhole c = All (IsWholeToken c.bytes) c.tokens
