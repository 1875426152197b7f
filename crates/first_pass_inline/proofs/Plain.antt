-- No piece, and no bracket, has the mark of a name; and each bracket ends between characters.
use Rattle.std.proofs.Common.{◌≡◌, ℕ, zero, suc, ◌<◌, Bool, true, false, All, List, [], ◌∷◌, ◌++◌, length, get_or, slice_get, nat_lt, Option, Some}
use Rattle.std.proofs.Common.{None, refl, sym, ap, ◌∙◌, subst, if◌then◌else◌}
use Rattle.std.proofs.lemmas.Option.{same_Some, slice_get-get_or, slice_get_within}
use Rattle.std.specs.Option.{option_map_or}
use Rattle.std.specs.Str.{IsCharBoundary}
use Rattle.first_pass_items.specs.declared.item.ItemBody.{ItemBody}
use Rattle.first_pass_items.specs.declared.item.ItemBody.TheVariants.{MaybeCode, MaybeHtml, MaybeLinkOpen, MaybeLinkClose, MaybeImage, MaybeMath}
use Rattle.first_pass_atoms.specs.Autolinks.{autolink_at}
use Rattle.first_pass_atoms.specs.RawHtml.{raw_html_at}
use Rattle.first_pass_atoms.specs.TokenEnds.{code_end, math_end}
use Rattle.first_pass_atoms.specs.declared.autolinks.Autolink.{Autolink}
use Rattle.first_pass_atoms.specs.declared.token_ends.MathEnd.{MathEnd}
use Rattle.first_pass_content.specs.declared.tokens.PlacedToken.{PlacedToken}
use Rattle.first_pass_inline.specs.declared.mark.Mark.{Mark}
use Rattle.first_pass_inline.specs.declared.mark.Span.{Span}
use Rattle.first_pass_inline.specs.declared.pair.Place.{Place}
use Rattle.first_pass_inline.specs.declared.pair.View.{View}
use Rattle.first_pass_inline.specs.declared.pair.View.TheVariants.{AtEnd, Opens, Closes, Piece}
use Rattle.first_pass_inline.specs.declared.pair.Verdict.{Verdict}
use Rattle.first_pass_inline.specs.declared.pair.Verdict.TheVariants.{Text, Undefined, Link, FootnoteReference, Name}
use Rattle.first_pass_content.specs.Tokens.{IsWholeToken}
use Rattle.first_pass_inline.specs.Look.{AreWhole, Chain, look, view_code, view_token, view_body, view_html, view_math, view_raw, code_piece}
use Rattle.first_pass_inline.specs.Look.{math_piece, plain, after_token, token_from, mark_of}
use Rattle.first_pass_inline.specs.Sequences.{Sequence, Ends, Single, Stray, Bracket, Paired, Where, first_name, name_in, is_image}
use Rattle.first_pass_inline.specs.Marks.{IsSequence, marks, pair_marks, note_marks}
use Rattle.first_pass_inline.specs.Open.{name_of, name_of_kind}

abbrev pub IsSound : List ℕ → View → Type 0
IsSound bytes AtEnd = Unit {0}
IsSound bytes (Opens m q) = (name_of_kind m.kind ≡ None) × IsCharBoundary bytes m.part.«end»
IsSound bytes (Closes m q) = (name_of_kind m.kind ≡ None) × IsCharBoundary bytes q.offset
IsSound bytes (Piece m q) = name_of_kind m.kind ≡ None

module _ (c : Chain) (index : ℕ) (t : PlacedToken) where
  code_sound : (last : ℕ) (found : Option PlacedToken) → IsSound c.bytes (option_map_or (code_piece t last) found (plain index t))
  code_sound last None = refl
  code_sound last (Some u) = refl

  math_sound : (e : MathEnd) (found : Option PlacedToken) → IsSound c.bytes (option_map_or (math_piece c index t e) found (plain index t))
  math_sound e None = refl
  math_sound e (Some u) = refl

  code_view : (found : Option ℕ)
      → IsSound c.bytes (option_map_or (λ last. option_map_or (code_piece t last) (slice_get c.tokens last) (plain index t)) found (plain index t))
  code_view None = refl
  code_view (Some last) = code_sound last (slice_get c.tokens last)

  math_view : (found : Option MathEnd)
      → IsSound c.bytes
      (option_map_or (λ (e : MathEnd). option_map_or (math_piece c index t e) (slice_get c.tokens e.last) (plain index t)) found (plain index t))
  math_view None = refl
  math_view (Some e) = math_sound e (slice_get c.tokens e.last)

  raw_view : (found : Option ℕ) → IsSound c.bytes (view_raw c index t found)
  raw_view None = refl
  raw_view (Some to) = refl

  html_view : (found : Option Autolink) → IsSound c.bytes (view_html c index t found)
  unfolding view_html
  html_view None = raw_view (raw_html_at c.bytes t.start)
  html_view (Some a) = refl

  view_code_sound : IsSound c.bytes (view_code c index t)
  unfolding view_code
  view_code_sound = code_view (code_end c.nodes index)

  view_math_sound : IsSound c.bytes (view_math c index t)
  unfolding view_math
  view_math_sound = math_view (math_end c.nodes index)

  body_sound : IsWholeToken c.bytes t → (body : ItemBody) → IsSound c.bytes (view_body c index t body)
  body_sound whole MaybeLinkOpen = (refl, whole.1)
  body_sound whole MaybeImage = (refl, whole.1)
  body_sound whole (MaybeLinkClose active) = (refl, whole.1)
  body_sound whole (MaybeCode count escaped) = view_code_sound
  body_sound whole (MaybeMath can_open can_close context) = view_math_sound
  body_sound whole MaybeHtml = html_view (autolink_at c.bytes t.start)
  body_sound whole _ = refl

rest_sound : (later : Bool) (c : Chain) (p : Place) (t : PlacedToken) → IsWholeToken c.bytes t
    → IsSound c.bytes (if later then Piece (token_from p.offset t) (after_token p.index t) else view_body c p.index t t.body)
rest_sound true c p t whole = refl
rest_sound false c p t whole = body_sound c p.index t whole t.body

whole_at : (bytes : List ℕ) (ts : List PlacedToken) (i : ℕ) (t : PlacedToken) → All (IsWholeToken bytes) ts → slice_get ts i ≡ Some t → IsWholeToken bytes t
whole_at bytes ts i t whole h =
    let less : i < length ts = slice_get_within ts i t h in
    subst (IsWholeToken bytes) (same_Some (get_or ts i t) t (sym (slice_get-get_or ts i t less) ∙ h)) (whole i t less)

token_sound : (c : Chain) (p : Place) (found : Option PlacedToken) → ((t : PlacedToken) → found ≡ Some t → IsWholeToken c.bytes t)
    → IsSound c.bytes (view_token c p found)
token_sound c p None whole = tt
token_sound c p (Some t) whole = rest_sound (nat_lt t.start p.offset) c p t (whole t refl)

pub look_sound : (c : Chain) → AreWhole c → (p : Place) → IsSound c.bytes (look c p)
unfolding look
look_sound c whole p = token_sound c p (slice_get c.tokens p.index) (λ t h. whole_at c.bytes c.tokens p.index t whole h)

note_first : (image : Bool) (a b x : Mark) (rest : List Mark) → name_of_kind a.kind ≡ None → name_of_kind x.kind ≡ None
    → name_of (slice_get ((if image then a ∷ b ∷ [] else x ∷ []) ++ rest) 0) ≡ None
note_first true a b x rest h k = h
note_first false a b x rest h k = k

pair_first : (o x : Mark) (v : Verdict) (ms rest : List Mark) → name_of_kind o.kind ≡ None → name_of (slice_get (pair_marks o x v ms ++ rest) 0) ≡ name_in v
pair_first o x Text ms rest h = h
pair_first o x (Undefined label at is_after) ms rest h = refl
pair_first o x (Link target shown p) ms rest h = refl
pair_first o x (FootnoteReference label) ms rest h = note_first (is_image o) _ _ _ rest h refl
pair_first o x (Name n) ms rest h = refl

-- the first mark of a sequence has the name that begins the sequence
pub first_named : (c : Chain) → AreWhole c → (w : Where) (p q : Place) (t : Sequence) → IsSequence c w p t q
    → name_of (slice_get (marks t) 0) ≡ first_name t
first_named c whole w p q Ends h = refl
first_named c whole w p q (Single m r) (n, o, h) = subst (IsSound c.bytes) o (look_sound c whole p)
first_named c whole w p q (Stray m r) (n, o, i, h) = (subst (IsSound c.bytes) o (look_sound c whole p)).0
first_named c whole w p q (Bracket m r) (n, o, h, e) = (subst (IsSound c.bytes) o (look_sound c whole p)).0
first_named c whole w p q (Paired o x v inside r) (n, close, b, l, i, k, is, h) =
    pair_first o x v (marks inside) (marks r) (subst (IsSound c.bytes) l (look_sound c whole p)).0
