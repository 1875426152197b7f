-- The brackets of the marks of a chain are paired, and in one way.
use Rattle.std.proofs.Common.{◌≡◌, ℕ, Bool, true, false, List, [], ◌∷◌, ◌++◌, length, slice_get, nat_lt, Option, Some, None, refl, sym, ap, ◌∙◌, subst}
use Rattle.std.proofs.Common.{append_assoc, append-nil, if◌then◌else◌, ◌+◌, ◌-◌}
use Rattle.std.specs.Option.{option_map_or}
use Rattle.first_pass_items.specs.declared.item.ItemBody.{ItemBody}
use Rattle.first_pass_items.specs.declared.item.ItemBody.TheVariants.{MaybeCode, MaybeHtml, MaybeLinkOpen, MaybeLinkClose, MaybeImage, MaybeMath}
use Rattle.first_pass_atoms.specs.Autolinks.{autolink_at}
use Rattle.first_pass_atoms.specs.RawHtml.{raw_html_at}
use Rattle.first_pass_atoms.specs.TokenEnds.{code_end, math_end}
use Rattle.first_pass_atoms.specs.declared.autolinks.Autolink.{Autolink}
use Rattle.first_pass_atoms.specs.declared.token_ends.MathEnd.{MathEnd}
use Rattle.first_pass_content.specs.declared.tokens.PlacedToken.{PlacedToken}
use Rattle.first_pass_inline.specs.declared.mark.Link.{Link as LinkRecord}
use Rattle.first_pass_inline.specs.declared.mark.Mark.{Mark}
use Rattle.first_pass_inline.specs.declared.mark.MarkKind.TheVariants.{Link as LinkMark, LinkEnd, Name as NameMark, NameEnd, FootnoteReference as NoteMark}
use Rattle.first_pass_inline.specs.declared.mark.Span.{Span}
use Rattle.first_pass_inline.specs.declared.mark.Target.{Target}
use Rattle.first_pass_inline.specs.declared.pair.Place.{Place}
use Rattle.first_pass_inline.specs.declared.pair.Verdict.{Verdict}
use Rattle.first_pass_inline.specs.declared.pair.Verdict.TheVariants.{Text, Undefined, Link, FootnoteReference, Name}
use Rattle.first_pass_inline.specs.declared.pair.View.{View}
use Rattle.first_pass_inline.specs.declared.pair.View.TheVariants.{AtEnd, Opens, Closes, Piece}
use Rattle.first_pass_inline.specs.Look.{Chain, look, view_code, view_token, view_body, view_html, view_math, view_raw, code_piece, math_piece, plain}
use Rattle.first_pass_inline.specs.Look.{after_token, token_from, mark_of}
use Rattle.first_pass_inline.specs.Marks.{AreMarks, IsSequence, marks, note_marks, pair_marks, undefined_mark}
use Rattle.first_pass_inline.specs.Sequences.{Sequence, Ends, Single as OneMark, Stray, Bracket, Paired, Where, after_bracket, after_pair, is_image}
use Rattle.first_pass_inline.specs.Sequences.{later, past}
use Rattle.first_pass_emphasis.specs.declared.token.Side.{Side}
use Rattle.first_pass_emphasis.specs.declared.token.Side.TheVariants.{Before, After, Within}
use Rattle.first_pass_emphasis.specs.Levels.{IsNested, IsNestingOf, Nested, Nothing, Single, Inner, flat}
use Rattle.first_pass_emphasis.specs.Tokens.{side_of}

-- what begins at a place is no bracket of a level
abbrev IsInner : View → Type 0
IsInner AtEnd = Unit {0}
IsInner (Opens m q) = side_of m.kind ≡ Within
IsInner (Closes m q) = side_of m.kind ≡ Within
IsInner (Piece m q) = side_of m.kind ≡ Within

module _ (c : Chain) (index : ℕ) (t : PlacedToken) where
  code_inner : (last : ℕ) (found : Option PlacedToken) → IsInner (option_map_or (code_piece t last) found (plain index t))
  code_inner last None = refl
  code_inner last (Some u) = refl

  math_inner : (e : MathEnd) (found : Option PlacedToken) → IsInner (option_map_or (math_piece c index t e) found (plain index t))
  math_inner e None = refl
  math_inner e (Some u) = refl

  code_found : (found : Option ℕ)
      → IsInner (option_map_or (λ last. option_map_or (code_piece t last) (slice_get c.tokens last) (plain index t)) found (plain index t))
  code_found None = refl
  code_found (Some last) = code_inner last (slice_get c.tokens last)

  math_found : (found : Option MathEnd)
      → IsInner (option_map_or (λ (e : MathEnd). option_map_or (math_piece c index t e) (slice_get c.tokens e.last) (plain index t)) found (plain index t))
  math_found None = refl
  math_found (Some e) = math_inner e (slice_get c.tokens e.last)

  raw_inner : (found : Option ℕ) → IsInner (view_raw c index t found)
  raw_inner None = refl
  raw_inner (Some to) = refl

  html_inner : (found : Option Autolink) → IsInner (view_html c index t found)
  unfolding view_html
  html_inner None = raw_inner (raw_html_at c.bytes t.start)
  html_inner (Some a) = refl

  view_code_inner : IsInner (view_code c index t)
  unfolding view_code
  view_code_inner = code_found (code_end c.nodes index)

  view_math_inner : IsInner (view_math c index t)
  unfolding view_math
  view_math_inner = math_found (math_end c.nodes index)

  body_inner : (body : ItemBody) → IsInner (view_body c index t body)
  body_inner MaybeLinkOpen = refl
  body_inner MaybeImage = refl
  body_inner (MaybeLinkClose active) = refl
  body_inner (MaybeCode count escaped) = view_code_inner
  body_inner (MaybeMath can_open can_close context) = view_math_inner
  body_inner MaybeHtml = html_inner (autolink_at c.bytes t.start)
  body_inner _ = refl

rest_inner : (later : Bool) (c : Chain) (p : Place) (t : PlacedToken)
    → IsInner (if later then Piece (token_from p.offset t) (after_token p.index t) else view_body c p.index t t.body)
rest_inner true c p t = refl
rest_inner false c p t = body_inner c p.index t t.body

token_inner : (c : Chain) (p : Place) (found : Option PlacedToken) → IsInner (view_token c p found)
token_inner c p None = tt
token_inner c p (Some t) = rest_inner (nat_lt t.start p.offset) c p t

look_inner : (c : Chain) (p : Place) → IsInner (look c p)
unfolding look
look_inner c p = token_inner c p (slice_get c.tokens p.index)

-- the levels of a footnote reference
note_nested : Bool → Mark → Mark → Span → Nested → Nested
note_nested true opens closes label n =
    Single (mark_of opens.part.start (opens.part.«end» - 1) opens.kind) (Single (mark_of (opens.part.«end» - 1) closes.part.«end» (NoteMark label)) n)
note_nested false opens closes label n = Single (mark_of opens.part.start closes.part.«end» (NoteMark label)) n

-- the levels of a sequence, before others
nest : Sequence → Nested → Nested
nest Ends n = n
nest (OneMark m r) n = Single m (nest r n)
nest (Stray m r) n = Single m (nest r n)
nest (Bracket m r) n = Single m (nest r n)
nest (Paired opens closes Text inside r) n = Single opens (nest inside (Single closes (nest r n)))
nest (Paired opens closes (Undefined label at is_after) inside r) n =
    Single (undefined_mark opens label at is_after (length (marks inside) + 2)) (nest inside (Single closes (nest r n)))
nest (Paired opens closes (Link target shown p) inside r) n =
    Inner (record { part = opens.part; kind = LinkMark (record { is_image = is_image opens; target = target; shown = shown; «end» = p.offset }) })
    (nest inside Nothing) (mark_of closes.part.start p.offset LinkEnd) (nest r n)
nest (Paired opens closes (FootnoteReference label) inside r) n = note_nested (is_image opens) opens closes label (nest r n)
nest (Paired opens closes (Name name) inside r) n =
    Inner (record { part = opens.part; kind = NameMark name }) (nest inside Nothing) (record { part = closes.part; kind = NameEnd }) (nest r n)

note_flat : (image : Bool) (opens closes : Mark) (label : Span) (n : Nested) (rest : List Mark) → is_image opens ≡ image → flat n ≡ rest
    → flat (note_nested image opens closes label n) ≡ note_marks opens closes label ++ rest
unfolding note_nested
note_flat true opens closes label n rest e h = rw (e, h) refl
note_flat false opens closes label n rest e h = rw (e, h) refl

nest_flat : (t : Sequence) (n : Nested) → flat (nest t n) ≡ marks t ++ flat n
unfolding nest
nest_flat Ends n = refl
nest_flat (OneMark m r) n = ap (λ l. m ∷ l) (nest_flat r n)
nest_flat (Stray m r) n = ap (λ l. m ∷ l) (nest_flat r n)
nest_flat (Bracket m r) n = ap (λ l. m ∷ l) (nest_flat r n)
nest_flat (Paired opens closes Text inside r) n = rw (nest_flat inside (Single closes (nest r n)), nest_flat r n) (simp append_assoc)
nest_flat (Paired opens closes (Undefined label at is_after) inside r) n =
    rw (nest_flat inside (Single closes (nest r n)), nest_flat r n) (simp append_assoc)
nest_flat (Paired opens closes (Link target shown p) inside r) n = rw (nest_flat inside Nothing, nest_flat r n) (simp (append_assoc, append-nil))
nest_flat (Paired opens closes (FootnoteReference label) inside r) n =
    note_flat (is_image opens) opens closes label (nest r n) (marks r ++ flat n) refl (nest_flat r n)
    ∙ sym (append_assoc (note_marks opens closes label) (marks r) (flat n))
nest_flat (Paired opens closes (Name name) inside r) n = rw (nest_flat inside Nothing, nest_flat r n) (simp (append_assoc, append-nil))

note_is_nested : (image : Bool) (opens closes : Mark) (label : Span) (n : Nested) → side_of opens.kind ≡ Within → IsNested n
    → IsNested (note_nested image opens closes label n)
unfolding note_nested
note_is_nested true opens closes label n h k = (h, (refl, k))
note_is_nested false opens closes label n h k = (refl, k)

nest_is_nested : (c : Chain) (w : Where) (p q : Place) (t : Sequence) (n : Nested) → IsSequence c w p t q → IsNested n → IsNested (nest t n)
unfolding nest
nest_is_nested c w p q Ends n h k = k
nest_is_nested c w p q (OneMark m r) n (x, o, h) k = (subst IsInner o (look_inner c p), nest_is_nested c (later w) x q r n h k)
nest_is_nested c w p q (Stray m r) n (x, o, i, h) k = (subst IsInner o (look_inner c p), nest_is_nested c (later w) x q r n h k)
nest_is_nested c w p q (Bracket m r) n (x, o, h, e) k = (subst IsInner o (look_inner c p), nest_is_nested c after_bracket x q r n h k)
nest_is_nested c w p q (Paired opens closes Text inside r) n (x, close, b, l, i, m, is, h) k = (
  subst IsInner l (look_inner c p),
  nest_is_nested c after_bracket x close inside (Single closes (nest r n)) i
      (subst IsInner m (look_inner c close), nest_is_nested c (after_pair w Text) (past b Text) q r n h k),
)
nest_is_nested c w p q (Paired opens closes (Undefined label at is_after) inside r) n (x, close, b, l, i, m, is, h) k = (
  refl,
  nest_is_nested c after_bracket x close inside (Single closes (nest r n)) i
      (subst IsInner m (look_inner c close), nest_is_nested c (after_pair w (Undefined label at is_after)) (past b (Undefined label at is_after)) q r n h k),
)
nest_is_nested c w p q (Paired opens closes (Link target shown u) inside r) n (x, close, b, l, i, m, is, h) k = (
  (0, refl),
  nest_is_nested c after_bracket x close inside Nothing i tt,
  refl,
  nest_is_nested c (after_pair w (Link target shown u)) (past b (Link target shown u)) q r n h k,
)
nest_is_nested c w p q (Paired opens closes (FootnoteReference label) inside r) n (x, close, b, l, i, m, is, h) k =
    note_is_nested (is_image opens) opens closes label (nest r n) (subst IsInner l (look_inner c p))
    (nest_is_nested c (after_pair w (FootnoteReference label)) (past b (FootnoteReference label)) q r n h k)
nest_is_nested c w p q (Paired opens closes (Name name) inside r) n (x, close, b, l, i, m, is, h) k = (
  (_, refl),
  nest_is_nested c after_bracket x close inside Nothing i tt,
  refl,
  nest_is_nested c (after_pair w (Name name)) (past b (Name name)) q r n h k,
)

pub marks_nested : (c : Chain) (ms : List Mark) → AreMarks c ms → (n : Nested) × IsNestingOf ms n
marks_nested c ms a = (
  nest a.sequence Nothing,
  (
    nest_is_nested c _ _ a.last a.sequence Nothing a.is_sequence tt,
    a.of_sequence ∙ sym (nest_flat a.sequence Nothing ∙ append-nil (marks a.sequence)),
  ),
)
