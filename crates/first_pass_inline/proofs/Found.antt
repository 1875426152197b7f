-- Each chain has a sequence.
use Rattle.std.proofs.Common.{◌≡◌, inl, inr, ℕ, zero, suc, ◌+◌, ◌<◌, ◌≤◌, nat_lt, Bool, true, false, List, length, drop, slice_get, Option, Some}
use Rattle.std.proofs.Common.{None, refl, subst, arith, if◌then◌else◌}
use Rattle.std.specs.Option.{option_map_or}
use Rattle.first_pass_items.specs.declared.item.ItemBody.{ItemBody}
use Rattle.first_pass_items.specs.declared.item.ItemBody.TheVariants.{MaybeCode, MaybeHtml, MaybeLinkOpen, MaybeLinkClose, MaybeImage, MaybeMath}
use Rattle.first_pass_atoms.specs.Autolinks.{autolink_at}
use Rattle.first_pass_atoms.specs.RawHtml.{raw_html_at}
use Rattle.first_pass_atoms.specs.TokenEnds.{code_end, math_end}
use Rattle.first_pass_atoms.specs.declared.autolinks.Autolink.{Autolink}
use Rattle.first_pass_atoms.specs.declared.token_ends.MathEnd.{MathEnd}
use Rattle.first_pass_content.specs.declared.tokens.PlacedToken.{PlacedToken}
use Rattle.first_pass_inline.specs.declared.mark.Mark.{Mark}
use Rattle.first_pass_inline.specs.declared.pair.Place.{Place}
use Rattle.first_pass_inline.specs.declared.pair.Verdict.{Verdict}
use Rattle.first_pass_inline.specs.declared.pair.View.{View}
use Rattle.first_pass_inline.specs.declared.pair.View.TheVariants.{AtEnd, Opens, Closes, Piece}
use Rattle.first_pass_inline.specs.Look.{Chain, after_token, code_piece, look, math_piece, place_at, plain, token_from, view_body, view_code}
use Rattle.first_pass_inline.specs.Look.{view_html, view_math, view_raw, view_token}
use Rattle.first_pass_inline.specs.Marks.{AreMarks, EndsAt, IsSequence, first_place, marks}
use Rattle.first_pass_inline.specs.Sequences.{Sequence, Ends, Single, Stray, Bracket, Paired, Where, after_bracket, after_pair, later, outside}
use Rattle.first_pass_inline.specs.Sequences.{pair_of, past, verdict}
use Rattle.first_pass_inline.proofs.Reach.{judged_reaches}
use Rattle.first_pass_inline.proofs.Steps.{at_end}
use Rattle.first_pass_inline.proofs.LaterEnds.{code_later, index_found, math_later}

-- the place after what begins at a place is after the token with this index
abbrev IsAfter : ℕ → View → Type 0
IsAfter index AtEnd = Unit {0}
IsAfter index (Opens m q) = index < q.index
IsAfter index (Closes m q) = index < q.index
IsAfter index (Piece m q) = index < q.index

found_after : (c : Chain) (index offset : ℕ) → index ≤ (place_at c index offset).index
found_after c index offset = let r = index_found (drop index c.tokens) index offset in omega (arith, r.1)

module _ (c : Chain) (index : ℕ) (t : PlacedToken) where
  next : index < index + 1
  next = omega arith

  code_after : (found : Option ℕ) → code_end c.nodes index ≡ found
      → IsAfter index (option_map_or (λ last. option_map_or (code_piece t last) (slice_get c.tokens last) (plain index t)) found (plain index t))
  code_after None e = next
  code_after (Some last) e = by_token (slice_get c.tokens last)
    where
      by_token : (u : Option PlacedToken) → IsAfter index (option_map_or (code_piece t last) u (plain index t))
      by_token None = next
      by_token (Some u) = omega (arith, code_later c.nodes index last e)

  math_after : (found : Option MathEnd) → math_end c.nodes index ≡ found
      → IsAfter index (option_map_or (λ (e : MathEnd). option_map_or (math_piece c index t e) (slice_get c.tokens e.last)
      (plain index t)) found (plain index t))
  math_after None e = next
  math_after (Some m) e = by_token (slice_get c.tokens m.last)
    where
      by_token : (u : Option PlacedToken) → IsAfter index (option_map_or (math_piece c index t m) u (plain index t))
      by_token None = next
      by_token (Some u) = omega (arith, math_later c.nodes index m e)

  further : (at : ℕ) → index < (place_at c (index + 1) at).index
  further at = omega (arith, found_after c (index + 1) at)

  raw_after : (found : Option ℕ) → IsAfter index (view_raw c index t found)
  raw_after None = next
  raw_after (Some to) = further to

  html_after : (found : Option Autolink) → IsAfter index (view_html c index t found)
  unfolding view_html
  html_after None = raw_after (raw_html_at c.bytes t.start)
  html_after (Some a) = further a.«end»

  view_code_after : IsAfter index (view_code c index t)
  unfolding view_code
  view_code_after = code_after (code_end c.nodes index) refl

  view_math_after : IsAfter index (view_math c index t)
  unfolding view_math
  view_math_after = math_after (math_end c.nodes index) refl

  body_after : (body : ItemBody) → IsAfter index (view_body c index t body)
  body_after MaybeLinkOpen = next
  body_after MaybeImage = next
  body_after (MaybeLinkClose active) = next
  body_after (MaybeCode count escaped) = view_code_after
  body_after (MaybeMath can_open can_close context) = view_math_after
  body_after MaybeHtml = html_after (autolink_at c.bytes t.start)
  body_after _ = next

rest_after : (b : Bool) (c : Chain) (p : Place) (t : PlacedToken)
    → IsAfter p.index (if b then Piece (token_from p.offset t) (after_token p.index t) else view_body c p.index t t.body)
rest_after true c p t = omega arith
rest_after false c p t = body_after c p.index t t.body

token_after : (c : Chain) (p : Place) (found : Option PlacedToken) → IsAfter p.index (view_token c p found)
token_after c p None = tt
token_after c p (Some t) = rest_after (nat_lt t.start p.offset) c p t

look_after : (c : Chain) (p : Place) → IsAfter p.index (look c p)
unfolding look
look_after c p = token_after c p (slice_get c.tokens p.index)

past_after : (c : Chain) (w : Where) (m x : Mark) (b : Place) (inside : Sequence) → b.index ≤ (past b (verdict c w m x b inside)).index
past_after c w m x b inside = judged_reaches c (pair_of c w m x b inside) (λ q. b.index ≤ q.index) (omega arith) (λ at h. found_after c b.index at)

-- a sequence from a place on, with its end
record FoundFrom (c : Chain) (w : Where) (p : Place) : Type 0 where
  sequence : Sequence
  last : Place
  is_sequence : IsSequence c w p sequence last
  ends : EndsAt c w last
  on : p.index ≤ last.index

-- a sequence that ends where it begins
none_from : (c : Chain) (w : Where) (p : Place) → EndsAt c w p → FoundFrom c w p
none_from c w p e = record { sequence = Ends; last = p; is_sequence = (refl, e); ends = e; on = omega arith }

-- one more piece, if there is a sequence from each place with fewer tokens after it
module _ (left : ℕ) (c : Chain) (w : Where) (p : Place) (h : length c.tokens ≤ p.index + suc left)
    (more : (w : Where) (n : Place) → length c.tokens ≤ n.index + left → FoundFrom c w n) where
  closed_from : (m : Mark) (n : Place) → look c p ≡ Opens m n → p.index < n.index → (inside : FoundFrom c after_bracket n) → (x : Mark) (b : Place)
      → look c inside.last ≡ Closes x b → FoundFrom c w p
  closed_from m n e on inside x b k =
      let v : Verdict = verdict c w m x b inside.sequence in
      let after : inside.last.index < b.index = subst (IsAfter inside.last.index) k (look_after c inside.last) in
      let beyond : b.index ≤ (past b v).index = past_after c w m x b inside.sequence in
      let r = more (after_pair w v) (past b v) (omega (arith, h, on, inside.on, after, beyond)) in
      record {
        sequence = Paired m x v inside.sequence r.sequence;
        last = r.last;
        is_sequence = (n, inside.last, b, e, inside.is_sequence, k, refl, r.is_sequence);
        ends = r.ends;
        on = omega (arith, on, inside.on, after, beyond, r.on);
      }

  opened_from : (m : Mark) (n : Place) → look c p ≡ Opens m n → p.index < n.index → FoundFrom c after_bracket n → FoundFrom c w p
  opened_from m n e on inside = elim inside.ends [
    | inl k ↦ record {
      sequence = Bracket m inside.sequence;
      last = inside.last;
      is_sequence = (n, e, inside.is_sequence, k);
      ends = inl k;
      on = omega (arith, on, inside.on);
    }
    | inr (i, x, b, k) ↦ closed_from m n e on inside x b k
  ]

  stray_from : (m : Mark) (n : Place) → look c p ≡ Closes m n → p.index < n.index → (nested : Bool) → w.nested ≡ nested → FoundFrom c w p
  stray_from m n e on true i = none_from c w p (inr (i, m, n, e))
  stray_from m n e on false i =
      let r = more (later w) n (omega (arith, h, on)) in
      record { sequence = Stray m r.sequence; last = r.last; is_sequence = (n, e, i, r.is_sequence); ends = r.ends; on = omega (arith, on, r.on) }

  piece_from : (v : View) → look c p ≡ v → IsAfter p.index v → FoundFrom c w p
  piece_from AtEnd e on = none_from c w p (inl e)
  piece_from (Piece m n) e on =
      let r = more (later w) n (omega (arith, h, on)) in
      record { sequence = Single m r.sequence; last = r.last; is_sequence = (n, e, r.is_sequence); ends = r.ends; on = omega (arith, on, r.on) }
  piece_from (Closes m n) e on = stray_from m n e on w.nested refl
  piece_from (Opens m n) e on = opened_from m n e on (more after_bracket n (omega (arith, h, on)))

-- there is one, if at most as many tokens are left as this number says
found_from : (left : ℕ) (c : Chain) (w : Where) (p : Place) → length c.tokens ≤ p.index + left → FoundFrom c w p
found_from zero c w p h = none_from c w p (inl (at_end c p (omega (arith, h))))
found_from (suc left) c w p h = piece_from left c w p h (λ w n k. found_from left c w n k) (look c p) refl (look_after c p)

pub marked : (c : Chain) → (ms : List Mark) × AreMarks c ms
marked c =
    let r = found_from (length c.tokens) c outside first_place (omega arith) in
    (marks r.sequence, record { sequence = r.sequence; last = r.last; is_sequence = r.is_sequence; of_sequence = refl })
