-- What a token begins, case by case. The token with which code or math ends may be out of the chain or in it.
use Rattle.std.proofs.Common.{◌≡◌, ℕ, ◌+◌, slice_get, Option, Some, None, refl, sym, ap, ◌∙◌}
use Rattle.first_pass_atoms.specs.Autolinks.{autolink_at}
use Rattle.first_pass_atoms.specs.RawHtml.{raw_html_at}
use Rattle.first_pass_atoms.specs.TokenEnds.{code_end, math_end}
use Rattle.first_pass_atoms.specs.declared.autolinks.Autolink.{Autolink}
use Rattle.first_pass_atoms.specs.declared.token_ends.MathEnd.{MathEnd}
use Rattle.first_pass_content.specs.declared.tokens.PlacedToken.{PlacedToken}
use Rattle.first_pass_inline.specs.declared.mark.MarkKind.TheVariants.{Autolink as AutolinkMark, RawHtml}
use Rattle.first_pass_inline.specs.declared.pair.View.TheVariants.{Piece}
use Rattle.first_pass_inline.specs.Look.{Chain, code_piece, mark_of, math_piece, place_at, plain, view_code, view_html, view_math}

module _ (c : Chain) (index : ℕ) (t : PlacedToken) where
  pub code_none : code_end c.nodes index ≡ None → view_code c index t ≡ plain index t
  unfolding view_code
  code_none h = rw h refl

  pub code_out : (last : ℕ) → code_end c.nodes index ≡ Some last → slice_get c.tokens last ≡ None → view_code c index t ≡ plain index t
  unfolding view_code
  code_out last h k = rw (h, k) refl

  pub code_in : (last : ℕ) (u : PlacedToken) → code_end c.nodes index ≡ Some last → slice_get c.tokens last ≡ Some u
      → view_code c index t ≡ code_piece t last u
  unfolding view_code
  code_in last u h k = rw (h, k) refl

  pub math_none : math_end c.nodes index ≡ None → view_math c index t ≡ plain index t
  unfolding view_math
  math_none h = rw h refl

  pub math_out : (e : MathEnd) → math_end c.nodes index ≡ Some e → slice_get c.tokens e.last ≡ None → view_math c index t ≡ plain index t
  unfolding view_math
  math_out e h k = rw (h, k) refl

  pub math_in : (e : MathEnd) (u : PlacedToken) → math_end c.nodes index ≡ Some e → slice_get c.tokens e.last ≡ Some u
      → view_math c index t ≡ math_piece c index t e u
  unfolding view_math
  math_in e u h k = rw (h, k) refl

  pub html_link : (a : Autolink) → autolink_at c.bytes t.start ≡ Some a
      → view_html c index t (autolink_at c.bytes t.start) ≡ Piece (mark_of t.start a.«end» (AutolinkMark a.form)) (place_at c (index + 1) a.«end»)
  unfolding view_html
  html_link a h = rw h refl

  pub html_raw : (to : ℕ) → autolink_at c.bytes t.start ≡ None → raw_html_at c.bytes t.start ≡ Some to
      → view_html c index t (autolink_at c.bytes t.start) ≡ Piece (mark_of t.start to RawHtml) (place_at c (index + 1) to)
  unfolding view_html
  html_raw to h k = rw (h, k) refl

  pub html_none : autolink_at c.bytes t.start ≡ None → raw_html_at c.bytes t.start ≡ None
      → view_html c index t (autolink_at c.bytes t.start) ≡ plain index t
  unfolding view_html
  html_none h k = rw (h, k) refl
