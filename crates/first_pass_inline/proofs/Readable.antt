-- The marks of a chain can be read: its destinations and titles are between characters, and its autolinks have a byte.
use Rattle.std.proofs.Common.{◌≡◌, ℕ, zero, suc, ◌+◌, ◌<◌, ◌==◌, ◌||◌, ◌&&◌, not, nat_lt, Bool, true, false, List, [], ◌∷◌, ◌++◌, length, drop, slice_get}
use Rattle.std.proofs.Common.{slice_index, Option, Some, None, IfSome, IsUtf8, IsCharBoundary, refl, sym, ap, subst, arith, if◌then◌else◌}
use Rattle.std.specs.List.{prefix_len}
use Rattle.std.specs.Option.{option_and_then, option_map, option_map_or}
use Rattle.std.proofs.lemmas.Bool.Decides.{nat_tests}
use Rattle.std.proofs.lemmas.Option.{option_and_then_some, same_Some}
use Rattle.std.proofs.lemmas.Str.{IsCharBoundary-after_ascii, IsUtf8-between}
use Rattle.first_pass_items.specs.Bytes.{left_parenthesis, less_than, right_parenthesis}
use Rattle.first_pass_items.specs.declared.item.ItemBody.{ItemBody}
use Rattle.first_pass_items.specs.declared.item.ItemBody.TheVariants.{MaybeCode, MaybeHtml, MaybeLinkOpen, MaybeLinkClose, MaybeImage, MaybeMath}
use Rattle.first_pass_items.specs.OptionWords.{gfm_footnotes}
use Rattle.first_pass_lines.specs.Lines.{begins}
use Rattle.first_pass_lines.proofs.OptionFacts.{some_if, some_mapped}
use Rattle.first_pass_grammar.specs.Definitions.{title_end}
use Rattle.first_pass_atoms.specs.Autolinks.{address_of, autolink_at, link_at}
use Rattle.first_pass_atoms.specs.Blanks.{is_blank}
use Rattle.first_pass_atoms.specs.RawHtml.{raw_html_at}
use Rattle.first_pass_atoms.specs.TokenEnds.{code_end, math_end}
use Rattle.first_pass_atoms.specs.declared.autolinks.Autolink.{Autolink}
use Rattle.first_pass_atoms.specs.declared.token_ends.MathEnd.{MathEnd}
use Rattle.first_pass_content.specs.declared.tokens.PlacedToken.{PlacedToken}
use Rattle.first_pass_targets.specs.InlineLabels.{is_blank_label, is_footnote_label}
use Rattle.first_pass_targets.specs.Parts.{IsPartFrom, part}
use Rattle.first_pass_targets.specs.Targets.{inline_destination_at, inline_title_at, separate_title_at, target_after, target_at, target_with, title_upto}
use Rattle.first_pass_targets.specs.declared.part.Part.{Part}
use Rattle.first_pass_targets.specs.declared.target.Target.{Target as InlineTarget}
use Rattle.first_pass_targets.proofs.DestinationFacts.{destination_place}
use Rattle.first_pass_targets.proofs.PartFacts.{after_byte, blank_boundary, closed_part}
use Rattle.first_pass_inline.specs.declared.mark.Mark.{Mark}
use Rattle.first_pass_inline.specs.declared.mark.ReferenceForm.{ReferenceForm}
use Rattle.first_pass_inline.specs.declared.mark.ReferenceForm.TheVariants.{Full, Collapsed, Shortcut}
use Rattle.first_pass_inline.specs.declared.mark.Span.{Span}
use Rattle.first_pass_inline.specs.declared.mark.Target.TheVariants.{Inline}
use Rattle.first_pass_inline.specs.declared.pair.Pair.{Pair}
use Rattle.first_pass_inline.specs.declared.pair.Place.{Place}
use Rattle.first_pass_inline.specs.declared.pair.Reference.{Reference}
use Rattle.first_pass_inline.specs.declared.pair.Verdict.{Verdict}
use Rattle.first_pass_inline.specs.declared.pair.Verdict.TheVariants.{Text, Undefined, Link, FootnoteReference, Name}
use Rattle.first_pass_inline.specs.declared.pair.View.{View}
use Rattle.first_pass_inline.specs.declared.pair.View.TheVariants.{AtEnd, Opens, Closes, Piece}
use Rattle.first_pass_inline.specs.Look.{Chain, after_token, code_piece, look, math_piece, plain, token_from, view_body, view_code, view_html, view_math}
use Rattle.first_pass_inline.specs.Look.{view_raw, view_token}
use Rattle.first_pass_inline.specs.Marks.{AreMarks, IsSequence, first_place, marks, pair_marks}
use Rattle.first_pass_inline.specs.Readable.{AreReadable, IsReadable, IsReadableTarget, IsText}
use Rattle.first_pass_inline.specs.Sequences.{Sequence, Ends, Single, Stray, Bracket, Paired, Where, after_bracket, after_pair, around_name, by_definition}
use Rattle.first_pass_inline.specs.Sequences.{by_footnote, by_label, by_own, by_own_label, by_target, bytes_in, defined_by, has_footnote, is_image, is_name}
use Rattle.first_pass_inline.specs.Sequences.{judged, label_after, later, link_or_note, named, named_by, outside, own_label, pair_of, past, quiet, reference}
use Rattle.first_pass_inline.specs.Sequences.{span_of, what_follows}

-- a byte that begins a title is in the content
title_within : (content : List ℕ) (place close : ℕ) → title_end (slice_index content place) ≡ Some close → place < length content
title_within [] zero close h = cc
title_within [] (suc place) close h = cc
title_within (b ∷ content) zero close h = omega arith
title_within (b ∷ content) (suc place) close h = omega (arith, title_within content place close h)

title_ascii : (b close : ℕ) → title_end b ≡ Some close → (b < 128) × (close < 128)
title_ascii b close h = grind (arith, nat_tests, h)

module _ (content : List ℕ) (u : IsUtf8 content) where
  part_text : (place : ℕ) (p : Part) → IsPartFrom content place p → IsText content (span_of p)
  part_text place p h = IsUtf8-between content p.start p.«end» u h.order h.from h.upto

  title_text : (place n close : ℕ) (t : Part) → IsCharBoundary content place → close < 128
      → (if begins close (drop (place + n) content) then Some (part place (place + n) (place + n + 1)) else None) ≡ Some t → IsText content (span_of t)
  title_text place n close t b a h =
      let s = some_if (begins close (drop (place + n) content)) (Some (part place (place + n) (place + n + 1))) t h in
      subst (λ (x : Part). IsText content (span_of x)) (same_Some (part place (place + n) (place + n + 1)) t s.1)
      (part_text place (part place (place + n) (place + n + 1)) (closed_part close content place place (place + n) u b (omega arith) (omega arith) s.0 a))

  opened_title : (place close : ℕ) → title_end (slice_index content place) ≡ Some close → IsCharBoundary content (place + 1)
  opened_title place close e =
      IsCharBoundary-after_ascii content place u (title_within content place close e) (title_ascii (slice_index content place) close e).0

  title_at_text : (place : ℕ) (t : Part) → inline_title_at content place ≡ Some t → IsText content (span_of t)
  unfolding inline_title_at
  title_at_text place t h =
      option_and_then_some (title_upto content (place + 1)) (title_end (slice_index content place)) t h
      (λ close e g. title_text (place + 1) _ close t (opened_title place close e) (title_ascii (slice_index content place) close e).1 g)

  separate_text : (place : ℕ) (t : Part) → separate_title_at content place ≡ Some t → IsText content (span_of t)
  separate_text place t h =
      let n : ℕ = prefix_len is_blank (drop place content) in
      title_at_text (place + n) t (some_if (nat_lt place (place + n)) (inline_title_at content (place + n)) t h).1

  separate_texts : (place : ℕ) (title : Option Part) → separate_title_at content place ≡ title → IfSome (option_map span_of title) (IsText content)
  separate_texts place None e = tt
  separate_texts place (Some t) e = separate_text place t e

  abbrev IsTarget : InlineTarget → Type 0
  IsTarget t = IsReadableTarget content (Inline (span_of t.dest) (option_map span_of t.title))

  with_text : (dest : Part) (title : Option Part) (t : InlineTarget) → separate_title_at content dest.past ≡ title → IsText content (span_of dest)
      → target_with content dest title ≡ Some t → IsTarget t
  with_text dest title t e d h =
      let from : ℕ = option_map_or (λ (t : Part). t.past) title dest.past in
      let n : ℕ = prefix_len is_blank (drop from content) in
      let target : InlineTarget = record { dest = dest; title = title; past = from + n + 1 } in
      let s = some_if (begins right_parenthesis (drop (from + n) content)) (Some target) t h in
      subst IsTarget (same_Some target t s.1) (d, separate_texts dest.past title e)

  target_text : (place : ℕ) (t : InlineTarget) → target_at content place ≡ Some t → IsTarget t
  unfolding target_at
  target_text place t h =
      let n : ℕ = prefix_len is_blank (drop (place + 1) content) in
      let found = option_and_then (target_after content) (inline_destination_at content (place + 1 + n)) in
      let s = some_if (begins left_parenthesis (drop place content)) found t h in
      let there = blank_boundary content (place + 1) u (after_byte left_parenthesis content place u s.0 (omega arith)) in
      option_and_then_some (target_after content) (inline_destination_at content (place + 1 + n)) t s.1 (λ dest d e. with_text dest
      (separate_title_at content dest.past) t refl
      (part_text (place + 1 + n) dest (subst (λ o. IfSome o (IsPartFrom content (place + 1 + n))) d (destination_place content (place + 1 + n) u there))) e)

-- the target of a pair can be read
abbrev IsReadableVerdict : List ℕ → Verdict → Type 0
IsReadableVerdict bytes (Link target shown p) = IsReadableTarget bytes target
IsReadableVerdict bytes v = Unit {0}

module _ (c : Chain) (p : Pair) (u : IsUtf8 c.bytes) where
  abbrev P : Verdict → Type 0
  P v = IsReadableVerdict c.bytes v

  choice : (x : Bool) (v w : Verdict) → P v → P w → P (if x then v else w)
  choice true v w h k = h
  choice false v w h k = k

  defined_read : (r : Reference) (found : Option ℕ) → P (defined_by c p r found)
  defined_read r None = tt
  defined_read r (Some d) = tt

  definition_read : (r : Reference) → P (by_definition c p r)
  definition_read r = defined_read r (named_by c (bytes_in c r.label))

  note_read : (label : Span) → P (by_footnote c p label)
  note_read label =
      choice (not (gfm_footnotes c.options) || has_footnote c (drop 1 (bytes_in c label))) (FootnoteReference label)
      (Undefined label p.«end».offset false) tt tt

  own_read : (form : ReferenceForm) (at : ℕ) (label : Option Span) → P (by_own_label c p form at label)
  own_read form at None = tt
  own_read form at (Some label) =
      choice (is_footnote_label c.options (bytes_in c label)) (by_footnote c p label) (by_definition c p (reference form label at)) (note_read label)
      (definition_read (reference form label at))

  label_read : (label : Option Part) → P (by_label c p label)
  label_read None = own_read Shortcut p.«end».offset (own_label c p)
  label_read (Some l) =
      let full : Verdict = by_definition c p (reference Full (span_of l) l.past) in
      let is_other : Bool = is_blank_label (bytes_in c (span_of l)) || is_footnote_label c.options (bytes_in c (span_of l)) in
      choice (l.start == l.«end») (by_own c p Collapsed l.past) (if is_other then by_own c p Shortcut p.«end».offset else full)
      (own_read Collapsed l.past (own_label c p))
      (choice is_other (by_own c p Shortcut p.«end».offset) full (own_read Shortcut p.«end».offset (own_label c p))
      (definition_read (reference Full (span_of l) l.past)))

  target_read : (target : Option InlineTarget) → target_at c.bytes p.«end».offset ≡ target → P (by_target c p target)
  target_read None e = label_read (label_after c p)
  target_read (Some t) e = target_text c.bytes u p.«end».offset t e

  following_read : P (what_follows c p)
  unfolding what_follows
  following_read = target_read (target_at c.bytes p.«end».offset) refl

  quiet_read : (waited : Bool) (v : Verdict) → P v → P (quiet waited v)
  quiet_read true (Undefined label at is_after) h = tt
  quiet_read true Text h = h
  quiet_read true (Link target shown q) h = h
  quiet_read true (FootnoteReference label) h = h
  quiet_read true (Name n) h = h
  quiet_read false v h = h

  name_read : (name : Option _) → P (around_name c p name)
  name_read (Some n) = tt
  name_read None =
      choice (is_name c p) (Name (named p.text p.pipe)) (link_or_note c p) tt
      (choice (p.holds_note || (p.holds_link && not p.is_image)) Text (quiet p.waited (what_follows c p)) tt
      (quiet_read p.waited (what_follows c p) following_read))

  judged_read : P (judged c p)
  unfolding judged
  judged_read = name_read p.name

-- What begins at a place can be read; a bracket is a token, whatever its part.
abbrev IsReadableView : List ℕ → View → Type 0
IsReadableView bytes AtEnd = Unit {0}
IsReadableView bytes (Opens m q) = (s : Span) → IsReadable bytes s m.kind
IsReadableView bytes (Closes m q) = (s : Span) → IsReadable bytes s m.kind
IsReadableView bytes (Piece m q) = IsReadable bytes m.part m.kind

module _ (c : Chain) (index : ℕ) (t : PlacedToken) where
  code_read : (last : ℕ) (found : Option PlacedToken) → IsReadableView c.bytes (option_map_or (code_piece t last) found (plain index t))
  code_read last None = tt
  code_read last (Some u) = tt

  math_read : (e : MathEnd) (found : Option PlacedToken) → IsReadableView c.bytes (option_map_or (math_piece c index t e) found (plain index t))
  math_read e None = tt
  math_read e (Some u) = tt

  code_view : (found : Option ℕ)
      → IsReadableView c.bytes (option_map_or (λ last. option_map_or (code_piece t last) (slice_get c.tokens last) (plain index t)) found (plain index t))
  code_view None = tt
  code_view (Some last) = code_read last (slice_get c.tokens last)

  math_view : (found : Option MathEnd)
      → IsReadableView c.bytes
      (option_map_or (λ (e : MathEnd). option_map_or (math_piece c index t e) (slice_get c.tokens e.last) (plain index t)) found (plain index t))
  math_view None = tt
  math_view (Some e) = math_read e (slice_get c.tokens e.last)

  raw_view : (found : Option ℕ) → IsReadableView c.bytes (view_raw c index t found)
  raw_view None = tt
  raw_view (Some to) = tt

  autolink_later : (a : Autolink) → autolink_at c.bytes t.start ≡ Some a → t.start < a.«end»
  autolink_later a h =
      let bs : List ℕ = drop t.start c.bytes in
      let s = some_if (begins less_than bs) (option_map (link_at t.start) (address_of (drop 1 bs))) a h in
      let m = some_mapped (link_at t.start) (address_of (drop 1 bs)) a s.1 in
      omega (arith, ap (λ (x : Autolink). x.«end») m.2)

  html_view : (found : Option Autolink) → autolink_at c.bytes t.start ≡ found → IsReadableView c.bytes (view_html c index t found)
  unfolding view_html
  html_view None e = raw_view (raw_html_at c.bytes t.start)
  html_view (Some a) e = autolink_later a e

  view_code_read : IsReadableView c.bytes (view_code c index t)
  unfolding view_code
  view_code_read = code_view (code_end c.nodes index)

  view_math_read : IsReadableView c.bytes (view_math c index t)
  unfolding view_math
  view_math_read = math_view (math_end c.nodes index)

  body_read : (body : ItemBody) → IsReadableView c.bytes (view_body c index t body)
  body_read MaybeLinkOpen = λ s. tt
  body_read MaybeImage = λ s. tt
  body_read (MaybeLinkClose active) = λ s. tt
  body_read (MaybeCode count escaped) = view_code_read
  body_read (MaybeMath can_open can_close context) = view_math_read
  body_read MaybeHtml = html_view (autolink_at c.bytes t.start) refl
  body_read _ = tt

rest_read : (later : Bool) (c : Chain) (p : Place) (t : PlacedToken)
    → IsReadableView c.bytes (if later then Piece (token_from p.offset t) (after_token p.index t) else view_body c p.index t t.body)
rest_read true c p t = tt
rest_read false c p t = body_read c p.index t t.body

token_read : (c : Chain) (p : Place) (found : Option PlacedToken) → IsReadableView c.bytes (view_token c p found)
token_read c p None = tt
token_read c p (Some t) = rest_read (nat_lt t.start p.offset) c p t

look_read : (c : Chain) (p : Place) → IsReadableView c.bytes (look c p)
unfolding look
look_read c p = token_read c p (slice_get c.tokens p.index)

module _ (bytes : List ℕ) where
  both : (ms ns : List Mark) → AreReadable bytes ms → AreReadable bytes ns → AreReadable bytes (ms ++ ns)
  both [] ns h k = k
  both (m ∷ ms) ns h k = (h.0, both ms ns h.1 k)

  noted : (image : Bool) (a b d : Mark) → IsReadable bytes a.part a.kind → IsReadable bytes b.part b.kind → IsReadable bytes d.part d.kind
      → AreReadable bytes (if image then a ∷ b ∷ [] else d ∷ [])
  noted true a b d h k l = (h, (k, tt))
  noted false a b d h k l = (l, tt)

  pair_read : (o x : Mark) (v : Verdict) (ms : List Mark) → ((s : Span) → IsReadable bytes s o.kind) → ((s : Span) → IsReadable bytes s x.kind)
      → IsReadableVerdict bytes v → AreReadable bytes ms → AreReadable bytes (pair_marks o x v ms)
  pair_read o x Text ms h k r a = (h o.part, both ms (x ∷ []) a (k x.part, tt))
  pair_read o x (Undefined label at is_after) ms h k r a = (tt, both ms (x ∷ []) a (k x.part, tt))
  pair_read o x (Link target shown p) ms h k r a = (r, both ms _ a (tt, tt))
  pair_read o x (FootnoteReference label) ms h k r a = noted (is_image o) _ _ _ (h _) tt tt
  pair_read o x (Name n) ms h k r a = (tt, both ms _ a (tt, tt))

sequence_read : (c : Chain) → IsUtf8 c.bytes → (w : Where) (p q : Place) (t : Sequence) → IsSequence c w p t q → AreReadable c.bytes (marks t)
sequence_read c u w p q Ends h = tt
sequence_read c u w p q (Single m r) (n, o, h) = (subst (IsReadableView c.bytes) o (look_read c p), sequence_read c u (later w) n q r h)
sequence_read c u w p q (Stray m r) (n, o, i, h) = (subst (IsReadableView c.bytes) o (look_read c p) m.part, sequence_read c u (later w) n q r h)
sequence_read c u w p q (Bracket m r) (n, o, h, e) = (subst (IsReadableView c.bytes) o (look_read c p) m.part, sequence_read c u after_bracket n q r h)
sequence_read c u w p q (Paired o x v inside r) (n, close, b, l, i, k, is, h) =
    both c.bytes (pair_marks o x v (marks inside)) (marks r)
    (pair_read c.bytes o x v (marks inside) (subst (IsReadableView c.bytes) l (look_read c p)) (subst (IsReadableView c.bytes) k (look_read c close))
    (subst (IsReadableVerdict c.bytes) (sym is) (judged_read c (pair_of c w o x b inside) u)) (sequence_read c u after_bracket n close inside i))
    (sequence_read c u (after_pair w v) (past b v) q r h)

pub marks_readable : (c : Chain) (ms : List Mark) → IsUtf8 c.bytes → AreMarks c ms → AreReadable c.bytes ms
marks_readable c ms u h = subst (AreReadable c.bytes) (sym h.of_sequence) (sequence_read c u outside first_place h.last h.sequence h.is_sequence)
