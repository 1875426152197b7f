-- No link holds a link or a footnote reference.
use Rattle.std.proofs.Common.{◌≡◌, ◌&&◌, ◌||◌, ◌==◌, not, Bool, true, false, drop, nat_lt, Option, Some, None, refl, sym, ap, ◌∙◌, subst, if◌then◌else◌}
use Rattle.first_pass_targets.specs.declared.part.Part.{Part}
use Rattle.first_pass_targets.specs.declared.target.Target.{Target as InlineTarget}
use Rattle.first_pass_items.specs.OptionWords.{gfm_footnotes, has}
use Rattle.first_pass_targets.specs.InlineLabels.{is_blank_label, is_footnote_label}
use Rattle.first_pass_targets.specs.Targets.{target_at}
use Rattle.first_pass_inline.specs.declared.mark.Mark.{Mark}
use Rattle.first_pass_inline.specs.declared.mark.Name.{Name}
use Rattle.first_pass_inline.specs.declared.mark.ReferenceForm.{ReferenceForm}
use Rattle.first_pass_inline.specs.declared.mark.ReferenceForm.TheVariants.{Full, Collapsed, Shortcut}
use Rattle.first_pass_inline.specs.declared.mark.Span.{Span}
use Rattle.first_pass_inline.specs.declared.pair.Pair.{Pair}
use Rattle.first_pass_inline.specs.declared.pair.Place.{Place}
use Rattle.first_pass_inline.specs.declared.pair.Reference.{Reference}
use Rattle.first_pass_inline.specs.declared.pair.Verdict.{Verdict}
use Rattle.first_pass_inline.specs.declared.pair.Verdict.TheVariants.{Text, Undefined, Link, FootnoteReference, Name as NamePair}
use Rattle.first_pass_inline.specs.declared.pair.View.{View}
use Rattle.first_pass_inline.specs.declared.pair.View.TheVariants.{AtEnd, Opens, Closes, Piece}
use Rattle.first_pass_inline.specs.Flat.{LinksHoldNone}
use Rattle.first_pass_inline.specs.Look.{Chain, look}
use Rattle.first_pass_inline.specs.Marks.{IsSequence}
use Rattle.first_pass_inline.specs.Sequences.{Sequence, Ends, Single, Stray, Bracket, Paired, Where, after_bracket, later, after_pair, around_name}
use Rattle.first_pass_inline.specs.Sequences.{by_definition, by_footnote, by_label, by_own, by_own_label, by_target, bytes_in, closes, defined_by}
use Rattle.first_pass_inline.specs.Sequences.{first_name, has_footnote, holds_link, holds_note, is_image, is_link, is_name, judged, label_after}
use Rattle.first_pass_inline.specs.Sequences.{link_or_note, name_in, named, named_by, own_label, pair_of, past, quiet, reference, span_of, verdict}
use Rattle.first_pass_inline.specs.Sequences.{what_follows, wikilinks}

-- A pair that has to do with no wikilink has no name.

choice : (x : Bool) (v w : Verdict) → name_in v ≡ None → name_in w ≡ None → name_in (if x then v else w) ≡ None
choice true v w h k = h
choice false v w h k = k

defined_has_no_name : (c : Chain) (p : Pair) (r : Reference) (found : Option _) → name_in (defined_by c p r found) ≡ None
defined_has_no_name c p r None = refl
defined_has_no_name c p r (Some d) = refl

module _ (c : Chain) (p : Pair) where
  by_definition_has_no_name : (r : Reference) → name_in (by_definition c p r) ≡ None
  by_definition_has_no_name r = defined_has_no_name c p r (named_by c (bytes_in c r.label))

  note_has_no_name : (label : Span) → name_in (by_footnote c p label) ≡ None
  note_has_no_name label =
      choice (not (gfm_footnotes c.options) || has_footnote c (drop 1 (bytes_in c label))) (FootnoteReference label) (Undefined label p.«end».offset false)
      refl refl

  own_has_no_name : (form : ReferenceForm) (at : _) (label : Option Span) → name_in (by_own_label c p form at label) ≡ None
  own_has_no_name form at None = refl
  own_has_no_name form at (Some label) =
      choice (is_footnote_label c.options (bytes_in c label)) (by_footnote c p label) (by_definition c p (reference form label at)) (note_has_no_name label)
      (by_definition_has_no_name (reference form label at))

  label_has_no_name : (label : Option Part) → name_in (by_label c p label) ≡ None
  label_has_no_name None = own_has_no_name Shortcut p.«end».offset (own_label c p)
  label_has_no_name (Some l) =
      let full : Verdict = by_definition c p (reference Full (span_of l) l.past) in
      let is_other : Bool = is_blank_label (bytes_in c (span_of l)) || is_footnote_label c.options (bytes_in c (span_of l)) in
      choice (l.start == l.«end») (by_own c p Collapsed l.past) (if is_other then by_own c p Shortcut p.«end».offset else full)
      (own_has_no_name Collapsed l.past (own_label c p))
      (choice is_other (by_own c p Shortcut p.«end».offset) full (own_has_no_name Shortcut p.«end».offset (own_label c p))
      (by_definition_has_no_name (reference Full (span_of l) l.past)))

  target_has_no_name : (target : Option InlineTarget) → name_in (by_target c p target) ≡ None
  target_has_no_name None = label_has_no_name (label_after c p)
  target_has_no_name (Some t) = refl

  following_has_no_name : name_in (what_follows c p) ≡ None
  unfolding what_follows
  following_has_no_name = target_has_no_name (target_at c.bytes p.«end».offset)

quiet_has_no_name : (waited : Bool) (v : Verdict) → name_in v ≡ None → name_in (quiet waited v) ≡ None
quiet_has_no_name true (Undefined label at is_after) h = refl
quiet_has_no_name true Text h = h
quiet_has_no_name true (Link target shown q) h = h
quiet_has_no_name true (FootnoteReference label) h = h
quiet_has_no_name true (NamePair n) h = h
quiet_has_no_name false v h = h

other_has_no_name : (c : Chain) (p : Pair) → name_in (link_or_note c p) ≡ None
other_has_no_name c p =
    choice (p.holds_note || (p.holds_link && not p.is_image)) Text (quiet p.waited (what_follows c p)) refl
    (quiet_has_no_name p.waited (what_follows c p) (following_has_no_name c p))

chosen : (x : Bool) (v w : Verdict) (n : Name) → name_in (if x then v else w) ≡ Some n → name_in w ≡ None → x ≡ true
chosen true v w n h k = refl
chosen false v w n h k = cc

judged_is : (c : Chain) (p : Pair) → judged c p ≡ around_name c p p.name
unfolding judged
judged_is c p = refl

-- a pair around a name is one
named_is_name : (c : Chain) (p : Pair) (name : Option Name) (n : Name) → name_in (around_name c p name) ≡ Some n → is_name c p ≡ true
named_is_name c p (Some m) n h = cc
named_is_name c p None n h = chosen (is_name c p) (NamePair (named p.text p.pipe)) (link_or_note c p) n h (other_has_no_name c p)

-- what the tests of a name say
before_closing : (a b d e f g : Bool) → (a && b && d && not (e || f) && g) ≡ true → d ≡ true
before_closing a b true e f g h = refl
before_closing true true false e f g h = cc
before_closing true false false e f g h = cc
before_closing false b false e f g h = cc

without_link : (a b d e f g : Bool) → (a && b && d && not (e || f) && g) ≡ true → e ≡ false
without_link a b d false f g h = refl
without_link true true true true f g h = cc
without_link true true false true f g h = cc
without_link true false d true f g h = cc
without_link false b d true f g h = cc

without_note : (a b d e f g : Bool) → (a && b && d && not (e || f) && g) ≡ true → f ≡ false
without_note a b d e false g h = refl
without_note true true true true true g h = cc
without_note true true true false true g h = cc
without_note true true false e true g h = cc
without_note true false d e true g h = cc
without_note false b d e true g h = cc

name_facts : (c : Chain) (p : Pair) → is_name c p ≡ true → (closes (look c p.«end») ≡ true) × (p.holds_link ≡ false) × (p.holds_note ≡ false)
name_facts c p h =
    let enabled : Bool = has c.options wikilinks in
    let inner : Bool = p.is_inner && not p.is_image in
    let some : Bool = nat_lt (named p.text p.pipe).name.start (named p.text p.pipe).name.«end» in
    let closed : Bool = closes (look c p.«end») in (
      before_closing enabled inner closed p.holds_link p.holds_note some h,
      without_link enabled inner closed p.holds_link p.holds_note some h,
      without_note enabled inner closed p.holds_link p.holds_note some h,
    )

-- a place that closes
closing : (v : View) → closes v ≡ true → (m : Mark) × (q : Place) × (v ≡ Closes m q)
closing AtEnd h = cc
closing (Opens m q) h = cc
closing (Closes m q) h = (m, q, refl)
closing (Piece m q) h = cc

-- a sequence in brackets that begins at a closing bracket is empty
nothing_more : (c : Chain) (w : Where) (r : Sequence) (p q n : Place) (m : Mark) → w.nested ≡ true → look c p ≡ Closes m n → IsSequence c w p r q → r ≡ Ends
nothing_more c w Ends p q n m i e h = refl
nothing_more c w (Single m' r) p q n m i e (n', o, h) = cc
nothing_more c w (Stray m' r) p q n m i e (n', o, out, h) = cc
nothing_more c w (Bracket m' r) p q n m i e (n', o, h, a) = cc
nothing_more c w (Paired opens x v inside r) p q n m i e (n', close, b, o, k, l, is, h) = cc

-- what begins with a name holds no link
named_holds_none : (c : Chain) (t : Sequence) (p q : Place) (name : Name) → IsSequence c after_bracket p t q → first_name t ≡ Some name
    → (holds_link t ≡ false) × (holds_note t ≡ false)
named_holds_none c (Paired opens x (NamePair m) inside r) p q name (n, close, b, o, i, l, is, h) e =
    let pair : Pair = pair_of c after_bracket opens x b inside in
    let is_one : is_name c pair ≡ true = named_is_name c pair (first_name inside) m (ap name_in (sym (is ∙ judged_is c pair))) in
    let facts = name_facts c pair is_one in
    let next = closing (look c b) facts.0 in
    let empty : r ≡ Ends = nothing_more c (after_pair after_bracket (NamePair m)) r b q next.1 next.0 refl next.2 h in
    (rw (empty, facts.1) refl, rw (empty, facts.2) refl)
named_holds_none c (Paired opens x Text inside r) p q name h e = cc
named_holds_none c (Paired opens x (Undefined label at is_after) inside r) p q name h e = cc
named_holds_none c (Paired opens x (Link target shown past) inside r) p q name h e = cc
named_holds_none c (Paired opens x (FootnoteReference label) inside r) p q name h e = cc
named_holds_none c Ends p q name h e = cc
named_holds_none c (Single m r) p q name h e = cc
named_holds_none c (Stray m r) p q name h e = cc
named_holds_none c (Bracket m r) p q name h e = cc

image_no_link : (v : Verdict) → is_link true v ≡ true → ⊥
image_no_link Text h = cc
image_no_link (Undefined label at is_after) h = cc
image_no_link (Link target shown q) h = cc
image_no_link (FootnoteReference label) h = cc
image_no_link (NamePair n) h = cc

-- a pair that holds one isn't a link, unless it is around a name
neither : (notes links : Bool) (v : Verdict) → is_link false (if (notes || (links && not false)) then Text else v) ≡ true → (links ≡ false) × (notes ≡ false)
neither false false v h = (refl, refl)
neither false true v h = cc
neither true links v h = cc

not_a_name : (x : Bool) (n : Name) (v : Verdict) → is_link false (if x then NamePair n else v) ≡ true → is_link false v ≡ true
not_a_name true n v h = cc
not_a_name false n v h = h

module _ (c : Chain) (w : Where) (opens x : Mark) (n b close : Place) (inside : Sequence) (i : IsSequence c after_bracket n inside close) where
  link_by_name : is_image opens ≡ false → (name : Option Name) → first_name inside ≡ name
      → is_link false (around_name c (pair_of c w opens x b inside) name) ≡ true → (holds_link inside ≡ false) × (holds_note inside ≡ false)
  link_by_name image (Some m) e k = named_holds_none c inside n close m i e
  link_by_name image None e k =
      let p : Pair = pair_of c w opens x b inside in
      neither (holds_note inside) (holds_link inside) (quiet w.waited (what_follows c p))
      (subst
      (λ (y : Bool). is_link false (if (holds_note inside || (holds_link inside && not y)) then Text else quiet w.waited (what_follows c p)) ≡ true)
      image (not_a_name (is_name c p) (named p.text p.pipe) (link_or_note c p) k))

  link_holds_none : is_link (is_image opens) (verdict c w opens x b inside) ≡ true → (holds_link inside ≡ false) × (holds_note inside ≡ false)
  link_holds_none l = by_image (is_image opens) refl
    where
      by_image : (image : Bool) → is_image opens ≡ image → (holds_link inside ≡ false) × (holds_note inside ≡ false)
      by_image true e =
          absurd (image_no_link (verdict c w opens x b inside) (subst (λ (y : Bool). is_link y (verdict c w opens x b inside) ≡ true) e l))
      by_image false e =
          link_by_name e (first_name inside) refl
          (subst (λ (y : Verdict). is_link false y ≡ true) (judged_is c (pair_of c w opens x b inside))
          (subst (λ (y : Bool). is_link y (verdict c w opens x b inside) ≡ true) e l))

pub flat : (c : Chain) (w : Where) (t : Sequence) (p q : Place) → IsSequence c w p t q → LinksHoldNone t
flat c w Ends p q h = tt
flat c w (Single m r) p q (n, o, h) = flat c (later w) r n q h
flat c w (Stray m r) p q (n, o, i, h) = flat c (later w) r n q h
flat c w (Bracket m r) p q (n, o, h, e) = flat c after_bracket r n q h
flat c w (Paired opens x v inside r) p q (n, close, b, o, i, l, is, h) = (
  λ k. link_holds_none c w opens x n b close inside i (subst (λ (y : Verdict). is_link (is_image opens) y ≡ true) is k),
  flat c after_bracket inside n close i,
  flat c (after_pair w v) r (past b v) q h,
)
