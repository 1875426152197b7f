-- Where reading continues after a pair.
use Rattle.std.proofs.Common.{◌≡◌, ℕ, zero, suc, ◌+◌, ◌-◌, ◌<◌, ◌≤◌, nat_lt, ◌==◌, ◌&&◌, ◌||◌, not, Bool, true, false, List, [], ◌∷◌, length}
use Rattle.std.proofs.Common.{length-drop, take, drop, Option, Some, None, IfSome, refl, ap, arith, if◌then◌else◌}
use Rattle.std.specs.List.{prefix_len}
use Rattle.std.specs.Option.{option_and_then, option_map, option_map_or}
use Rattle.std.proofs.lemmas.Option.{same_Some, option_and_then_some}
use Rattle.first_pass_items.specs.Bytes.{left_bracket, left_parenthesis, less_than, right_bracket, right_parenthesis}
use Rattle.first_pass_items.specs.OptionWords.{gfm_footnotes}
use Rattle.first_pass_lines.specs.Lines.{begins}
use Rattle.first_pass_lines.proofs.OptionFacts.{some_if, some_mapped}
use Rattle.first_pass_atoms.specs.Blanks.{is_blank}
use Rattle.first_pass_targets.specs.InlineLabels.{inline_label_at, is_blank_label, is_footnote_label, is_short}
use Rattle.first_pass_targets.specs.Parts.{part}
use Rattle.first_pass_targets.specs.Targets.{inline_destination_at, inline_title_at, separate_title_at, target_after, target_at, target_with, title_upto}
use Rattle.first_pass_targets.specs.declared.part.Part.{Part}
use Rattle.first_pass_targets.specs.declared.target.Target.{Target as InlineTarget}
use Rattle.first_pass_inline.specs.declared.mark.ReferenceForm.{ReferenceForm}
use Rattle.first_pass_inline.specs.declared.mark.ReferenceForm.TheVariants.{Full, Collapsed, Shortcut}
use Rattle.first_pass_inline.specs.declared.mark.Span.{Span}
use Rattle.first_pass_inline.specs.declared.pair.Pair.{Pair}
use Rattle.first_pass_inline.specs.declared.pair.Place.{Place}
use Rattle.first_pass_inline.specs.declared.pair.Reference.{Reference}
use Rattle.first_pass_inline.specs.declared.pair.Verdict.{Verdict}
use Rattle.first_pass_inline.specs.declared.pair.Verdict.TheVariants.{Text, Undefined, Link, FootnoteReference, Name}
use Rattle.first_pass_inline.specs.Look.{Chain, place_at}
use Rattle.first_pass_inline.specs.Sequences.{around_name, by_definition, by_footnote, by_label, by_own, by_own_label, by_target, bytes_in}
use Rattle.first_pass_inline.specs.Sequences.{defined_by, has_footnote, is_name, judged, label_after, link_or_note, named, named_by, own_label, past}
use Rattle.first_pass_inline.specs.Sequences.{quiet, reference, span_of, what_follows}

-- one of two results
pub either : {A C : Type 0} (b : Bool) (o p : Option A) (x : A) → (o ≡ Some x → C) → (p ≡ Some x → C) → (if b then o else p) ≡ Some x → C
either true o p x f g h = f h
either false o p x f g h = g h

-- where a label and a target end

both_true : (x y : Bool) → (x && y) ≡ true → x ≡ true
both_true true y h = refl
both_true false y h = cc

-- a byte is in the content
byte_within : (k : ℕ) (bs : List ℕ) (at : ℕ) → begins k (drop at bs) ≡ true → at < length bs
byte_within k [] zero h = cc
byte_within k [] (suc at) h = cc
byte_within k (b ∷ bs) zero h = omega arith
byte_within k (b ∷ bs) (suc at) h = omega (arith, byte_within k bs at h)

label_of_len : (content : List ℕ) (place n : ℕ) (l : Part)
    → (if begins right_bracket (drop n (drop place content)) && is_short (take n (drop place content))
    then Some (part place (place + n) (place + n + 1)) else None) ≡ Some l
    → (place ≤ l.past) × (l.past ≤ length content)
label_of_len content place n l h =
    let bs : List ℕ = drop place content in
    let s = some_if (begins right_bracket (drop n bs) && is_short (take n bs)) (Some (part place (place + n) (place + n + 1))) l h in
    let at : place + n + 1 ≡ l.past = ap (λ (x : Part). x.past) (same_Some (part place (place + n) (place + n + 1)) l s.1) in
    let byte = byte_within right_bracket bs n (both_true (begins right_bracket (drop n bs)) (is_short (take n bs)) s.0) in
    let size : length bs ≡ length content - place = simp length-drop refl in
    (omega (arith, at), omega (arith, at, byte, size))

label_end : (content : List ℕ) (place : ℕ) (l : Part) → inline_label_at content place ≡ Some l → (place ≤ l.past) × (l.past ≤ length content)
unfolding inline_label_at
label_end content place l h = label_of_len content place _ l h

bracketed_later : (place : ℕ) (o : Option (ℕ × List ℕ)) (d : Part)
    → option_map (λ (b : ℕ × List ℕ). part (place + 1) (place + b.0 - 1) (place + b.0)) o ≡ Some d → place ≤ d.past
bracketed_later place o d h =
    omega (arith, ap (λ (x : Part). x.past) (some_mapped (λ (b : ℕ × List ℕ). part (place + 1) (place + b.0 - 1) (place + b.0)) o d h).2)

bare_later : (place : ℕ) (o : Option ℕ) (d : Part) → option_map (λ n. part place (place + n) (place + n)) o ≡ Some d → place ≤ d.past
bare_later place o d h = omega (arith, ap (λ (x : Part). x.past) (some_mapped (λ n. part place (place + n) (place + n)) o d h).2)

destination_later : (content : List ℕ) (place : ℕ) (d : Part) → inline_destination_at content place ≡ Some d → place ≤ d.past
unfolding inline_destination_at
destination_later content place d h = either (begins less_than (drop place content)) _ _ d (bracketed_later place _ d) (bare_later place _ d) h

text_upto_later : (content : List ℕ) (from n close : ℕ) (t : Part)
    → (if begins close (drop (from + n) content) then Some (part from (from + n) (from + n + 1)) else None) ≡ Some t → from ≤ t.past
text_upto_later content from n close t h =
    let s = some_if (begins close (drop (from + n) content)) (Some (part from (from + n) (from + n + 1))) t h in
    omega (arith, ap (λ (x : Part). x.past) (same_Some (part from (from + n) (from + n + 1)) t s.1))

title_at_later : (content : List ℕ) (place : ℕ) (t : Part) → inline_title_at content place ≡ Some t → place ≤ t.past
unfolding inline_title_at
title_at_later content place t h =
    option_and_then_some (title_upto content (place + 1)) _ t h (λ close e g. omega (arith, text_upto_later content (place + 1) _ close t g))

title_later : (content : List ℕ) (place : ℕ) (t : Part) → separate_title_at content place ≡ Some t → place ≤ t.past
title_later content place t h =
    let n : ℕ = prefix_len is_blank (drop place content) in
    let s = some_if (nat_lt place (place + n)) (inline_title_at content (place + n)) t h in
    omega (arith, title_at_later content (place + n) t s.1)

-- the end of a destination, or that of the title after it
past_title : (content : List ℕ) (place : ℕ) (dest : Part) (title : Option Part) → separate_title_at content dest.past ≡ title → place ≤ dest.past
    → place ≤ option_map_or (λ (t : Part). t.past) title dest.past
past_title content place dest None e h = h
past_title content place dest (Some t) e h = omega (arith, h, title_later content dest.past t e)

closed_end : (content : List ℕ) (place : ℕ) (dest : Part) (title : Option Part) (t : InlineTarget)
    → place ≤ option_map_or (λ (t : Part). t.past) title dest.past
    → target_with content dest title ≡ Some t → (place ≤ t.past) × (t.past ≤ length content)
closed_end content place dest title t l h =
    let from : ℕ = option_map_or (λ (t : Part). t.past) title dest.past in
    let n : ℕ = prefix_len is_blank (drop from content) in
    let target : InlineTarget = record { dest = dest; title = title; past = from + n + 1 } in
    let s = some_if (begins right_parenthesis (drop (from + n) content)) (Some target) t h in
    let past : from + n + 1 ≡ t.past = ap (λ (x : InlineTarget). x.past) (same_Some target t s.1) in
    let byte = byte_within right_parenthesis content (from + n) s.0 in
    (omega (arith, l, past), omega (arith, byte, past))

target_end : (content : List ℕ) (place : ℕ) (t : InlineTarget) → target_at content place ≡ Some t → (place ≤ t.past) × (t.past ≤ length content)
unfolding target_at
target_end content place t h =
    let n : ℕ = prefix_len is_blank (drop (place + 1) content) in
    let s = some_if (begins left_parenthesis (drop place content))
    (option_and_then (target_after content) (inline_destination_at content (place + 1 + n))) t h in
    option_and_then_some (target_after content) (inline_destination_at content (place + 1 + n)) t s.1 (λ dest d e. closed_end content place dest
    (separate_title_at content dest.past) t
    (past_title content place dest (separate_title_at content dest.past) refl (omega (arith, destination_later content (place + 1 + n) dest d))) e)

if_some : {A : Type 0} {P : A → Type 0} (o : Option A) → ((x : A) → o ≡ Some x → P x) → IfSome o P
if_some None h = tt
if_some (Some x) h = h x refl

-- a place may be the end of what belongs to a pair
abbrev pub IsReached : Chain → Pair → ℕ → Type 0
IsReached c p at = (p.«end».offset ≤ at) × (p.«end».offset ≤ length c.bytes → at ≤ length c.bytes)

-- what is true of the end of a pair, and of the places after all that may belong to it, is true of the place where reading continues
module _ (c : Chain) (p : Pair) (P : Place → Type 0) (here : P p.«end») (there : (at : ℕ) → IsReached c p at → P (place_at c p.«end».index at)) where
  choice_reaches : (x : Bool) (v w : Verdict) → P (past p.«end» v) → P (past p.«end» w) → P (past p.«end» (if x then v else w))
  choice_reaches true v w h k = h
  choice_reaches false v w h k = k

  defined_reaches : (r : Reference) (found : Option ℕ) → IsReached c p r.«end» → P (past p.«end» (defined_by c p r found))
  defined_reaches r None h = here
  defined_reaches r (Some d) h = there r.«end» h

  definition_reaches : (r : Reference) → IsReached c p r.«end» → P (past p.«end» (by_definition c p r))
  definition_reaches r h = defined_reaches r (named_by c (bytes_in c r.label)) h

  note_reaches : (label : Span) → P (past p.«end» (by_footnote c p label))
  note_reaches label =
      choice_reaches (not (gfm_footnotes c.options) || has_footnote c (drop 1 (bytes_in c label))) (FootnoteReference label)
      (Undefined label p.«end».offset false) here here

  own_reaches : (form : ReferenceForm) (at : ℕ) (label : Option Span) → IsReached c p at → P (past p.«end» (by_own_label c p form at label))
  own_reaches form at None h = here
  own_reaches form at (Some label) h =
      choice_reaches (is_footnote_label c.options (bytes_in c label)) (by_footnote c p label) (by_definition c p (reference form label at))
      (note_reaches label) (definition_reaches (reference form label at) h)

  shortcut_reaches : P (past p.«end» (by_own c p Shortcut p.«end».offset))
  shortcut_reaches = own_reaches Shortcut p.«end».offset (own_label c p) (omega arith, λ h. h)

  label_reaches : (label : Option Part) → IfSome label (λ l. IsReached c p l.past) → P (past p.«end» (by_label c p label))
  label_reaches None h = shortcut_reaches
  label_reaches (Some l) h =
      let full : Verdict = by_definition c p (reference Full (span_of l) l.past) in
      let is_other : Bool = is_blank_label (bytes_in c (span_of l)) || is_footnote_label c.options (bytes_in c (span_of l)) in
      choice_reaches (l.start == l.«end») (by_own c p Collapsed l.past) (if is_other then by_own c p Shortcut p.«end».offset else full)
      (own_reaches Collapsed l.past (own_label c p) h)
      (choice_reaches is_other (by_own c p Shortcut p.«end».offset) full shortcut_reaches (definition_reaches (reference Full (span_of l) l.past) h))

  after_is_reached : IfSome (label_after c p) (λ l. IsReached c p l.past)
  after_is_reached = if_some (label_after c p) (λ l e.
      on l (label_end c.bytes (p.«end».offset + 1) l
      (some_if (begins left_bracket (drop p.«end».offset c.bytes)) (inline_label_at c.bytes (p.«end».offset + 1)) l e).1))
    where
      on : (l : Part) → (p.«end».offset + 1 ≤ l.past) × (l.past ≤ length c.bytes) → IsReached c p l.past
      on l h = (omega (arith, h.0), λ k. h.1)

  target_reaches : (target : Option InlineTarget) → target_at c.bytes p.«end».offset ≡ target → P (past p.«end» (by_target c p target))
  target_reaches None e = label_reaches (label_after c p) after_is_reached
  target_reaches (Some t) e =
      let end = target_end c.bytes p.«end».offset t e in
      there t.past (end.0, λ k. end.1)

  following_reaches : P (past p.«end» (what_follows c p))
  unfolding what_follows
  following_reaches = target_reaches (target_at c.bytes p.«end».offset) refl

  quiet_reaches : (waited : Bool) (v : Verdict) → P (past p.«end» v) → P (past p.«end» (quiet waited v))
  quiet_reaches true (Undefined label at is_after) h = h
  quiet_reaches true Text h = h
  quiet_reaches true (Link target shown q) h = h
  quiet_reaches true (FootnoteReference label) h = h
  quiet_reaches true (Name n) h = h
  quiet_reaches false v h = h

  name_reaches : (name : Option _) → P (past p.«end» (around_name c p name))
  name_reaches (Some n) = here
  name_reaches None =
      choice_reaches (is_name c p) (Name (named p.text p.pipe)) (link_or_note c p) here
      (choice_reaches (p.holds_note || (p.holds_link && not p.is_image)) Text (quiet p.waited (what_follows c p)) here
      (quiet_reaches p.waited (what_follows c p) following_reaches))

  pub judged_reaches : P (past p.«end» (judged c p))
  unfolding judged
  judged_reaches = name_reaches p.name
