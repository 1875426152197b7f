-- The parts of a definition after its colon, and the definition.
use Rattle.std.proofs.Common.{◌≡◌, ℕ, zero, suc, ◌+◌, ◌-◌, ◌==◌, ◌<◌, Bool, true, false, List, drop, Option, Some, None, is_some, MatchOption, IsSomeAnd}
use Rattle.std.proofs.Common.{IsUtf8, IsCharBoundary, refl, sym, ap, subst, ◌∙◌, arith, if◌then◌else◌, Bor, option_map, option_and_then, drop-drop}
use Rattle.std.proofs.Common.{slice_index, get_or-drop}
use Rattle.first_pass_grammar.proofs.Common.{IsCharBoundary-before_ascii, right_bracket, option_map_or, nat_tests, IsCharBoundary-after_ascii, colon}
use Rattle.first_pass_grammar.proofs.Common.{left_bracket, ascii_end, CowStr, text_of, LinkDef, begins, blank_len, destination_at, label_at, first_byte}
use Rattle.first_pass_grammar.proofs.Common.{Context, prefix_crossed, space_at, title_at, title_after, after_destination, deepest_nesting, Target, target_at}
use Rattle.first_pass_grammar.proofs.Common.{LinkReference, reference_definition_at}
use Rattle.std.proofs.lemmas.Option.{some_pair_parts}
use Rattle.first_pass_labels.specs.declared.label_table.LinkPlaces.{LinkPlaces}
use Rattle.first_pass_grammar.specs.Definitions.{target_of, target_from, reference_definition_of, reference_definition_after, title_distance}
use Rattle.first_pass_grammar.specs.LinkRuns.{places_of}
use Rattle.first_pass_definitions.proofs.Spaces.{shifted}
use Rattle.first_pass_definitions.proofs.Titles.{IsTextAnswer}
use Rattle.first_pass_definitions.proofs.OptionFacts.{matched, unmatched}
use Rattle.first_pass_definitions.specs.Reading.{IsReadTitle}
use Rattle.first_pass_definitions.specs.Found.{IsUnescaped, HasTitle, IsTarget, IsReference, AreInOrder, HasParts}
use Rattle.first_pass_definitions.proofs.ReferenceFacts.{label_last}

-- results for the text after a destination
abbrev pub IsFurther : Context → List ℕ → ℕ → Option (ℕ × Option (List ℕ)) → Option (ℕ × ℕ × Option CowStr) → Type 0
IsFurther around bs at o answer =
    MatchOption o (answer ≡ None)
    (λ further. IsSomeAnd answer
    (λ found. (found.1 ≡ at + further.0) × IsReadTitle further.1 found.2 × (found.0 ≡ at + title_distance around bs further.1)))

-- how many bytes white space has
abbrev pub white_len : Option (ℕ × ℕ) → ℕ
white_len o = option_map_or (λ (space : ℕ × ℕ). space.0) o 0

-- results for white space
pub space_found : (o : Option (ℕ × ℕ)) (start at lines : ℕ) → Some (at, lines) ≡ shifted start o → (s : ℕ × ℕ) × (o ≡ Some s) × (at ≡ start + s.0)
space_found None start at lines h = cc
space_found (Some s) start at lines h = (s, refl, (some_pair_parts at (start + s.0) lines s.1 h).0)

-- the bytes from an offset in the rest of a text on
pub drop_to : (text : List ℕ) (at n m : ℕ) → m ≡ at + n → drop n (drop at text) ≡ drop m text
drop_to text at n m e = drop-drop n at text ∙ ap (λ k. drop k text) (sym e)

none_at : (m start at : ℕ) → start ≡ at + m → (start ≡ at → ⊥) → (m == 0) ≡ false
none_at zero start at there apart = absurd (apart (omega arith))
none_at (suc m) start at there apart = grind (arith, nat_tests)

-- A title is read at an offset, after white space. If the rest of its line is blank, it is the title after the destination
-- before this white space.
pub title_spaced : (around : Context) (text : List ℕ) (at start k len : ℕ) (title : CowStr)
    → Some (start, k) ≡ shifted at (space_at around (drop at text)) → (start ≡ at → ⊥)
    → IsTextAnswer (title_at around (drop start text)) (Some (len, title))
    → (start ≡ at + white_len (space_at around (drop at text)))
    × (title_after around (drop at text)
    ≡ (if is_some (blank_len (drop (start + len) text)) then Some (start - at + len, text_of title) else None))
title_spaced around text at start k len title is apart r = grind (arith, space_found, drop_to, none_at)

-- results for destinations
abbrev pub IsDest : Option (ℕ × List ℕ) → Option (ℕ × Bor (List ℕ)) → Type 0
IsDest o answer = MatchOption o (answer ≡ None) (λ dest. IsSomeAnd answer (λ found. (found.0 ≡ dest.0) × (found.1.now ≡ dest.1)))

-- the target step by step
at_dest : (around : Context) (text : List ℕ) (start at : ℕ) (s : ℕ × ℕ) → space_at around (drop start text) ≡ Some s → at ≡ start + s.0
    → target_at around (drop start text) ≡ option_and_then (target_from around s.0 (drop at text)) (destination_at deepest_nesting (drop at text))
unfolding target_at
at_dest around text start at s e h = grind (arith, drop_to)

pub no_dest : (around : Context) (text : List ℕ) (start at lines : ℕ) → Some (at, lines) ≡ shifted start (space_at around (drop start text))
    → IsDest (destination_at deepest_nesting (drop at text)) None → target_at around (drop start text) ≡ None
no_dest around text start at lines h k =
    let s = space_found (space_at around (drop start text)) start at lines h in
    at_dest around text start at s.0 s.1 s.2
    ∙ ap (option_and_then (target_from around s.0.0 (drop at text))) (unmatched _ (destination_at deepest_nesting (drop at text)) k)

-- a destination of `n` bytes is at an offset, after the white space of a target
pub record DestRead (around : Context) (text : List ℕ) (start at n : ℕ) (b : Bor (List ℕ)) : Type 0 where
  pub space : ℕ × ℕ
  pub space_is : space_at around (drop start text) ≡ Some space
  pub there : at ≡ start + space.0
  pub dest : ℕ × List ℕ
  pub dest_is : destination_at deepest_nesting (drop at text) ≡ Some dest
  pub size : n ≡ dest.0
  pub bytes : b.now ≡ dest.1

pub dest_read : (around : Context) (text : List ℕ) (start at lines n : ℕ) (b : Bor (List ℕ))
    → Some (at, lines) ≡ shifted start (space_at around (drop start text)) → IsDest (destination_at deepest_nesting (drop at text)) (Some (n, b))
    → DestRead around text start at n b
dest_read around text start at lines n b h k =
    let s = space_found (space_at around (drop start text)) start at lines h in
    let d = matched _ (destination_at deepest_nesting (drop at text)) k in
    record { space = s.0; space_is = s.1; there = s.2; dest = d.value; dest_is = d.is; size = d.says.0; bytes = d.says.1 }

after_dest : {around : Context} {text : List ℕ} {start at n : ℕ} {b : Bor (List ℕ)} (d : DestRead around text start at n b)
    → target_at around (drop start text)
    ≡ option_map (target_of around (drop (at + n) text) d.space.0 d.dest) (after_destination around (drop (at + n) text))
after_dest {around} {text} {start} {at} {n} {b} d =
    at_dest around text start at d.space d.space_is d.there ∙ ap (option_and_then (target_from around d.space.0 (drop at text))) d.dest_is
    ∙ ap (λ xs. option_map (target_of around xs d.space.0 d.dest) (after_destination around xs)) (drop_to text at d.dest.0 (at + n) (ap (λ m. at + m) d.size))

pub no_further : {around : Context} {text : List ℕ} {start at n : ℕ} {b : Bor (List ℕ)} → DestRead around text start at n b
    → IsFurther around (drop (at + n) text) (at + n) (after_destination around (drop (at + n) text)) None → target_at around (drop start text) ≡ None
no_further {around} {text} {start} {at} {n} {b} d f =
    after_dest d
    ∙ ap (option_map (target_of around (drop (at + n) text) d.space.0 d.dest)) (unmatched _ (after_destination around (drop (at + n) text)) f)

-- places by the offsets of the destination and the title
abbrev pub placed : ℕ → ℕ → ℕ → ℕ → LinkPlaces
placed start at following title = record { label_end = start - 2; dest_start = at; dest_end = following; title_start = title }

pub placed_by : (start at following title n : ℕ) → n ≡ start - 2
    → ◌≡◌ {A = LinkPlaces} (record { label_end = n; dest_start = at; dest_end = following; title_start = title }) (placed start at following title)
placed_by start at following title n h = cc

-- a target that is found, where it ends and the places of its parts
pub record TargetFound (around : Context) (text : List ℕ) (start : ℕ) (to : ℕ × LinkPlaces) (b : Bor (List ℕ)) (title : Option CowStr) : Type 0 where
  pub size : ℕ
  pub target : Target
  pub is : target_at around (drop start text) ≡ Some (size, target)
  pub end_is : to.0 ≡ start + size
  pub places_are : to.1 ≡ places_of (start - 2) start target
  pub dest_is : b.now ≡ target.dest
  pub title_is : IsReadTitle target.title title

pub target_found : {around : Context} {text : List ℕ} {start at n : ℕ} {b : Bor (List ℕ)} (found : ℕ × ℕ × Option CowStr) → DestRead around text start at n b
    → IsFurther around (drop (at + n) text) (at + n) (after_destination around (drop (at + n) text)) (Some found)
    → TargetFound around text start (found.1, placed start at (at + n) found.0) b found.2
target_found {around} {text} {start} {at} {n} {b} (from, e, title) d f =
    let following = drop (at + n) text in
    let r = matched _ (after_destination around following) f in
    let there = d.there in
    let size = d.size in
    let more = r.says.0 in
    let gap = r.says.2 in
    let past : ℕ = d.space.0 + d.dest.0 in
    let far : ℕ = title_distance around following r.value.1 in
    let end_is : at + n ≡ start + past = omega arith in
    let title_is : from ≡ start + (past + far) = omega arith in
    record {
      size = past + r.value.0;
      target = record { dest = d.dest.1; title = r.value.1; dest_start = d.space.0; dest_end = past; title_start = past + far };
      is = after_dest d ∙ ap (option_map (target_of around following d.space.0 d.dest)) r.is;
      end_is = omega arith;
      places_are = rw (← there, ← end_is, ← title_is) refl;
      dest_is = d.bytes;
      title_is = r.says.1;
    }

abbrev pub IsTargetAnswer : Bool → ℕ → ℕ → Option (ℕ × Target) → Option (ℕ × LinkDef) → Type 0
IsTargetAnswer in_table from start o answer = MatchOption o (answer ≡ None) (λ target. IsSomeAnd answer (IsTarget in_table from start target))

-- A definition with the parts of a target is the result for it.
pub is_target : (around : Context) (text : List ℕ) (start from : ℕ) (b : Bor (List ℕ)) (title : Option CowStr) (in_table : Bool) (found : LinkDef)
    → TargetFound around text start (found.span.«end», found.places) b title → IsUnescaped in_table b.now found.dest
    → ((t : Option (List ℕ)) → IsReadTitle t title → HasTitle in_table t found.title) → found.span.start ≡ from
    → IsTargetAnswer in_table from start (target_at around (drop start text)) (Some (found.span.«end» - start, found))
is_target around text start from b title in_table found t dest read h = grind arith

-- the definition step by step
pub no_bracket : (in_table : Bool) (around : Context) (bs : List ℕ) → begins left_bracket bs ≡ false → reference_definition_at in_table around bs ≡ None
unfolding reference_definition_at
no_bracket in_table around bs h = rw h refl

at_label : (in_table : Bool) (around : Context) (text : List ℕ) (start : ℕ) → begins left_bracket (drop start text) ≡ true
    → reference_definition_at in_table around (drop start text) ≡ option_and_then (reference_definition_after around (drop (start + 1) text))
    (label_at (prefix_crossed true around) in_table (drop (start + 1) text))
unfolding reference_definition_at
at_label in_table around text start h =
    rw h (ap (λ xs. option_and_then (reference_definition_after around xs) (label_at (prefix_crossed true around) in_table xs)) (drop-drop 1 start text))

pub no_label : (in_table : Bool) (around : Context) (text : List ℕ) (start : ℕ) → begins left_bracket (drop start text) ≡ true
    → IsTextAnswer (label_at (prefix_crossed true around) in_table (drop (start + 1) text)) None
    → reference_definition_at in_table around (drop start text) ≡ None
no_label in_table around text start h k = grind (arith, at_label, unmatched)

-- a label of `n` bytes, with its `]`, is after the `[` at an offset
pub record LabelRead (in_table : Bool) (around : Context) (text : List ℕ) (start n : ℕ) (label : CowStr) : Type 0 where
  pub bracket : begins left_bracket (drop start text) ≡ true
  pub found : ℕ × List ℕ
  pub is : label_at (prefix_crossed true around) in_table (drop (start + 1) text) ≡ Some found
  pub size : n ≡ found.0
  pub text_is : text_of label ≡ found.1

pub label_read : (in_table : Bool) (around : Context) (text : List ℕ) (start n : ℕ) (label : CowStr) → begins left_bracket (drop start text) ≡ true
    → IsTextAnswer (label_at (prefix_crossed true around) in_table (drop (start + 1) text)) (Some (n, label)) → LabelRead in_table around text start n label
label_read in_table around text start n label h k =
    let l = matched _ (label_at (prefix_crossed true around) in_table (drop (start + 1) text)) k in
    record { bracket = h; found = l.value; is = l.is; size = l.says.0; text_is = l.says.1 }

-- the definition, by whether a colon follows the label
pub colon_by : (t : Bool) {in_table : Bool} {around : Context} {text : List ℕ} {start n : ℕ} {label : CowStr} (l : LabelRead in_table around text start n label)
    → begins colon (drop (start + 1 + n) text) ≡ t
    → reference_definition_at in_table around (drop start text)
    ≡ (if t then option_map (reference_definition_of l.found) (target_at around (drop (start + 1 + n + 1) text)) else None)
colon_by t {in_table} {around} {text} {start} {n} {label} l f =
    let size = l.size in
    let a = drop_to text (start + 1) l.found.0 (start + 1 + n) (omega arith) in
    let b = drop_to text (start + 1) (l.found.0 + 1) (start + 1 + n + 1) (omega arith) in
    at_label in_table around text start l.bracket ∙ ap (option_and_then (reference_definition_after around (drop (start + 1) text))) l.is
    ∙ rw (ap (begins colon) a ∙ f) (rw b refl)

pub no_target : {in_table : Bool} {around : Context} {text : List ℕ} {start n : ℕ} {label : CowStr} → LabelRead in_table around text start n label
    → begins colon (drop (start + 1 + n) text) ≡ true
    → IsTargetAnswer in_table start (start + 1 + n + 1) (target_at around (drop (start + 1 + n + 1) text)) None
    → reference_definition_at in_table around (drop start text) ≡ None
no_target {in_table} {around} {text} {start} {n} {label} l f t =
    colon_by true l f ∙ ap (option_map (reference_definition_of l.found)) (unmatched _ (target_at around (drop (start + 1 + n + 1) text)) t)

abbrev pub IsReferenceAnswer : Bool → ℕ → Option LinkReference → Option (ℕ × CowStr × LinkDef) → Type 0
IsReferenceAnswer in_table start o answer = MatchOption o (answer ≡ None) (λ reference. IsSomeAnd answer (IsReference in_table start reference))

reference_by : (in_table : Bool) (start n m : ℕ) (l : ℕ × List ℕ) (label : CowStr) (definition : LinkDef) (o : Option (ℕ × Target)) → n ≡ l.0
    → text_of label ≡ l.1 → IsTargetAnswer in_table start (start + 1 + n + 1) o (Some (m, definition))
    → IsReferenceAnswer in_table start (option_map (reference_definition_of l) o) (Some (n + 2 + m, label, definition))
reference_by in_table start n m l label definition None e h t = cc
reference_by in_table start n m l label definition (Some t) e h found = grind arith

pub is_reference : {in_table : Bool} {around : Context} {text : List ℕ} {start n : ℕ} {label : CowStr} (m : ℕ) (definition : LinkDef)
    → LabelRead in_table around text start n label → begins colon (drop (start + 1 + n) text) ≡ true
    → IsTargetAnswer in_table start (start + 1 + n + 1) (target_at around (drop (start + 1 + n + 1) text)) (Some (m, definition))
    → IsReferenceAnswer in_table start (reference_definition_at in_table around (drop start text)) (Some (n + 2 + m, label, definition))
is_reference {in_table} {around} {text} {start} {n} {label} m definition l f t =
    subst (λ o. IsReferenceAnswer in_table start o (Some (n + 2 + m, label, definition))) (sym (colon_by true l f))
    (reference_by in_table start n m l.found label definition (target_at around (drop (start + 1 + n + 1) text)) l.size l.text_is t)

-- A label is not empty, and its `]` is a character.
label_ends : {in_table : Bool} {around : Context} {text : List ℕ} {start n : ℕ} {label : CowStr} → LabelRead in_table around text start n label
    → begins colon (drop (start + 1 + n) text) ≡ true → (0 < n) × IsCharBoundary text (start + n)
label_ends {in_table} {around} {text} {start} {n} {label} l is_colon =
    let last = label_last (prefix_crossed true around) in_table (drop (start + 1) text) l.found l.is in
    let same = l.size in
    let some = last.0 in
    let there = (first_byte colon text (start + 1 + n) is_colon).0 in
    let i : start + 1 + (l.found.0 - 1) ≡ start + n = omega arith in
    let byte : slice_index text (start + n) ≡ right_bracket = ap (slice_index text) (sym i) ∙ sym (get_or-drop (start + 1) text (l.found.0 - 1) 0) ∙ last.1 in
    (omega arith, IsCharBoundary-before_ascii text (start + n) (omega arith) (omega (arith, byte)))

-- All parts have their places where those of the target have.
pub has_parts : {in_table : Bool} {around : Context} {text : List ℕ} {start n : ℕ} {label : CowStr} (o : Option (ℕ × Target)) (found : ℕ × LinkDef)
    → LabelRead in_table around text start n label → begins colon (drop (start + 1 + n) text) ≡ true
    → IsTargetAnswer in_table start (start + 1 + n + 1) o (Some found) → AreInOrder text (start + 1 + n + 1) found.1 → HasParts text found.1
has_parts {in_table} {around} {text} {start} {n} {label} o found l is_colon target order =
    let definition : LinkDef = found.1 in
    let ends = label_ends l is_colon in
    let some = ends.0 in
    let t = (matched _ o target).says.definition in
    let begin = t.start_is in
    let closes : definition.places.label_end ≡ start + 1 + n + 1 - 2 = ap (λ places. places.label_end) t.places_are in
    let end_is : start + n ≡ definition.places.label_end = omega arith in
    let past_is : start + 1 + n + 1 ≡ definition.places.label_end + 2 = omega arith in
    record {
      label = omega arith;
      boundary = subst (IsCharBoundary text) end_is ends.1;
      target = subst (λ k. AreInOrder text k definition) past_is order;
    }

-- after an ASCII byte
pub after_byte : (byte : ℕ) (text : List ℕ) (at : ℕ) → byte < ascii_end → IsUtf8 text → begins byte (drop at text) ≡ true → IsCharBoundary text (at + 1)
after_byte byte text at low u h = let there = first_byte byte text at h in IsCharBoundary-after_ascii text at u there.0 (omega (arith, there.1, low))
