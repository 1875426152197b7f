-- The destinations of links by their cases, and their places.
use Rattle.std.proofs.Common.{◌≡◌, ℕ, zero, suc, ◌+◌, ◌-◌, ◌<◌, ◌≤◌, ◌==◌, Bool, true, false, List, [], ◌∷◌, length, take, drop, Option, Some, None, IfSome}
use Rattle.std.proofs.Common.{if◌then◌else◌, refl, sym, ap, ◌∙◌, arith, IsUtf8, IsCharBoundary, drop-drop, length-drop, length-take-le}
use Rattle.std.specs.Option.{option_map, option_and_then}
use Rattle.std.proofs.lemmas.Bool.{cond_both}
use Rattle.std.proofs.lemmas.Bool.Decides.{nat_tests}
use Rattle.std.proofs.lemmas.List.{drop_more}
use Rattle.std.proofs.lemmas.Str.{IsCharBoundary-before_ascii}
use Rattle.first_pass_items.specs.Bytes.{less_than, greater_than}
use Rattle.first_pass_lines.specs.Lines.{begins}
use Rattle.first_pass_links.specs.Destinations.{unescaped_upto, ends_bracketed, bracketed_at, bare_len, unbracketed, destination_at}
use Rattle.first_pass_links.specs.Runs.{ends_before}
use Rattle.first_pass_links.proofs.Destinations.{run-nil, run-end, run-unopened, upto_stops}
use Rattle.first_pass_links.proofs.Runs.{run_counted}
use Rattle.first_pass_targets.specs.declared.part.Part.{Part}
use Rattle.first_pass_targets.specs.Parts.{IsPartFrom, part}
use Rattle.first_pass_grammar.specs.Definitions.{deepest_nesting}
use Rattle.first_pass_targets.specs.Targets.{inline_destination_at, text_start}
use Rattle.first_pass_targets.proofs.PartFacts.{after_byte, closed_part}

-- a run without bytes
no_bytes : (bs : List ℕ) → ends_before bs ≡ true → bare_len deepest_nesting 0 0 bs ≡ Some 0
no_bytes [] h = run-nil deepest_nesting 0
no_bytes (b ∷ bs) h = grind (arith, nat_tests, h, run-end, run-unopened)

no_bracket : (bs : List ℕ) → ends_before bs ≡ true → begins less_than bs ≡ false
no_bracket [] h = refl
no_bracket (b ∷ bs) h = grind (arith, nat_tests, h)

pub left_out : (content : List ℕ) (place : ℕ) → ends_before (drop place content) ≡ true
    → Some (part place place place) ≡ inline_destination_at content place
unfolding inline_destination_at
left_out content place h =
    let z : place + 0 ≡ place = omega arith in
    rw (no_bracket (drop place content) h, no_bytes (drop place content) h, z) refl

-- a destination with bytes, from its length and its text
abbrev pub part_of : List ℕ → ℕ → ℕ × List ℕ → Part
part_of bs place d = part (text_start bs place) (text_start bs place + length d.1) (place + d.0)

in_brackets : (place start : ℕ) (cs : List ℕ) → start ≡ place + 1
    → option_map (λ (d : ℕ × List ℕ). part (place + 1) (place + d.0 - 1) (place + d.0)) (bracketed_at cs)
    ≡ option_map (λ (d : ℕ × List ℕ). part start (start + length d.1) (place + d.0)) (bracketed_at cs)
unfolding bracketed_at
in_brackets place start cs s =
    let n = unescaped_upto ends_bracketed 0 cs in
    let f = (upto_stops ends_bracketed 0 cs).0 in
    let t = length-take-le n cs f in
    let e : place + (n + 2) - 1 ≡ place + 1 + length (take n cs) = omega arith in
    cond_both (begins greater_than (drop n cs)) _ _
    (λ o. option_map (λ (d : ℕ × List ℕ). part (place + 1) (place + d.0 - 1) (place + d.0)) o
    ≡ option_map (λ (d : ℕ × List ℕ). part start (start + length d.1) (place + d.0)) o)
    (λ _. rw (s, e) refl) (λ _. refl)

some_bytes : (n : ℕ) (bs : List ℕ) → ends_before bs ≡ false → bare_len deepest_nesting 0 0 bs ≡ Some n → (n == 0) ≡ false
some_bytes zero bs h e = absurd (let r = (run_counted deepest_nesting 0 bs e).ends in cc)
some_bytes (suc n) bs h e = grind (arith, nat_tests)

in_run : (place start : ℕ) (bs : List ℕ) (o : Option ℕ) → start ≡ place → ends_before bs ≡ false → bare_len deepest_nesting 0 0 bs ≡ o
    → option_map (λ n. part place (place + n) (place + n)) o
    ≡ option_map (λ (d : ℕ × List ℕ). part start (start + length d.1) (place + d.0)) (option_and_then (unbracketed bs) o)
in_run place start bs None s h e = refl
in_run place start bs (Some n) s h e =
    let t = length-take-le n bs (run_counted deepest_nesting n bs e).within in
    rw (some_bytes n bs h e, t, s) refl

written_by : (t : Bool) (content : List ℕ) (place : ℕ) → begins less_than (drop place content) ≡ t → ends_before (drop place content) ≡ false
    → inline_destination_at content place ≡ option_map (part_of (drop place content) place) (destination_at deepest_nesting (drop place content))
unfolding inline_destination_at destination_at
written_by true content place t h =
    let s = ap (λ b. if b then place + 1 else place) t in
    rw (t, drop-drop 1 place content) (in_brackets place (text_start (drop place content) place) (drop (place + 1) content) s)
written_by false content place t h =
    let s = ap (λ b. if b then place + 1 else place) t in
    rw t (in_run place (text_start (drop place content) place) (drop place content) _ s h refl)

pub written : (content : List ℕ) (place : ℕ) → ends_before (drop place content) ≡ false
    → inline_destination_at content place ≡ option_map (part_of (drop place content) place) (destination_at deepest_nesting (drop place content))
written content place h = written_by _ content place refl h

-- the end of a run is between characters
ended_is_ascii : (b : ℕ) (bs : List ℕ) → ends_before (b ∷ bs) ≡ true → b < 128
ended_is_ascii b bs h = grind (arith, nat_tests, h)

ended_boundary : (content : List ℕ) (at : ℕ) → at ≤ length content → ends_before (drop at content) ≡ true → IsCharBoundary content at
ended_boundary content at l h = (
  l,
  λ less. let e = ap ends_before (sym (drop_more content at 0 less)) ∙ h in
      (IsCharBoundary-before_ascii content at less (ended_is_ascii _ (drop (at + 1) content) e)).1 less,
)

run_place : (content : List ℕ) (place : ℕ) (o : Option ℕ) → IsCharBoundary content place → bare_len deepest_nesting 0 0 (drop place content) ≡ o
    → IfSome (option_map (λ n. part place (place + n) (place + n)) o) (IsPartFrom content place)
run_place content place None b h = tt
run_place content place (Some n) b h =
    let r = run_counted deepest_nesting n (drop place content) h in
    let w = r.within in
    let d = length-drop place content in
    let c = ended_boundary content (place + n) (let l = b.0 in omega arith) (ap ends_before (sym (drop-drop n place content)) ∙ r.ends) in
    record { later = omega arith; order = omega arith; closed = omega arith; from = b; upto = c; beyond = c }

bracket_place : (content : List ℕ) (place : ℕ) → IsUtf8 content → begins less_than (drop place content) ≡ true
    → IfSome (option_map (λ (d : ℕ × List ℕ). part (place + 1) (place + d.0 - 1) (place + d.0)) (bracketed_at (drop (place + 1) content)))
    (IsPartFrom content place)
unfolding bracketed_at
bracket_place content place u h =
    let cs = drop (place + 1) content in
    let n = unescaped_upto ends_bracketed 0 cs in
    let e : place + (n + 2) - 1 ≡ place + 1 + n = omega arith in
    let f : place + (n + 2) ≡ place + 1 + n + 1 = omega arith in
    cond_both (begins greater_than (drop n cs)) _ _
    (λ o. IfSome (option_map (λ (d : ℕ × List ℕ). part (place + 1) (place + d.0 - 1) (place + d.0)) o) (IsPartFrom content place))
    (λ g. rw (e, f)
    (closed_part greater_than content place (place + 1) (place + 1 + n) u (after_byte less_than content place u h (omega arith)) (omega arith) (omega arith)
    (ap (begins greater_than) (sym (drop-drop n (place + 1) content)) ∙ g) (omega arith))) (λ _. tt)

pub destination_place : (content : List ℕ) (place : ℕ) → IsUtf8 content → IsCharBoundary content place
    → IfSome (inline_destination_at content place) (IsPartFrom content place)
unfolding inline_destination_at
destination_place content place u b =
    cond_both (begins less_than (drop place content)) _ _ (λ o. IfSome o (IsPartFrom content place)) (λ h. bracket_place content place u h)
    (λ _. run_place content place _ b refl)
