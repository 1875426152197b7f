-- The first end with a text: what a search for it finds.
use Rattle.std.proofs.Common.{◌≡◌, ℕ, zero, suc, ◌+◌, ◌-◌, ◌<◌, ◌≤◌, Bool, true, false}
use Rattle.std.proofs.Common.{List, [], ◌∷◌, length, take, drop, get_or, Option, Some, None, refl, sym, ap, ◌∙◌, arith}
use Rattle.std.proofs.Common.{if◌then◌else◌, drop-drop}
use Rattle.std.specs.Option.{option_map}
use Rattle.std.proofs.lemmas.Bool.{false_from_ne_true}
use Rattle.std.proofs.lemmas.Option.{none-some}
use Rattle.std.proofs.lemmas.Slice.Eq.{bytes_eq-Decides}
use Rattle.std.proofs.lemmas.List.{length-take}
use Rattle.memchr.specs.Find.{OccursAt, Nowhere}
use Rattle.memchr.proofs.lemmas.MatchLemmas.{OccursAt-part, OccursAt-from_part}
use Rattle.first_pass_html.specs.Starts.{begins_with}
use Rattle.first_pass_lines.proofs.OptionFacts.{none_mapped}
use Rattle.first_pass_atoms.specs.RawHtml.{end_len}
use Rattle.first_pass_atoms.specs.HtmlEnds.{HasNoneFrom}

-- a text at the start of the bytes
begins_here : (text bs : List ℕ) → begins_with text bs ≡ true → OccursAt bs text 0
begins_here text bs h =
    let part : text ≡ take (length text) bs = (bytes_eq-Decides text _).0 h in
    OccursAt-from_part bs text 0 (omega (arith, ap length part, length-take (length text) bs)) (sym part)

occurs_here : (text bs : List ℕ) → OccursAt bs text 0 → begins_with text bs ≡ true
occurs_here text bs h = (bytes_eq-Decides text _).1 (sym (OccursAt-part bs text 0 h))

not_here : (text bs : List ℕ) → ¬ OccursAt bs text 0 → begins_with text bs ≡ false
not_here text bs h = false_from_ne_true _ (λ t. h (begins_here text bs t))

-- a text in the bytes after the first one
next_place : (b : ℕ) (bs : List ℕ) (k j : ℕ) → get_or (b ∷ bs) (suc k + j) 0 ≡ get_or bs (k + j) 0
next_place b bs k j = let e : suc k + j ≡ suc (k + j) = omega arith in ap (λ i. get_or (b ∷ bs) i 0) e

shifted : (text : List ℕ) (b : ℕ) (bs : List ℕ) (k : ℕ) → OccursAt bs text k → OccursAt (b ∷ bs) text (suc k)
shifted text b bs k h = record { fits = omega (arith, h.fits); reads = λ j l. next_place b bs k j ∙ h.reads j l }

unshifted : (text : List ℕ) (b : ℕ) (bs : List ℕ) (k : ℕ) → OccursAt (b ∷ bs) text (suc k) → OccursAt bs text k
unshifted text b bs k h = record { fits = omega (arith, h.fits); reads = λ j l. sym (next_place b bs k j) ∙ h.reads j l }

pub found : (text bs : List ℕ) (k : ℕ) → 0 < length text → Nowhere (OccursAt bs text) 0 k → OccursAt bs text k → end_len text bs ≡ Some (k + length text)
unfolding end_len
found text [] k some before h = absurd (omega (arith, h.fits))
found text (b ∷ bs) zero some before h = rw (occurs_here text (b ∷ bs) h) (ap Some (omega arith))
found text (b ∷ bs) (suc k) some before h =
    rw (not_here text (b ∷ bs) (before 0 (omega arith) (omega arith)))
    (ap (option_map (λ n. 1 + n))
    (found text bs k some (λ j low high there. before (suc j) (omega arith) (omega arith) (shifted text b bs j there)) (unshifted text b bs k h))
    ∙ ap Some (omega arith))

pub not_found : (text bs : List ℕ) → Nowhere (OccursAt bs text) 0 (length bs + 1) → end_len text bs ≡ None
unfolding end_len
not_found text [] h = refl
not_found text (b ∷ bs) h =
    rw (not_here text (b ∷ bs) (h 0 (omega arith) (omega arith)))
    (ap (option_map (λ n. 1 + n)) (not_found text bs (λ j low high there. h (suc j) (omega arith) (omega arith) (shifted text b bs j there))))

-- from a later place on there is none either
tail_none : (t : Bool) (n : ℕ) (o : Option ℕ) → (if t then Some n else option_map (λ k. 1 + k) o) ≡ None → o ≡ None
tail_none true n o h = absurd (none-some n (sym h))
tail_none false n o h = none_mapped (λ k. 1 + k) o (sym h)

none_dropped : (text bs : List ℕ) (d : ℕ) → end_len text bs ≡ None → end_len text (drop d bs) ≡ None
unfolding end_len
none_dropped text bs zero h = h
none_dropped text [] (suc d) h = h
none_dropped text (b ∷ bs) (suc d) h = none_dropped text bs d (tail_none (begins_with text (b ∷ bs)) (length text) (end_len text bs) h)

pub none_later : (text content : List ℕ) (p q : ℕ) → p ≤ q → HasNoneFrom text content p → HasNoneFrom text content q
none_later text content p q le h =
    let d : p + (q - p) ≡ q = omega arith in
    sym (ap (end_len text) (drop-drop (q - p) p content ∙ ap (λ k. drop k content) d)) ∙ none_dropped text (drop p content) (q - p) h
