-- Texts in brackets, and runs, byte by byte.
use Rattle.std.proofs.Common.{◌≡◌, ℕ, zero, suc, ◌+◌, ◌<◌, ◌≤◌, ◌==◌, nat_lt, Bool, true, false, List, [], ◌∷◌, length, drop, get_or, Option, Some}
use Rattle.std.proofs.Common.{None, refl, sym, ap, ◌∙◌, inl, inr, arith, if◌then◌else◌, lt-ltb, drop-drop, get_or-drop, length-drop}
use Rattle.std.proofs.lemmas.Bool.{and_parts, cases_Bool, cases_lt, cond_both, false≢true}
use Rattle.std.proofs.lemmas.Bool.Decides.{nat_tests}
use Rattle.std.proofs.lemmas.List.{drop_more, drop_all}
use Rattle.first_pass_items.specs.Bytes.{backslash}
use Rattle.first_pass_lines.specs.Lines.{begins}
use Rattle.first_pass_links.specs.Escapes.{begins_escape}
use Rattle.first_pass_links.specs.Destinations.{unescaped_upto, ends_run, closes_none, nesting_after, bare_len, longer, if_closed}

pub longer-longer : (a b : ℕ) (o : Option ℕ) → longer a (longer b o) ≡ longer (a + b) o
longer-longer a b None = refl
longer-longer a b (Some k) = let e : a + (b + k) ≡ a + b + k = omega arith in ap (λ n. Some n) e

pub first-drop : (at : ℕ) (bs : List ℕ) → get_or (drop at bs) 0 0 ≡ get_or bs at 0
first-drop at bs = let z : at + 0 ≡ at = omega arith in get_or-drop at bs 0 0 ∙ ap (λ n. get_or bs n 0) z

-- up to the first byte that passes a test and is not escaped
pub upto-nil : (stops : ℕ → Bool) → unescaped_upto stops 0 [] ≡ 0
unfolding unescaped_upto
upto-nil stops = refl

pub upto-stop : (stops : ℕ → Bool) (b : ℕ) (bs : List ℕ) → begins_escape (b ∷ bs) ≡ false → stops b ≡ true → unescaped_upto stops 0 (b ∷ bs) ≡ 0
unfolding unescaped_upto
upto-stop stops b bs h s = rw (h, s)

pub upto-byte : (stops : ℕ → Bool) (b : ℕ) (bs : List ℕ)
    → begins_escape (b ∷ bs) ≡ false → stops b ≡ false → unescaped_upto stops 0 (b ∷ bs) ≡ 1 + unescaped_upto stops 0 bs
unfolding unescaped_upto
upto-byte stops b bs h s = rw (h, s)

pub upto-escape : (stops : ℕ → Bool) (b p : ℕ) (bs : List ℕ)
    → begins_escape (b ∷ p ∷ bs) ≡ true → unescaped_upto stops 0 (b ∷ p ∷ bs) ≡ 2 + unescaped_upto stops 0 bs
unfolding unescaped_upto
upto-escape stops b p bs h = rw h (omega arith)

-- a law of the bytes from each offset on holds if it holds of no bytes, and also with an escape or another byte before them
pub by_units : (P : ℕ → List ℕ → Type 0) → ((at : ℕ) → P at [])
    → ((at b p : ℕ) (bs : List ℕ) → begins_escape (b ∷ p ∷ bs) ≡ true → P (at + 1 + 1) bs → P at (b ∷ p ∷ bs))
    → ((at b : ℕ) (bs : List ℕ) → begins_escape (b ∷ bs) ≡ false → P (at + 1) bs → P at (b ∷ bs)) → (at : ℕ) (bs : List ℕ) → P at bs
by_units P nil escape byte at [] = nil at
by_units P nil escape byte at (b ∷ []) = byte at b [] (grind (arith, nat_tests)) (nil (at + 1))
by_units P nil escape byte at (b ∷ p ∷ bs) = elim (cases_Bool (begins_escape (b ∷ p ∷ bs))) [
  | inl e ↦ escape at b p bs e (by_units P nil escape byte (at + 1 + 1) bs)
  | inr e ↦ byte at b (p ∷ bs) e (by_units P nil escape byte (at + 1) (p ∷ bs))
]

-- `n` is the length of the bytes, or the byte at `n` meets the test
abbrev pub StopsAt : (ℕ → Bool) → List ℕ → ℕ → Type 0
StopsAt stops bs n = (n ≤ length bs) × (n < length bs → stops (get_or bs n 0) ≡ true)

stops_later : (stops : ℕ → Bool) (b : ℕ) (bs : List ℕ) (n : ℕ) → StopsAt stops bs n → StopsAt stops (b ∷ bs) (1 + n)
stops_later stops b bs n h =
    let fits = h.0 in
    let one : 1 + n ≡ suc n = omega arith in
    (omega (arith, fits), λ less. ap (λ k. stops (get_or (b ∷ bs) k 0)) one ∙ h.1 (omega (arith, less)))

-- a search for an unescaped byte stops at one that passes the test, or at the end
pub upto_stops : (stops : ℕ → Bool) (n : ℕ) (bs : List ℕ) → StopsAt stops bs (unescaped_upto stops n bs)
unfolding unescaped_upto
upto_stops stops n [] = (omega arith, λ less. absurd (omega (arith, less)))
upto_stops stops (suc n) (b ∷ bs) = stops_later stops b bs (unescaped_upto stops n bs) (upto_stops stops n bs)
upto_stops stops zero (b ∷ bs) =
    cond_both (begins_escape (b ∷ bs)) _ _ (StopsAt stops (b ∷ bs)) (λ _. stops_later stops b bs (unescaped_upto stops 1 bs) (upto_stops stops 1 bs))
    (λ _. cond_both (stops b) _ _ (StopsAt stops (b ∷ bs)) (λ e. (omega arith, λ less. e))
    (λ _. stops_later stops b bs (unescaped_upto stops 0 bs) (upto_stops stops 0 bs)))

-- one unit further: an escape, or a byte that does not stop
upto_unit_by : (t : Bool) (stops : ℕ → Bool) (bs : List ℕ) → begins_escape bs ≡ t → 0 < length bs → stops (get_or bs 0 0) ≡ false
    → unescaped_upto stops 0 bs ≡ (if t then 2 else 1) + unescaped_upto stops 0 (drop (if t then 2 else 1) bs)
upto_unit_by t stops [] h l s = absurd (omega arith)
upto_unit_by true stops (b ∷ []) h l s = absurd (grind (arith, nat_tests, h))
upto_unit_by true stops (b ∷ p ∷ bs) h l s = upto-escape stops b p bs h
upto_unit_by false stops (b ∷ bs) h l s = upto-byte stops b bs h s

pub upto_unit : (stops : ℕ → Bool) (bs : List ℕ) (at n : ℕ) → at < length bs → n ≡ (if begins_escape (drop at bs) then 2 else 1)
    → stops (get_or bs at 0) ≡ false → at + n + unescaped_upto stops 0 (drop (at + n) bs) ≡ at + unescaped_upto stops 0 (drop at bs)
upto_unit stops bs at n l e s =
    let d = drop_more bs at 0 l in
    let s' : stops (get_or (drop at bs) 0 0) ≡ false = ap (λ xs. stops (get_or xs 0 0)) d ∙ s in
    let k = ap length d in
    let u = upto_unit_by _ stops (drop at bs) refl (omega arith) s' in
    let v : unescaped_upto stops 0 (drop at bs) ≡ n + unescaped_upto stops 0 (drop n (drop at bs)) =
    u ∙ ap (λ m. m + unescaped_upto stops 0 (drop m (drop at bs))) (sym e) in
    let w = ap (unescaped_upto stops 0) (drop-drop n at bs) in
    omega arith

-- the search from the start on has come to an offset
pub record HasPassed (stops : ℕ → Bool) (bs : List ℕ) (at : ℕ) : Type 0 where
  pub within : at ≤ length bs
  pub passed : at + unescaped_upto stops 0 (drop at bs) ≡ unescaped_upto stops 0 bs

-- it comes to the end of the unit there, or it ends there
pub passed_unit : (stops : ℕ → Bool) (bs rest : List ℕ) (at n : ℕ) → HasPassed stops bs at → at < length bs → rest ≡ drop at bs → n ≤ length rest
    → n ≡ (if begins_escape rest then 2 else 1) → stops (get_or bs at 0) ≡ false → HasPassed stops bs (at + n)
passed_unit stops bs rest at n h l r w e s =
    let d = ap length r ∙ length-drop at bs in
    record { within = omega arith; passed = upto_unit stops bs at n l (e ∙ ap (λ xs. if begins_escape xs then 2 else 1) r) s ∙ h.passed }

pub upto_stopped : (stops : ℕ → Bool) (bs : List ℕ) (at : ℕ)
    → at < length bs → stops (get_or bs at 0) ≡ true → (get_or bs at 0 == backslash) ≡ false → unescaped_upto stops 0 (drop at bs) ≡ 0
upto_stopped stops bs at l s h = grind (arith, drop_more, upto-stop)

pub upto_ended : (stops : ℕ → Bool) (bs : List ℕ) (at : ℕ) → length bs ≤ at → unescaped_upto stops 0 (drop at bs) ≡ 0
upto_ended stops bs at l = ap (unescaped_upto stops 0) (drop_all at bs l) ∙ upto-nil stops

-- runs
pub run-nil : (deepest nesting : ℕ) → bare_len deepest nesting 0 [] ≡ if_closed nesting
unfolding bare_len
run-nil deepest nesting = refl

pub run-end : (deepest nesting b : ℕ) (bs : List ℕ) → ends_run b ≡ true → bare_len deepest nesting 0 (b ∷ bs) ≡ if_closed nesting
unfolding bare_len
run-end deepest nesting b bs h = rw h

pub run-escape : (deepest nesting b p : ℕ) (bs : List ℕ)
    → ends_run b ≡ false → begins_escape (b ∷ p ∷ bs) ≡ true → bare_len deepest nesting 0 (b ∷ p ∷ bs) ≡ longer 1 (longer 1 (bare_len deepest nesting 0 bs))
unfolding bare_len
run-escape deepest nesting b p bs h h' = rw (h, h')

pub run-unopened : (deepest nesting b : ℕ) (bs : List ℕ) → closes_none b nesting ≡ true → bare_len deepest nesting 0 (b ∷ bs) ≡ Some 0
unfolding bare_len
run-unopened deepest nesting b bs h = grind (arith, and_parts)

pub run-deep : (deepest nesting b : ℕ) (bs : List ℕ) → ends_run b ≡ false → begins_escape (b ∷ bs) ≡ false → closes_none b nesting ≡ false
    → nat_lt deepest (nesting_after b nesting) ≡ true → bare_len deepest nesting 0 (b ∷ bs) ≡ None
unfolding bare_len
run-deep deepest nesting b bs h i j k = rw (h, i, j, k)

pub run-byte : (deepest nesting b : ℕ) (bs : List ℕ) → ends_run b ≡ false → begins_escape (b ∷ bs) ≡ false → closes_none b nesting ≡ false
    → nat_lt deepest (nesting_after b nesting) ≡ false → bare_len deepest nesting 0 (b ∷ bs) ≡ longer 1 (bare_len deepest (nesting_after b nesting) 0 bs)
unfolding bare_len
run-byte deepest nesting b bs h i j k = rw (h, i, j, k)

-- one byte further, if it begins no escape
pub run_passed : (deepest nesting : ℕ) (bs : List ℕ) (at : ℕ) → at < length bs → begins_escape (drop at bs) ≡ false
    → ends_run (get_or bs at 0) ≡ false → closes_none (get_or bs at 0) nesting ≡ false → nesting_after (get_or bs at 0) nesting ≤ deepest
    → longer (at + 1) (bare_len deepest (nesting_after (get_or bs at 0) nesting) 0 (drop (at + 1) bs)) ≡ longer at (bare_len deepest nesting 0 (drop at bs))
run_passed deepest nesting bs at l alone e u i = grind (arith, drop_more, run-byte, longer-longer)

-- the bytes that stop a run
deep_by : (t : Bool) (deepest nesting b : ℕ) (bs : List ℕ) → begins_escape (b ∷ bs) ≡ t → ends_run b ≡ false → closes_none b nesting ≡ false → nesting ≤ deepest
    → deepest < nesting_after b nesting → bare_len deepest nesting 0 (b ∷ bs) ≡ None
deep_by true deepest nesting b bs h e u i s = grind (arith, and_parts)
deep_by false deepest nesting b bs h e u i s = run-deep deepest nesting b bs e h u (lt-ltb _ _ s)

pub run_deep : (deepest nesting : ℕ) (bs : List ℕ) (at : ℕ) → at < length bs → ends_run (get_or bs at 0) ≡ false → closes_none (get_or bs at 0) nesting ≡ false
    → nesting ≤ deepest → deepest < nesting_after (get_or bs at 0) nesting → bare_len deepest nesting 0 (drop at bs) ≡ None
run_deep deepest nesting bs at l e u i s = grind (arith, drop_more, deep_by)

pub run_unopened : (deepest nesting : ℕ) (bs : List ℕ) (at : ℕ)
    → at < length bs → closes_none (get_or bs at 0) nesting ≡ true → bare_len deepest nesting 0 (drop at bs) ≡ Some 0
run_unopened deepest nesting bs at l e = grind (arith, drop_more, run-unopened)

pub run_stopped : (deepest nesting : ℕ) (bs : List ℕ) (at : ℕ)
    → at < length bs → ends_run (get_or bs at 0) ≡ true → bare_len deepest nesting 0 (drop at bs) ≡ if_closed nesting
run_stopped deepest nesting bs at l e = ap (bare_len deepest nesting 0) (drop_more bs at 0 l) ∙ run-end deepest nesting (get_or bs at 0) (drop (at + 1) bs) e

pub run_ended : (deepest nesting : ℕ) (bs : List ℕ) (at : ℕ) → length bs ≤ at → bare_len deepest nesting 0 (drop at bs) ≡ if_closed nesting
run_ended deepest nesting bs at l = ap (bare_len deepest nesting 0) (drop_all at bs l) ∙ run-nil deepest nesting

-- the first byte from an offset on
pub first_byte : (k : ℕ) (text : List ℕ) (at : ℕ) → begins k (drop at text) ≡ true → (at < length text) × (get_or text at 0 ≡ k)
first_byte k text at h = grind (arith, cases_lt, drop_more, drop_all, false≢true)
