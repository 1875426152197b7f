-- Runs by the grammar, and their computed length.
use Rattle.std.proofs.Common.{◌≡◌, inl, inr, ℕ, zero, suc, ◌+◌, ◌-◌, ◌<◌, ◌≤◌, ◌==◌, Bool, true, false, List, [], ◌∷◌, ◌++◌, length, take, drop, get_or}
use Rattle.std.proofs.Common.{Option, Some, None, refl, sym, ap, subst, ◌∙◌, arith, append_assoc, length-append, eqb-true, le-ltb, take-append-drop}
use Rattle.std.proofs.Common.{length-take-le}
use Rattle.std.proofs.Math.Seq.{take-append-add, drop-append-add}
use Rattle.std.specs.Char.{is_ascii_punctuation}
use Rattle.std.proofs.lemmas.Bool.{cases_Bool, and_left, and_parts}
use Rattle.std.proofs.lemmas.Bool.Decides.{nat_tests}
use Rattle.first_pass_items.specs.Bytes.{left_parenthesis, right_parenthesis, backslash}
use Rattle.first_pass_links.specs.Escapes.{begins_escape}
use Rattle.first_pass_links.specs.Destinations.{ends_run, closes_none, nesting_after, bare_len, longer, if_closed}
use Rattle.first_pass_links.specs.Runs.{is_run_byte, IsBare, nothing, escape, plain, nested, ends_before, BeginsRun}
use Rattle.first_pass_links.proofs.Destinations.{by_units, longer-longer, run-nil, run-end, run-escape, run-unopened, run-deep, run-byte, run_passed}

-- if there is a run, its length is computed
pub longer-none : (o : Option ℕ) → longer 0 o ≡ o
longer-none None = refl
longer-none (Some k) = let e : 0 + k ≡ k = omega arith in ap (λ n. Some n) e

pub plain_facts : (b nesting : ℕ) → is_run_byte b ≡ true → (ends_run b ≡ false) × (closes_none b nesting ≡ false) × (nesting_after b nesting ≡ nesting)
plain_facts b nesting h = grind (arith, nat_tests)

-- a run continues after a byte that it may have by itself
pub run_alone : (deepest nesting : ℕ) (bs : List ℕ) (at : ℕ) → at < length bs → is_run_byte (get_or bs at 0) ≡ true → begins_escape (drop at bs) ≡ false
    → nesting ≤ deepest → longer (at + 1) (bare_len deepest nesting 0 (drop (at + 1) bs)) ≡ longer at (bare_len deepest nesting 0 (drop at bs))
run_alone deepest nesting bs at l runs alone bound =
    let f = plain_facts (get_or bs at 0) nesting runs in
    ap (λ n. longer (at + 1) (bare_len deepest n 0 (drop (at + 1) bs))) (sym f.2)
    ∙ run_passed deepest nesting bs at l alone f.0 f.1 (let z = f.2 in omega arith)

-- no escape begins with a backslash before the end or before a byte that ends a run
end_is_other : (p : ℕ) → ends_run p ≡ true → is_ascii_punctuation p ≡ false
end_is_other p h = grind (arith, nat_tests, h)

pub end_escapes_none : (bs : List ℕ) → ends_run (get_or bs 1 0) ≡ true → begins_escape bs ≡ false
end_escapes_none [] ends = refl
end_escapes_none (b ∷ bs) ends = let e = end_is_other (get_or (b ∷ bs) 1 0) ends in grind (arith, nat_tests, e)

-- a run continues after a backslash and a byte that does not end it, escaped or not
run_pair : (t : Bool) (deepest nesting p : ℕ) (bs : List ℕ) → is_ascii_punctuation p ≡ t → ends_run p ≡ false → nesting ≤ deepest
    → bare_len deepest nesting 0 (backslash ∷ p ∷ bs) ≡ longer 2 (bare_len deepest nesting 0 bs)
run_pair true deepest nesting p bs h goes bound = run-escape deepest nesting backslash p bs refl h ∙ longer-longer 1 1 (bare_len deepest nesting 0 bs)
run_pair false deepest nesting p bs h goes bound =
    let whole : List ℕ = backslash ∷ p ∷ bs in
    sym (run_alone deepest nesting whole 1 (omega arith) (grind (arith, nat_tests, h, goes)) (and_left (p == backslash) _ (grind (arith, nat_tests, h))) bound
    ∙ run_alone deepest nesting whole 0 (omega arith) refl h bound ∙ longer-none (bare_len deepest nesting 0 whole))

pub run_backslash : (deepest nesting : ℕ) (bs : List ℕ) → 2 ≤ length bs → get_or bs 0 0 ≡ backslash → ends_run (get_or bs 1 0) ≡ false → nesting ≤ deepest
    → longer 2 (bare_len deepest nesting 0 (drop 2 bs)) ≡ bare_len deepest nesting 0 bs
run_backslash deepest nesting [] two here goes bound = absurd (omega arith)
run_backslash deepest nesting (b ∷ []) two here goes bound = absurd (omega arith)
run_backslash deepest nesting (b ∷ p ∷ bs) two here goes bound =
    sym (ap (λ k. bare_len deepest nesting 0 (k ∷ p ∷ bs)) here ∙ run_pair _ deepest nesting p bs refl goes bound)

three_parts : (a b c : ℕ) (o : Option ℕ) → suc (a + suc b) ≡ c → longer 1 (longer a (longer 1 (longer b o))) ≡ longer c o
three_parts a b c None s = refl
three_parts a b c (Some k) s = let e : 1 + (a + (1 + (b + k))) ≡ c + k = omega arith in ap (λ n. Some n) e

two_parts : (a : ℕ) (o : Option ℕ) → longer 1 (longer a o) ≡ longer (suc a) o
two_parts a o = longer-longer 1 a o ∙ (let e : 1 + a ≡ suc a = omega arith in ap (λ n. longer n o) e)

counts : (deepest : ℕ) (d : ℕ) (run following : List ℕ) → IsBare d run following → (nesting : ℕ) → d + nesting ≡ deepest
    → bare_len deepest nesting 0 (run ++ following) ≡ longer (length run) (bare_len deepest nesting 0 following)
counts deepest _ _ _ (nothing d following) nesting e = sym (longer-none (bare_len deepest nesting 0 following))
counts deepest _ _ _ (escape d b more following p r) nesting e = grind (arith, run-escape, two_parts, counts deepest d more following r nesting e)
counts deepest _ _ _ (plain d b more following p alone r) nesting e =
    grind (arith, plain_facts, run-byte, two_parts, counts deepest d more following r nesting e)
counts deepest _ _ _ (nested d inside more following r s) nesting e =
    let shallow : nesting + 1 ≤ deepest = omega arith in
    let back : nesting + 1 - 1 ≡ nesting = omega arith in
    let open_none : (nesting + 1 == 0) ≡ false = grind (arith, nat_tests) in
    let left = bare_len deepest nesting 0 following in
    let l = length-append inside (right_parenthesis ∷ more) in
    ap (bare_len deepest nesting 0) (ap (λ xs. left_parenthesis ∷ xs) (append_assoc inside (right_parenthesis ∷ more) following))
    ∙ run-byte deepest nesting left_parenthesis (inside ++ right_parenthesis ∷ (more ++ following)) refl refl refl (le-ltb _ _ shallow)
    ∙ ap (longer 1) (counts deepest d inside (right_parenthesis ∷ (more ++ following)) r (nesting + 1) (omega arith)
    ∙ ap (longer (length inside))
    (run-byte deepest (nesting + 1) right_parenthesis (more ++ following) refl refl (rw open_none)
    (le-ltb _ _ (let z : nesting + 1 - 1 ≤ deepest = omega arith in z)) ∙ ap (λ k. longer 1 (bare_len deepest k 0 (more ++ following))) back
    ∙ ap (longer 1) (counts deepest (suc d) more following s nesting e)))
    ∙ three_parts (length inside) (length more) _ left (omega arith)

ended : (deepest : ℕ) (bs : List ℕ) → ends_before bs ≡ true → bare_len deepest 0 0 bs ≡ Some 0
ended deepest [] h = run-nil deepest 0
ended deepest (b ∷ bs) h = grind (arith, cases_Bool, run-end, run-unopened)

pub run_found : (deepest n : ℕ) (bs : List ℕ) → BeginsRun deepest bs n → bare_len deepest 0 0 bs ≡ Some n
run_found deepest n bs h =
    let z : n + 0 ≡ n = omega arith in
    ap (bare_len deepest 0 0) (sym (take-append-drop n bs)) ∙ counts deepest deepest (take n bs) (drop n bs) h.run 0 (omega arith)
    ∙ ap (longer (length (take n bs))) (ended deepest (drop n bs) h.ends) ∙ ap (λ k. longer k (Some 0)) (length-take-le n bs h.within) ∙ ap (λ k. Some k) z

-- bytes that close k parentheses opened before them: a run before each of these `)`, and one after the last
abbrev Closes : ℕ → ℕ → List ℕ → List ℕ → Type 0
Closes zero d run following = IsBare d run following
Closes (suc k) d run following =
    (inside : List ℕ) × (more : List ℕ) × (run ≡ inside ++ right_parenthesis ∷ more) × IsBare d inside (right_parenthesis ∷ (more ++ following))
    × Closes k (suc d) more following

-- more bytes before them, if these may come before each run in them
closes_more : (k d : ℕ) (bytes run following : List ℕ) → ((xs ys : List ℕ) → run ++ following ≡ xs ++ ys → IsBare d xs ys → IsBare d (bytes ++ xs) ys)
    → Closes k d run following → Closes k d (bytes ++ run) following
closes_more zero d bytes run following f c = f run following refl c
closes_more (suc k) d bytes run following f c = (
  bytes ++ c.0,
  c.1,
  ap (λ xs. bytes ++ xs) c.2 ∙ sym (append_assoc bytes c.0 (right_parenthesis ∷ c.1)),
  f c.0 (right_parenthesis ∷ (c.1 ++ following)) (ap (λ xs. xs ++ following) c.2 ∙ append_assoc c.0 (right_parenthesis ∷ c.1) following) c.3,
  c.4,
)

closes_close : (k d : ℕ) (run following : List ℕ) → Closes k (suc d) run following → Closes (suc k) d (right_parenthesis ∷ run) following
closes_close k d run following c = ([], run, refl, nothing d (right_parenthesis ∷ (run ++ following)), c)

closes_open : (k d : ℕ) (run following : List ℕ) → Closes (suc k) d run following → Closes k (suc d) (left_parenthesis ∷ run) following
closes_open zero d run following c = subst (λ xs. IsBare (suc d) (left_parenthesis ∷ xs) following) (sym c.2) (nested d c.0 c.1 following c.3 c.4)
closes_open (suc k) d run following c =
    let r = c.4 in
    let e : right_parenthesis ∷ (c.1 ++ following) ≡ right_parenthesis ∷ (r.0 ++ right_parenthesis ∷ (r.1 ++ following)) =
    ap (λ xs. right_parenthesis ∷ xs) (ap (λ xs. xs ++ following) r.2 ∙ append_assoc r.0 (right_parenthesis ∷ r.1) following) in (
      left_parenthesis ∷ (c.0 ++ right_parenthesis ∷ r.0),
      r.1,
      ap (λ xs. left_parenthesis ∷ xs) (c.2 ∙ ap (λ xs. c.0 ++ right_parenthesis ∷ xs) r.2
          ∙ sym (append_assoc c.0 (right_parenthesis ∷ r.0) (right_parenthesis ∷ r.1))),
      nested d c.0 r.0 (right_parenthesis ∷ (r.1 ++ following)) (subst (IsBare d c.0) e c.3) r.3,
      r.4,
    )

-- the first n bytes close this many parentheses, and end there
record Ends (k d : ℕ) (bs : List ℕ) (n : ℕ) : Type 0 where
  within : n ≤ length bs
  closes : Closes k d (take n bs) (drop n bs)
  ends : ends_before (drop n bs) ≡ true

longer_some : (a n : ℕ) (o : Option ℕ) → longer a o ≡ Some n → (j : ℕ) × (o ≡ Some j) × (a + j ≡ n)
longer_some a n None h = cc
longer_some a n (Some j) h = (j, refl, cc)

some_open : (k : ℕ) → (suc k == 0) ≡ false
some_open k = grind (arith, nat_tests)

unclosed : (k : ℕ) → if_closed (suc k) ≡ None
unclosed k = rw (some_open k)

none_open : (k d n : ℕ) (bs : List ℕ) → ends_before bs ≡ true → if_closed k ≡ Some n → Ends k d bs n
none_open zero d n bs e h = let z : 0 ≡ n = cc in subst (Ends 0 d bs) z (record { within = omega arith; closes = nothing d bs; ends = e })
none_open (suc k) d n bs e h = let f = unclosed k in cc

-- the length that is computed after each byte
abbrev Counted : ℕ → List ℕ → Type 0
Counted deepest bs = (k d n : ℕ) → d + k ≡ deepest → bare_len deepest k 0 bs ≡ Some n → Ends k d bs n

-- bytes before the rest of a run, given what they open, close or add
counted_more : (deepest k d j c n : ℕ) (bytes bs : List ℕ) → Counted deepest bs → c + j ≡ deepest → longer (length bytes) (bare_len deepest j 0 bs) ≡ Some n
    → ((run following : List ℕ) → bs ≡ run ++ following → Closes j c run following → Closes k d (bytes ++ run) following) → Ends k d (bytes ++ bs) n
counted_more deepest k d j c n bytes bs i s h f =
    let x = longer_some (length bytes) n (bare_len deepest j 0 bs) h in
    let m : ℕ = x.0 in
    let r = i j c m s x.1 in
    let within = r.within in
    let size = length-append bytes bs in
    subst (Ends k d (bytes ++ bs)) x.2 (record {
      within = omega arith;
      closes = rw (take-append-add bytes bs m, drop-append-add bytes bs m) (f (take m bs) (drop m bs) (sym (take-append-drop m bs)) r.closes);
      ends = ap ends_before (drop-append-add bytes bs m) ∙ r.ends;
    })

counted_escape : (deepest b p : ℕ) (bs : List ℕ) → begins_escape (b ∷ p ∷ bs) ≡ true → Counted deepest bs → Counted deepest (b ∷ p ∷ bs)
counted_escape deepest b p bs h i =
    let q = and_parts _ _ h in
    subst (λ c. Counted deepest (c ∷ p ∷ bs)) (sym (eqb-true b backslash q.0)) (λ k d n e m.
    counted_more deepest k d k d n (backslash ∷ p ∷ []) bs i e
    (sym (run-escape deepest k backslash p bs refl q.1 ∙ longer-longer 1 1 (bare_len deepest k 0 bs)) ∙ m)
    (λ run following parts c. closes_more k d (backslash ∷ p ∷ []) run following (λ xs ys same r. escape d p xs ys q.1 r) c))

counted_open : (deepest : ℕ) (bs : List ℕ) → Counted deepest bs → (k d n : ℕ) → d + k ≡ deepest → bare_len deepest k 0 (left_parenthesis ∷ bs) ≡ Some n
    → Ends k d (left_parenthesis ∷ bs) n
counted_open deepest bs i k zero n e h = grind (arith, run-deep)
counted_open deepest bs i k (suc d) n e h =
    let f : k + 1 ≡ suc k = omega arith in
    counted_more deepest k (suc d) (suc k) d n (left_parenthesis ∷ []) bs i (omega arith)
    (ap (λ m. longer 1 (bare_len deepest m 0 bs)) (sym f)
    ∙ sym (run-byte deepest k left_parenthesis bs refl refl refl (le-ltb _ _ (let z : k + 1 ≤ deepest = omega arith in z))) ∙ h)
    (λ run following parts c. closes_open k d run following c)

counted_close : (deepest : ℕ) (bs : List ℕ) → Counted deepest bs → (k d n : ℕ) → d + k ≡ deepest → bare_len deepest k 0 (right_parenthesis ∷ bs) ≡ Some n
    → Ends k d (right_parenthesis ∷ bs) n
counted_close deepest bs i zero d n e h =
    none_open zero d n (right_parenthesis ∷ bs) refl (sym (run-unopened deepest 0 right_parenthesis bs refl) ∙ h)
counted_close deepest bs i (suc k) d n e h =
    let f : suc k - 1 ≡ k = omega arith in
    counted_more deepest (suc k) d k (suc d) n (right_parenthesis ∷ []) bs i (omega arith)
    (ap (λ m. longer 1 (bare_len deepest m 0 bs)) (sym f)
    ∙ sym (run-byte deepest (suc k) right_parenthesis bs refl refl (some_open k) (le-ltb _ _ (let z : suc k - 1 ≤ deepest = omega arith in z))) ∙ h)
    (λ run following parts c. closes_close k d run following c)

counted_plain : (deepest b : ℕ) (bs : List ℕ) → is_run_byte b ≡ true → begins_escape (b ∷ bs) ≡ false → Counted deepest bs → Counted deepest (b ∷ bs)
counted_plain deepest b bs p alone i = λ k d n e h.
    let f = plain_facts b k p in
    let z = f.2 in
    counted_more deepest k d k d n (b ∷ []) bs i e
    (ap (λ m. longer 1 (bare_len deepest m 0 bs)) (sym f.2)
    ∙ sym (run-byte deepest k b bs f.0 alone f.1 (le-ltb _ _ (let l : nesting_after b k ≤ deepest = omega arith in l))) ∙ h)
    (λ run following parts c. closes_more k d (b ∷ []) run following
    (λ xs ys same r. plain d b xs ys p (ap (λ zs. begins_escape (b ∷ zs)) (sym (parts ∙ same)) ∙ alone) r) c)

counted_byte : (deepest b : ℕ) (bs : List ℕ) → begins_escape (b ∷ bs) ≡ false → Counted deepest bs → Counted deepest (b ∷ bs)
counted_byte deepest b bs y i = elim (cases_Bool (ends_run b)) [
  | inl x ↦ (λ k d n e h. none_open k d n (b ∷ bs) (rw x refl) (sym (run-end deepest k b bs x) ∙ h))
  | inr x ↦ elim (cases_Bool (b == left_parenthesis)) [
    | inl z ↦ subst (λ c. Counted deepest (c ∷ bs)) (sym (eqb-true b left_parenthesis z)) (counted_open deepest bs i)
    | inr z ↦ elim (cases_Bool (b == right_parenthesis)) [
      | inl w ↦ subst (λ c. Counted deepest (c ∷ bs)) (sym (eqb-true b right_parenthesis w)) (counted_close deepest bs i)
      | inr w ↦ counted_plain deepest b bs (rw (x, z, w)) y i
    ]
  ]
]

pub run_counted : (deepest n : ℕ) (bs : List ℕ) → bare_len deepest 0 0 bs ≡ Some n → BeginsRun deepest bs n
run_counted deepest n bs h =
    let z : deepest + 0 ≡ deepest = omega arith in
    let counted : Counted deepest bs = by_units (λ at xs. Counted deepest xs) (λ at k d m e f. none_open k d m [] refl (sym (run-nil deepest k) ∙ f))
    (λ at. counted_escape deepest) (λ at. counted_byte deepest) 0 bs in
    let e = counted 0 deepest n z h in
    record { within = e.within; run = e.closes; ends = e.ends }
