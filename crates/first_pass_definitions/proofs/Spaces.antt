-- White space, and places in the rest of a text.
use Rattle.std.proofs.Common.{◌≡◌, inl, inr, ℕ, ◌+◌, Bool, true, false, List, length, drop, Option, Some, None, IsUtf8, IsCharBoundary, refl, sym, ap, subst}
use Rattle.std.proofs.Common.{◌∙◌, arith, if◌then◌else◌, option_map, option_and_then, drop-drop, ◌-◌, ◌<◌, ◌≤◌, ◌==◌, ◌∷◌, Result, Ok, Err, IfOk, [], IfSome}
use Rattle.std.proofs.Common.{length-drop, eqb-true, get_or-drop}
use Rattle.first_pass_grammar.proofs.Common.{prefix_len, cases_lt, drop_all, same_Some, is_white, eol_len, at_line_end, Rest, line_rest, place_at}
use Rattle.first_pass_grammar.proofs.Common.{IsPlaceOf, line_len-eol, line_end_boundary, Context, crossed, prefix_crossed}
use Rattle.first_pass_grammar.proofs.Common.{space_at, AllocError, cases_Bool, nat_tests, line_feed, begins, blank_len}
use Rattle.first_pass_grammar.specs.Definitions.{space_beyond, space_after}
use Rattle.first_pass_links.proofs.Labels.{place_past}
use Rattle.first_pass_kinds.specs.Rests.{IsRestOf}

-- A character begins after a line ending.
pub eol_after : (text : List ℕ) (s e : ℕ) → IsUtf8 text → IsCharBoundary text s → eol_len (drop s text) ≡ Some e → IsCharBoundary text (s + e)
eol_after text s e u b h = grind (arith, cases_lt, line_len-eol, line_end_boundary, same_Some, drop_all)

-- white space at an offset, up to an offset
abbrev pub shifted : ℕ → Option (ℕ × ℕ) → Option (ℕ × ℕ)
shifted s o = option_map (λ (x : ℕ × ℕ). (s + x.0, x.1)) o

space_is : (around : Context) (bs : List ℕ) (n : ℕ) (o : Option ℕ) → prefix_len is_white bs ≡ n → eol_len (drop n bs) ≡ o
    → space_at around bs ≡ space_after around bs n o
unfolding space_at
space_is around bs n o e f = rw e (rw f refl)

pub space_plain : (around : Context) (text : List ℕ) (s n : ℕ) → n ≡ prefix_len is_white (drop s text) → eol_len (drop (s + n) text) ≡ None
    → Some (s + n, 0) ≡ shifted s (space_at around (drop s text))
space_plain around text s n e f = ap (shifted s) (sym (space_is around (drop s text) n None (sym e) (ap eol_len (drop-drop n s text) ∙ f)))

-- after a line ending
pub crossed_space : (around : Context) (text : List ℕ) (s n e : ℕ) (o : Option Rest) → n ≡ prefix_len is_white (drop s text)
    → eol_len (drop (s + n) text) ≡ Some e → o ≡ crossed false around (line_rest (drop (s + n + e) text))
    → space_at around (drop s text) ≡ option_and_then (space_beyond (n + e) (drop (s + n + e) text)) (option_map (λ (r : Rest). r.taken) o)
crossed_space around text s n e o h f g =
    let i : s + (n + e) ≡ s + n + e = omega arith in
    let d : drop (n + e) (drop s text) ≡ drop (s + n + e) text = drop-drop (n + e) s text ∙ ap (λ k. drop k text) i in
    space_is around (drop s text) n (Some e) (sym h) (ap eol_len (drop-drop n s text) ∙ f)
    ∙ ap (λ xs. option_and_then (space_beyond (n + e) xs) (prefix_crossed false around xs)) d
    ∙ ap (λ q. option_and_then (space_beyond (n + e) (drop (s + n + e) text)) (option_map (λ (r : Rest). r.taken) q)) (sym g)

pub space_stops : (around : Context) (text : List ℕ) (s n e : ℕ) → n ≡ prefix_len is_white (drop s text) → eol_len (drop (s + n) text) ≡ Some e
    → None ≡ crossed false around (line_rest (drop (s + n + e) text))
    → None ≡ shifted s (space_at around (drop s text))
space_stops around text s n e h f g = ap (shifted s) (sym (crossed_space around text s n e None h f g))

beyond : (t : Bool) (text : List ℕ) (at k m n : ℕ) → m ≡ prefix_len is_white (drop (at + k) text) → at_line_end (drop (at + k + m) text) ≡ t
    → space_beyond n (drop at text) k ≡ (if t then None else Some (n + (k + m), 1))
beyond t text at k m n h f =
    let a : prefix_len is_white (drop k (drop at text)) ≡ m = ap (prefix_len is_white) (drop-drop k at text) ∙ sym h in
    let i : at + (k + m) ≡ at + k + m = omega arith in
    let b : at_line_end (drop (k + m) (drop at text)) ≡ t = ap at_line_end (drop-drop (k + m) at text ∙ ap (λ j. drop j text) i) ∙ f in
    rw a (rw b refl)

pub space_over : (t : Bool) (around : Context) (text : List ℕ) (s n e m : ℕ) (r : Rest)
    → space_at around (drop s text) ≡ space_beyond (n + e) (drop (s + n + e) text) r.taken
    → m ≡ prefix_len is_white (drop (s + n + e + r.taken) text) → at_line_end (drop (s + n + e + r.taken + m) text) ≡ t
    → (if t then None else Some (s + n + e + r.taken + m, 1)) ≡ shifted s (space_at around (drop s text))
space_over t around text s n e m r h i j = by t ∙ ap (shifted s) (sym (h ∙ beyond t text (s + n + e) r.taken m (n + e) i j))
  where
    by : (t : Bool) → (if t then None else Some (s + n + e + r.taken + m, 1)) ≡ shifted s (if t then None else Some (n + e + (r.taken + m), 1))
    by true = refl
    by false = let i : s + n + e + r.taken + m ≡ s + (n + e + (r.taken + m)) = omega arith in ap (λ j. Some (j, 1)) i

pub part_boundary : (text : List ℕ) (a n : ℕ) → a ≤ length text → IsCharBoundary text (a + n) → IsCharBoundary (drop a text) n
part_boundary text a n l b =
    let within = b.0 in
    let d = length-drop a text in
    let g = get_or-drop a text n 0 in
    (omega arith, λ h k. let z = b.1 (omega arith) (omega arith) in omega arith)

-- further on in the rest
pub rest_further : (text bytes xs : List ℕ) (k : ℕ) → IsRestOf text bytes → xs ≡ drop k bytes → IsCharBoundary bytes k → IsRestOf text xs
rest_further text bytes xs k r e b =
    let s : ℕ = length text - length bytes in
    let within = r.within in
    let inside = b.0 in
    let l : length xs ≡ length bytes - k = ap length e ∙ length-drop k bytes in
    let n : length text - length xs ≡ s + k = omega arith in
    let d : xs ≡ drop (s + k) text = e ∙ ap (drop k) r.are ∙ drop-drop k s text in
    record {
      within = omega arith;
      are = d ∙ ap (λ m. drop m text) (sym n);
      boundary = subst (IsCharBoundary text) (sym n) (place_past text s k (omega arith) (subst (λ ys. IsCharBoundary ys k) r.are b));
    }

-- a place in a line of the rest
pub rest_place : (text bytes : List ℕ) (s : ℕ) (r : Rest) → s ≤ length text → bytes ≡ drop s text → IsPlaceOf text (place_at s r)
    → (r.left ≡ drop r.taken bytes) × IsCharBoundary bytes r.taken
rest_place text bytes s r l e i =
    let d : drop r.taken bytes ≡ drop (s + r.taken) text = ap (drop r.taken) e ∙ drop-drop r.taken s text in
    (i.left ∙ sym d, subst (λ xs. IsCharBoundary xs r.taken) (sym e) (part_boundary text s r.taken l i.boundary))

-- a line that is not blank
pub no_feed : (xs : List ℕ) → blank_len xs ≡ None → begins line_feed xs ≡ false
no_feed [] h = refl
no_feed (b ∷ bs) h = elim (cases_Bool (b == line_feed)) [
  | inl e ↦ (let z : blank_len (line_feed ∷ bs) ≡ None = subst (λ x. blank_len (x ∷ bs) ≡ None) (eqb-true b line_feed e) h in absurd cc)
  | inr e ↦ e
]

pub some_left : (xs : List ℕ) → blank_len xs ≡ None → 0 < length xs
some_left [] h = cc
some_left (b ∷ bs) h = omega arith

eol_some : (xs : List ℕ) (e : ℕ) → eol_len xs ≡ Some e → 0 < length xs → 0 < e
eol_some [] e h l = absurd (omega arith)
eol_some (b ∷ bs) e h l = grind (arith, nat_tests, h)

-- A line ending has a byte if something follows it.
pub later_by : (bytes : List ℕ) (at e n : ℕ) → 0 < length (drop (at + e + n) bytes) → eol_len (drop at bytes) ≡ Some e → at < at + e + n
later_by bytes at e n l h =
    let d = length-drop (at + e + n) bytes in
    let k = length-drop at bytes in
    let z = eol_some (drop at bytes) e h (omega arith) in
    omega arith

-- a result for the rest, in the text
pub label_fits : {X : Type 0} (r : Result (Option (ℕ × X)) AllocError) (text bytes : List ℕ) (s : ℕ) → IsCharBoundary text s → bytes ≡ drop s text
    → IfOk r (λ answer. IfSome answer (λ (found : ℕ × X). (0 < found.0) × (found.0 ≤ length bytes)))
    → IfOk r (λ answer. IfSome answer (λ (found : ℕ × X). IsCharBoundary bytes found.0))
    → IfOk r (λ answer. IfSome answer (λ (found : ℕ × X). (0 < found.0) × IsCharBoundary text (s + found.0)))
label_fits (Err e) text bytes s b is within following = tt
label_fits (Ok None) text bytes s b is within following = tt
label_fits (Ok (Some found)) text bytes s b is within following =
    (within.0, place_past text s found.0 b.0 (subst (λ xs. IsCharBoundary xs found.0) is following))
