-- Bottoms are kept.
use Rattle.std.proofs.Common.{◌≡◌, ◌⊎◌, inl, inr, ℕ, zero, suc, ◌+◌, ◌%◌, ◌<◌, ◌≤◌, min, map, false, List, [], ◌∷◌, ◌++◌, length, get_or, set, take, drop}
use Rattle.std.proofs.Common.{add-one, slice_get, Option, Some, None, refl, sym, ap, ◌∙◌, subst, arith, length-append}
use Rattle.std.specs.Option.{option_map}
use Rattle.std.proofs.lemmas.Option.{slice_get_within, slice_get-map}
use Rattle.std.proofs.lemmas.List.{length-take-le}
use Rattle.std.proofs.lemmas.Grind.{common_steps}
use Rattle.std.proofs.lemmas.Bool.{cases_Bool}
use Rattle.std.proofs.lemmas.Bool.Decides.{nat_tests}
use Rattle.first_pass_emphasis.specs.declared.run.Run.{Run}
use Rattle.first_pass_emphasis.specs.declared.reduce.Entry.{Entry}
use Rattle.first_pass_emphasis.specs.declared.reduce.Bottom.{Bottom}
use Rattle.first_pass_emphasis.specs.Runs.{fits}
use Rattle.first_pass_emphasis.specs.Bottoms.{IsSameClass, IsBottom, AreBottoms, lowered}
use Rattle.first_pass_emphasis.proofs.Lists.{get_snoc}

-- a closer that finds no opener with something left finds none with any other number left
pub fits_any : (o : Run) (left : ℕ) (c : Run) (more m : ℕ) → 0 < more → fits o left c more ≡ false → fits o left c m ≡ false
unfolding fits
fits_any o left c more m some h = grind (arith, nat_tests, common_steps, cases_Bool)

-- an opener that has lost delimiters is one for no more closers
pub opens_less : (o : Run) (left less : ℕ) (c : Run) (more : ℕ) → less ≤ left → fits o left c more ≡ false → fits o less c more ≡ false
unfolding fits
opens_less o left less c more l h = grind (arith, nat_tests, common_steps, cases_Bool)

threes_same : (n a b : ℕ) → a % 3 ≡ b % 3 → (n + a) % 3 ≡ (n + b) % 3
threes_same n a b h = omega (arith, h)

pub class_same : (a b : Run) → a.byte ≡ b.byte → a.opens ≡ b.opens → a.closes ≡ b.closes → (a.byte ≡ 126 → a.size ≡ b.size)
    → a.size % 3 ≡ b.size % 3 → IsSameClass a b
unfolding fits
class_same a b e p q s m o left more = grind (arith, nat_tests, common_steps, cases_Bool, threes_same o.size a.size b.size m)

-- a search in vain gives a bottom
pub new_bottom : (es : List Entry) (c : Run) (more height : ℕ) → 0 < more → height ≡ length es
    → ((k : ℕ) (e : Entry) → slice_get es k ≡ Some e → fits e.run e.left c more ≡ false) → IsBottom es c height
new_bottom es c more height some is h =
    record { within = omega arith; below = λ k e m l i. fits_any e.run e.left c more m some (h k e i) }

-- one more run on the stack
pub pushed_bottoms : (es : List Entry) (e : Entry) (bs : List Bottom) → AreBottoms es bs → AreBottoms (es ++ e ∷ []) bs
pushed_bottoms es e bs h i b at = grown (h i b at)
  where
    grown : IsBottom es b.run b.low → IsBottom (es ++ e ∷ []) b.run b.low
    grown g = record {
      within = simp length-append (omega (arith, g.within));
      below = λ k d more l j. elim (get_snoc es e k d j) [ inl x ↦ g.below k d more l x | inr x ↦ absurd (omega (arith, g.within, x.0, l)) ];
    }

get_take : (es : List Entry) (n k : ℕ) (e : Entry) → slice_get (take n es) k ≡ Some e → slice_get es k ≡ Some e
get_take [] zero k e h = h
get_take [] (suc n) k e h = h
get_take (x ∷ es) zero k e h = absurd (cc)
get_take (x ∷ es) (suc n) zero e h = h
get_take (x ∷ es) (suc n) (suc k) e h = get_take es n k e h

-- the stack is cut off above an opener, which has lost delimiters
pub cut_bottoms : (es : List Entry) (j : ℕ) (e d : Entry) (bs : List Bottom) → AreBottoms es bs → slice_get es j ≡ Some e → d.run ≡ e.run → d.left ≤ e.left
    → AreBottoms (take j es ++ d ∷ []) (map (lowered (j + 1)) bs)
cut_bottoms es j e d bs h at run less i b g = of_map (slice_get bs i) refl (sym (slice_get-map (lowered (j + 1)) bs i) ∙ g)
  where
    low_length : length (take j es ++ d ∷ []) ≡ j + 1
    low_length = let l : j < length es = slice_get_within es j e at in simp length-append (omega (arith, length-take-le j es (omega arith)))

    cut : (a : Bottom) → IsBottom es a.run a.low → IsBottom (take j es ++ d ∷ []) a.run (min a.low (j + 1))
    cut a k = record {
      within = omega (arith, low_length);
      below = λ n x more l y. elim (get_snoc (take j es) d n x y) [
        | inl z ↦ k.below n x more (omega (arith, l)) (get_take es j n x z)
        | inr z ↦
            let here : n ≡ j = z.0 ∙ length-take-le j es (omega (arith, slice_get_within es j e at)) in
            let none : fits e.run e.left a.run more ≡ false = k.below j e more (omega (arith, l, here)) at in
            let was : fits d.run d.left a.run more ≡ false = rw run (opens_less e.run e.left d.left a.run more less none) in
            ap (λ (u : Entry). fits u.run u.left a.run more) (sym z.1) ∙ was
      ];
    }

    of_map : (x : Option Bottom) → slice_get bs i ≡ x → option_map (lowered (j + 1)) x ≡ Some b → IsBottom (take j es ++ d ∷ []) b.run b.low
    of_map None u v = absurd (cc)
    of_map (Some a) u v =
        let same : lowered (j + 1) a ≡ b = cc in
        subst (λ (y : Bottom). IsBottom (take j es ++ d ∷ []) y.run y.low) same (cut a (h i a u))

-- a step of the loop that lowers the bottoms
lower_next : (f : Bottom → Bottom) (xs : List Bottom) (i : ℕ) (e : Bottom) → i < length xs → e ≡ get_or (map f (take i xs) ++ drop i xs) i e
    → set (map f (take i xs) ++ drop i xs) i (f e) ≡ map f (take (suc i) xs) ++ drop (suc i) xs
lower_next f [] i e less is = absurd (omega arith)
lower_next f (x ∷ xs) zero e less is = ap (λ (y : Bottom). f y ∷ xs) is
lower_next f (x ∷ xs) (suc i) e less is = ap (λ (ys : List Bottom). f x ∷ ys) (lower_next f xs i e (omega arith) is)

pub lower_more : (f : Bottom → Bottom) (xs ys : List Bottom) (i : ℕ) (e : Bottom) → i < length xs → ys ≡ map f (take i xs) ++ drop i xs → e ≡ get_or ys i e
    → set ys i (f e) ≡ map f (take (i + 1) xs) ++ drop (i + 1) xs
lower_more f xs ys i e less items is =
    rw (add-one, items) (lower_next f xs i e less (is ∙ ap (λ (x : List Bottom). get_or x i e) items))

get_set : {X : Type 0} (xs : List X) (i n : ℕ) (y x : X) → slice_get (set xs i y) n ≡ Some x → (slice_get xs n ≡ Some x) ⊎ (y ≡ x)
get_set [] i n y x h = inl h
get_set (z ∷ xs) zero zero y x h = inr (cc)
get_set (z ∷ xs) zero (suc n) y x h = inl h
get_set (z ∷ xs) (suc i) zero y x h = inl h
get_set (z ∷ xs) (suc i) (suc n) y x h = get_set xs i n y x h

-- a bottom in place of another
pub replaced : (es : List Entry) (bs : List Bottom) (i : ℕ) (b : Bottom) → AreBottoms es bs → IsBottom es b.run b.low → AreBottoms es (set bs i b)
replaced es bs i b h new n d at = elim (get_set bs i n b d at) [
  | inl x ↦ h n d x
  | inr x ↦ subst (λ (y : Bottom). IsBottom es y.run y.low) x new
]
