-- What tokens are reduced to is the normal form of the rewriting step.
use Rattle.std.proofs.Common.{◌≡◌, ℕ, zero, suc, ◌-◌, ◌<◌, ◌≤◌, Bool, true, false, List, [], ◌∷◌, Option, Some, None, MatchOption, refl, sym, ap, ◌∙◌}
use Rattle.std.proofs.Common.{subst, arith, if◌then◌else◌}
use Rattle.std.specs.Prelude.{⊤}
use Rattle.std.specs.Option.{option_map, option_map_or}
use Rattle.std.proofs.lemmas.Grind.{common_steps}
use Rattle.std.proofs.lemmas.Bool.{cases_Bool}
use Rattle.std.proofs.lemmas.Bool.Decides.{nat_tests}
use Rattle.first_pass_emphasis.specs.declared.run.Run.{Run}
use Rattle.first_pass_emphasis.specs.declared.role.Format.{Format}
use Rattle.first_pass_emphasis.specs.declared.role.Role.{Role}
use Rattle.first_pass_emphasis.specs.declared.role.Role.TheVariants.{Text}
use Rattle.first_pass_emphasis.specs.Runs.{fits, width}
use Rattle.first_pass_emphasis.specs.Parts.{Delimiters, Other, Part, Quotation}
use Rattle.first_pass_emphasis.specs.Pieces.{Pieces, Begin, Plain, Runs, Formatted, Opener, then_plain, then_run, then_formatted, opener, paired, closed}
use Rattle.first_pass_emphasis.specs.Pieces.{followed_by, reduced}
use Rattle.first_pass_emphasis.specs.Redex.{read_after, read, or_else, rewritten, redex, Becomes, IsNormalForm}
use Rattle.first_pass_emphasis.proofs.Steps.{fits_left, width_within}
use Rattle.first_pass_emphasis.proofs.Runs.{nothing_left}

-- a closer that has found no opener finds none with less left
fits_less : (o : Run) (left : ℕ) (c : Run) (more less : ℕ) → less ≤ more → fits o left c more ≡ false → fits o left c less ≡ false
unfolding fits
fits_less o left c more less l h = grind (arith, nat_tests, common_steps, cases_Bool)

map_none : {A B : Type 0} (f : A → B) (x : Option A) → option_map f x ≡ None → x ≡ None
map_none f None h = refl
map_none f (Some a) h = absurd (cc)

opener_less : (p : Pieces) (c : Run) (more less : ℕ) → less ≤ more → opener p c more ≡ None → opener p c less ≡ None
opener_less Begin c more less l h = refl
opener_less (Plain p ms) c more less l h = rw (opener_less p c more less l (map_none (then_plain ms) (opener p c more) h)) refl
opener_less (Runs p r n) c more less l h = by_fit (fits r n c more) refl h (λ g. opener_less p c more less l g)
  where
    by_fit : (b : Bool) → fits r n c more ≡ b
        → (if b then Some (record { before = p; run = r; left = n; after = Begin }) else option_map (then_run r n) (opener p c more)) ≡ None
        → (opener p c more ≡ None → opener p c less ≡ None) → opener (Runs p r n) c less ≡ None
    by_fit true e g further = absurd (cc)
    by_fit false e g further = rw (fits_less r n c more less l e, further (map_none (then_run r n) (opener p c more) g)) refl
opener_less (Formatted p f w x) c more less l h = rw (opener_less p c more less l (map_none (then_formatted f w x) (opener p c more) h)) refl

run_normal : (p : Pieces) (c : Run) (more : ℕ) (x : Option Pieces) (y : Option Opener)
    → or_else (option_map (λ (q : Pieces). Runs q c more) x) (option_map (rewritten c more) y) ≡ None → (x ≡ None) × (y ≡ None)
run_normal p c more None None h = (refl, refl)
run_normal p c more None (Some o) h = absurd (cc)
run_normal p c more (Some q) y h = absurd (cc)

-- what is before an opener is normal, and the opener closes nothing
abbrev IsSettled : ℕ → Opener → Type 0
IsSettled more o = (redex o.before ≡ None) × (opener o.before o.run o.left ≡ None) × (0 < o.left) × (0 < more)

abbrev AreSettled : ℕ → Option Opener → Type 0
AreSettled more x = MatchOption x ⊤ (IsSettled more)

settled_plain : (more : ℕ) (ms : List Role) (x : Option Opener) → AreSettled more x → AreSettled more (option_map (then_plain ms) x)
settled_plain more ms None h = h
settled_plain more ms (Some o) h = h

settled_run : (more : ℕ) (r : Run) (n : ℕ) (x : Option Opener) → AreSettled more x → AreSettled more (option_map (then_run r n) x)
settled_run more r n None h = h
settled_run more r n (Some o) h = h

settled_formatted : (more : ℕ) (f : Format) (w : ℕ) (y : Pieces) (x : Option Opener) → AreSettled more x → AreSettled more (option_map (then_formatted f w y) x)
settled_formatted more f w y None h = h
settled_formatted more f w y (Some o) h = h

settled : (p : Pieces) (c : Run) (more : ℕ) → redex p ≡ None → AreSettled more (opener p c more)
settled Begin c more h = tt
settled (Plain p ms) c more h = settled_plain more ms (opener p c more) (settled p c more (map_none (λ (q : Pieces). Plain q ms) (redex p) h))
settled (Runs p r n) c more h = by_fit (fits r n c more) refl (settled p c more (run_normal p r n (redex p) (opener p r n) h).0)
  where
    by_fit : (b : Bool) → fits r n c more ≡ b → AreSettled more (opener p c more)
        → AreSettled more (if b then Some (record { before = p; run = r; left = n; after = Begin }) else option_map (then_run r n) (opener p c more))
    by_fit true e further = let g = run_normal p r n (redex p) (opener p r n) h in let f = fits_left r n c more e in (g.0, g.1, f.0, f.1)
    by_fit false e further = settled_run more r n (opener p c more) further
settled (Formatted p f w x) c more h =
    settled_formatted more f w x (opener p c more) (settled p c more (map_none (λ (q : Pieces). Formatted q f w x) (redex p) h))

-- after a step what is before the closer is normal again
paired_normal : (o : Opener) (w more : ℕ) → IsSettled more o → redex (paired o w) ≡ None
paired_normal o w more h = rw (h.0, opener_less o.before o.run o.left (o.left - w) (omega arith) h.1) refl

one_step : (p q r : Pieces) (m : ℕ) → redex p ≡ Some q → Becomes m q r → (n : ℕ) × Becomes n p r
one_step p q r m h k = (suc m, (q, h, k))

-- a closer that is read after normal pieces closes what it can, step by step
closed_normal : (steps : ℕ) (p : Pieces) (c : Run) (more : ℕ) → redex p ≡ None → more ≤ steps → IsNormalForm (Runs p c more) (closed steps p c more)
closed_normal zero p c more h enough =
    let none : more ≡ 0 = omega arith in
    ((zero, refl), rw (h, subst (λ (m : ℕ). opener p c m ≡ None) (sym none) (nothing_left p c)) refl)
closed_normal (suc steps) p c more h enough =
    by_opener (opener p c more) refl (settled p c more h) (λ q m g l. closed_normal steps q c m g l)
  where
    by_opener : (x : Option Opener) → opener p c more ≡ x → AreSettled more x
        → ((q : Pieces) (m : ℕ) → redex q ≡ None → m ≤ steps → IsNormalForm (Runs q c m) (closed steps q c m))
        → IsNormalForm (Runs p c more)
        (option_map_or (λ (o : Opener). closed steps (paired o (width o.run o.left more)) c (more - width o.run o.left more)) x (Runs p c more))
    by_opener None e s further = ((zero, refl), rw (h, e) refl)
    by_opener (Some o) e s further =
        let w : ℕ = width o.run o.left more in
        let within = width_within o.run o.left more s.2 s.3 in
        let rest = further (paired o w) (more - w) (paired_normal o w more s) (omega arith) in
        (one_step (Runs p c more) (Runs (paired o w) c (more - w)) (closed steps (paired o w) c (more - w)) rest.0.0 (rw (h, e) refl) rest.0.1, rest.1)

-- a step is the same with more pieces after
step_read : (p q : Pieces) (ts : List Part) → redex p ≡ Some q → redex (read_after p ts) ≡ Some (read_after q ts)
step_read p q [] h = h
step_read p q (Delimiters r ∷ ts) h = step_read (Runs p r r.size) (Runs q r r.size) ts (rw h refl)
step_read p q (Quotation u ∷ ts) h = step_read (Plain p (Text ∷ [])) (Plain q (Text ∷ [])) ts (rw h refl)
step_read p q (Other ms ∷ ts) h = step_read (Plain p ms) (Plain q ms) ts (rw h refl)

steps_read : (n : ℕ) (p q : Pieces) (ts : List Part) → Becomes n p q → Becomes n (read_after p ts) (read_after q ts)
steps_read zero p q ts h = ap (λ (x : Pieces). read_after x ts) h
steps_read (suc n) p q ts (r, e, h) = (read_after r ts, step_read p r ts e, steps_read n r q ts h)

joined : (n : ℕ) (p q r : Pieces) (m : ℕ) → Becomes n p q → Becomes m q r → (k : ℕ) × Becomes k p r
joined zero p q r m h g = (m, subst (λ (x : Pieces). Becomes m x r) (sym h) g)
joined (suc n) p q r m (s, e, h) g = let rest = joined n s q r m h g in one_step p s r rest.0 e rest.1

read_normal : (ts : List Part) (p : Pieces) → redex p ≡ None → IsNormalForm (read_after p ts) (followed_by p ts)
read_normal [] p h = ((zero, refl), h)
read_normal (Quotation q ∷ ts) p h = read_normal ts (Plain p (Text ∷ [])) (rw h refl)
read_normal (Other ms ∷ ts) p h = read_normal ts (Plain p ms) (rw h refl)
read_normal (Delimiters r ∷ ts) p h =
    let one = closed_normal r.size p r r.size h (omega arith) in
    let rest = read_normal ts (closed r.size p r r.size) one.1 in (
      joined one.0.0 (read_after (Runs p r r.size) ts) (read_after (closed r.size p r r.size) ts) (followed_by (closed r.size p r r.size) ts) rest.0.0
          (steps_read one.0.0 (Runs p r r.size) (closed r.size p r r.size) ts one.0.1) rest.0.1,
      rest.1,
    )

pub reduced_normal : (ts : List Part) → IsNormalForm (read ts) (reduced ts)
reduced_normal ts = read_normal ts Begin refl

-- pieces have one normal form
pub one_normal : (n m : ℕ) (p q r : Pieces) → Becomes n p q → redex q ≡ None → Becomes m p r → redex r ≡ None → q ≡ r
one_normal zero zero p q r h a g b = sym h ∙ g
one_normal zero (suc m) p q r h a (s, e, g) b = absurd (none_some (redex p) s (ap redex h ∙ a) e)
  where
    none_some : (x : Option Pieces) (y : Pieces) → x ≡ None → x ≡ Some y → ⊥
    none_some x y u v = cc
one_normal (suc n) zero p q r (s, e, h) a g b = absurd (none_some (redex p) s (ap redex g ∙ b) e)
  where
    none_some : (x : Option Pieces) (y : Pieces) → x ≡ None → x ≡ Some y → ⊥
    none_some x y u v = cc
one_normal (suc n) (suc m) p q r (s, e, h) a (t, f, g) b =
    let same : s ≡ t = some_same (redex p) s t e f in
    one_normal n m s q r h a (subst (λ (x : Pieces). Becomes m x r) (sym same) g) b
  where
    some_same : (x : Option Pieces) (y z : Pieces) → x ≡ Some y → x ≡ Some z → y ≡ z
    some_same x y z u v = cc
