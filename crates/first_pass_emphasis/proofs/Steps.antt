-- The steps of the pass.
use Rattle.std.proofs.Common.{◌≡◌, ℕ, ◌+◌, ◌-◌, ◌<◌, ◌≤◌, true, List, [], ◌∷◌, ◌++◌, length, get_or, take, drop, map, replicate, slice_get, Option, Some}
use Rattle.std.proofs.Common.{None, MatchOption, refl, sym, ap, ◌∙◌, subst, arith, length-append}
use Rattle.std.proofs.lemmas.List.{length-replicate}
use Rattle.std.proofs.lemmas.Option.{get_or_from_slice_get}
use Rattle.std.proofs.lemmas.Grind.{common_steps}
use Rattle.std.proofs.lemmas.Bool.{cases_Bool}
use Rattle.std.proofs.lemmas.Bool.Decides.{nat_tests}
use Rattle.first_pass_emphasis.specs.declared.run.Run.{Run}
use Rattle.first_pass_emphasis.specs.declared.role.Format.{Format}
use Rattle.first_pass_emphasis.specs.declared.role.Role.{Role}
use Rattle.first_pass_emphasis.specs.declared.role.Role.TheVariants.{Text, Opens, Closes}
use Rattle.first_pass_emphasis.specs.declared.reduce.Entry.{Entry}
use Rattle.first_pass_emphasis.specs.declared.reduce.Pass.{Pass}
use Rattle.first_pass_emphasis.specs.Runs.{fits, format, width}
use Rattle.first_pass_emphasis.specs.Bottoms.{IsBottom, AreBottoms, lowered}
use Rattle.first_pass_emphasis.specs.Pieces.{Pieces, Opener, opener, paired, roles}
use Rattle.first_pass_emphasis.specs.Stacks.{entries, Fits, IsAt, IsNearest, IsTried}
use Rattle.first_pass_emphasis.proofs.Bottoms.{cut_bottoms, new_bottom}
use Rattle.first_pass_emphasis.proofs.Lists.{written}
use Rattle.first_pass_emphasis.proofs.Openers.{IsOpened, one_opens, none_opens}

-- what fits has something left
pub fits_left : (o : Run) (left : ℕ) (c : Run) (more : ℕ) → fits o left c more ≡ true → (0 < left) × (0 < more)
unfolding fits
fits_left o left c more h = grind (arith, nat_tests, common_steps, cases_Bool)

pub width_within : (o : Run) (left more : ℕ) → 0 < left → 0 < more → (0 < width o left more) × (width o left more ≤ left) × (width o left more ≤ more)
unfolding width
width_within o left more a b = grind (arith, nat_tests, common_steps, cases_Bool)

-- what the search for the nearest opener gives
pub nothing_opens : (p : Pieces) (s : Pass) (c : Run) (more : ℕ) (es : List Entry) → s.stack.items ≡ entries p → es ≡ s.stack.items → IsNearest es c more None
    → opener p c more ≡ None
nothing_opens p s c more es st same h =
    let all : es ≡ entries p = same ∙ st in
    none_opens p c more (λ k e g. h k e (ap (λ (x : List Entry). slice_get x k) all ∙ g))

pub opens : (p : Pieces) (s : Pass) (c : Run) (more j : ℕ) (e : Entry) (es : List Entry) → s.stack.items ≡ entries p → es ≡ s.stack.items
    → IsNearest es c more (Some j) → e ≡ get_or s.stack.items j e → IsOpened p c more j e
opens p s c more j e es st same h read =
    let all : es ≡ entries p = same ∙ st in
    let here : e ≡ h.0.0 = read ∙ ap (λ (x : List Entry). get_or x j e) (sym same) ∙ get_or_from_slice_get es j h.0.0 e h.0.1 in
    one_opens p c more j e (ap (λ (x : List Entry). slice_get x j) (sym all) ∙ h.0.1 ∙ ap Some (sym here)) (ap (λ (x : Entry). Fits x c more) here ∙ h.0.2)
    (λ k d l g. h.1 k d l (ap (λ (x : List Entry). slice_get x k) all ∙ g))

-- the delimiters of the opener and of the closer are among the roles
pub room : (p : Pieces) (rest : List Role) (s : Pass) (c : Run) (more j w at : ℕ) (e : Entry) → IsAt p more rest at s → IsOpened p c more j e
    → w ≡ width e.run e.left more
    → (w ≤ e.left) × (w ≤ e.«end») × (e.«end» - w + w ≤ length s.roles.items) × (0 < w) × (w ≤ more) × (at + more ≤ length s.roles.items)
room p rest s c more j w at e st h w_is =
    let m : s.roles.items ≡ ((roles h.o.before ++ replicate h.o.left Text) ++ roles h.o.after) ++ (replicate more Text ++ rest) =
    st.stands.roles ∙ ap (λ (x : List Role). x ++ (replicate more Text ++ rest)) h.roles_are in
    let a = h.left in
    let b = h.place in
    let n : length s.roles.items ≡ ((length (roles h.o.before) + h.o.left) + length (roles h.o.after)) + (more + length rest) =
    ap length m ∙ simp (length-append, length-replicate) in
    let here : at ≡ (length (roles h.o.before) + h.o.left) + length (roles h.o.after) =
    st.place ∙ ap length h.roles_are ∙ simp (length-append, length-replicate) in
    let some = fits_left e.run e.left c more h.fit in
    let within = width_within e.run e.left more some.0 some.1 in
    (omega arith, omega arith, omega arith, omega arith, omega arith, omega arith)

-- the state once the opener and the closer have lost some delimiters
module _ (p : Pieces) (rest : List Role) (s t : Pass) (c : Run) (more j w at from : ℕ) (e : Entry) (made : Format) (m1 : List Role) where
  pub pair_stands : IsAt p more rest at s
      → IsOpened p c more j e → w ≡ width e.run e.left more → made ≡ format e.run w → from ≡ e.«end» - w
      → m1 ≡ take from s.roles.items ++ (replicate w (Opens made w) ++ drop (from + w) s.roles.items)
      → t.roles.items ≡ take at m1 ++ (replicate w (Closes made w) ++ drop (at + w) m1)
      → t.stack.items ≡ take j s.stack.items ++ record { run = e.run; left = e.left - w; «end» = from } ∷ []
      → t.bottoms.items ≡ map (lowered (j + 1)) s.bottoms.items → IsTried p rest at c more w t
  pair_stands st h w_is made_is from_is one two es bs =
      let r = room p rest s c more j w at e st h w_is in
      let a = h.left in
      let b = h.place in
      let m : s.roles.items ≡ ((roles h.o.before ++ replicate h.o.left Text) ++ roles h.o.after) ++ (replicate more Text ++ rest) =
      st.stands.roles ∙ ap (λ (x : List Role). x ++ (replicate more Text ++ rest)) h.roles_are in
      let here : at ≡ (length (roles h.o.before) + h.o.left) + length (roles h.o.after) =
      st.place ∙ ap length h.roles_are ∙ simp (length-append, length-replicate) in
      let place : from ≡ length (roles h.o.before) + (h.o.left - w) = omega arith in
      let d : Entry = record { run = e.run; left = e.left - w; «end» = from } in
      let cut : AreBottoms t.stack.items t.bottoms.items =
      subst (λ (x : List Entry). AreBottoms x t.bottoms.items) (sym es)
      (subst (AreBottoms (take j s.stack.items ++ d ∷ [])) (sym bs)
      (cut_bottoms s.stack.items j e d s.bottoms.items st.stands.bottoms
      (ap (λ (x : List Entry). slice_get x j) st.stands.stack ∙ h.there) refl (omega arith))) in
      subst (λ (x : Option Opener). MatchOption x ((w ≡ 0) × IsAt p more rest at t)
      (λ o. (w ≡ width o.run o.left more) × (0 < w) × (w ≤ more) × IsAt (paired o w) (more - w) rest (at + w) t)) (sym h.found) (
        w_is ∙ rw (h.run, h.left) refl,
        r.3,
        r.4,
        record {
          stands = record {
            roles =
                subst (λ (y : Format). t.roles.items ≡ ((roles h.o.before ++ replicate (h.o.left - w) Text)
                ++ (replicate w (Opens y w) ++ (roles h.o.after ++ replicate w (Closes y w)))) ++ (replicate (more - w) Text ++ rest))
                (made_is ∙ ap (λ (r : Run). format r w) h.run)
                (written (roles h.o.before) (roles h.o.after) rest h.o.left more w from at Text (Opens made w) (Closes made w) s.roles.items m1 t.roles.items m
                (omega arith) (omega arith) (omega arith) here one two);
            stack = es ∙ rw (st.stands.stack, h.below, h.run, h.left, place) refl;
            bottoms = cut;
          };
          place = simp (length-append, length-replicate) (omega arith);
        },
      )

pub none_stands : (p : Pieces) (rest : List Role) (at : ℕ) (s t : Pass) (c : Run) (more : ℕ) → IsAt p more rest at s → t.roles.items ≡ s.roles.items
    → t.stack.items ≡ s.stack.items → AreBottoms s.stack.items t.bottoms.items → opener p c more ≡ None → IsTried p rest at c more 0 t
none_stands p rest at s t c more st ms es bs h =
    subst (λ (x : Option Opener). MatchOption x ((◌≡◌ {A = ℕ} 0 0) × IsAt p more rest at t)
    (λ o. (◌≡◌ {A = ℕ} 0 (width o.run o.left more)) × (0 < 0) × (0 ≤ more) × IsAt (paired o 0) (more - 0) rest (at + 0) t)) (sym h) (
      refl,
      record {
        stands = record {
          roles = ms ∙ st.stands.roles;
          stack = es ∙ st.stands.stack;
          bottoms = subst (λ (x : List Entry). AreBottoms x t.bottoms.items) (sym es) bs;
        };
        place = st.place;
      },
    )

-- a search in vain gives a bottom
pub vain : (es xs : List Entry) (c : Run) (more height : ℕ) → xs ≡ es → 0 < more → height ≡ length es → IsNearest xs c more None → IsBottom es c height
vain es xs c more height same some is h =
    new_bottom es c more height some is (λ k e g. h k e (ap (λ (x : List Entry). slice_get x k) same ∙ g))
