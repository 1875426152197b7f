-- A run that is being read.
use Rattle.std.proofs.Common.{◌≡◌, ℕ, zero, suc, ◌+◌, ◌-◌, ◌<◌, ◌≤◌, false, List, [], ◌∷◌, ◌++◌, length, replicate, Option, Some, None, MatchOption, refl}
use Rattle.std.proofs.Common.{sym, ap, ◌∙◌, subst, arith, append_assoc, length-append}
use Rattle.std.specs.Option.{option_map_or}
use Rattle.std.proofs.lemmas.List.{length-replicate}
use Rattle.std.proofs.lemmas.Grind.{common_steps}
use Rattle.std.proofs.lemmas.Bool.{cases_Bool}
use Rattle.std.proofs.lemmas.Bool.Decides.{nat_tests}
use Rattle.first_pass_emphasis.specs.declared.run.Run.{Run}
use Rattle.first_pass_emphasis.specs.declared.role.Role.{Role}
use Rattle.first_pass_emphasis.specs.declared.role.Role.TheVariants.{Text}
use Rattle.first_pass_emphasis.specs.declared.reduce.Entry.{Entry}
use Rattle.first_pass_emphasis.specs.declared.reduce.Pass.{Pass}
use Rattle.first_pass_emphasis.specs.Runs.{fits, width}
use Rattle.first_pass_emphasis.specs.Bottoms.{AreBottoms}
use Rattle.first_pass_emphasis.proofs.Bottoms.{pushed_bottoms}
use Rattle.first_pass_emphasis.specs.Pieces.{Pieces, Begin, Plain, Runs, Formatted, Opener, opener, paired, closed, roles}
use Rattle.first_pass_emphasis.specs.Stacks.{Stands, IsAt, IsTried, IsClosed, IsRead}

-- a run that is being read after pieces, of which so many delimiters are left
pub record IsClosing (p : Pieces) (rest : List Role) (c : Run) (more at : ℕ) (s : Pass) : Type 0 where
  pub q : Pieces
  pub steps : ℕ
  pub stands : IsAt q more rest at s
  pub enough : more ≤ steps
  pub result : closed steps q c more ≡ closed c.size p c c.size
  pub place : at + more ≡ length (roles p) + c.size

pub begins : (p : Pieces) (rest : List Role) (c : Run) (at : ℕ) (s : Pass) → IsAt p c.size rest at s → IsClosing p rest c c.size at s
begins p rest c at s st = record { q = p; steps = c.size; stands = st; enough = omega arith; result = refl; place = omega (arith, st.place) }

-- one closing
module _ (q p : Pieces) (rest : List Role) (c : Run) (more at : ℕ) where
  one_closes : (steps : ℕ) (o : Opener) → opener q c more ≡ Some o → 0 < width o.run o.left more
      → width o.run o.left more ≤ more → more ≤ steps → (t : Pass)
      → IsAt (paired o (width o.run o.left more)) (more - width o.run o.left more) rest (at + width o.run o.left more) t
      → closed steps q c more ≡ closed c.size p c c.size → at + more ≡ length (roles p) + c.size
      → IsClosing p rest c (more - width o.run o.left more) (at + width o.run o.left more) t
  one_closes zero o h some less enough t st e l = absurd (omega arith)
  one_closes (suc steps) o h some less enough t st e l = record {
    q = paired o (width o.run o.left more);
    steps = steps;
    stands = st;
    enough = omega arith;
    result =
        sym (ap (λ (x : Option Opener).
        option_map_or (λ (o : Opener). closed steps (paired o (width o.run o.left more)) c (more - width o.run o.left more)) x (Runs q c more)) h) ∙ e;
    place = omega arith;
  }

-- no opener is left
pub nothing_closes : (q : Pieces) (c : Run) (more steps : ℕ) → opener q c more ≡ None → closed steps q c more ≡ Runs q c more
nothing_closes q c more zero h = refl
nothing_closes q c more (suc steps) h = rw h refl

no_fit : (r : Run) (n : ℕ) (c : Run) → fits r n c 0 ≡ false
unfolding fits
no_fit r n c = grind (arith, nat_tests, common_steps, cases_Bool)

-- what a closer that has nothing left finds
pub nothing_left : (p : Pieces) (c : Run) → opener p c 0 ≡ None
nothing_left Begin c = refl
nothing_left (Plain p ms) c = rw (nothing_left p c) refl
nothing_left (Runs p r n) c = rw (no_fit r n c, nothing_left p c) refl
nothing_left (Formatted p f w x) c = rw (nothing_left p c) refl

module _ (p q : Pieces) (rest : List Role) (c : Run) (more at steps w : ℕ) (t : Pass) where
  after_try : (x : Option Opener) → opener q c more ≡ x
      → MatchOption x ((w ≡ 0) × IsAt q more rest at t)
      (λ o. (w ≡ width o.run o.left more) × (0 < w) × (w ≤ more) × IsAt (paired o w) (more - w) rest (at + w) t)
      → more ≤ steps → closed steps q c more ≡ closed c.size p c c.size → at + more ≡ length (roles p) + c.size → 0 < w
      → (w ≤ more) × IsClosing p rest c (more - w) (at + w) t
  after_try None h m enough e l some = absurd (omega (arith, m.0))
  after_try (Some o) h m enough e l some =
      let w_is : w ≡ width o.run o.left more = m.0 in (
        m.2,
        subst (λ (v : ℕ). IsClosing p rest c (more - v) (at + v) t) (sym w_is)
            (one_closes q p rest c more at steps o h (omega (arith, m.1, w_is)) (omega (arith, m.2, w_is)) enough t
            (subst (λ (v : ℕ). IsAt (paired o v) (more - v) rest (at + v) t) w_is m.3) e l),
      )

pub went_on : (p : Pieces) (rest : List Role) (c : Run) (more at w : ℕ) (s t : Pass) → IsClosing p rest c more at s
    → ((q : Pieces) (r : List Role) → IsAt q more r at s → IsTried q r at c more w t) → 0 < w → (w ≤ more) × IsClosing p rest c (more - w) (at + w) t
went_on p rest c more at w s t h tried some =
    after_try p h.q rest c more at h.steps w t (opener h.q c more) refl (tried h.q rest h.stands) h.enough h.result h.place some

module _ (p q : Pieces) (rest : List Role) (c : Run) (more at steps : ℕ) (t : Pass) where
  after_none : (x : Option Opener) → opener q c more ≡ x
      → MatchOption x ((◌≡◌ {A = ℕ} 0 0) × IsAt q more rest at t)
      (λ o. (◌≡◌ {A = ℕ} 0 (width o.run o.left more)) × (0 < 0) × (0 ≤ more) × IsAt (paired o 0) (more - 0) rest (at + 0) t)
      → closed steps q c more ≡ closed c.size p c c.size → at + more ≡ length (roles p) + c.size → IsClosed p rest c more t
  after_none None h m e l =
      (q, m.1.stands, sym e ∙ nothing_closes q c more steps h, omega (arith, m.1.place))
  after_none (Some o) h m e l = absurd (omega (arith, m.1))

pub stopped : (p : Pieces) (rest : List Role) (c : Run) (more at w : ℕ) (s t : Pass) → IsClosing p rest c more at s
    → ((q : Pieces) (r : List Role) → IsAt q more r at s → IsTried q r at c more w t) → w ≡ 0 → IsClosed p rest c more t
stopped p rest c more at w s t h tried none =
    after_none p h.q rest c more at h.steps t (opener h.q c more) refl
    (subst (λ (v : ℕ). IsTried h.q rest at c more v t) none (tried h.q rest h.stands)) h.result h.place

pub used_up : (p : Pieces) (rest : List Role) (c : Run) (more at : ℕ) (s : Pass) → IsClosing p rest c more at s → more ≡ 0 → IsClosed p rest c 0 s
used_up p rest c more at s h none =
    let result : closed h.steps h.q c 0 ≡ closed c.size p c c.size = subst (λ (v : ℕ). closed h.steps h.q c v ≡ closed c.size p c c.size) none h.result in
    let st : IsAt h.q 0 rest at s = subst (λ (v : ℕ). IsAt h.q v rest at s) none h.stands in
    (h.q, st.stands, sym result ∙ nothing_closes h.q c 0 h.steps (nothing_left h.q c), omega (arith, h.place, st.place))

-- what is left of a run goes on the stack
module _ (p : Pieces) (rest : List Role) (c : Run) (more at place : ℕ) (s t : Pass) where
  pub run_stands : IsClosed p rest c more s → at ≡ length (roles p)
      → place ≡ at + c.size → t.roles.items ≡ s.roles.items
      → t.stack.items ≡ s.stack.items ++ record { run = c; left = more; «end» = place } ∷ [] → t.bottoms.items ≡ s.bottoms.items
      → IsRead p rest c t
  run_stands h at_is place_is ms es bs =
      let q : Pieces = h.0 in
      let st : Stands q (replicate more Text ++ rest) s = h.1 in
      let here : place ≡ length (roles q) + more = omega (arith, h.3) in
      let room : length (roles (closed c.size p c c.size)) ≡ length (roles p) + c.size =
      ap (λ (x : Pieces). length (roles x)) h.2 ∙ simp (length-append, length-replicate) h.3 in
      let stands : Stands (Runs q c more) rest t = record {
        roles = ms ∙ st.roles ∙ sym (append_assoc (roles q) (replicate more Text) rest);
        stack = es ∙ rw (st.stack, here) refl;
        bottoms =
            subst (λ (x : List Entry). AreBottoms x t.bottoms.items) (sym es)
            (subst (AreBottoms (s.stack.items ++ record { run = c; left = more; «end» = place } ∷ [])) (sym bs)
            (pushed_bottoms s.stack.items (record { run = c; left = more; «end» = place }) s.bottoms.items st.bottoms));
      } in
      record { stands = subst (λ (x : Pieces). Stands x rest t) (sym h.2) stands; place = room }
