-- The runs of a level, one after another.
use Rattle.std.proofs.Common.{◌≡◌, ℕ, ◌+◌, List, [], ◌∷◌, length, refl, sym, ap, ◌∙◌, subst, append_assoc, append-nil, length-append}
use Rattle.first_pass_emphasis.specs.declared.run.PlacedRun.{PlacedRun}
use Rattle.first_pass_emphasis.specs.declared.role.Role.TheVariants.{Text}
use Rattle.first_pass_emphasis.specs.declared.reduce.Pass.{Pass}
use Rattle.first_pass_emphasis.specs.Parts.{Delimiters, Other, Part, Quotation, placed_runs, raw}
use Rattle.first_pass_emphasis.specs.Pieces.{Pieces, Plain, closed, followed, followed_by, roles}
use Rattle.first_pass_emphasis.specs.Stacks.{Stands, IsAt, IsRead, IsBefore}

-- at the next run: the pieces before it, and the parts after it
pub record IsNext (goal : Pieces) (r : PlacedRun) (rs : List PlacedRun) (s : Pass) : Type 0 where
  pub p : Pieces
  pub ts : List Part
  pub at : IsAt p r.run.size (raw ts) r.at s
  pub runs : rs ≡ placed_runs (length (roles p) + r.run.size) ts
  pub leads : followed_by (followed p (Delimiters r.run)) ts ≡ goal

next : (goal : Pieces) (r : PlacedRun) (rs : List PlacedRun) (s : Pass) (p : Pieces) (ts : List Part) → Stands p (raw ts) s
    → r ∷ rs ≡ placed_runs (length (roles p)) ts → followed_by p ts ≡ goal → IsNext goal r rs s
next goal r rs s p [] st e l = absurd (cc)
next goal r rs s p (Delimiters c ∷ ts) st e l =
    let head : r ≡ record { run = c; at = length (roles p) } = cc in
    let tail : rs ≡ placed_runs (length (roles p) + c.size) ts = cc in
    subst (λ (x : PlacedRun). IsNext goal x rs s) (sym head) (record { p = p; ts = ts; at = record { stands = st; place = refl }; runs = tail; leads = l })
next goal r rs s p (Quotation q ∷ ts) st e l =
    next goal r rs s (Plain p (Text ∷ [])) ts
    (record { roles = st.roles ∙ sym (append_assoc (roles p) (Text ∷ []) (raw ts)); stack = st.stack; bottoms = st.bottoms })
    (e ∙ ap (λ (n : ℕ). placed_runs n ts) (sym (length-append (roles p) (Text ∷ [])))) l
next goal r rs s p (Other ms ∷ ts) st e l =
    next goal r rs s (Plain p ms) ts (record { roles = st.roles ∙ sym (append_assoc (roles p) ms (raw ts)); stack = st.stack; bottoms = st.bottoms })
    (e ∙ ap (λ (n : ℕ). placed_runs n ts) (sym (length-append (roles p) ms))) l

pub is_next : (goal : Pieces) (r : PlacedRun) (rs all : List PlacedRun) (s : Pass) → IsBefore goal all s → all ≡ r ∷ rs → IsNext goal r rs s
is_next goal r rs all s h e = next goal r rs s h.p h.ts h.stands (sym e ∙ h.runs) h.leads

-- after the run
pub went_on : (goal : Pieces) (r : PlacedRun) (rs : List PlacedRun) (s t : Pass) (n : IsNext goal r rs s) → IsRead n.p (raw n.ts) r.run t → IsBefore goal rs t
went_on goal r rs s t n h = record {
  p = closed r.run.size n.p r.run r.run.size;
  ts = n.ts;
  stands = h.stands;
  runs = n.runs ∙ ap (λ (m : ℕ). placed_runs m n.ts) (sym h.place);
  leads = n.leads;
}

last : (goal : Pieces) (s : Pass) (p : Pieces) (ts : List Part) → Stands p (raw ts) s → [] ≡ placed_runs (length (roles p)) ts → followed_by p ts ≡ goal
    → s.roles.items ≡ roles goal
last goal s p [] st e l = st.roles ∙ append-nil (roles p) ∙ ap roles l
last goal s p (Delimiters c ∷ ts) st e l = absurd (cc)
last goal s p (Quotation q ∷ ts) st e l =
    last goal s (Plain p (Text ∷ [])) ts
    (record { roles = st.roles ∙ sym (append_assoc (roles p) (Text ∷ []) (raw ts)); stack = st.stack; bottoms = st.bottoms })
    (e ∙ ap (λ (n : ℕ). placed_runs n ts) (sym (length-append (roles p) (Text ∷ [])))) l
last goal s p (Other ms ∷ ts) st e l =
    last goal s (Plain p ms) ts (record { roles = st.roles ∙ sym (append_assoc (roles p) ms (raw ts)); stack = st.stack; bottoms = st.bottoms })
    (e ∙ ap (λ (n : ℕ). placed_runs n ts) (sym (length-append (roles p) ms))) l

pub is_last : (goal : Pieces) (rs : List PlacedRun) (s : Pass) → IsBefore goal rs s → rs ≡ [] → s.roles.items ≡ roles goal
is_last goal rs s h e = last goal s h.p h.ts h.stands (sym e ∙ h.runs) h.leads
