-- The nearest opener on the stack is the last opener among the pieces.
use Rattle.std.proofs.Common.{List, ◌≡◌, inl, inr, ℕ, ◌+◌, ◌<◌, true, false, [], ◌∷◌, ◌++◌, length, take, replicate, slice_get, Some, None, refl, sym, ap}
use Rattle.std.proofs.Common.{◌∙◌, arith, append_assoc, append-nil}
use Rattle.std.proofs.lemmas.List.{take-append-le, take_at}
use Rattle.std.proofs.lemmas.Option.{slice_get_within}
use Rattle.first_pass_emphasis.specs.declared.run.Run.{Run}
use Rattle.first_pass_emphasis.specs.declared.role.Format.{Format}
use Rattle.first_pass_emphasis.specs.declared.role.Role.{Role}
use Rattle.first_pass_emphasis.specs.declared.role.Role.TheVariants.{Text}
use Rattle.first_pass_emphasis.specs.declared.reduce.Entry.{Entry}
use Rattle.first_pass_emphasis.specs.Runs.{fits}
use Rattle.first_pass_emphasis.specs.Pieces.{Pieces, Begin, Plain, Runs, Formatted, Opener, then_plain, then_run, then_formatted, opener, roles}
use Rattle.first_pass_emphasis.specs.Stacks.{entries, Fits}
use Rattle.first_pass_emphasis.proofs.Lists.{get_front, get_seam, get_snoc}

-- the entry of a run after pieces
abbrev pub entry : Pieces → Run → ℕ → Entry
entry p r n = record { run = r; left = n; «end» = length (roles p) + n }

pub none_opens : (p : Pieces) (c : Run) (more : ℕ) → ((k : ℕ) (e : Entry) → slice_get (entries p) k ≡ Some e → Fits e c more ≡ false)
    → opener p c more ≡ None
none_opens Begin c more h = refl
none_opens (Plain p ms) c more h = rw (none_opens p c more h) refl
none_opens (Runs p r n) c more h =
    let no : fits r n c more ≡ false = h (length (entries p)) (entry p r n) (get_seam (entries p) (entry p r n)) in
    rw (no, none_opens p c more (λ k e i. h k e (get_front (entries p) (entry p r n ∷ []) k e i))) refl
none_opens (Formatted p f w x) c more h = rw (none_opens p c more h) refl

-- the last opener of a closer has this entry, at this index
pub record IsOpened (p : Pieces) (c : Run) (more j : ℕ) (e : Entry) : Type 0 where
  pub o : Opener
  pub there : slice_get (entries p) j ≡ Some e
  pub fit : Fits e c more ≡ true
  pub found : opener p c more ≡ Some o
  pub run : e.run ≡ o.run
  pub left : e.left ≡ o.left
  pub place : e.«end» ≡ length (roles o.before) + o.left
  pub below : take j (entries p) ≡ entries o.before
  pub roles_are : roles p ≡ (roles o.before ++ replicate o.left Text) ++ roles o.after

opened_plain : (p : Pieces) (ms : List Role) (c : Run) (more j : ℕ) (e : Entry) → IsOpened p c more j e → IsOpened (Plain p ms) c more j e
opened_plain p ms c more j e h = record {
  o = then_plain ms h.o;
  there = h.there;
  fit = h.fit;
  found = rw h.found refl;
  run = h.run;
  left = h.left;
  place = h.place;
  below = h.below;
  roles_are = rw h.roles_are (simp append_assoc);
}

opened_formatted : (p : Pieces) (f : Format) (w : ℕ) (x : Pieces) (c : Run) (more j : ℕ) (e : Entry) → IsOpened p c more j e
    → IsOpened (Formatted p f w x) c more j e
opened_formatted p f w x c more j e h = record {
  o = then_formatted f w x h.o;
  there = h.there;
  fit = h.fit;
  found = rw h.found refl;
  run = h.run;
  left = h.left;
  place = h.place;
  below = h.below;
  roles_are = rw h.roles_are (simp append_assoc);
}

opened_run : (p : Pieces) (r : Run) (n : ℕ) (c : Run) (more j : ℕ) (e : Entry) → fits r n c more ≡ false → j < length (entries p)
    → IsOpened p c more j e → IsOpened (Runs p r n) c more j e
opened_run p r n c more j e miss less h = record {
  o = then_run r n h.o;
  there = get_front (entries p) (entry p r n ∷ []) j e h.there;
  fit = h.fit;
  found = rw (miss, h.found) refl;
  run = h.run;
  left = h.left;
  place = h.place;
  below = take-append-le j (entries p) (entry p r n ∷ []) (omega arith) ∙ h.below;
  roles_are = rw h.roles_are (simp append_assoc);
}

opened_here : (p : Pieces) (r : Run) (n : ℕ) (c : Run) (more j : ℕ) (e : Entry) → entry p r n ≡ e → j ≡ length (entries p) → Fits e c more ≡ true
    → IsOpened (Runs p r n) c more j e
opened_here p r n c more j e same at fit =
    let yes : fits r n c more ≡ true = ap (λ (x : Entry). Fits x c more) same ∙ fit in
    record {
      o = record { before = p; run = r; left = n; after = Begin };
      there = ap (λ (x : ℕ). slice_get (entries p ++ entry p r n ∷ []) x) at ∙ get_seam (entries p) (entry p r n) ∙ ap Some same;
      fit = fit;
      found = rw yes refl;
      run = sym (ap (λ (x : Entry). x.run) same);
      left = sym (ap (λ (x : Entry). x.left) same);
      place = sym (ap (λ (x : Entry). x.«end») same);
      below = take_at (entries p) (entry p r n ∷ []) j (sym at);
      roles_are = sym (append-nil (roles p ++ replicate n Text));
    }

pub one_opens : (p : Pieces) (c : Run) (more j : ℕ) (e : Entry) → slice_get (entries p) j ≡ Some e → Fits e c more ≡ true
    → ((k : ℕ) (d : Entry) → j < k → slice_get (entries p) k ≡ Some d → Fits d c more ≡ false) → IsOpened p c more j e
one_opens Begin c more j e at fit above = absurd (cc)
one_opens (Plain p ms) c more j e at fit above = opened_plain p ms c more j e (one_opens p c more j e at fit above)
one_opens (Runs p r n) c more j e at fit above = elim (get_snoc (entries p) (entry p r n) j e at) [
  | inl i ↦
      let less : j < length (entries p) = slice_get_within (entries p) j e i in
      opened_run p r n c more j e (above (length (entries p)) (entry p r n) less (get_seam (entries p) (entry p r n))) less
      (one_opens p c more j e i fit (λ k d l g. above k d l (get_front (entries p) (entry p r n ∷ []) k d g)))
  | inr i ↦ opened_here p r n c more j e i.1 i.0 fit
]
one_opens (Formatted p f w x) c more j e at fit above = opened_formatted p f w x c more j e (one_opens p c more j e at fit above)
