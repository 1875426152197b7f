-- What stands before a level changes nothing in it.
use Rattle.std.proofs.Common.{◌≡◌, ℕ, zero, suc, ◌-◌, List, [], ◌∷◌, ◌++◌, Bool, true, false, Option, Some, None, refl, sym, ap, ◌∙◌, append_assoc}
use Rattle.std.proofs.Common.{append-nil, if◌then◌else◌}
use Rattle.std.specs.Option.{option_map, option_map_or}
use Rattle.first_pass_emphasis.specs.declared.run.Run.{Run}
use Rattle.first_pass_emphasis.specs.declared.role.Format.{Format}
use Rattle.first_pass_emphasis.specs.declared.role.Role.{Role}
use Rattle.first_pass_emphasis.specs.declared.role.Role.TheVariants.{Text}
use Rattle.first_pass_emphasis.specs.Runs.{fits, width}
use Rattle.first_pass_emphasis.specs.Parts.{Delimiters, Other, Part, Quotation}
use Rattle.first_pass_emphasis.specs.Pieces.{Pieces, Begin, Plain, Runs, Formatted, Opener, then_plain, then_run, then_formatted, opener, paired, closed}
use Rattle.first_pass_emphasis.specs.Pieces.{followed_by, reduced, roles}

-- pieces after others, of which only the roles are known
abbrev behind : List Role → Pieces → Pieces
behind o Begin = Plain Begin o
behind o (Plain p ms) = Plain (behind o p) ms
behind o (Runs p r n) = Runs (behind o p) r n
behind o (Formatted p f w x) = Formatted (behind o p) f w x

behind_roles : (o : List Role) (p : Pieces) → roles (behind o p) ≡ o ++ roles p
behind_roles o Begin = sym (append-nil o)
behind_roles o (Plain p ms) = rw (behind_roles o p) (append_assoc o (roles p) ms)
behind_roles o (Runs p r n) = rw (behind_roles o p) (append_assoc o (roles p) _)
behind_roles o (Formatted p f w x) = rw (behind_roles o p) (append_assoc o (roles p) _)

abbrev moved : List Role → Opener → Opener
moved o a = record { before = behind o a.before; run = a.run; left = a.left; after = a.after }

moved_plain : (o ms : List Role) (x : Option Opener) → option_map (then_plain ms) (option_map (moved o) x) ≡ option_map (moved o) (option_map (then_plain ms) x)
moved_plain o ms None = refl
moved_plain o ms (Some a) = refl

moved_run : (o : List Role) (r : Run) (n : ℕ) (x : Option Opener)
    → option_map (then_run r n) (option_map (moved o) x) ≡ option_map (moved o) (option_map (then_run r n) x)
moved_run o r n None = refl
moved_run o r n (Some a) = refl

moved_formatted : (o : List Role) (f : Format) (w : ℕ) (y : Pieces) (x : Option Opener)
    → option_map (then_formatted f w y) (option_map (moved o) x) ≡ option_map (moved o) (option_map (then_formatted f w y) x)
moved_formatted o f w y None = refl
moved_formatted o f w y (Some a) = refl

moved_if : (o : List Role) (b : Bool) (a : Opener) (x y : Option Opener) → x ≡ option_map (moved o) y
    → (if b then Some (moved o a) else x) ≡ option_map (moved o) (if b then Some a else y)
moved_if o true a x y h = refl
moved_if o false a x y h = h

behind_opener : (o : List Role) (p : Pieces) (c : Run) (more : ℕ) → opener (behind o p) c more ≡ option_map (moved o) (opener p c more)
behind_opener o Begin c more = refl
behind_opener o (Plain p ms) c more = ap (option_map (then_plain ms)) (behind_opener o p c more) ∙ moved_plain o ms (opener p c more)
behind_opener o (Runs p r n) c more =
    moved_if o (fits r n c more) (record { before = p; run = r; left = n; after = Begin }) (option_map (then_run r n) (opener (behind o p) c more))
    (option_map (then_run r n) (opener p c more))
    (ap (option_map (then_run r n)) (behind_opener o p c more) ∙ moved_run o r n (opener p c more))
behind_opener o (Formatted p f w x) c more = ap (option_map (then_formatted f w x)) (behind_opener o p c more) ∙ moved_formatted o f w x (opener p c more)

closing : ℕ → Run → ℕ → Pieces → Option Opener → Pieces
closing steps c more p x =
    option_map_or (λ (o : Opener). closed steps (paired o (width o.run o.left more)) c (more - width o.run o.left more)) x (Runs p c more)

behind_closed : (steps : ℕ) (o : List Role) (p : Pieces) (c : Run) (more : ℕ) → closed steps (behind o p) c more ≡ behind o (closed steps p c more)
unfolding closing
behind_closed zero o p c more = refl
behind_closed (suc steps) o p c more =
    ap (closing steps c more (behind o p)) (behind_opener o p c more) ∙ by_opener (opener p c more) (λ q m. behind_closed steps o q c m)
  where
    by_opener : (x : Option Opener) → ((q : Pieces) (m : ℕ) → closed steps (behind o q) c m ≡ behind o (closed steps q c m))
        → closing steps c more (behind o p) (option_map (moved o) x) ≡ behind o (closing steps c more p x)
    by_opener None further = refl
    by_opener (Some a) further = further (paired a (width a.run a.left more)) (more - width a.run a.left more)

behind_followed : (o : List Role) (p : Pieces) (ts : List Part) → followed_by (behind o p) ts ≡ behind o (followed_by p ts)
behind_followed o p [] = refl
behind_followed o p (Quotation q ∷ ts) = behind_followed o (Plain p (Text ∷ [])) ts
behind_followed o p (Other ms ∷ ts) = behind_followed o (Plain p ms) ts
behind_followed o p (Delimiters r ∷ ts) =
    ap (λ (x : Pieces). followed_by x ts) (behind_closed r.size o p r r.size) ∙ behind_followed o (closed r.size p r r.size) ts

pub outside_same : (o : List Role) (ts : List Part) → roles (followed_by (Plain Begin o) ts) ≡ o ++ roles (reduced ts)
outside_same o ts = ap roles (behind_followed o Begin ts) ∙ behind_roles o (reduced ts)
