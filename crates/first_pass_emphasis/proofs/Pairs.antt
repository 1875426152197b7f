-- The quotation marks of a level, one after another.
use Rattle.std.proofs.Common.{◌≡◌, ℕ, suc, ◌+◌, ◌<◌, Bool, List, [], ◌∷◌, ◌++◌, length, replicate, set, refl, sym, ap, ◌∙◌, subst, arith, append_assoc}
use Rattle.std.proofs.Common.{length-append, if◌then◌else◌}
use Rattle.std.proofs.lemmas.List.{length-replicate}
use Rattle.first_pass_emphasis.specs.declared.quotes.PlacedQuote.{PlacedQuote}
use Rattle.first_pass_emphasis.specs.declared.role.Role.{Role}
use Rattle.first_pass_emphasis.specs.declared.role.Role.TheVariants.{Text}
use Rattle.first_pass_emphasis.specs.Parts.{Part, Delimiters, Quotation, Other, placed_quotes, placed_runs, raw}
use Rattle.first_pass_emphasis.specs.Quotes.{begins_pair, closes_next, double_after, is_single_edge, quote_role, quoted, single_after}
use Rattle.first_pass_emphasis.specs.Stacks.{next_closes}

-- what is next among the quotation marks is next among the parts
pub next_same : (n : ℕ) (ts : List Part) → next_closes (placed_quotes n ts) ≡ closes_next ts
next_same n [] = refl
next_same n (Delimiters r ∷ ts) = next_same (n + r.size) ts
next_same n (Quotation q ∷ ts) = ap (λ (b : Bool). if is_single_edge q then q.closes else b) (next_same (n + 1) ts)
next_same n (Other rs ∷ ts) = next_same (n + length rs) ts

-- a quotation mark is where a run is not
pub same_runs : (double single : Bool) (n : ℕ) (ts : List Part) → placed_runs n (quoted double single ts) ≡ placed_runs n ts
same_runs double single n [] = refl
same_runs double single n (Delimiters r ∷ ts) = ap (λ xs. record { run = r; at = n } ∷ xs) (same_runs double single (n + r.size) ts)
same_runs double single n (Quotation q ∷ ts) =
    same_runs (double_after double q) (single_after single (begins_pair single q (closes_next ts)) q) (n + 1) ts
same_runs double single n (Other rs ∷ ts) = same_runs double single (n + length rs) ts

-- before some quotation marks: the roles that are done, and the parts that are left
pub record IsQuoting (goal : List Role) (double single : Bool) (qs : List PlacedQuote) (ms : List Role) : Type 0 where
  pub done : List Role
  pub ts : List Part
  pub roles : ms ≡ done ++ raw ts
  pub quotes : qs ≡ placed_quotes (length done) ts
  pub leads : done ++ raw (quoted double single ts) ≡ goal

-- at a quotation mark
pub record IsAtQuote (goal : List Role) (double single : Bool) (q : PlacedQuote) (qs : List PlacedQuote) (ms : List Role) : Type 0 where
  pub done : List Role
  pub ts : List Part
  pub roles : ms ≡ done ++ Text ∷ raw ts
  pub at : q.at ≡ length done
  pub quotes : qs ≡ placed_quotes (length done + 1) ts
  pub leads : done ++ quote_role double (begins_pair single q.quote (closes_next ts)) q.quote
      ∷ raw (quoted (double_after double q.quote) (single_after single (begins_pair single q.quote (closes_next ts)) q.quote) ts) ≡ goal

module _ (goal : List Role) (double single : Bool) (q : PlacedQuote) (qs : List PlacedQuote) (ms : List Role) where
  next_quote : (done : List Role) (ts : List Part) → ms ≡ done ++ raw ts → q ∷ qs ≡ placed_quotes (length done) ts
      → done ++ raw (quoted double single ts) ≡ goal → IsAtQuote goal double single q qs ms
  next_quote done [] m e l = absurd (cc)
  next_quote done (Delimiters r ∷ ts) m e l =
      next_quote (done ++ replicate r.size Text) ts (m ∙ sym (append_assoc done (replicate r.size Text) (raw ts)))
      (e ∙ ap (λ (n : ℕ). placed_quotes n ts) (sym (length-append done (replicate r.size Text)
      ∙ ap (λ (n : ℕ). length done + n) (length-replicate r.size Text))))
      (append_assoc done (replicate r.size Text) (raw (quoted double single ts)) ∙ l)
  next_quote done (Quotation u ∷ ts) m e l =
      let head : q ≡ record { quote = u; at = length done } = cc in
      let tail : qs ≡ placed_quotes (length done + 1) ts = cc in
      subst (λ (x : PlacedQuote). IsAtQuote goal double single x qs ms) (sym head)
      (record { done = done; ts = ts; roles = m; at = refl; quotes = tail; leads = l })
  next_quote done (Other rs ∷ ts) m e l =
      next_quote (done ++ rs) ts (m ∙ sym (append_assoc done rs (raw ts))) (e ∙ ap (λ (n : ℕ). placed_quotes n ts) (sym (length-append done rs)))
      (append_assoc done rs (raw (quoted double single ts)) ∙ l)

  pub at_quote : (all : List PlacedQuote) → all ≡ q ∷ qs → IsQuoting goal double single all ms → IsAtQuote goal double single q qs ms
  at_quote all there h = next_quote h.done h.ts h.roles (sym there ∙ h.quotes) h.leads

set_seam : {X : Type 0} (xs ys : List X) (y z : X) → set (xs ++ y ∷ ys) (length xs) z ≡ xs ++ z ∷ ys
set_seam [] ys y z = refl
set_seam (x ∷ xs) ys y z = ap (λ zs. x ∷ zs) (set_seam xs ys y z)

pub quote_within : (goal : List Role) (double single : Bool) (q : PlacedQuote) (qs : List PlacedQuote) (ms : List Role) → IsAtQuote goal double single q qs ms
    → q.at < length ms
quote_within goal double single q qs ms h =
    let n : length ms ≡ length h.done + suc (length (raw h.ts)) = ap length h.roles ∙ length-append h.done (Text ∷ raw h.ts) in
    omega (arith, h.at)

-- after a quotation mark
module _ (goal : List Role) (double single begins d s : Bool) (q : PlacedQuote) (qs : List PlacedQuote) (ms ns : List Role) (x : Role) where
  pub quote_written : IsAtQuote goal double single q qs ms → begins ≡ begins_pair single q.quote (next_closes qs) → x ≡ quote_role double begins q.quote
      → ns ≡ set ms q.at x → d ≡ double_after double q.quote → s ≡ single_after single begins q.quote → IsQuoting goal d s qs ns
  quote_written h b_is x_is is d_is s_is =
      let b : begins ≡ begins_pair single q.quote (closes_next h.ts) =
      b_is ∙ ap (begins_pair single q.quote) (ap next_closes h.quotes ∙ next_same (length h.done + 1) h.ts) in
      let role : x ≡ quote_role double (begins_pair single q.quote (closes_next h.ts)) q.quote =
      x_is ∙ ap (λ (y : Bool). quote_role double y q.quote) b in
      let after : s ≡ single_after single (begins_pair single q.quote (closes_next h.ts)) q.quote =
      s_is ∙ ap (λ (y : Bool). single_after single y q.quote) b in
      record {
        done = h.done ++ x ∷ [];
        ts = h.ts;
        roles =
            is ∙ ap (λ (n : ℕ). set ms n x) h.at ∙ ap (λ (l : List Role). set l (length h.done) x) h.roles ∙ set_seam h.done (raw h.ts) Text x
            ∙ sym (append_assoc h.done (x ∷ []) (raw h.ts));
        quotes = h.quotes ∙ ap (λ (n : ℕ). placed_quotes n h.ts) (sym (length-append h.done (x ∷ [])));
        leads =
            append_assoc h.done (x ∷ []) (raw (quoted d s h.ts))
            ∙ ap (λ (y : Role). h.done ++ y ∷ raw (quoted d s h.ts)) role
            ∙ ap (λ (y : Bool). h.done ++ quote_role double (begins_pair single q.quote (closes_next h.ts)) q.quote ∷ raw (quoted y s h.ts)) d_is
            ∙ ap (λ (y : Bool). h.done ++ quote_role double (begins_pair single q.quote (closes_next h.ts)) q.quote
            ∷ raw (quoted (double_after double q.quote) y h.ts)) after ∙ h.leads;
      }

no_quotes : (double single : Bool) (n : ℕ) (ts : List Part) → [] ≡ placed_quotes n ts → raw (quoted double single ts) ≡ raw ts
no_quotes double single n [] e = refl
no_quotes double single n (Delimiters r ∷ ts) e = ap (λ (l : List Role). replicate r.size Text ++ l) (no_quotes double single (n + r.size) ts e)
no_quotes double single n (Quotation q ∷ ts) e = absurd (cc)
no_quotes double single n (Other rs ∷ ts) e = ap (λ (l : List Role). rs ++ l) (no_quotes double single (n + length rs) ts e)

pub quoting_ends : (goal : List Role) (double single : Bool) (qs : List PlacedQuote) (ms : List Role) → IsQuoting goal double single qs ms → qs ≡ [] → ms ≡ goal
quoting_ends goal double single qs ms h none =
    h.roles ∙ ap (λ (l : List Role). h.done ++ l) (sym (no_quotes double single (length h.done) h.ts (sym none ∙ h.quotes))) ∙ h.leads
