-- The result of a look-up in a table of labels, and the change by one more definition.
use Rattle.std.proofs.Common.{◌≡◌, ◌≢◌, ℕ, suc, Bool, true, false, cond, List, [], ◌∷◌, Option, None, Some, nat_eq, refl, sym, subst, ◌∙◌, suc-le-suc}
use Rattle.std.proofs.Common.{zero-le, not-suc-le-zero, true≢false}
use Rattle.std.proofs.lemmas.List.Elements.{All-cons}
use Rattle.std.specs.Cmp.Lexicographic.{pointwise, texts_ties, bytes_decides}
use Rattle.std.specs.Map.{lookup}
use Rattle.std.specs.BTreeMap.{is_at}
use Rattle.first_pass_items.specs.declared.cow_str.CowStr.{CowStr}
use Rattle.first_pass_labels.specs.Foldings.{folding_of, label_cmp}
use Rattle.first_pass_labels.specs.LabelTables.{defined_under, HoldsUnder}

-- a look-up by order finds the label with the same folding
pub found_by_order : {X : Type 0} (label : CowStr) (es : List (CowStr × X)) → defined_under (folding_of label) es ≡ lookup (is_at (label_cmp label)) es
found_by_order label es = λ i. lookup (λ l. texts_ties (folding_of label) (folding_of l) i) es

-- ---- a definition is next to a label with its folding

holds_cons : {X : Type 0} (folding : List ℕ) (e : CowStr × X) (es : List (CowStr × X)) (same : Bool)
    → pointwise nat_eq folding (folding_of e.0) ≡ same → (r : Option X) → HoldsUnder es folding r → HoldsUnder (e ∷ es) folding (cond same (Some e.1) r)
holds_cons folding e es true h r rest = (e.0, (0, suc-le-suc zero-le, refl), sym ((bytes_decides folding (folding_of e.0)).0 h))
holds_cons folding e es false h None rest =
    All-cons (λ e. folding_of e.0 ≢ folding) e es (λ same. true≢false (sym ((bytes_decides folding (folding_of e.0)).1 (sym same)) ∙ h)) rest
holds_cons folding e es false h (Some x) (label, (k, lt, at), same) = (label, (suc k, suc-le-suc lt, at), same)

pub holds_under : {X : Type 0} (folding : List ℕ) (es : List (CowStr × X)) → HoldsUnder es folding (defined_under folding es)
holds_under folding [] = λ k d lt. absurd (not-suc-le-zero lt)
holds_under folding (e ∷ es) = holds_cons folding e es (pointwise nat_eq folding (folding_of e.0)) refl (defined_under folding es) (holds_under folding es)

pub found_holds : {X : Type 0} (es : List (CowStr × X)) (folding : List ℕ) (r : Option X) → r ≡ defined_under folding es → HoldsUnder es folding r
found_holds es folding r is = subst (HoldsUnder es folding) (sym is) (holds_under folding es)
