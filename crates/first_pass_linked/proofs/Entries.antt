-- The entries of a table that are kept, one by one.
use Rattle.std.proofs.Common.{◌≡◌, List, [], ◌∷◌, ◌++◌, map, sym, ap, ◌∙◌, append_assoc, append-nil}
use Rattle.std.proofs.lemmas.List.{map-append}

module _ {A B : Type 0} (view : A → B) where
  pub one_more : (kept more : List A) (x : A) (s t whole : List B) → more ≡ kept ++ x ∷ [] → s ≡ view x ∷ t → map view kept ++ s ≡ whole
      → map view more ++ t ≡ whole
  one_more kept more x s t whole e step so_far =
      ap (λ l. map view l ++ t) e ∙ ap (λ l. l ++ t) (map-append view kept (x ∷ [])) ∙ append_assoc (map view kept) (view x ∷ []) t
      ∙ ap (λ l. map view kept ++ l) (sym step) ∙ so_far

  pub all_kept : (kept : List A) (s whole : List B) → s ≡ [] → map view kept ++ s ≡ whole → map view kept ≡ whole
  all_kept kept s whole none so_far = sym (append-nil (map view kept)) ∙ ap (λ l. map view kept ++ l) (sym none) ∙ so_far
