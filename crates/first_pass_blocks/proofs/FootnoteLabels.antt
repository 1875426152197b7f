-- The table of footnotes has copies of the labels that the nodes name, of each folding the first: so it is at the start,
-- and so it stays, also with one more footnote definition.
use Rattle.std.proofs.Common.{◌≡◌, ℕ, List, [], ◌∷◌, ◌++◌, map, slice_get, Some, refl, sym, ap, subst, ◌∙◌}
use Rattle.std.specs.List.{AllZip}
use Rattle.first_pass_grammar.proofs.Common.{CowIndex, CowStr, Item, Names, Extends, map-append, with_first}
use Rattle.first_pass_grammar.proofs.Each.EachPair.{both_pairs}
use Rattle.first_pass_labels.proofs.TextOrder.{with_one_more}
use Rattle.first_pass_labels.specs.LabelTables.{table_of, with_all}
use Rattle.first_pass_labels.specs.declared.label_table.FootnoteDef.{FootnoteDef}
use Rattle.first_pass_blocks.proofs.Common.{Allocations, names_of, Entries, entries, footdefs_of, footnote_label, AddsFootnote, footnotes_in, AreFirstLabels}
use Rattle.first_pass_blocks.proofs.Common.{CopiesText, HasFirstLabels, unused, still_there}

-- copies of the strings at these indices
abbrev AreCopies : Names → List CowIndex → List CowStr → Type 0
AreCopies names indices copies = AllZip (CopiesText names) indices copies

still_copied : (new old : Names) (index : CowIndex) (copy : CowStr) → Extends new old → CopiesText old index copy → CopiesText new index copy
still_copied new old index copy more h = record {
  text = h.text;
  named = still_there new.texts old.texts more.more_texts index.0 h.text more.texts h.named;
  is_copy = h.is_copy;
}

still_copies : (new old : Names) (indices : List CowIndex) (copies : List CowStr) → Extends new old → AreCopies old indices copies
    → AreCopies new indices copies
still_copies new old [] [] more h = tt
still_copies new old (index ∷ indices) (copy ∷ copies) more h =
    (still_copied new old index copy more h.0, still_copies new old indices copies more h.1)
still_copies new old indices copies more h = absurd h

-- the same footnote definitions
pub labels_stay : (old new : Allocations) (before after : List (ℕ × Item)) → Extends (names_of new) (names_of old)
    → footnotes_in after ≡ footnotes_in before → footdefs_of new ≡ footdefs_of old → HasFirstLabels old before → HasFirstLabels new after
labels_stay old new before after more notes same h = record {
  copies = h.copies;
  are_copies = subst (λ (l : List CowIndex). AreCopies (names_of new) l h.copies) (sym notes)
      (still_copies (names_of new) (names_of old) (footnotes_in before) h.copies more h.are_copies);
  first = same ∙ h.first;
}

one_after : (copies : List CowStr) (copy : CowStr)
    → table_of (map unused (copies ++ copy ∷ [])) ≡ with_first (table_of (map unused copies)) copy (record { use_count = 0 })
unfolding with_all
one_after copies copy = ap table_of (map-append unused copies (copy ∷ [])) ∙ with_one_more [] (map unused copies) copy (record { use_count = 0 })

-- one more footnote definition, after the others
pub labels_more : (old new : Allocations) (before after : List (ℕ × Item)) (index : CowIndex) (label : CowStr) → Extends (names_of new) (names_of old)
    → footnotes_in after ≡ footnotes_in before ++ index ∷ [] → slice_get (names_of new).texts index.0 ≡ Some label
    → AddsFootnote (entries old) (entries new) label → HasFirstLabels old before → HasFirstLabels new after
labels_more old new before after index label more notes named tells h = record {
  copies = h.copies ++ tells.copy ∷ [];
  are_copies = subst (λ (l : List CowIndex). AreCopies (names_of new) l (h.copies ++ tells.copy ∷ [])) (sym notes)
      (both_pairs (CopiesText (names_of new)) (footnotes_in before) (index ∷ []) h.copies (tells.copy ∷ [])
      (still_copies (names_of new) (names_of old) (footnotes_in before) h.copies more h.are_copies)
      (record { text = label; named = named; is_copy = tells.is_copy }, tt));
  first = ap (λ (es : Entries). es.footnotes) tells.added
      ∙ ap (λ (es : List (CowStr × FootnoteDef)). with_first es tells.copy (record { use_count = 0 })) h.first ∙ sym (one_after h.copies tells.copy);
}

-- no footnote definition and an empty table
no_label : (es : List (CowStr × FootnoteDef)) → map footnote_label es ≡ [] → es ≡ []
no_label [] none = refl
no_label (e ∷ es) none = cc

pub labels_none : (names : Names) (nodes : List (ℕ × Item)) (es : List (CowStr × FootnoteDef)) → footnotes_in nodes ≡ [] → map footnote_label es ≡ []
    → AreFirstLabels names nodes es
unfolding with_all
labels_none names nodes es notes none = record {
  copies = [];
  are_copies = subst (λ (l : List CowIndex). AreCopies names l []) (sym notes) tt;
  first = no_label es none;
}
