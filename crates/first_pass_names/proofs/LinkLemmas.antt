-- Lemmas about adding one definition to a table: how the grammar's tables change, and which properties of entries stay true.
use Rattle.std.proofs.Common.{◌≡◌, false, cond, List, [], ◌∷◌, map, All, Some, is_some, refl, sym, ap, subst, ◌∙◌, true≢false, Ordering, Less, Equal}
use Rattle.std.proofs.Common.{Greater, is_eq}
use Rattle.first_pass_grammar.proofs.Common.{cond_both, All-cons, All-head, All-tail, CowStr, text_of, folded, folding_of, with_first, LinkDef, with_link}
use Rattle.first_pass_grammar.proofs.Common.{with_links, with_label, with_definitions, with_footnote_label}
use Rattle.std.specs.Ordering.{match_ordering}
use Rattle.std.specs.Map.{lookup}
use Rattle.std.specs.BTreeMap.{is_at, insert_entry}
use Rattle.first_pass_labels.specs.Foldings.{label_cmp}
use Rattle.first_pass_labels.proofs.FirstOfEach.{map_put}
use Rattle.first_pass_labels.proofs.TableLemmas.{found_by_order}
use Rattle.first_pass_labels.proofs.TextOrder.{label_of as entry_label, with_first_is}
use Rattle.first_pass_grammar.proofs.LinkTables.FirstLinks.{label_of as link_label, itself, put_link, put_label}
use Rattle.first_pass_labels.specs.LabelTables.{IsInOrder}
use Rattle.first_pass_labels.specs.declared.label_table.FootnoteDef.{FootnoteDef}
use Rattle.first_pass_names.specs.TableEntries.{link_entry, footnote_label, tables_of}
use Rattle.first_pass_names.specs.declared.items.Allocations.{Allocations}

-- If `with_first` adds a link definition to its table, `with_definitions` of the grammar adds it to the grammar's tables.
pub link_defined : (old new : Allocations) (label : CowStr) (x : LinkDef)
    → IsInOrder old.refdefs → new.refdefs ≡ with_first old.refdefs label x → new.footdefs ≡ old.footdefs
    → tables_of new ≡ with_definitions (tables_of old) (link_entry (label, x) ∷ [])
unfolding with_links
link_defined old new label x order links notes =
    let now : map link_entry new.refdefs ≡ with_link (link_entry (label, x)) (map link_entry old.refdefs) =
    ap (map link_entry) (links ∙ with_first_is label x old.refdefs order)
    ∙ map_put folding_of entry_label folded link_label link_entry (λ d. refl) (label, x) old.refdefs ∙ sym (put_link _ (map link_entry old.refdefs)) in
    cc

-- If `with_first` adds a footnote label to its table, `with_footnote_label` of the grammar adds it to the grammar's tables.
pub footnote_defined : (old new : Allocations) (label : CowStr)
    → IsInOrder old.footdefs → new.footdefs ≡ with_first old.footdefs label (record { use_count = 0 }) → new.refdefs ≡ old.refdefs
    → tables_of new ≡ with_footnote_label (tables_of old) (text_of label)
footnote_defined old new label order notes links =
    let none : FootnoteDef = record { use_count = 0 } in
    let now : map footnote_label new.footdefs ≡ with_label (text_of label) (map footnote_label old.footdefs) =
    ap (map footnote_label) (notes ∙ with_first_is label none old.footdefs order)
    ∙ map_put folding_of entry_label folded itself footnote_label (λ d. refl) (label, none) old.footdefs
    ∙ sym (put_label _ (map footnote_label old.footdefs)) in
    cc

-- ---- a property that each entry and the new one have

module _ {T : Type 0} (P : CowStr × T → Type 0) (label : CowStr) (x : T) (one : P (label, x)) where
  -- inserting into a table with the first entry e keeps the property, for each order of the new label and that of e
  put_each : (e : CowStr × T) (es : List (CowStr × T)) → All P (e ∷ es) → (o : Ordering)
      → is_some (cond (is_eq o) (Some e.1) (lookup (is_at (label_cmp label)) es)) ≡ false
      → (is_some (lookup (is_at (label_cmp label)) es) ≡ false → All P (insert_entry label_cmp es label x))
      → All P (match_ordering o ((label, x) ∷ e ∷ es) ((e.0, x) ∷ es) (e ∷ insert_entry label_cmp es label x))
  put_each e es each Less none rest = All-cons P (label, x) (e ∷ es) one each
  put_each e es each Equal none rest = absurd (true≢false none)
  put_each e es each Greater none rest = All-cons P e (insert_entry label_cmp es label x) (All-head P e es each) (rest none)

  -- inserting keeps the property, if the label is not in the table
  inserted_each : (es : List (CowStr × T)) → All P es → is_some (lookup (is_at (label_cmp label)) es) ≡ false → All P (insert_entry label_cmp es label x)
  inserted_each [] each none = All-cons P (label, x) [] one each
  inserted_each (e ∷ es) each none = put_each e es each (label_cmp label e.0) none (λ free. inserted_each es (All-tail P e es each) free)

  -- after `with_first`, each entry still has the property
  pub each_first : (es : List (CowStr × T)) → All P es → All P (with_first es label x)
  each_first es each =
      subst (λ o. All P (cond (is_some o) es (insert_entry label_cmp es label x))) (sym (found_by_order label es))
      (cond_both (is_some (lookup (is_at (label_cmp label)) es)) es (insert_entry label_cmp es label x) (All P) (λ there. each)
      (λ none. inserted_each es each none))
