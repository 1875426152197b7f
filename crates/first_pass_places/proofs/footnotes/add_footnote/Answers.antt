use Rattle.std.proofs.Common.{ℕ, List, [], ◌∷◌, sym, ap, ◌∙◌, arith}
use Rattle.first_pass_grammar.proofs.Common.{CowStr, Borrowed, on_err, with_first}
use Rattle.first_pass_labels.specs.LabelTables.{with_all}
use Rattle.first_pass_names.specs.TableEntries.{names_of}
use Rattle.first_pass_places.specs.FootnoteNodes.{label_with_index}
use Rattle.first_pass_places.proofs.FootnoteTables.{no_footnote, one_label}
use Rattle.first_pass_places.proofs.footnotes.add_footnote.Goals as goal

pub returns-in_default-clause-value : goal.returns-in_default-clause-value
unfolding with_all
returns-in_default-clause-value c = grind (arith, no_footnote)

pub returns-clause-value : goal.returns-clause-value
unfolding with_all
returns-clause-value c = record {
  definitions = (Borrowed c.text_at.result, c.args.index) ∷ [];
  labels = ap (λ (t : List ℕ). (t, c.args.index) ∷ []) c.text_at.ensures
      ∙ ap (label_with_index (names_of c.args.allocs.now) c.args.index) (sym c.in-FootnoteDefinition.is);
  added = c.in_ok-insert_first.ensures.first ∙ ap (λ (l : CowStr). with_first c.args.table.now l c.args.index) c.in_ok-key.ensures;
}

pub returns-in_err-key-clause-err : goal.returns-in_err-key-clause-err
returns-in_err-key-clause-err c = grind (arith, on_err, one_label)

pub returns-in_err-insert_first-clause-err : goal.returns-in_err-insert_first-clause-err
returns-in_err-insert_first-clause-err c =
    on_err c.from_residual-in_err-insert_first.result
    (one_label (names_of c.args.allocs.now) c.args.index _ c.args.item.now.body c.in-FootnoteDefinition.is)
