-- Lemmas about names, which are the three lists: an index refers to the same entry after more entries are added.
use Rattle.std.proofs.Common.{◌≡◌, ℕ, false, List, [], ◌++◌, length, Result, Ok, Err, OnOk, refl, sym, ap, subst, ◌∙◌, append_assoc, append-nil}
use Rattle.first_pass_grammar.proofs.Common.{AllocError, CowStr, CowIndex, text_of, unescaped, Borrows, AreMore, Names, Extends, NamesInfo}
pub use Rattle.first_pass_grammar.proofs.Names.MoreNames.{extends_none, extends_both, extends_named, extends_alignments}
pub use Rattle.first_pass_grammar.proofs.Names.MoreNames.{text_last, still_aligned, alignments_last}
use Rattle.first_pass_names.specs.TableEntries.{with_named, AddsTexts}

-- names extend names that are equal to them
pub extends_equal : (new old : Names) → new ≡ old → Extends new old
extends_equal new old is = subst (Extends new) is (extends_none new)

-- If an info string, with its escapes and references resolved, was just added to the list of strings, its index names
-- it. This also holds of names that extend these.
pub info_named : (old named more : Names) (ix : CowIndex) (cow : CowStr) (info : List ℕ) → ix.0 ≡ length old.texts → named ≡ with_named old cow
    → text_of cow ≡ unescaped false info → (unescaped false info ≡ info → Borrows info cow) → Extends more named → NamesInfo more ix info
info_named old named more ix cow info at is text borrowed e =
    record { named = cow; at = text_last old named more ix cow at is e; text = text; borrowed = borrowed }

-- if only strings were added, the new names extend the old
pub extends_texts : (new old : Names) → AddsTexts new old → Extends new old
extends_texts new old h = record {
  more_texts = h.more;
  texts = h.texts;
  more_alignments = [];
  alignments = h.alignments ∙ sym (append-nil old.alignments);
  more_headings = [];
  headings = h.headings ∙ sym (append-nil old.headings);
}

-- `AddsTexts` holds if no string was added
pub texts_none : (names : Names) → AddsTexts names names
texts_none names = record { more = []; texts = sym (append-nil names.texts); alignments = refl; headings = refl }

-- if strings were added twice, `AddsTexts` holds for both steps together
pub texts_both : (new mid old : Names) → AddsTexts new mid → AddsTexts mid old → AddsTexts new old
texts_both new mid old e f = record {
  more = f.more ++ e.more;
  texts = e.texts ∙ ap (λ (xs : List CowStr). xs ++ e.more) f.texts ∙ append_assoc old.texts f.more e.more;
  alignments = e.alignments ∙ f.alignments;
  headings = e.headings ∙ f.headings;
}

-- if a call succeeds and only added strings, the names after it extend those before it
pub more_extends : {A : Type 0} (new old : Names) (r : Result A AllocError) → new.alignments ≡ old.alignments → new.headings ≡ old.headings
    → OnOk r (AreMore new.texts old.texts) → OnOk r (Extends new old)
more_extends new old (Ok a) alignments headings more =
    extends_texts new old (record { more = more.0; texts = more.1; alignments = alignments; headings = headings })
more_extends new old (Err e) alignments headings more = tt
