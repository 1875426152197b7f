-- Raw lines after the nodes of a tree: the owed columns, and the bytes.
use Rattle.std.proofs.Common.{◌≡◌, ℕ, zero, suc, ◌-◌, ◌≤◌, true, false, List, ◌∷◌, ◌++◌, refl, sym, ap, ◌∙◌, arith, [], slice_range}
use Rattle.first_pass_grammar.proofs.Common.{cond-true, cond-false, space, CowIndex, Item, SynthesizeText, Forest, with_tokens, chained, Names, NamesText}
use Rattle.first_pass_grammar.proofs.Common.{spaces, AreColumns, ends_with_both, Ranges, raw_items}
use Rattle.first_pass_leaves.proofs.Common.{with_tokens-append, with_token-plain, AppendsColumns, AppendsRaw}
use Rattle.first_pass_names.proofs.NameLemmas.{extends_none}

-- up to three spaces
pub spaces_taken : (n : ℕ) → n ≤ 3 → slice_range (space ∷ space ∷ space ∷ []) 0 n ≡ spaces n
spaces_taken zero h = refl
spaces_taken (suc zero) h = refl
spaces_taken (suc (suc zero)) h = refl
spaces_taken (suc (suc (suc zero))) h = refl
spaces_taken (suc (suc (suc (suc n)))) h = absurd (omega arith)

abbrev pub columns_item : ℕ → CowIndex → Item
columns_item at ix = record { start = at; «end» = at; body = SynthesizeText ix }

-- Owed columns are one text.
pub some_columns : (names : Names) (n at : ℕ) (ix : CowIndex) → ¬ (n ≡ 0) → NamesText names ix (spaces n) → AreColumns names n at (columns_item at ix ∷ [])
some_columns names zero at ix h named = absurd (h refl)
some_columns names (suc n) at ix h named = (ix, named, refl)

-- columns are no text, so nothing is joined to them
columns_plain : (names : Names) (n at : ℕ) (items : List Item) (f : Forest Item) → AreColumns names n at items → chained f items ≡ with_tokens f items
columns_plain names zero at items f h = ap (chained f) h ∙ sym (ap (with_tokens f) h)
columns_plain names (suc n) at items f (ix, named, is) = ap (chained f) is ∙ sym (with_token-plain f (columns_item at ix) refl) ∙ sym (ap (with_tokens f) is)

-- the bytes of a line that does not end with `\r\n`
pub raw_one : (range : Ranges) (text : List ℕ) (from to : ℕ) → ends_with_both text from to ≡ false → raw_items range text from to ≡ range from to
unfolding raw_items
raw_one range text from to h = cond-false _ _ _ h

raw_appended : (range : Ranges) (text : List ℕ) (names : Names) (owed from to : ℕ) (old mid new : Forest Item)
    → AppendsColumns names owed from old mid → new ≡ with_tokens mid (raw_items range text from to) → AppendsRaw range text names owed from to old new
raw_appended range text names owed from to old mid new c e =
    record {
      items = c.items ++ raw_items range text from to;
      tree_is =
          e ∙ ap (λ f. with_tokens f (raw_items range text from to)) (c.tree_is ∙ columns_plain names owed from c.items old (c.are names (extends_none names)))
          ∙ sym (with_tokens-append old c.items (raw_items range text from to));
      are = λ options more h. (c.items, c.are more h, refl);
    }

-- a raw line that does not end with `\r\n`, and one that does
pub line_one : (range : Ranges) (text : List ℕ) (names : Names) (owed from to : ℕ) (old mid new : Forest Item)
    → AppendsColumns names owed from old mid → ends_with_both text from to ≡ false → new ≡ with_tokens mid (range from to)
    → AppendsRaw range text names owed from to old new
line_one range text names owed from to old mid new c h e =
    raw_appended range text names owed from to old mid new c (e ∙ ap (with_tokens mid) (sym (raw_one range text from to h)))

pub line_two : (range : Ranges) (text : List ℕ) (names : Names) (owed from to : ℕ) (old mid new : Forest Item)
    → AppendsColumns names owed from old mid → ends_with_both text from to ≡ true
    → new ≡ with_tokens (with_tokens mid (range from (to - 2))) (range (to - 1) to) → AppendsRaw range text names owed from to old new
unfolding raw_items
line_two range text names owed from to old mid new c h e =
    raw_appended range text names owed from to old mid new c
    (e ∙ sym (with_tokens-append mid (range from (to - 2)) (range (to - 1) to)) ∙ ap (with_tokens mid) (sym (cond-true _ _ _ h)))
