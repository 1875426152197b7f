-- A word needs memory only if it is a class after another or a key after another.
use Rattle.std.proofs.Common.{◌≡◌, inl, inr, ℕ, ◌+◌, ◌<◌, true, false, List, [], ◌∷◌, length, map, filter, take, drop, sym, ap, subst, ◌∙◌, arith}
use Rattle.std.proofs.Common.{length-append}
use Rattle.std.specs.List.{prefix_len}
use Rattle.std.proofs.lemmas.Bool.{cases_lt}
use Rattle.std.proofs.lemmas.List.Sums.{prefix_len-le-length}
use Rattle.first_pass_items.specs.Bytes.{number_sign, full_stop}
use Rattle.first_pass_lines.specs.Lines.{begins}
use Rattle.first_pass_attributes.specs.Attributes.{Attributes, HasSeveral, is_attribute_word, words, marked, gives_key, key_and_value, with_words}
use Rattle.first_pass_attributes.proofs.AttributeFacts.{told-class, told-key, with-next}
use Rattle.first_pass_attributes.proofs.WordFacts.{in_word, words-next, words-last}

-- a class after another
pub several-class : (a : Attributes) (w x : List ℕ) → is_attribute_word w ≡ true → w ≡ full_stop ∷ x → 0 < length a.classes
    → HasSeveral (with_words a (filter is_attribute_word (w ∷ [])))
several-class a w x h e some =
    let one_more = ap (λ (b : Attributes). length b.classes) (told-class a w x h e) ∙ length-append a.classes (x ∷ []) in
    inl (omega (arith, one_more, some))

-- a key after another
pub several-key : (a : Attributes) (w : List ℕ) → is_attribute_word w ≡ true → begins number_sign w ≡ false → begins full_stop w ≡ false
    → 0 < length a.attrs → HasSeveral (with_words a (filter is_attribute_word (w ∷ [])))
several-key a w h e f some =
    let one_more = ap (λ (b : Attributes). length b.attrs) (told-key a w h e f) ∙ length-append a.attrs (key_and_value w ∷ []) in
    inr (omega (arith, one_more, some))

-- further words take nothing away
several-more : (a : Attributes) (ws : List (List ℕ)) → HasSeveral a → HasSeveral (with_words a ws)
unfolding with_words
several-more a ws (inl some) = inl (omega (arith, some, length-append a.classes (marked full_stop ws)))
several-more a ws (inr some) = inr (omega (arith, some, length-append a.attrs (map key_and_value (filter gives_key ws))))

pub several-left : (a : Attributes) (bs : List ℕ) (n : ℕ) → n ≡ prefix_len in_word bs
    → HasSeveral (with_words a (filter is_attribute_word (take n bs ∷ []))) → HasSeveral (with_words a (filter is_attribute_word (words bs)))
several-left a bs n e several =
    elim (cases_lt n (length bs)) as (λ _. HasSeveral (with_words a (filter is_attribute_word (words bs)))) [
      | inl less ↦ (
          let later : List (List ℕ) = words (drop (n + 1) bs) in
          let is = ap (with_words a) (words-next bs n e less) ∙ with-next a (take n bs) later in
          subst HasSeveral (sym is) (several-more _ (filter is_attribute_word later) several))
      | inr past ↦ (
          let all : n ≡ length bs = omega (arith, past, e, prefix_len-le-length in_word bs) in
          subst HasSeveral (sym (ap (with_words a) (words-last bs n e all))) several)
    ]
