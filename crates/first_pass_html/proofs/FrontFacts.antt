-- The counted bytes at the start are a part of a tag.
use Rattle.std.proofs.Common.{◌≡◌, ◌⊎◌, inl, inr, ℕ, suc, ◌+◌, ◌<◌, Bool, true, false, true≢false, cond, ◌==◌, ◌&&◌, ◌||◌, List, [], ◌∷◌, ◌++◌, length}
use Rattle.std.proofs.Common.{take, drop, Option, Some, None, unwrap_or, refl, sym, ap, ◌∙◌, subst, arith, append_assoc, option_map, eqb-true, take-add}
use Rattle.std.specs.List.{prefix_len, list_all}
use Rattle.std.proofs.lemmas.Bool.{and_from, and_parts, cases_Bool, or_cases}
use Rattle.std.proofs.lemmas.Option.{same_Some, cond_some}
use Rattle.std.proofs.lemmas.Bool.Decides.{nat_tests}
use Rattle.std.proofs.lemmas.List.Folds.{length-prefix_len}
use Rattle.first_pass_items.specs.Bytes.{quotation_mark, apostrophe, solidus, equals_sign, greater_than}
use Rattle.first_pass_lines.specs.Lines.{begins, is_space_or_tab}
use Rattle.first_pass_lines.proofs.OptionFacts.{some_mapped, some_unless}
use Rattle.first_pass_html.specs.Tags.{starts_attribute, is_attribute_byte, is_unquoted, is_quoted, is_word, is_attribute_name, IsQuotedValue, IsValue}
use Rattle.first_pass_html.specs.Tags.{IsValueSpecification, IsAttribute, IsOpenTagEnd}
use Rattle.first_pass_html.specs.TagLengths.{word_len, quoted_len, value_len, blanks_value_len, specification_len, attribute_name_len, named_len}
use Rattle.first_pass_html.specs.TagLengths.{attribute_len, close_len, open_end_len}
use Rattle.first_pass_html.proofs.ListFacts.{prefix_passes}

-- words
word_from : (p : ℕ → Bool) (bs : List ℕ) → list_all p bs ≡ true → 0 < length bs → is_word p p bs ≡ true
word_from p [] h some = absurd (omega arith)
word_from p (b ∷ bs) h some = h

word_front : (p : ℕ → Bool) (bs : List ℕ) → (prefix_len p bs == 0) ≡ false → is_word p p (take (prefix_len p bs) bs) ≡ true
word_front p bs h = grind (arith, length-prefix_len, word_from, prefix_passes, nat_tests)

pub name_front : (first other : ℕ → Bool) (bs : List ℕ) (n : ℕ) → word_len first other bs ≡ Some n → is_word first other (take n bs) ≡ true
name_front first other [] n h = cc
name_front first other (b ∷ bs) n h =
    let both = cond_some (first b) (1 + prefix_len other bs) n h in
    let size : n ≡ suc (prefix_len other bs) = omega (arith, both.1) in
    rw size (and_from (first b) _ both.0 (prefix_passes other bs))

pub first_byte : (c : ℕ) (bs : List ℕ) → begins c bs ≡ true → bs ≡ c ∷ drop 1 bs
first_byte c [] h = absurd (true≢false (sym h))
first_byte c (b ∷ bs) h = rw (eqb-true b c h)

-- values
quoted_front : (quote : ℕ) (bs : List ℕ) (n : ℕ) → quoted_len quote bs ≡ Some n → IsQuotedValue quote (take n (quote ∷ bs))
unfolding quoted_len
quoted_front quote bs n h =
    let k : ℕ = prefix_len (is_quoted quote) bs in
    let both = cond_some (begins quote (drop k bs)) (k + 2) n h in
    let end = first_byte quote (drop k bs) both.0 in
    let size : n ≡ suc (k + 1) = omega (arith, both.1) in
    let parts : take (k + 1) bs ≡ take k bs ++ quote ∷ [] = take-add k 1 bs ∙ ap (λ xs. take k bs ++ take 1 xs) end in
    (take k bs, rw size (ap (λ xs. quote ∷ xs) parts), prefix_passes (is_quoted quote) bs)

value_front : (bs : List ℕ) (n : ℕ) → value_len bs ≡ Some n → IsValue (take n bs)
unfolding value_len
value_front [] n h = cc
value_front (b ∷ bs) n h = elim (cases_Bool (b == quotation_mark || b == apostrophe)) [
  | inl q ↦ (
      let quoted = quoted_front b bs n (rw q at h) in
      elim (or_cases _ _ q) [
        | inl e ↦ inr (inr (subst (λ (c : ℕ). IsQuotedValue c (take n (b ∷ bs))) (eqb-true b quotation_mark e) quoted))
        | inr e ↦ inr (inl (subst (λ (c : ℕ). IsQuotedValue c (take n (b ∷ bs))) (eqb-true b apostrophe e) quoted))
      ])
  | inr q ↦ (
      let both = some_unless (prefix_len is_unquoted (b ∷ bs) == 0) (Some (prefix_len is_unquoted (b ∷ bs))) n (rw q at h) in
      let size : prefix_len is_unquoted (b ∷ bs) ≡ n = let o = both.1 in cc in
      inl (rw (sym size) (word_front is_unquoted (b ∷ bs) both.0)))
]

-- value specifications
record IsBlanksValue (bs : List ℕ) : Type 0 where
  blanks : List ℕ
  value : List ℕ
  parts : bs ≡ blanks ++ value
  is_blanks : list_all is_space_or_tab blanks ≡ true
  is_value : IsValue value

blanks_value_front : (bs : List ℕ) (n : ℕ) → blanks_value_len bs ≡ Some n → IsBlanksValue (take n bs)
unfolding blanks_value_len
blanks_value_front bs n h =
    let k : ℕ = prefix_len is_space_or_tab bs in
    let m = some_mapped (λ j. k + j) (value_len (drop k bs)) n h in
    record {
      blanks = take k bs;
      value = take m.0 (drop k bs);
      parts = ap (λ j. take j bs) (sym m.2) ∙ take-add k m.0 bs;
      is_blanks = prefix_passes is_space_or_tab bs;
      is_value = value_front (drop k bs) m.0 m.1;
    }

equals_front : (bs : List ℕ) (n : ℕ) → begins equals_sign (drop (prefix_len is_space_or_tab bs) bs) ≡ true
    → blanks_value_len (drop (prefix_len is_space_or_tab bs + 1) bs) ≡ Some n
    → IsValueSpecification (take (prefix_len is_space_or_tab bs + 1 + n) bs)
equals_front bs n h e =
    let k : ℕ = prefix_len is_space_or_tab bs in
    let equals = first_byte equals_sign (drop k bs) h in
    let v = blanks_value_front (drop (k + 1) bs) n e in
    let front : take (k + 1) bs ≡ take k bs ++ equals_sign ∷ [] = take-add k 1 bs ∙ ap (λ xs. take k bs ++ take 1 xs) equals in
    let whole : take (k + 1 + n) bs ≡ take k bs ++ equals_sign ∷ take n (drop (k + 1) bs) =
    take-add (k + 1) n bs ∙ ap (λ xs. xs ++ take n (drop (k + 1) bs)) front ∙ append_assoc (take k bs) (equals_sign ∷ []) (take n (drop (k + 1) bs)) in
    record {
      before = take k bs;
      following = v.blanks;
      value = v.value;
      parts = whole ∙ ap (λ xs. take k bs ++ equals_sign ∷ xs) v.parts;
      before_blank = prefix_passes is_space_or_tab bs;
      past_blank = v.is_blanks;
      is_value = v.is_value;
    }

specification_front_by : (bs : List ℕ) (t : Bool) (o : Option ℕ)
    → begins equals_sign (drop (prefix_len is_space_or_tab bs) bs) ≡ t → blanks_value_len (drop (prefix_len is_space_or_tab bs + 1) bs) ≡ o
    → let n : ℕ = cond t (unwrap_or (option_map (λ k. prefix_len is_space_or_tab bs + 1 + k) o) 0) 0 in (take n bs ≡ []) ⊎ IsValueSpecification (take n bs)
specification_front_by bs true None h e = inl refl
specification_front_by bs true (Some n) h e = inr (equals_front bs n h e)
specification_front_by bs false o h e = inl refl

specification_front : (bs : List ℕ) → (take (specification_len bs) bs ≡ []) ⊎ IsValueSpecification (take (specification_len bs) bs)
unfolding specification_len
specification_front bs =
    specification_front_by bs (begins equals_sign (drop (prefix_len is_space_or_tab bs) bs))
    (blanks_value_len (drop (prefix_len is_space_or_tab bs + 1) bs)) refl refl

-- attributes
record IsNamed (bs : List ℕ) : Type 0 where
  name : List ℕ
  specification : List ℕ
  parts : bs ≡ name ++ specification
  is_name : is_attribute_name name ≡ true
  specified : (specification ≡ []) ⊎ IsValueSpecification specification

named_front : (bs : List ℕ) (n : ℕ) → named_len bs ≡ Some n → IsNamed (take n bs)
unfolding named_len
named_front bs n h =
    let m = some_mapped (λ k. k + specification_len (drop k bs)) (attribute_name_len bs) n h in
    record {
      name = take m.0 bs;
      specification = take (specification_len (drop m.0 bs)) (drop m.0 bs);
      parts = ap (λ j. take j bs) (sym m.2) ∙ take-add m.0 (specification_len (drop m.0 bs)) bs;
      is_name = name_front starts_attribute is_attribute_byte bs m.0 m.1;
      specified = specification_front (drop m.0 bs);
    }

pub attribute_front : (bs : List ℕ) (n : ℕ) → attribute_len bs ≡ Some n → IsAttribute (take n bs)
unfolding attribute_len
attribute_front bs n h =
    let k : ℕ = prefix_len is_space_or_tab bs in
    let both = some_unless (k == 0) (option_map (λ j. k + j) (named_len (drop k bs))) n h in
    let m = some_mapped (λ j. k + j) (named_len (drop k bs)) n both.1 in
    let named = named_front (drop k bs) m.0 m.1 in
    record {
      blanks = take k bs;
      name = named.name;
      specification = named.specification;
      parts = ap (λ j. take j bs) (sym m.2) ∙ take-add k m.0 bs ∙ ap (λ xs. take k bs ++ xs) named.parts;
      is_blanks = word_front is_space_or_tab bs both.0;
      is_name = named.is_name;
      specified = named.specified;
    }

-- ends of open tags
record IsClose (bs : List ℕ) : Type 0 where
  slash : List ℕ
  parts : bs ≡ slash ++ greater_than ∷ []
  is_slash : (slash ≡ []) ⊎ (slash ≡ solidus ∷ [])

close_front : (bs : List ℕ) (n : ℕ) → close_len bs ≡ Some n → IsClose (take n bs)
close_front [] n h = cc
close_front (b ∷ bs) n h = elim (cases_Bool (b == greater_than)) [
  | inl e ↦ (
      let size = same_Some 1 n (rw e at h) in
      record { slash = []; parts = rw (sym size) (ap (λ x. x ∷ []) (eqb-true b greater_than e)); is_slash = inl refl })
  | inr e ↦ (
      let both = cond_some (b == solidus && begins greater_than bs) 2 n (rw e at h) in
      let slash = and_parts _ _ both.0 in
      let parts = ap (λ x. x ∷ take 1 bs) (eqb-true b solidus slash.0) ∙ ap (λ xs. solidus ∷ take 1 xs) (first_byte greater_than bs slash.1) in
      record { slash = solidus ∷ []; parts = rw (sym both.1) parts; is_slash = inr refl })
]

pub end_front : (bs : List ℕ) (n : ℕ) → open_end_len bs ≡ Some n → IsOpenTagEnd (take n bs)
unfolding open_end_len
end_front bs n h =
    let k : ℕ = prefix_len is_space_or_tab bs in
    let m = some_mapped (λ j. k + j) (close_len (drop k bs)) n h in
    let close = close_front (drop k bs) m.0 m.1 in
    record {
      blanks = take k bs;
      slash = close.slash;
      parts = ap (λ j. take j bs) (sym m.2) ∙ take-add k m.0 bs ∙ ap (λ xs. take k bs ++ xs) close.parts;
      is_blanks = prefix_passes is_space_or_tab bs;
      is_slash = close.is_slash;
    }
