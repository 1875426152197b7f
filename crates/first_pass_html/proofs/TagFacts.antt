-- The parts of a tag at the start of the bytes have the counted lengths.
use Rattle.std.proofs.Common.{◌≡◌, ◌⊎◌, inl, inr, ℕ, ◌+◌, Bool, true, false, true≢false, ◌==◌, ◌||◌, List, [], ◌∷◌, ◌++◌, length, drop, Option, Some, None}
use Rattle.std.proofs.Common.{refl, sym, ap, ◌∙◌, arith, append_assoc, length-append}
use Rattle.std.specs.List.{prefix_len, list_all, concat}
use Rattle.std.proofs.lemmas.Bool.{and_parts, cond_both}
use Rattle.std.proofs.lemmas.Bool.Decides.{nat_tests}
use Rattle.std.proofs.Math.Seq.{drop-append_seam, drop-append-add}
use Rattle.first_pass_items.specs.Bytes.{quotation_mark, apostrophe, solidus, equals_sign, greater_than}
use Rattle.first_pass_lines.specs.Lines.{is_space_or_tab}
use Rattle.first_pass_html.specs.Tags.{starts_attribute, is_attribute_byte, is_unquoted, is_quoted, is_word, is_attribute_name, IsQuotedValue, IsValue}
use Rattle.first_pass_html.specs.Tags.{IsValueSpecification, IsAttribute, AreAttributes, IsOpenTagEnd}
use Rattle.first_pass_html.specs.TagLengths.{word_len, quoted_len, value_len, blanks_value_len, specification_len, named_len}
use Rattle.first_pass_html.specs.TagLengths.{attribute_len, close_len, open_end_len}
use Rattle.first_pass_html.specs.Fronts.{IsTagRest, IsEndBefore}
use Rattle.first_pass_html.proofs.ListFacts.{prefix_all, prefix_none, front_size}
use Rattle.first_pass_html.proofs.TailFacts.{word_all, rest_no_attribute, rest_no_equals, rest_unquoted}

-- the byte is a quote
abbrev pub is_quote : ℕ → Bool
is_quote b = b == quotation_mark || b == apostrophe

unquoted_no_quote : (b : ℕ) → is_unquoted b ≡ true → is_quote b ≡ false
unquoted_no_quote b h = grind (arith, nat_tests, h)

blank_no_attribute : (b : ℕ) → is_space_or_tab b ≡ true → is_attribute_byte b ≡ false
blank_no_attribute b h = grind (arith, nat_tests, h)

-- values
quoted_is : (quote : ℕ) (inside bs : List ℕ) → list_all (is_quoted quote) inside ≡ true → quoted_len quote (inside ++ quote ∷ bs) ≡ Some (length inside + 2)
unfolding quoted_len
quoted_is quote inside bs all = grind (arith, front_size, prefix_none, nat_tests, drop-append_seam)

value_quoted : (quote : ℕ) (v bs : List ℕ) → is_quote quote ≡ true → IsQuotedValue quote v → value_len (v ++ bs) ≡ Some (length v + 0)
unfolding value_len
value_quoted quote v bs is (inside, parts, all) =
    let whole : v ++ bs ≡ quote ∷ (inside ++ quote ∷ bs) = rw parts (ap (λ xs. quote ∷ xs) (append_assoc inside (quote ∷ []) bs)) in
    let size : length v ≡ length inside + 2 = ap length parts ∙ omega (arith, length-append inside (quote ∷ [])) in
    rw (whole, is) (quoted_is quote inside bs all ∙ ap Some (omega arith))

value_unquoted : (v bs : List ℕ) → is_word is_unquoted is_unquoted v ≡ true → value_len (v ++ bs) ≡ Some (length v + prefix_len is_unquoted bs)
unfolding value_len
value_unquoted [] bs h = absurd (true≢false (sym h))
value_unquoted (b ∷ v) bs h = grind (arith, unquoted_no_quote, and_parts, nat_tests, prefix_all)

pub value_is : (v bs following : List ℕ) → IsValue v → IsTagRest bs following
    → (e : ℕ) × (value_len (v ++ bs) ≡ Some (length v + e)) × IsTagRest (drop e bs) following
value_is v bs following (inl h) r = (prefix_len is_unquoted bs, value_unquoted v bs h, rest_unquoted bs following r)
value_is v bs following (inr (inl h)) r = (0, value_quoted apostrophe v bs refl h, r)
value_is v bs following (inr (inr h)) r = (0, value_quoted quotation_mark v bs refl h, r)

-- the first byte of a word
word_none : (p first other : ℕ → Bool) → ((b : ℕ) → first b ≡ true → p b ≡ false) → (w bs : List ℕ) → is_word first other w ≡ true → prefix_len p (w ++ bs) ≡ 0
word_none p first other apart [] bs h = absurd (true≢false (sym h))
word_none p first other apart (b ∷ w) bs h = prefix_none p b (w ++ bs) (apart b (and_parts _ _ h).0)

value_no_blank : (v bs : List ℕ) → IsValue v → prefix_len is_space_or_tab (v ++ bs) ≡ 0
value_no_blank v bs (inl h) = word_none is_space_or_tab is_unquoted is_unquoted (λ b k. grind (arith, nat_tests, k)) v bs h
value_no_blank v bs (inr (inl (inside, parts, all))) = rw parts (prefix_none is_space_or_tab apostrophe ((inside ++ apostrophe ∷ []) ++ bs) refl)
value_no_blank v bs (inr (inr (inside, parts, all))) = rw parts (prefix_none is_space_or_tab quotation_mark ((inside ++ quotation_mark ∷ []) ++ bs) refl)

-- value specifications
blanks_value_is : (blanks v bs : List ℕ) (k : ℕ)
    → list_all is_space_or_tab blanks ≡ true → IsValue v → value_len (v ++ bs) ≡ Some k → blanks_value_len (blanks ++ (v ++ bs)) ≡ Some (length blanks + k)
unfolding blanks_value_len
blanks_value_is blanks v bs k h is e = grind (arith, front_size, value_no_blank, drop-append_seam)

equals_is : (blanks bs : List ℕ) (k : ℕ)
    → list_all is_space_or_tab blanks ≡ true → blanks_value_len bs ≡ Some k → specification_len (blanks ++ equals_sign ∷ bs) ≡ length blanks + 1 + k
unfolding specification_len
equals_is blanks bs k h e = grind (arith, front_size, prefix_none, drop-append-add, drop-append_seam)

no_specification : (bs following : List ℕ) → IsTagRest bs following → specification_len bs ≡ 0
unfolding specification_len
no_specification bs following r = rw (rest_no_equals bs following r)

specification_whole : (s bs : List ℕ) (i : IsValueSpecification s) → s ++ bs ≡ i.before ++ equals_sign ∷ (i.following ++ (i.value ++ bs))
specification_whole s bs i =
    rw i.parts (append_assoc i.before (equals_sign ∷ (i.following ++ i.value)) bs
    ∙ ap (λ xs. i.before ++ equals_sign ∷ xs) (append_assoc i.following i.value bs))

specification_is : (s bs following : List ℕ)
    → (s ≡ []) ⊎ IsValueSpecification s → IsTagRest bs following → (e : ℕ) × (specification_len (s ++ bs) ≡ length s + e) × IsTagRest (drop e bs) following
specification_is s bs following (inl none) r = (0, rw none (no_specification bs following r), r)
specification_is s bs following (inr i) r =
    let v = value_is i.value bs following i.is_value r in
    let k : ℕ = length i.value + v.0 in
    let len = equals_is i.before (i.following ++ (i.value ++ bs)) (length i.following + k) i.before_blank
    (blanks_value_is i.following i.value bs k i.past_blank i.is_value v.1) in
    let size : length s ≡ length i.before + 1 + (length i.following + length i.value) =
    ap length i.parts ∙ omega (arith, length-append i.before (equals_sign ∷ (i.following ++ i.value)), length-append i.following i.value) in
    (v.0, rw (specification_whole s bs i) (len ∙ omega arith), v.2)

-- names of attributes
specification_no_name_by : (blanks bs : List ℕ) → list_all is_space_or_tab blanks ≡ true → prefix_len is_attribute_byte (blanks ++ equals_sign ∷ bs) ≡ 0
specification_no_name_by [] bs h = prefix_none is_attribute_byte equals_sign bs refl
specification_no_name_by (b ∷ blanks) bs h = prefix_none is_attribute_byte b (blanks ++ equals_sign ∷ bs) (blank_no_attribute b (and_parts _ _ h).0)

specification_no_name : (s bs following : List ℕ) → (s ≡ []) ⊎ IsValueSpecification s → IsTagRest bs following → prefix_len is_attribute_byte (s ++ bs) ≡ 0
specification_no_name s bs following (inl none) r = rw none (rest_no_attribute bs following r)
specification_no_name s bs following (inr i) r =
    rw (specification_whole s bs i) (specification_no_name_by i.before (i.following ++ (i.value ++ bs)) i.before_blank)

pub name_is : (first other : ℕ → Bool) (name bs : List ℕ)
    → is_word first other name ≡ true → prefix_len other bs ≡ 0 → word_len first other (name ++ bs) ≡ Some (length name)
name_is first other [] bs h none = absurd (true≢false (sym h))
name_is first other (b ∷ name) bs h none = grind (arith, and_parts, prefix_all)

named_is : (name s bs following : List ℕ) (k : ℕ) → is_attribute_name name ≡ true → prefix_len is_attribute_byte (s ++ bs) ≡ 0 → specification_len (s ++ bs) ≡ k
    → named_len (name ++ (s ++ bs)) ≡ Some (length name + k)
unfolding named_len
named_is name s bs following k h none e = grind (arith, name_is, drop-append_seam)

-- attributes
some_blank : (blanks : List ℕ) → is_word is_space_or_tab is_space_or_tab blanks ≡ true → (length blanks == 0) ≡ false
some_blank [] h = absurd (true≢false (sym h))
some_blank (b ∷ blanks) h = grind (arith, nat_tests)

blanks_named_is : (blanks name bs : List ℕ) (k : ℕ) → is_word is_space_or_tab is_space_or_tab blanks ≡ true → is_attribute_name name ≡ true
    → named_len (name ++ bs) ≡ Some k
    → attribute_len (blanks ++ (name ++ bs)) ≡ Some (length blanks + k)
unfolding attribute_len
blanks_named_is blanks name bs k h named e = grind (arith, word_none, nat_tests, front_size, word_all, some_blank, drop-append_seam)

attribute_is : (a bs following : List ℕ)
    → IsAttribute a → IsTagRest bs following → (e : ℕ) × (attribute_len (a ++ bs) ≡ Some (length a + e)) × IsTagRest (drop e bs) following
attribute_is a bs following i r =
    let s = specification_is i.specification bs following i.specified r in
    let named =
    named_is i.name i.specification bs following (length i.specification + s.0) i.is_name
    (specification_no_name i.specification bs following i.specified r) s.1 in
    let len = blanks_named_is i.blanks i.name (i.specification ++ bs) (length i.name + (length i.specification + s.0)) i.is_blanks i.is_name named in
    let whole : a ++ bs ≡ i.blanks ++ (i.name ++ (i.specification ++ bs)) =
    rw i.parts (append_assoc i.blanks (i.name ++ i.specification) bs ∙ ap (λ xs. i.blanks ++ xs) (append_assoc i.name i.specification bs)) in
    let size : length a ≡ length i.blanks + (length i.name + length i.specification) =
    ap length i.parts ∙ omega (arith, length-append i.blanks (i.name ++ i.specification), length-append i.name i.specification) in
    (s.0, rw whole (len ∙ ap Some (omega arith)), s.2)

-- no attribute begins at the end of an open tag, which has the counted length
end_at : (blanks others : List ℕ) (c k : ℕ) → list_all is_space_or_tab blanks ≡ true → is_space_or_tab c ≡ false → starts_attribute c ≡ false
    → close_len (c ∷ others) ≡ Some k
    → (attribute_len (blanks ++ c ∷ others) ≡ None) × (open_end_len (blanks ++ c ∷ others) ≡ Some (length blanks + k))
unfolding attribute_len named_len open_end_len
end_at blanks others c k h solid none e =
    let size = front_size is_space_or_tab _ blanks (c ∷ others) refl h (prefix_none is_space_or_tab c others solid) in
    rw (size, drop-append_seam, none, e) (cond_both (length blanks == 0) _ _ (λ (o : Option ℕ). o ≡ None) (λ _. refl) (λ _. refl), refl)

end_by : (blanks slash following : List ℕ) → list_all is_space_or_tab blanks ≡ true → (slash ≡ []) ⊎ (slash ≡ solidus ∷ [])
    → (attribute_len ((blanks ++ (slash ++ greater_than ∷ [])) ++ following) ≡ None)
    × (open_end_len ((blanks ++ (slash ++ greater_than ∷ [])) ++ following) ≡ Some (length (blanks ++ (slash ++ greater_than ∷ []))))
end_by blanks slash following h (inl none) =
    let e = end_at blanks following greater_than 1 h refl refl refl in
    rw (none, append_assoc blanks (greater_than ∷ []) following) (e.0, e.1 ∙ ap Some (omega (arith, length-append blanks (greater_than ∷ []))))
end_by blanks slash following h (inr one) =
    let e = end_at blanks (greater_than ∷ following) solidus 2 h refl refl refl in
    rw (one, append_assoc blanks (solidus ∷ greater_than ∷ []) following)
    (e.0, e.1 ∙ ap Some (omega (arith, length-append blanks (solidus ∷ greater_than ∷ []))))

pub end_is : (ending following : List ℕ) → IsOpenTagEnd ending
    → (attribute_len (ending ++ following) ≡ None) × (open_end_len (ending ++ following) ≡ Some (length ending))
end_is ending following e = rw e.parts (end_by e.blanks e.slash following e.is_blanks e.is_slash)

-- the rest of a tag after an attribute, and without attributes
pub rest_of_others : (others : List (List ℕ)) (ending following : List ℕ)
    → AreAttributes others → IsOpenTagEnd ending → IsTagRest (concat others ++ (ending ++ following)) following
rest_of_others others ending following are e = record { attributes = others; ending = ending; parts = refl; are_attributes = are; ends = e }

-- an attribute begins, and the rest of a tag follows it; or the end of the tag begins
abbrev NextPart : List ℕ → List ℕ → Type 0
NextPart bs following =
    ((n : ℕ) × (attribute_len bs ≡ Some n) × IsTagRest (drop n bs) following) ⊎ ((attribute_len bs ≡ None) × IsEndBefore bs following)

next_by : (attributes : List (List ℕ)) (ending following : List ℕ)
    → AreAttributes attributes → IsOpenTagEnd ending → NextPart (concat attributes ++ (ending ++ following)) following
next_by [] ending following are e = inr ((end_is ending following e).0, record { ending = ending; parts = refl; ends = e })
next_by (a ∷ others) ending following are e =
    let i = attribute_is a (concat others ++ (ending ++ following)) following are.0 (rest_of_others others ending following are.1 e) in
    rw (append_assoc a (concat others) (ending ++ following)) (inl (length a + i.0, i.1, rw drop-append-add i.2))

next : (bs following : List ℕ) → IsTagRest bs following → NextPart bs following
next bs following r = rw r.parts (next_by r.attributes r.ending following r.are_attributes r.ends)

pub step : (bs following : List ℕ) (n : ℕ) → IsTagRest bs following → attribute_len bs ≡ Some n → IsTagRest (drop n bs) following
step bs following n r h = elim (next bs following r) [
  | inl (m, some, rest) ↦ (let size : n ≡ m = cc in rw size rest)
  | inr (none, end) ↦ absurd cc
]

pub last : (bs following : List ℕ) → IsTagRest bs following → attribute_len bs ≡ None → IsEndBefore bs following
last bs following r h = grind (arith, next)
