-- The start of the rest of an open tag, after its name.
use Rattle.std.proofs.Common.{◌≡◌, ◌⊎◌, inl, inr, ℕ, Bool, true, false, true≢false, ◌==◌, ◌||◌, List, [], ◌∷◌, ◌++◌, drop, refl, sym, arith, append_assoc}
use Rattle.std.specs.List.{prefix_len, list_all, concat}
use Rattle.std.proofs.lemmas.Bool.{and_parts, or_left}
use Rattle.std.proofs.lemmas.Bool.Decides.{nat_tests}
use Rattle.std.proofs.Math.Seq.{drop-append_seam}
use Rattle.first_pass_items.specs.Bytes.{solidus, equals_sign, greater_than}
use Rattle.first_pass_lines.specs.Lines.{begins, is_space_or_tab}
use Rattle.first_pass_html.specs.Tags.{is_tag_byte, starts_attribute, is_attribute_byte, is_unquoted, is_word, is_attribute_name, AreAttributes, IsOpenTagEnd}
use Rattle.first_pass_html.specs.Fronts.{IsTagRest}
use Rattle.first_pass_html.proofs.ListFacts.{prefix_none, front_size}

-- a byte that can follow the blanks of a tag
abbrev pub is_stop : ℕ → Bool
is_stop c = starts_attribute c || (c == solidus || c == greater_than)

-- the first byte of the rest of a tag
abbrev pub is_tail : ℕ → Bool
is_tail b = is_space_or_tab b || (b == solidus || b == greater_than)

pub word_all : (p : ℕ → Bool) (bs : List ℕ) → is_word p p bs ≡ true → list_all p bs ≡ true
word_all p [] h = refl
word_all p (b ∷ bs) h = h

-- a value specification does not begin at a byte that can follow the blanks of a tag
abbrev NoEquals : List ℕ → Type 0
NoEquals bs = begins equals_sign (drop (prefix_len is_space_or_tab bs) bs) ≡ false

no_equals_at : (blanks : List ℕ) (c : ℕ) (others : List ℕ) → list_all is_space_or_tab blanks ≡ true → is_stop c ≡ true → NoEquals (blanks ++ c ∷ others)
no_equals_at blanks c others h stop =
    rw (front_size is_space_or_tab _ blanks (c ∷ others) refl h (prefix_none is_space_or_tab c others (grind (arith, nat_tests, stop))), drop-append_seam)
    (grind (arith, nat_tests, stop))

end_no_equals : (blanks slash following : List ℕ) → list_all is_space_or_tab blanks ≡ true → (slash ≡ []) ⊎ (slash ≡ solidus ∷ [])
    → NoEquals ((blanks ++ (slash ++ greater_than ∷ [])) ++ following)
end_no_equals blanks slash following h (inl none) =
    rw (none, append_assoc blanks (greater_than ∷ []) following) (no_equals_at blanks greater_than following h refl)
end_no_equals blanks slash following h (inr one) =
    rw (one, append_assoc blanks (solidus ∷ greater_than ∷ []) following) (no_equals_at blanks solidus (greater_than ∷ following) h refl)

attribute_no_equals : (blanks name specification others : List ℕ)
    → list_all is_space_or_tab blanks ≡ true → is_attribute_name name ≡ true → NoEquals ((blanks ++ (name ++ specification)) ++ others)
attribute_no_equals blanks [] specification others h named = absurd (true≢false (sym named))
attribute_no_equals blanks (c ∷ name) specification others h named =
    let stop = or_left (starts_attribute c) (c == solidus || c == greater_than) (and_parts _ _ named).0 in
    rw (append_assoc blanks (c ∷ (name ++ specification)) others) (no_equals_at blanks c ((name ++ specification) ++ others) h stop)

rest_no_equals_by : (attributes : List (List ℕ)) (ending following : List ℕ)
    → AreAttributes attributes → IsOpenTagEnd ending → NoEquals (concat attributes ++ (ending ++ following))
rest_no_equals_by [] ending following are e = rw e.parts (end_no_equals e.blanks e.slash following e.is_blanks e.is_slash)
rest_no_equals_by (a ∷ others) ending following are e =
    let i = are.0 in
    rw (append_assoc a (concat others) (ending ++ following), i.parts)
    (attribute_no_equals i.blanks i.name i.specification (concat others ++ (ending ++ following)) (word_all is_space_or_tab i.blanks i.is_blanks) i.is_name)

pub rest_no_equals : (bs following : List ℕ) → IsTagRest bs following → begins equals_sign (drop (prefix_len is_space_or_tab bs) bs) ≡ false
rest_no_equals bs following r = rw r.parts (rest_no_equals_by r.attributes r.ending following r.are_attributes r.ends)

-- the bytes begin with a blank
record StartsBlank (bs : List ℕ) : Type 0 where
  first : ℕ
  others : List ℕ
  parts : bs ≡ first ∷ others
  blank : is_space_or_tab first ≡ true

-- the rest of a tag begins with a blank, or is its end without blanks
abbrev RestFirst : List ℕ → List ℕ → Type 0
RestFirst bs following = StartsBlank bs ⊎ ((bs ≡ greater_than ∷ following) ⊎ (bs ≡ solidus ∷ greater_than ∷ following))

word_first : (blanks others : List ℕ) → is_word is_space_or_tab is_space_or_tab blanks ≡ true → StartsBlank (blanks ++ others)
word_first [] others h = absurd (true≢false (sym h))
word_first (b ∷ bs) others h = record { first = b; others = bs ++ others; parts = refl; blank = (and_parts _ _ h).0 }

end_first : (blanks slash following : List ℕ) → list_all is_space_or_tab blanks ≡ true → (slash ≡ []) ⊎ (slash ≡ solidus ∷ [])
    → RestFirst ((blanks ++ (slash ++ greater_than ∷ [])) ++ following) following
end_first [] slash following h (inl none) = inr (inl (rw none))
end_first [] slash following h (inr one) = inr (inr (rw one))
end_first (b ∷ bs) slash following h some = grind (arith, and_parts)

rest_first_by : (attributes : List (List ℕ)) (ending following : List ℕ)
    → AreAttributes attributes → IsOpenTagEnd ending → RestFirst (concat attributes ++ (ending ++ following)) following
rest_first_by [] ending following are e = rw e.parts (end_first e.blanks e.slash following e.is_blanks e.is_slash)
rest_first_by (a ∷ others) ending following are e = grind (arith, word_first)

rest_first : (bs following : List ℕ) → IsTagRest bs following → RestFirst bs following
rest_first bs following r = rw r.parts (rest_first_by r.attributes r.ending following r.are_attributes r.ends)

-- the rest of a tag continues no name
rest_none : (p : ℕ → Bool) → ((b : ℕ) → is_tail b ≡ true → p b ≡ false) → (bs following : List ℕ) → IsTagRest bs following → prefix_len p bs ≡ 0
rest_none p apart bs following r = elim (rest_first bs following r) [
  | inl s ↦ rw s.parts (prefix_none p s.first s.others (apart s.first (or_left _ _ s.blank)))
  | inr (inl e) ↦ rw e (prefix_none p greater_than following (apart greater_than refl))
  | inr (inr e) ↦ rw e (prefix_none p solidus (greater_than ∷ following) (apart solidus refl))
]

pub rest_no_tag : (bs following : List ℕ) → IsTagRest bs following → prefix_len is_tag_byte bs ≡ 0
rest_no_tag = rest_none is_tag_byte (λ b h. grind (arith, nat_tests, h))

pub rest_no_attribute : (bs following : List ℕ) → IsTagRest bs following → prefix_len is_attribute_byte bs ≡ 0
rest_no_attribute = rest_none is_attribute_byte (λ b h. grind (arith, nat_tests, h))

-- the `>` at the end of a tag is the rest of a tag
only_end : (following : List ℕ) → IsTagRest (greater_than ∷ following) following
only_end following = record {
  attributes = [];
  ending = greater_than ∷ [];
  parts = refl;
  are_attributes = tt;
  ends = record { blanks = []; slash = []; parts = refl; is_blanks = refl; is_slash = inl refl };
}

-- If the rest of a tag begins with bytes of an unquoted value, the rest of a tag also follows them. There are none,
-- or only the slash of its end.
pub rest_unquoted : (bs following : List ℕ) → IsTagRest bs following → IsTagRest (drop (prefix_len is_unquoted bs) bs) following
rest_unquoted bs following r = grind (arith, rest_first, prefix_none, nat_tests, only_end)
