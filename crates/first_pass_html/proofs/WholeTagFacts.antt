-- Whole tags at the start of the bytes.
use Rattle.std.proofs.Common.{◌≡◌, inl, inr, ℕ, ◌+◌, ◌<◌, true, false, true≢false, List, [], ◌∷◌, ◌++◌, length, take, drop, Some, None, refl, sym, ap}
use Rattle.std.proofs.Common.{◌∙◌, subst, arith, append_assoc, length-append, length-drop, add-one, is_some, drop-drop, take-append-drop, length-take}
use Rattle.std.proofs.Common.{length-take-le, take-add}
use Rattle.std.specs.List.{prefix_len, list_all, concat}
use Rattle.std.proofs.lemmas.Bool.{and_parts}
use Rattle.std.proofs.lemmas.Option.{cond_some}
use Rattle.std.proofs.Math.Seq.{drop-append_seam}
use Rattle.std.specs.Char.{is_ascii_alphabetic}
use Rattle.first_pass_items.specs.Bytes.{solidus, less_than, greater_than}
use Rattle.first_pass_lines.specs.Lines.{begins, blank_len, is_space_or_tab}
use Rattle.first_pass_html.specs.Starts.{is_raw_name}
use Rattle.first_pass_html.specs.Tags.{is_tag_byte, is_tag_name, IsClosingTag, IsBlockOpenTag, IsAfterOpening, IsAfterClosing, IsBlockTag, BeginsTagLine}
use Rattle.first_pass_html.specs.Tags.{IsOpenTagEnd}
use Rattle.first_pass_html.specs.TagLengths.{tag_name_len, attribute_len, open_end_len, closing_end_len}
use Rattle.first_pass_html.specs.Fronts.{IsOnlyFront, HasNoFront, IsTagRest, IsEndBefore, IsPastAttributes}
use Rattle.first_pass_html.proofs.ListFacts.{prefix_none, prefix_passes, front_size, rest_after, front_of}
use Rattle.first_pass_html.proofs.TailFacts.{rest_no_tag}
use Rattle.first_pass_html.proofs.TagFacts.{name_is, rest_of_others, end_is, step, last}
use Rattle.first_pass_html.proofs.FrontFacts.{name_front, attribute_front, end_front, first_byte}

-- attributes at the start of the bytes: none, or one more
pub past_none : (bs : List ℕ) → attribute_len bs ≡ None → IsPastAttributes bs 0
past_none bs e = record { attributes = []; parts = refl; are_attributes = tt; all = λ following r. last bs following r e }

pub past_more : (bs : List ℕ) (n a : ℕ) → attribute_len bs ≡ Some n → IsPastAttributes (drop n bs) a → IsPastAttributes bs (n + a)
past_more bs n a e past = record {
  attributes = take n bs ∷ past.attributes;
  parts = take-add n a bs ∙ ap (λ xs. take n bs ++ xs) past.parts;
  are_attributes = (attribute_front bs n e, past.are_attributes);
  all = λ following r. subst (λ (xs : List ℕ). IsEndBefore xs following) (drop-drop a n bs) (past.all following (step bs following n r e));
}

-- the accepted prefix of n bytes is the only one, if each accepted prefix has n bytes
only_front : (Accepts : List ℕ → Type 0) (bs : List ℕ) (n : ℕ) → Accepts (take n bs)
    → ((front rest : List ℕ) → bs ≡ front ++ rest → Accepts front → length front ≡ n) → IsOnlyFront Accepts bs n
only_front Accepts bs n is only = record {
  within = omega (arith, only (take n bs) (drop n bs) (sym (take-append-drop n bs)) is, length-take n bs);
  is_text = is;
  only = only;
}

-- a tag after its opening bytes: a tag name, and the rest of a tag
record NameThenRest (bs : List ℕ) (following : List ℕ) : Type 0 where
  name : List ℕ
  others : List ℕ
  parts : bs ≡ name ++ others
  is_name : is_tag_name name ≡ true
  rest : IsTagRest others following

name_counted : (bs following : List ℕ) (r : NameThenRest bs following) → tag_name_len bs ≡ Some (length r.name)
name_counted bs following r = rw r.parts (name_is is_ascii_alphabetic is_tag_byte r.name r.others r.is_name (rest_no_tag r.others following r.rest))

-- the counted name is the name of the tag
name_same : (bs following : List ℕ) (n : ℕ) (r : NameThenRest bs following) → tag_name_len bs ≡ Some n → n ≡ length r.name
name_same bs following n r h = let e = name_counted bs following r in cc

-- open tags
opening_rest : (bs front following : List ℕ) → bs ≡ front ++ following → (tag : IsAfterOpening front) → NameThenRest bs following
opening_rest bs front following parts tag =
    let t = tag.0 in
    let inside : front ≡ t.name ++ (concat t.attributes ++ t.ending) = let e = t.parts in cc in
    record {
      name = t.name;
      others = concat t.attributes ++ (t.ending ++ following);
      parts = parts ∙ ap (λ xs. xs ++ following) inside ∙ append_assoc t.name (concat t.attributes ++ t.ending) following
          ∙ ap (λ xs. t.name ++ xs) (append_assoc (concat t.attributes) t.ending following);
      is_name = t.is_name;
      rest = rest_of_others t.attributes t.ending following t.are_attributes t.ends;
    }

pub opening_needs_name : (bs : List ℕ) → tag_name_len bs ≡ None → HasNoFront IsAfterOpening bs
opening_needs_name bs none front following parts tag = let some = name_counted bs following (opening_rest bs front following parts tag) in cc

pub opening_not_raw : (bs : List ℕ) (n : ℕ) → tag_name_len bs ≡ Some n → is_raw_name (take n bs) ≡ true → HasNoFront IsAfterOpening bs
unfolding opening_rest
opening_not_raw bs n h raw front following parts tag =
    let r = opening_rest bs front following parts tag in
    let same : take n bs ≡ tag.0.name = front_of n bs r.name r.others r.parts (name_same bs following n r h) in
    true≢false (sym raw ∙ ap is_raw_name same ∙ tag.1)

-- the end of the tag follows the counted name and attributes
opening_end : (bs front following : List ℕ) (n a : ℕ)
    → bs ≡ front ++ following → IsAfterOpening front → tag_name_len bs ≡ Some n → IsPastAttributes (drop n bs) a
    → (e : IsEndBefore (drop a (drop n bs)) following) × (open_end_len (drop a (drop n bs)) ≡ Some (length e.ending))
opening_end bs front following n a parts tag h past =
    let r = opening_rest bs front following parts tag in
    let same : drop n bs ≡ r.others = rest_after n bs r.name r.others r.parts (name_same bs following n r h) in
    let e = past.all following (rw same r.rest) in
    (e, ap open_end_len e.parts ∙ (end_is e.ending following e.ends).1)

pub opening_needs_end : (bs : List ℕ) (n a : ℕ)
    → tag_name_len bs ≡ Some n → IsPastAttributes (drop n bs) a → open_end_len (drop a (drop n bs)) ≡ None → HasNoFront IsAfterOpening bs
opening_needs_end bs n a h past none front following parts tag =
    let some = (opening_end bs front following n a parts tag h past).1 in cc

end_some : (ending : List ℕ) → IsOpenTagEnd ending → 0 < length ending
end_some ending e =
    omega (arith, ap length e.parts, length-append e.blanks (e.slash ++ greater_than ∷ []), length-append e.slash (greater_than ∷ []))

opening_only : (bs front following : List ℕ) (n a k : ℕ)
    → bs ≡ front ++ following → IsAfterOpening front → tag_name_len bs ≡ Some n → IsPastAttributes (drop n bs) a
    → open_end_len (drop a (drop n bs)) ≡ Some k → length front ≡ n + a + k
opening_only bs front following n a k parts tag h past some =
    let end = opening_end bs front following n a parts tag h past in
    let e = end.0 in
    let counted = end.1 in
    let nonempty = end_some e.ending e.ends in
    let same : k ≡ length e.ending = cc in
    let size : length bs ≡ length front + length following = ap length parts ∙ length-append front following in
    let left : length (drop a (drop n bs)) ≡ length e.ending + length following = ap length e.parts ∙ length-append e.ending following in
    omega (arith, length-drop a (drop n bs), length-drop n bs)

opening_is : (bs : List ℕ) (n a k : ℕ) → tag_name_len bs ≡ Some n → IsPastAttributes (drop n bs) a → open_end_len (drop a (drop n bs)) ≡ Some k
    → is_raw_name (take n bs) ≡ false → IsAfterOpening (take (n + a + k) bs)
opening_is bs n a k h past some raw =
    let following : drop (n + a) bs ≡ drop a (drop n bs) = sym (drop-drop a n bs) in
    let whole : take (n + a + k) bs ≡ take n bs ++ (concat past.attributes ++ take k (drop a (drop n bs))) =
    take-add (n + a) k bs
    ∙ ap (λ xs. xs ++ take k (drop (n + a) bs)) (take-add n a bs ∙ ap (λ xs. take n bs ++ xs) past.parts)
    ∙ append_assoc (take n bs) (concat past.attributes) (take k (drop (n + a) bs))
    ∙ ap (λ xs. take n bs ++ (concat past.attributes ++ take k xs)) following in (
      record {
        name = take n bs;
        attributes = past.attributes;
        ending = take k (drop a (drop n bs));
        parts = ap (λ xs. less_than ∷ xs) whole;
        is_name = name_front is_ascii_alphabetic is_tag_byte bs n h;
        are_attributes = past.are_attributes;
        ends = end_front (drop a (drop n bs)) k some;
      },
      raw,
    )

pub opening_found : (bs : List ℕ) (n a k : ℕ) → tag_name_len bs ≡ Some n → IsPastAttributes (drop n bs) a → open_end_len (drop a (drop n bs)) ≡ Some k
    → is_raw_name (take n bs) ≡ false → IsOnlyFront IsAfterOpening bs (n + a + k)
opening_found bs n a k h past some raw =
    only_front IsAfterOpening bs (n + a + k) (opening_is bs n a k h past some raw)
    (λ front following parts tag. opening_only bs front following n a k parts tag h past some)

-- closing tags
closing_name : (bs front following : List ℕ) → bs ≡ front ++ following → (tag : IsAfterClosing front) → NameThenRest bs following
closing_name bs front following parts tag =
    let end : List ℕ = tag.blanks ++ greater_than ∷ [] in
    let inside : front ≡ tag.name ++ end = let e = tag.parts in cc in
    record {
      name = tag.name;
      others = end ++ following;
      parts = parts ∙ ap (λ xs. xs ++ following) inside ∙ append_assoc tag.name end following;
      is_name = tag.is_name;
      rest = rest_of_others [] end following tt (record { blanks = tag.blanks; slash = []; parts = refl; is_blanks = tag.is_blanks; is_slash = inl refl });
    }

pub closing_needs_name : (bs : List ℕ) → tag_name_len bs ≡ None → HasNoFront IsAfterClosing bs
closing_needs_name bs none front following parts tag = let some = name_counted bs following (closing_name bs front following parts tag) in cc

closing_end_is : (blanks following : List ℕ) → list_all is_space_or_tab blanks ≡ true
    → closing_end_len ((blanks ++ greater_than ∷ []) ++ following) ≡ Some (length blanks + 1)
unfolding closing_end_len
closing_end_is blanks following h =
    let size = front_size is_space_or_tab _ blanks (greater_than ∷ following) refl h (prefix_none is_space_or_tab greater_than following refl) in
    rw (append_assoc blanks (greater_than ∷ []) following, size, drop-append_seam)

closing_end : (bs front following : List ℕ) (n : ℕ) → bs ≡ front ++ following → (tag : IsAfterClosing front) → tag_name_len bs ≡ Some n
    → (n ≡ length tag.name) × (closing_end_len (drop n bs) ≡ Some (length tag.blanks + 1))
unfolding closing_name
closing_end bs front following n parts tag h =
    let r = closing_name bs front following parts tag in
    let same : n ≡ length tag.name = name_same bs following n r h in (
      same,
      ap closing_end_len (rest_after n bs tag.name ((tag.blanks ++ greater_than ∷ []) ++ following) r.parts same)
          ∙ closing_end_is tag.blanks following tag.is_blanks,
    )

pub closing_needs_end : (bs : List ℕ) (n : ℕ) → tag_name_len bs ≡ Some n → closing_end_len (drop n bs) ≡ None → HasNoFront IsAfterClosing bs
closing_needs_end bs n h none front following parts tag = let some = (closing_end bs front following n parts tag h).1 in cc

closing_only : (bs front following : List ℕ) (n k : ℕ)
    → bs ≡ front ++ following → IsAfterClosing front → tag_name_len bs ≡ Some n → closing_end_len (drop n bs) ≡ Some k → length front ≡ n + k
closing_only bs front following n k parts tag h some =
    let both = closing_end bs front following n parts tag h in
    let size : k ≡ length tag.blanks + 1 = let counted = both.1 in cc in
    let inside : front ≡ tag.name ++ (tag.blanks ++ greater_than ∷ []) = let e = tag.parts in cc in
    ap length inside ∙ omega (arith, both.0, length-append tag.name (tag.blanks ++ greater_than ∷ []), length-append tag.blanks (greater_than ∷ []))

closing_is : (bs : List ℕ) (n k : ℕ) → tag_name_len bs ≡ Some n → closing_end_len (drop n bs) ≡ Some k → IsAfterClosing (take (n + k) bs)
unfolding closing_end_len
closing_is bs n k h some =
    let left : List ℕ = drop n bs in
    let j : ℕ = prefix_len is_space_or_tab left in
    let both = cond_some (begins greater_than (drop j left)) (j + 1) k some in
    let end = first_byte greater_than (drop j left) both.0 in
    let front : take k left ≡ take j left ++ greater_than ∷ [] =
    ap (λ i. take i left) (sym both.1) ∙ take-add j 1 left ∙ ap (λ xs. take j left ++ take 1 xs) end in
    record {
      name = take n bs;
      blanks = take j left;
      parts = ap (λ xs. less_than ∷ solidus ∷ xs) (take-add n k bs ∙ ap (λ xs. take n bs ++ xs) front);
      is_name = name_front is_ascii_alphabetic is_tag_byte bs n h;
      is_blanks = prefix_passes is_space_or_tab left;
    }

pub closing_found : (bs : List ℕ) (n k : ℕ) → tag_name_len bs ≡ Some n → closing_end_len (drop n bs) ≡ Some k → IsOnlyFront IsAfterClosing bs (n + k)
closing_found bs n k h some =
    only_front IsAfterClosing bs (n + k) (closing_is bs n k h some) (λ front following parts tag. closing_only bs front following n k parts tag h some)

-- tags with the bytes before the name
after_first : (c : ℕ) (bs rest front others following : List ℕ) → bs ≡ c ∷ rest → bs ≡ front ++ following → front ≡ c ∷ others → rest ≡ others ++ following
after_first c bs rest front others following whole parts first = grind arith

name_no_slash : (name others rest : List ℕ) → is_tag_name name ≡ true → name ++ others ≡ solidus ∷ rest → ⊥
name_no_slash [] others rest h e = true≢false (sym h)
name_no_slash (b ∷ name) others rest h e = grind (arith, and_parts)

open_tag : (bs rest front following : List ℕ) → bs ≡ less_than ∷ rest → bs ≡ front ++ following → IsBlockOpenTag front
    → (others : List ℕ) × (front ≡ less_than ∷ others) × (rest ≡ others ++ following) × IsAfterOpening others
open_tag bs rest front following whole parts tag =
    let others : List ℕ = tag.0.name ++ (concat tag.0.attributes ++ tag.0.ending) in
    (others, tag.0.parts, after_first less_than bs rest front others following whole parts tag.0.parts, subst IsBlockOpenTag tag.0.parts tag)

closing_tag : (bs rest front following : List ℕ) → bs ≡ less_than ∷ rest → bs ≡ front ++ following → IsClosingTag front
    → (others : List ℕ) × (front ≡ less_than ∷ solidus ∷ others) × (rest ≡ solidus ∷ (others ++ following)) × IsAfterClosing others
closing_tag bs rest front following whole parts tag = grind (arith, after_first)

-- an open tag, if no slash follows the first byte
no_closing : (bs rest front following : List ℕ) → bs ≡ less_than ∷ rest → begins solidus rest ≡ false → bs ≡ front ++ following → IsClosingTag front → ⊥
no_closing bs rest front following whole plain parts tag = grind (arith, closing_tag)

pub open_found : (bs rest : List ℕ) (n : ℕ) → bs ≡ less_than ∷ rest → begins solidus rest ≡ false → IsOnlyFront IsAfterOpening rest n
    → IsOnlyFront IsBlockTag bs (n + 1)
open_found bs rest n whole plain o = only_front IsBlockTag bs (n + 1) (inl (rw (whole, add-one) o.is_text)) (λ front following parts tag. elim tag [
  | inl tag ↦ let t = open_tag bs rest front following whole parts tag in ap length t.1 ∙ omega (arith, o.only t.0 following t.2 t.3)
  | inr tag ↦ absurd (no_closing bs rest front following whole plain parts tag)
])

pub open_none : (bs rest : List ℕ) → bs ≡ less_than ∷ rest → begins solidus rest ≡ false → HasNoFront IsAfterOpening rest → HasNoFront IsBlockTag bs
open_none bs rest whole plain none front following parts (inl tag) = let t = open_tag bs rest front following whole parts tag in none t.0 following t.2 t.3
open_none bs rest whole plain none front following parts (inr tag) = no_closing bs rest front following whole plain parts tag

-- a closing tag, if a slash follows the first byte
no_open : (bs rest front following : List ℕ) → bs ≡ less_than ∷ solidus ∷ rest → bs ≡ front ++ following → IsBlockOpenTag front → ⊥
no_open bs rest front following whole parts tag = grind (arith, open_tag, opening_rest, name_no_slash)

pub close_found : (bs rest : List ℕ) (n : ℕ) → bs ≡ less_than ∷ solidus ∷ rest → IsOnlyFront IsAfterClosing rest n → IsOnlyFront IsBlockTag bs (n + 2)
close_found bs rest n whole o = grind (arith, only_front, no_open, closing_tag)

pub close_none : (bs rest : List ℕ) → bs ≡ less_than ∷ solidus ∷ rest → HasNoFront IsAfterClosing rest → HasNoFront IsBlockTag bs
close_none bs rest whole none front following parts (inl tag) = no_open bs rest front following whole parts tag
close_none bs rest whole none front following parts (inr tag) = grind (arith, closing_tag)

-- no tag begins with another byte
pub needs_bracket : (bs : List ℕ) → begins less_than bs ≡ false → HasNoFront IsBlockTag bs
needs_bracket bs plain front following parts (inl tag) = true≢false (ap (begins less_than) (sym (parts ∙ ap (λ xs. xs ++ following) tag.0.parts)) ∙ plain)
needs_bracket bs plain front following parts (inr tag) = true≢false (ap (begins less_than) (sym (parts ∙ ap (λ xs. xs ++ following) tag.parts)) ∙ plain)

-- tags after which the rest of the line is blank
pub tag_line_only : (bs : List ℕ) (n m : ℕ) → IsOnlyFront IsBlockTag bs n → BeginsTagLine bs m → m ≡ n
tag_line_only bs n m o t = sym (length-take-le m bs t.within) ∙ o.only (take m bs) (drop m bs) (sym (take-append-drop m bs)) t.tag

pub tag_line_none : (bs : List ℕ) (m : ℕ) → HasNoFront IsBlockTag bs → BeginsTagLine bs m → ⊥
tag_line_none bs m none t = none (take m bs) (drop m bs) (sym (take-append-drop m bs)) t.tag

pub tag_line_not_blank : (bs : List ℕ) (n m : ℕ) → IsOnlyFront IsBlockTag bs n → blank_len (drop n bs) ≡ None → BeginsTagLine bs m → ⊥
tag_line_not_blank bs n m o none t =
    let same = tag_line_only bs n m o t in
    true≢false (sym t.blank ∙ ap (λ k. is_some (blank_len (drop k bs))) same ∙ ap is_some none)
