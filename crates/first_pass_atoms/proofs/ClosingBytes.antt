-- Autolinks and raw HTML end with the byte `>`.
use Rattle.std.proofs.Common.{◌≡◌, ℕ, suc, ◌+◌, Bool, true, false, true≢false, ◌==◌, ◌&&◌}
use Rattle.std.proofs.Common.{List, [], ◌∷◌, ◌++◌, length, take, drop, get_or, Option, Some, None, refl, sym, ap, ◌∙◌, arith}
use Rattle.std.proofs.Common.{if◌then◌else◌, ◌⊎◌, inl, inr, length-append, get_or-drop, get_or-take}
use Rattle.std.proofs.Math.Seq.{get_or-append_seam}
use Rattle.std.specs.Option.{option_map}
use Rattle.std.specs.List.{prefix_len}
use Rattle.std.proofs.lemmas.Bool.Decides.{nat_tests}
use Rattle.std.proofs.lemmas.Bool.{and_parts}
use Rattle.std.proofs.lemmas.Option.{none-some, same_Some, option_and_then_some}
use Rattle.std.proofs.lemmas.Slice.Eq.{bytes_eq-Decides}
use Rattle.first_pass_items.specs.Bytes.{greater_than, solidus}
use Rattle.first_pass_lines.specs.Lines.{begins}
use Rattle.first_pass_lines.proofs.OptionFacts.{some_mapped, some_if}
use Rattle.first_pass_html.specs.Starts.{begins_with}
use Rattle.first_pass_html.specs.TagLengths.{close_len}
use Rattle.first_pass_atoms.specs.Blanks.{is_blank}
use Rattle.first_pass_atoms.specs.TagLengths.{open_end_len, tag_rest_len, attributes_len, open_tag_len, closing_end_len, closing_tag_len}
use Rattle.first_pass_atoms.specs.RawHtml.{end_len, text_end}

-- the last of the first n bytes is `>`
abbrev pub Closes : List ℕ → ℕ → Type 0
Closes bs n = (k : ℕ) × (n ≡ k + 1) × (get_or bs k 0 ≡ greater_than)

pub same : (bs : List ℕ) (n m : ℕ) → n ≡ m → Closes bs n → Closes bs m
same bs n m e c = (c.0, sym e ∙ c.1, c.2)

pub later : (d : ℕ) (bs : List ℕ) (n : ℕ) → Closes (drop d bs) n → Closes bs (d + n)
later d bs n c = (d + c.0, omega (arith, c.1), sym (get_or-drop d bs c.0 0) ∙ c.2)

pub begun : (c : ℕ) (bs : List ℕ) → begins c bs ≡ true → get_or bs 0 0 ≡ c
begun c [] h = absurd (true≢false (sym h))
begun c (b ∷ bs) h = grind (arith, nat_tests, h)

-- a length that is mapped
mapped : (d : ℕ) (bs : List ℕ) (o : Option ℕ) (n : ℕ) → ((k : ℕ) → o ≡ Some k → Closes (drop d bs) k) → option_map (λ k. d + k) o ≡ Some n → Closes bs n
mapped d bs o n part h =
    let m = some_mapped (λ k. d + k) o n h in
    same bs (d + m.0) n m.2 (later d bs m.0 (part m.0 m.1))

-- ends of tags
close_by : (t u : Bool) (n : ℕ) → (if t then Some 1 else (if u then Some 2 else None)) ≡ Some n → ((t ≡ true) × (1 ≡ n)) ⊎ ((u ≡ true) × (2 ≡ n))
close_by true u n h = inl (refl, same_Some 1 n h)
close_by false true n h = inr (refl, same_Some 2 n h)
close_by false false n h = absurd (none-some n h)

close_closes : (bs : List ℕ) (n : ℕ) → close_len bs ≡ Some n → Closes bs n
close_closes [] n h = absurd (none-some n h)
close_closes (b ∷ bs) n h = elim (close_by (b == greater_than) (b == solidus && begins greater_than bs) n h) [
  | inl c ↦ (0, sym c.1, grind (arith, nat_tests, c.0))
  | inr c ↦ (1, sym c.1, begun greater_than bs (and_parts (b == solidus) (begins greater_than bs) c.0).1)
]

open_end_closes : (bs : List ℕ) (n : ℕ) → open_end_len bs ≡ Some n → Closes bs n
unfolding open_end_len
open_end_closes bs n h = mapped (prefix_len is_blank bs) bs (close_len (drop (prefix_len is_blank bs) bs)) n (λ k e. close_closes _ k e) h

tag_rest_closes : (bs : List ℕ) (n : ℕ) → tag_rest_len bs ≡ Some n → Closes bs n
unfolding tag_rest_len
tag_rest_closes bs n h = mapped (attributes_len bs) bs (open_end_len (drop (attributes_len bs) bs)) n (λ k e. open_end_closes _ k e) h

pub open_tag_closes : (bs : List ℕ) (n : ℕ) → open_tag_len bs ≡ Some n → Closes bs n
unfolding open_tag_len
open_tag_closes bs n h = option_and_then_some _ _ n h (λ d e g. mapped d bs (tag_rest_len (drop d bs)) n (λ k f. tag_rest_closes _ k f) g)

closing_end_closes : (bs : List ℕ) (n : ℕ) → closing_end_len bs ≡ Some n → Closes bs n
unfolding closing_end_len
closing_end_closes bs n h =
    let d : ℕ = prefix_len is_blank bs in
    let s = some_if (begins greater_than (drop d bs)) (Some (d + 1)) n h in
    same bs (d + 1) n (same_Some (d + 1) n s.1) (later d bs 1 (0, refl, begun greater_than (drop d bs) s.0))

pub closing_tag_closes : (bs : List ℕ) (n : ℕ) → closing_tag_len bs ≡ Some n → Closes bs n
unfolding closing_tag_len
closing_tag_closes bs n h = option_and_then_some _ _ n h (λ d e g. mapped d bs (closing_end_len (drop d bs)) n (λ k f. closing_end_closes _ k f) g)

-- a text that ends with `>`
abbrev closed_text : List ℕ → List ℕ
closed_text front = front ++ greater_than ∷ []

last_byte : (front : List ℕ) → get_or (closed_text front) (length front) 0 ≡ greater_than
last_byte front = get_or-append_seam front greater_than [] 0

pub begins_closes : (front bs : List ℕ) → begins_with (closed_text front) bs ≡ true → Closes bs (length front + 1)
begins_closes front bs h =
    let text : List ℕ = closed_text front in
    let part : text ≡ take (length text) bs = (bytes_eq-Decides text _).0 h in
    let size = length-append front (greater_than ∷ []) in (
      length front,
      refl,
      sym (get_or-take (length text) bs (length front) 0 (omega (arith, size))) ∙ ap (λ xs. get_or xs (length front) 0) (sym part) ∙ last_byte front,
    )

end_by : (t : Bool) (a n : ℕ) (o : Option ℕ) → (if t then Some a else option_map (λ k. 1 + k) o) ≡ Some n
    → ((t ≡ true) × (a ≡ n)) ⊎ ((k : ℕ) × (o ≡ Some k) × (1 + k ≡ n))
end_by true a n o h = inl (refl, same_Some a n h)
end_by false a n o h = inr (some_mapped (λ k. 1 + k) o n h)

end_closes : (front bs : List ℕ) (n : ℕ) → end_len (closed_text front) bs ≡ Some n → Closes bs n
unfolding end_len
end_closes front [] n h = absurd (none-some n h)
end_closes front (b ∷ bs) n h =
    let text : List ℕ = closed_text front in
    elim (end_by (begins_with text (b ∷ bs)) (length text) n (end_len text bs) h) [
      | inl c ↦ same (b ∷ bs) (length front + 1) n (sym (length-append front (greater_than ∷ [])) ∙ c.1) (begins_closes front (b ∷ bs) c.0)
      | inr m ↦ (let c = end_closes front bs m.0 m.1 in (suc c.0, omega (arith, m.2, c.1), c.2))
    ]

pub text_end_closes : (front content : List ℕ) (place n : ℕ) → text_end (closed_text front) content place ≡ Some n → Closes content n
text_end_closes front content place n h =
    mapped place content (end_len (closed_text front) (drop place content)) n (λ k e. end_closes front (drop place content) k e) h
