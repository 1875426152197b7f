-- Either the bytes begin with a tag of start condition 7 of HTML blocks, or they begin with none.
use Rattle.std.proofs.Common.{◌≡◌, ◌⊎◌, inl, inr, ℕ, zero, suc, ◌+◌, ◌<◌, ◌≤◌, false, List, ◌∷◌, length, take, drop, Option, Some, None, refl, ap}
use Rattle.std.proofs.Common.{◌∙◌, arith, is_some, length-drop}
use Rattle.std.proofs.lemmas.Bool.{cases_Bool}
use Rattle.std.proofs.lemmas.Bool.Decides.{nat_tests}
use Rattle.std.proofs.lemmas.List.Sums.{prefix_len-le-length}
use Rattle.first_pass_items.specs.Bytes.{solidus, less_than}
use Rattle.first_pass_lines.specs.Lines.{begins, blank_len}
use Rattle.first_pass_html.specs.Starts.{is_raw_name}
use Rattle.first_pass_html.specs.Tags.{IsAfterOpening, IsAfterClosing, IsBlockTag, BeginsTagLine}
use Rattle.first_pass_html.specs.TagLengths.{tag_name_len, attribute_len, open_end_len, closing_end_len}
use Rattle.first_pass_html.specs.Fronts.{IsOnlyFront, HasNoFront, IsPastAttributes}
use Rattle.first_pass_lines.proofs.OptionFacts.{some_mapped, some_unless}
use Rattle.first_pass_html.proofs.FrontFacts.{first_byte}
use Rattle.first_pass_html.proofs.WholeTagFacts.{past_none, past_more, opening_found, opening_needs_name, opening_not_raw, opening_needs_end, closing_found}
use Rattle.first_pass_html.proofs.WholeTagFacts.{closing_needs_name, closing_needs_end, open_found, open_none, close_found, close_none}
use Rattle.first_pass_html.proofs.WholeTagFacts.{needs_bracket, tag_line_none, tag_line_not_blank}

-- an attribute is not empty
attribute_some : (bs : List ℕ) (n : ℕ) → attribute_len bs ≡ Some n → (0 < n) × (0 < length bs)
unfolding attribute_len
attribute_some bs n h = grind (arith, some_unless, some_mapped, prefix_len-le-length, nat_tests)

-- an option is empty or has a value
by_option : {P : Type 0} (o : Option ℕ) → (o ≡ None → P) → ((n : ℕ) → o ≡ Some n → P) → P
by_option None none some = none refl
by_option (Some n) none some = some n refl

-- the attributes at the start of the bytes
past_up_to : (most : ℕ) (bs : List ℕ) → length bs ≤ most → (a : ℕ) × IsPastAttributes bs a
past_up_to zero bs h =
    by_option (attribute_len bs) (λ e. (0, past_none bs e)) (λ n e. let some = (attribute_some bs n e).1 in absurd (omega arith))
past_up_to (suc most) bs h = by_option (attribute_len bs) (λ e. (0, past_none bs e)) (λ n e.
    let some = attribute_some bs n e in
    let past = past_up_to most (drop n bs) (omega (arith, some.0, some.1, length-drop n bs)) in
    (n + past.0, past_more bs n past.0 e past.1))

-- an accepted text begins the bytes, or none does
abbrev StandsFirst : (List ℕ → Type 0) → List ℕ → Type 0
StandsFirst Accepts bs = ((n : ℕ) × IsOnlyFront Accepts bs n) ⊎ HasNoFront Accepts bs

opening : (bs : List ℕ) → StandsFirst IsAfterOpening bs
opening bs = by_option (tag_name_len bs) (λ h. inr (opening_needs_name bs h)) (λ n h. elim (cases_Bool (is_raw_name (take n bs))) [
  | inl raw ↦ inr (opening_not_raw bs n h raw)
  | inr raw ↦ (
      let past = past_up_to (length (drop n bs)) (drop n bs) (omega arith) in
      by_option (open_end_len (drop past.0 (drop n bs))) (λ e. inr (opening_needs_end bs n past.0 h past.1 e))
      (λ k e. inl (n + past.0 + k, opening_found bs n past.0 k h past.1 e raw)))
])

closing : (bs : List ℕ) → StandsFirst IsAfterClosing bs
closing bs = by_option (tag_name_len bs) (λ h. inr (closing_needs_name bs h)) (λ n h.
    by_option (closing_end_len (drop n bs)) (λ e. inr (closing_needs_end bs n h e)) (λ k e. inl (n + k, closing_found bs n k h e)))

-- tags with the bytes before the name
open_tag : (bs rest : List ℕ) → bs ≡ less_than ∷ rest → begins solidus rest ≡ false → StandsFirst IsBlockTag bs
open_tag bs rest whole plain = elim (opening rest) [
  | inl (n, o) ↦ inl (n + 1, open_found bs rest n whole plain o)
  | inr none ↦ inr (open_none bs rest whole plain none)
]

closing_tag : (bs rest : List ℕ) → bs ≡ less_than ∷ solidus ∷ rest → StandsFirst IsBlockTag bs
closing_tag bs rest whole = elim (closing rest) [
  | inl (n, o) ↦ inl (n + 2, close_found bs rest n whole o)
  | inr none ↦ inr (close_none bs rest whole none)
]

tag_at : (bs : List ℕ) → StandsFirst IsBlockTag bs
tag_at bs = elim (cases_Bool (begins less_than bs)) [
  | inl h ↦ (
      let rest = drop 1 bs in
      let whole = first_byte less_than bs h in
      elim (cases_Bool (begins solidus rest)) [
        | inl slash ↦ closing_tag bs (drop 1 rest) (whole ∙ ap (λ xs. less_than ∷ xs) (first_byte solidus rest slash))
        | inr plain ↦ open_tag bs rest whole plain
      ])
  | inr h ↦ inr (needs_bracket bs h)
]

-- tags after which the rest of the line is blank
pub tag_line_decided : (bs : List ℕ) → ((n : ℕ) × BeginsTagLine bs n) ⊎ ((n : ℕ) → BeginsTagLine bs n → ⊥)
tag_line_decided bs = elim (tag_at bs) [
  | inl (n, front) ↦ by_option (blank_len (drop n bs)) (λ e. inr (λ m t. tag_line_not_blank bs n m front e t))
      (λ k e. inl (n, record { within = front.within; tag = front.is_text; blank = ap is_some e }))
  | inr none ↦ inr (λ m t. tag_line_none bs m none t)
]
