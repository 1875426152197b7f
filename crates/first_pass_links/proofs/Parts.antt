-- Parts of a text, and their weights.
use Rattle.std.proofs.Common.{◌≡◌, ◌⊎◌, inl, inr, ℕ, ◌+◌, ◌-◌, ◌<◌, ◌≤◌, ◌==◌, true, false, List, ◌∷◌, ◌++◌, length, take, drop, [], get_or}
use Rattle.std.proofs.Common.{refl, sym, ap, ◌∙◌, arith, append_assoc, if◌then◌else◌, drop-drop, take-add}
use Rattle.std.proofs.lemmas.Bool.{cond_both}
use Rattle.std.proofs.lemmas.List.{drop_more}
use Rattle.first_pass_items.specs.Bytes.{space}
use Rattle.first_pass_lines.specs.Lines.{is_white_or_line_end}
use Rattle.first_pass_links.specs.declared.label.Unit.{Unit}
use Rattle.first_pass_links.specs.Units.{part, weight, read_of, IsUnit, IsLighter}

-- a result for the rest of a slice that is the text is one for the rest of the text
pub of_text : {A : Type 0} {text bytes rest : List ℕ} {x : A} (f : List ℕ → A) (at : ℕ) → x ≡ f rest → rest ≡ drop at bytes → bytes ≡ text
    → x ≡ f (drop at text)
of_text f at h i j = h ∙ ap f (i ∙ ap (drop at) j)

pub part-start : (text : List ℕ) (b : ℕ) → part text 0 b ≡ take b text
part-start text b = let e : b - 0 ≡ b = omega arith in rw e

pub part-none : (text : List ℕ) (a : ℕ) → part text a a ≡ []
part-none text a = let e : a - a ≡ 0 = omega arith in rw e

pub part-split : (text : List ℕ) (a b c : ℕ) → a ≤ b → b ≤ c → part text a b ++ part text b c ≡ part text a c
part-split text a b c h k =
    let e : c - a ≡ (b - a) + (c - b) = omega arith in
    let f : a + (b - a) ≡ b = omega arith in
    sym (ap (λ n. take n (drop a text)) e ∙ take-add (b - a) (c - b) (drop a text)
    ∙ ap (λ xs. part text a b ++ take (c - b) xs) (drop-drop (b - a) a text ∙ ap (λ n. drop n text) f))

pub part-one : (text : List ℕ) (at : ℕ) → at < length text → part text at (at + 1) ≡ get_or text at 0 ∷ []
part-one text at l = grind (arith, drop_more)

pub part-two : (text : List ℕ) (at : ℕ) → at + 1 < length text → part text at (at + 2) ≡ get_or text at 0 ∷ get_or text (at + 1) 0 ∷ []
part-two text at l =
    let e : at + 1 + 1 ≡ at + 2 = omega arith in
    sym (part-split text at (at + 1) (at + 2) (omega arith) (omega arith)) ∙ ap (λ xs. xs ++ part text (at + 1) (at + 2)) (part-one text at (omega arith))
    ∙ ap (λ xs. get_or text at 0 ∷ xs) (ap (part text (at + 1)) (sym e) ∙ part-one text (at + 1) l)

pub take-part : (text : List ℕ) (a b : ℕ) → a ≤ b → take b text ≡ take a text ++ part text a b
take-part text a b h = let e : b ≡ a + (b - a) = omega arith in ap (λ n. take n text) e ∙ take-add a (b - a) text

-- two texts, one after the other, have the sum of their weights
pub weight-append : (xs ys : List ℕ) → weight (xs ++ ys) ≡ weight xs + weight ys
unfolding weight
weight-append [] ys = omega arith
weight-append (x ∷ xs) ys = let i = weight-append xs ys in omega arith

pub weight-length : (xs : List ℕ) → length xs ≤ weight xs
unfolding weight
weight-length [] = omega arith
weight-length (x ∷ xs) = grind (arith, cond_both, weight-length xs)

pub weight-nil : weight [] ≡ 0
unfolding weight
weight-nil = refl

pub weight-space : weight (space ∷ []) ≡ 1
unfolding weight
weight-space = refl

pub weight-other : (b : ℕ) → is_white_or_line_end b ≡ true → (b == space) ≡ false → weight (b ∷ []) ≡ 2
unfolding weight
weight-other b h k = rw (h, k)

-- a text that is read, unit by unit
lighter_weight : (text written : List ℕ) (from : ℕ)
    → ((from ≡ 0) × (written ≡ [])) ⊎ (weight written < weight (take from text)) → weight written ≤ weight (take from text)
lighter_weight text written from (inl h) = let e = ap weight h.1 ∙ weight-nil in omega arith
lighter_weight text written from (inr h) = omega arith

pub unit_kept : (text written : List ℕ) (from at : ℕ) (unit : Unit) → IsLighter text written from at → IsUnit text at unit → unit.paused ≡ unit.resumed
    → written ++ part text from unit.next ≡ (written ++ part text from at) ++ read_of text at unit
unit_kept text written from at unit r u e =
    let order = r.order in
    let begins = u.begins in
    let resumes = u.resumes in
    let s = u.same e in
    let a : read_of text at unit ≡ part text at unit.next =
    rw s (ap (λ n. part text at n ++ part text unit.resumed unit.next) e ∙ part-split text at unit.resumed unit.next (omega arith) resumes)
    in
    sym (append_assoc written (part text from at) (read_of text at unit) ∙ ap (λ xs. written ++ (part text from at ++ xs)) a
    ∙ ap (λ xs. written ++ xs) (part-split text from at unit.next order (omega arith)))

pub unit_changed : (text written : List ℕ) (from at : ℕ) (unit : Unit) → IsLighter text written from at → IsUnit text at unit
    → ((written ++ part text from unit.paused) ++ (if unit.space then space ∷ [] else [])) ++ part text unit.resumed unit.next
    ≡ (written ++ part text from at) ++ read_of text at unit
unit_changed text written from at unit r u =
    let order = r.order in
    let begins = u.begins in
    let p = part-split text from at unit.paused order begins in
    ap (λ xs. ((written ++ xs) ++ (if unit.space then space ∷ [] else [])) ++ part text unit.resumed unit.next) (sym p) ∙ simp append_assoc

pub unit_read : (text written : List ℕ) (from at : ℕ) (unit : Unit) → IsLighter text written from at → IsUnit text at unit → (unit.paused ≡ unit.resumed → ⊥)
    → IsLighter text ((written ++ part text from unit.paused) ++ (if unit.space then space ∷ [] else [])) unit.resumed unit.next
unit_read text written from at unit r u n = elim u.change [
  | inl e ↦ absurd (n e)
  | inr c ↦ (
      let order = r.order in
      let begins = u.begins in
      let light = lighter_weight text written from r.lighter in
      let less = c.2 in
      let mid : List ℕ = if unit.space then space ∷ [] else [] in
      let a = weight-append (written ++ part text from unit.paused) mid in
      let b = weight-append written (part text from unit.paused) in
      let d = ap weight (take-part text from unit.paused (omega arith)) ∙ weight-append (take from text) (part text from unit.paused) in
      let e = ap weight (take-part text unit.paused unit.resumed u.order) ∙ weight-append (take unit.paused text) (part text unit.paused unit.resumed) in
      record { order = u.resumes; within = u.within; boundary = c.1; lighter = inr (omega arith) })
]

-- the text that is read from all of it
pub whole_kept : (text written : List ℕ) (from at : ℕ) → IsLighter text written from at → from ≡ 0 → take at text ≡ written ++ part text from at
whole_kept text written from at r e = grind (arith, part-start, weight-nil)

pub whole_differs : (text written : List ℕ) (from at : ℕ) → IsLighter text written from at → (from ≡ 0 → ⊥) → written ++ part text from at ≡ take at text → ⊥
whole_differs text written from at r n e = elim r.lighter [
  | inl h ↦ n h.0
  | inr h ↦ (
      let order = r.order in
      let a = ap weight e in
      let b = weight-append written (part text from at) in
      let d = ap weight (take-part text from at order) ∙ weight-append (take from text) (part text from at) in
      omega arith)
]
