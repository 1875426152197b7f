-- The references of a cell stay the same when backslashes before pipes are dropped: a reference has no backslash and no
-- pipe.
use Rattle.std.proofs.Common.{◌≡◌, inl, inr, ℕ, zero, suc, ◌+◌, ◌≤◌, ◌==◌, ◌&&◌, ◌||◌, Bool, true, false, List, [], ◌∷◌, take, drop, refl, sym, ap, ◌∙◌}
use Rattle.std.proofs.Common.{arith, eqb-true}
use Rattle.std.specs.List.{prefix_len}
use Rattle.std.specs.Char.{is_ascii_alphabetic}
use Rattle.std.proofs.lemmas.Bool.{and_parts, and_left, or_cases, cases_Bool, cond_both}
use Rattle.first_pass_items.specs.Bytes.{number_sign, ampersand, semicolon, capital_x, backslash, small_x, pipe}
use Rattle.first_pass_lines.specs.Lines.{begins}
use Rattle.first_pass_entities.specs.Entities.{number_at, numeric_at, name_at, entity_at}
use Rattle.first_pass_links.specs.Escapes.{without_pipe_escapes}
use Rattle.first_pass_entities.proofs.EntityFacts.{is_plain, plain_through}

pub cell-nil : without_pipe_escapes [] ≡ []
unfolding without_pipe_escapes
cell-nil = refl

pub cell-same : (b : ℕ) (bs : List ℕ) → (b == backslash) && begins pipe bs ≡ false → without_pipe_escapes (b ∷ bs) ≡ b ∷ without_pipe_escapes bs
unfolding without_pipe_escapes
cell-same b bs h = rw h

pub cell-other : (b : ℕ) (bs : List ℕ) → (b == backslash) ≡ false → without_pipe_escapes (b ∷ bs) ≡ b ∷ without_pipe_escapes bs
cell-other b bs h = cell-same b bs (and_left _ _ h)

pub cell-dropped : (b : ℕ) (bs : List ℕ) → (b == backslash) ≡ true → begins pipe bs ≡ true → without_pipe_escapes (b ∷ bs) ≡ without_pipe_escapes bs
unfolding without_pipe_escapes
cell-dropped b bs h h' = rw (h, h')

-- bytes that begin with a pipe keep it
pub pipe_after : (bs : List ℕ) → begins pipe bs ≡ true → without_pipe_escapes bs ≡ pipe ∷ without_pipe_escapes (drop 1 bs)
pipe_after [] h = cc
pipe_after (b ∷ bs) h = grind (arith, cell-other)

-- a law of the text of a cell with one more byte, by whether the byte is a backslash that is dropped
pub cell_cases : (P : List ℕ → Type 0) (b : ℕ) (bs : List ℕ) → ((b == backslash) && begins pipe bs ≡ true → P (without_pipe_escapes bs))
    → P (b ∷ without_pipe_escapes bs) → P (without_pipe_escapes (b ∷ bs))
unfolding without_pipe_escapes
cell_cases P b bs dropped kept = cond_both ((b == backslash) && begins pipe bs) _ _ P dropped (λ _. kept)

-- plain bytes stay
pub plain_stay : (n : ℕ) (bs : List ℕ) → n ≤ prefix_len is_plain bs
    → (take n (without_pipe_escapes bs) ≡ take n bs) × (drop n (without_pipe_escapes bs) ≡ without_pipe_escapes (drop n bs))
plain_stay zero bs h = (refl, refl)
plain_stay (suc n) [] h = absurd (omega arith)
plain_stay (suc n) (b ∷ bs) h = elim (cases_Bool (b == backslash)) [
  | inl e ↦ (let z : prefix_len is_plain (b ∷ bs) ≡ 0 = rw e in absurd (omega arith))
  | inr e ↦ (
      let z : prefix_len is_plain (b ∷ bs) ≡ 1 + prefix_len is_plain bs = rw e in
      let i = plain_stay n bs (omega arith) in
      rw (cell-other b bs e) (ap (λ xs. b ∷ xs) i.0, i.1))
]

-- and so does a first byte that is neither a backslash nor a pipe
pub begins-cell : (k : ℕ) (bs : List ℕ) → (backslash == k) ≡ false → (pipe == k) ≡ false → begins k (without_pipe_escapes bs) ≡ begins k bs
begins-cell k [] q r = ap (begins k) cell-nil
begins-cell k (b ∷ bs) q r = cell_cases (λ xs. begins k xs ≡ (b == k)) b bs (λ h. let p = and_parts _ _ h in
    ap (begins k) (pipe_after bs p.1) ∙ r ∙ sym q ∙ ap (λ x. x == k) (sym (eqb-true b backslash p.0))) refl

pub prefix_len-cell : (p : ℕ → Bool) → p backslash ≡ false → p pipe ≡ false → (bs : List ℕ) → prefix_len p (without_pipe_escapes bs) ≡ prefix_len p bs
prefix_len-cell p q r [] = ap (prefix_len p) cell-nil
prefix_len-cell p q r (b ∷ bs) = cell_cases (λ xs. prefix_len p xs ≡ prefix_len p (b ∷ bs)) b bs (λ h.
    let e = and_parts _ _ h in
    let z : p b ≡ false = ap p (eqb-true b backslash e.0) ∙ q in
    rw (pipe_after bs e.1, r, z)) (rw (prefix_len-cell p q r bs))

-- the bytes of such a run stay, and so does a `;` after them
run : (p : ℕ → Bool) → p backslash ≡ false → p pipe ≡ false → (bs : List ℕ)
    → (take (prefix_len p (without_pipe_escapes bs)) (without_pipe_escapes bs) ≡ take (prefix_len p bs) bs)
    × (begins semicolon (drop (prefix_len p (without_pipe_escapes bs)) (without_pipe_escapes bs)) ≡ begins semicolon (drop (prefix_len p bs) bs))
run p q r bs =
    let l = plain_through p q bs in
    let s = plain_stay (prefix_len p bs) bs (omega arith) in
    rw (prefix_len-cell p q r bs) (s.0, ap (begins semicolon) s.1 ∙ begins-cell semicolon (drop (prefix_len p bs) bs) refl refl)

number_at-cell : (p : ℕ → Bool)
    → p backslash ≡ false → p pipe ≡ false → (radix most : ℕ) (bs : List ℕ) → number_at p radix most (without_pipe_escapes bs) ≡ number_at p radix most bs
unfolding number_at
number_at-cell p q r radix most bs = let s = run p q r bs in rw (s.1, s.0, prefix_len-cell p q r bs)

name_at-cell : (bs : List ℕ) → name_at (without_pipe_escapes bs) ≡ name_at bs
unfolding name_at
name_at-cell bs = let s = run is_ascii_alphabetic refl refl bs in rw (s.1, s.0, prefix_len-cell is_ascii_alphabetic refl refl bs)

-- after a first byte that is not a backslash
after_byte : (k : ℕ) (bs : List ℕ) → begins k bs ≡ true → (k == backslash) ≡ false → drop 1 (without_pipe_escapes bs) ≡ without_pipe_escapes (drop 1 bs)
after_byte k [] h q = cc
after_byte k (b ∷ bs) h q = ap (drop 1) (cell-other b bs (rw (eqb-true b k h) q))

numeric_by : (t : Bool) (bs : List ℕ) → (begins small_x bs || begins capital_x bs) ≡ t → numeric_at (without_pipe_escapes bs) ≡ numeric_at bs
unfolding numeric_at
numeric_by true bs h = grind (arith, or_cases, after_byte, begins-cell, number_at-cell)
numeric_by false bs h = grind (arith, begins-cell, number_at-cell)

entity_by : (t u : Bool) (bs : List ℕ) → begins ampersand bs ≡ t → begins number_sign (drop 1 bs) ≡ u → entity_at (without_pipe_escapes bs) ≡ entity_at bs
unfolding entity_at
entity_by false u bs h h' = rw (begins-cell ampersand bs refl refl, h)
entity_by true true bs h h' = grind (arith, after_byte, begins-cell, numeric_by)
entity_by true false bs h h' = grind (arith, after_byte, begins-cell, name_at-cell)

pub entity_at-cell : (bs : List ℕ) → entity_at (without_pipe_escapes bs) ≡ entity_at bs
entity_at-cell bs = entity_by _ _ bs refl refl
