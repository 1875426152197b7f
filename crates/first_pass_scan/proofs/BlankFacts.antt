-- Spaces and tabs, each taken with all its columns, are all columns.
use Rattle.std.proofs.Common.{◌≡◌, ℕ, ◌+◌, ◌-◌, ◌%◌, ◌<◌, suc, zero, List, [], ◌∷◌, Bool, true, false, Option, Some, None, refl, sym, ◌∙◌, ap, arith}
use Rattle.std.proofs.Common.{if◌then◌else◌, ◌==◌, subst, MatchOption}
use Rattle.first_pass_items.specs.Bytes.{tab, space}
use Rattle.first_pass_lines.specs.Rest.{Rest, past_byte, next_column, after_columns, columns_of, indent}
use Rattle.first_pass_lines.proofs.Columns.{after-more, all-more, indent-some}
use Rattle.first_pass_scan.specs.Blanks.{without_owed, past_blank_in, past_blank}

owed_by : (o : ℕ) (r : Rest)
    → after_columns (o + columns_of r.left r.column) (record r { owed = o }) ≡ after_columns (0 + columns_of r.left r.column) (without_owed r)
owed_by zero r = refl
owed_by (suc o) r =
    after-more (suc o + columns_of r.left r.column) (o + columns_of r.left r.column) (record r { owed = suc o }) (record r { owed = o }) (omega arith) refl
    ∙ owed_by o r

-- all columns are the owed columns, and then all others
pub owed_first : (r : Rest) → after_columns (indent (without_owed r)) (without_owed r) ≡ after_columns (indent r) r
owed_first r = sym (owed_by r.owed r)

-- s is what follows one or more spaces or tabs with which r begins
pub record TakesBlank (r s : Rest) : Type 0 where
  pub none : s.owed ≡ 0
  pub all : after_columns (indent s) s ≡ after_columns (indent r) r
  pub fewer : indent s < indent r

takes_space : (r s : Rest) → next_column r ≡ Some s → s.owed ≡ 0 → TakesBlank r s
takes_space r s next none = record { none = none; all = all-more r s next; fewer = omega (arith, indent-some r s next) }

takes_tab : (r t : Rest) → next_column r ≡ Some t → TakesBlank r (without_owed t)
takes_tab r t next = record { none = refl; all = owed_first t ∙ all-more r t next; fewer = omega (arith, indent-some r t next) }

blank_by : (bs : List ℕ) (r s : Rest) → r.left ≡ bs → r.owed ≡ 0 → past_blank_in r bs ≡ Some s → TakesBlank r s
blank_by [] r s l o h = absurd cc
blank_by (b ∷ bs) r s l o h = by (b == space) (b == tab) refl refl h
  where
    by : (t u : Bool) → b == space ≡ t → b == tab ≡ u
        → (if t then Some (past_byte r bs) else (if u then Some (record { left = bs; taken = r.taken + 1; owed = 0; column = 0 }) else None)) ≡ Some s
        → TakesBlank r s
    by true u e f k =
        let first : next_column r ≡ Some (past_byte r bs) = rw o (rw l (rw e refl)) in
        takes_space r s (first ∙ k) (let same : past_byte r bs ≡ s = cc in sym (ap (λ (q : Rest). q.owed) same))
    by false true e f k =
        let t : Rest = record { left = bs; taken = r.taken + 1; owed = 3 - r.column % 4; column = 0 } in
        let first : next_column r ≡ Some t = rw o (rw l (rw e (rw f refl))) in
        let same : without_owed t ≡ s = cc in
        subst (TakesBlank r) same (takes_tab r t first)
    by false false e f k = absurd cc

pub takes_blank : (r s : Rest) → r.owed ≡ 0 → past_blank r ≡ Some s → TakesBlank r s
takes_blank r s o h = blank_by r.left r s refl o h

two_tabs : (r : Rest) (bs : List ℕ) → r.left ≡ tab ∷ tab ∷ bs → r.owed ≡ 0
    → TakesBlank r (record { left = bs; taken = r.taken + 2; owed = 0; column = 0 })
two_tabs r bs l o =
    let t : Rest = record { left = tab ∷ bs; taken = r.taken + 1; owed = 0; column = 0 } in
    let s : Rest = record { left = bs; taken = r.taken + 2; owed = 0; column = 0 } in
    let next : record { left = bs; taken = r.taken + 1 + 1; owed = 0; column = 0 } ≡ s = grind arith in
    let one = takes_blank r t o (rw l refl) in
    let two = takes_blank t s refl (ap Some next) in
    record { none = refl; all = two.all ∙ one.all; fewer = omega (arith, one.fewer, two.fewer) }

-- s is what follows the four tabs with which r begins
pub four_tabs : (r s : Rest) (bs : List ℕ) → r.left ≡ tab ∷ tab ∷ tab ∷ tab ∷ bs → r.owed ≡ 0
    → s.left ≡ bs → s.taken ≡ r.taken + 4 → s.owed ≡ 0 → s.column ≡ 0 → TakesBlank r s
four_tabs r s bs l o left taken owed column =
    let t : Rest = record { left = tab ∷ tab ∷ bs; taken = r.taken + 2; owed = 0; column = 0 } in
    let next : record { left = bs; taken = r.taken + 2 + 2; owed = 0; column = 0 } ≡ s = grind (arith, left, taken, owed, column) in
    let one = two_tabs r (tab ∷ tab ∷ bs) l o in
    let two = subst (TakesBlank t) next (two_tabs t bs refl refl) in
    record { none = two.none; all = two.all ∙ one.all; fewer = omega (arith, one.fewer, two.fewer) }

no_columns : (bs : List ℕ) (r : Rest) → past_blank_in r bs ≡ None → columns_of bs r.column ≡ 0
no_columns [] r h = refl
no_columns (b ∷ bs) r h = by (b == space) (b == tab) refl refl h
  where
    by : (t u : Bool) → b == space ≡ t → b == tab ≡ u
        → (if t then Some (past_byte r bs) else (if u then Some (record { left = bs; taken = r.taken + 1; owed = 0; column = 0 }) else None)) ≡ None
        → columns_of (b ∷ bs) r.column ≡ 0
    by true u e f k = absurd cc
    by false true e f k = absurd cc
    by false false e f k = rw e (rw f refl)

-- with no column owed and no space or tab, there is no column
no_blank : (r : Rest) → r.owed ≡ 0 → past_blank r ≡ None → indent r ≡ 0
no_blank r o h = omega (arith, no_columns r.left r h)

pub all_taken_here : (r : Rest) → r.owed ≡ 0 → past_blank r ≡ None → after_columns (indent r) r ≡ r
all_taken_here r o h = ap (λ n. after_columns n r) (no_blank r o h)

-- a call that takes a byte if there is one took none
pub taken_no : (o : Option Rest) (old new : Rest) (b : Bool)
    → MatchOption o ((b ≡ false) × (new ≡ old)) (λ next. (b ≡ true) × (new ≡ next)) → b ≡ false → (o ≡ None) × (new ≡ old)
taken_no None old new b h e = (refl, h.1)
taken_no (Some s) old new b h e = absurd cc
