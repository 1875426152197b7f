-- The marks of a level, one after another.
use Rattle.std.proofs.Common.{◌≡◌, ℕ, zero, suc, ◌+◌, ◌-◌, ◌<◌, ◌≤◌, get_or, ◌==◌, Bool, true, false, List, [], ◌∷◌, ◌++◌, length, drop, refl, sym, ap}
use Rattle.std.proofs.Common.{◌∙◌, arith, nat_lt, if◌then◌else◌}
use Rattle.std.proofs.lemmas.Bool.Decides.{nat_tests}
use Rattle.std.proofs.lemmas.Grind.{common_steps}
use Rattle.std.proofs.lemmas.List.{drop_all, drop_more}
use Rattle.first_pass_items.specs.declared.option_set.Options.{Options}
use Rattle.first_pass_inline.specs.declared.mark.Mark.{Mark}
use Rattle.first_pass_inline.specs.declared.mark.MarkKind.{MarkKind}
use Rattle.first_pass_inline.specs.declared.mark.MarkKind.TheVariants.{Token, Code, Math, RawHtml, Autolink, FootnoteReference, Link, LinkEnd, Name}
use Rattle.first_pass_inline.specs.declared.mark.MarkKind.TheVariants.{NameEnd, Undefined}
use Rattle.first_pass_emphasis.specs.declared.token.Side.{Side}
use Rattle.first_pass_emphasis.specs.declared.token.Side.TheVariants.{Before, After, Within}
use Rattle.first_pass_emphasis.specs.declared.token.Token.TheVariants.{Other as OtherToken}
use Rattle.first_pass_emphasis.specs.Levels.{IsNested, Nested, Nothing, Single, Inner, flat, parts}
use Rattle.first_pass_emphasis.specs.Tokens.{count_of, counted, side_of, token_of, token_of_kind}
use Rattle.first_pass_emphasis.specs.Walks.{Around, Whole, Within as WithinLevel, IsAround, after}

-- a bracket is no delimiter
bracket_count : (k : MarkKind) → (side_of k ≡ Within → ⊥) → count_of k ≡ 0
bracket_count (Token b) h = absurd (h refl)
bracket_count (Code s) h = refl
bracket_count (Math d s) h = refl
bracket_count RawHtml h = refl
bracket_count (Autolink f) h = refl
bracket_count (FootnoteReference s) h = refl
bracket_count (Link l) h = refl
bracket_count LinkEnd h = refl
bracket_count (Name n) h = refl
bracket_count NameEnd h = refl
bracket_count (Undefined u) h = refl

after_count : (k : MarkKind) → side_of k ≡ After → count_of k ≡ 0
after_count k h = bracket_count k (λ g. not_both (side_of k) h g)
  where
    not_both : (s : Side) → s ≡ After → s ≡ Within → ⊥
    not_both s u v = cc

before_count : (k : MarkKind) (from : ℕ) → side_of k ≡ Before from → count_of k ≡ 0
before_count k from h = bracket_count k (λ g. not_both (side_of k) h g)
  where
    not_both : (s : Side) → s ≡ Before from → s ≡ Within → ⊥
    not_both s u v = cc

zero_test : (k : ℕ) → (0 == suc k) ≡ false
zero_test k = grind (arith, nat_tests, common_steps)

same_test : (a b : ℕ) → a ≡ b → (a == b) ≡ true
same_test a b h = grind (arith, nat_tests, common_steps)

other_test : (a b : ℕ) → (a ≡ b → ⊥) → (a == b) ≡ false
other_test a b h = grind (arith, nat_tests, common_steps)

counted_nil : (k : ℕ) → counted k [] ≡ 0
counted_nil zero = refl
counted_nil (suc k) = refl

-- one more mark is counted
pub counted_next : (n i v : ℕ) (ms : List Mark) (d : Mark) → i < n → i < length ms → v ≡ count_of (get_or ms i d).kind → v ≡ n - i
    → counted (n - i) (drop i ms) ≡ suc (counted (n - (i + 1)) (drop (i + 1) ms))
counted_next n i v ms d below less is same =
    let e : n - i ≡ suc (n - (i + 1)) = omega arith in
    let test : (count_of (get_or ms i d).kind == suc (n - (i + 1))) ≡ true =
    same_test (count_of (get_or ms i d).kind) (suc (n - (i + 1))) (sym is ∙ same ∙ e) in
    ap (counted (n - i)) (drop_more ms i d less) ∙ ap (λ (k : ℕ). counted k (get_or ms i d ∷ drop (i + 1) ms)) e
    ∙ ap (λ (b : Bool). if b then suc (counted (n - (i + 1)) (drop (i + 1) ms)) else 0) test

-- no mark is counted
pub counted_stops : (n i v : ℕ) (ms : List Mark) (d : Mark) → i < n → i < length ms → v ≡ count_of (get_or ms i d).kind → (v ≡ n - i → ⊥)
    → counted (n - i) (drop i ms) ≡ 0
counted_stops n i v ms d below less is other =
    let e : n - i ≡ suc (n - (i + 1)) = omega arith in
    let test : (count_of (get_or ms i d).kind == suc (n - (i + 1))) ≡ false =
    other_test (count_of (get_or ms i d).kind) (suc (n - (i + 1))) (λ h. other (is ∙ h ∙ sym e)) in
    ap (counted (n - i)) (drop_more ms i d less) ∙ ap (λ (k : ℕ). counted k (get_or ms i d ∷ drop (i + 1) ms)) e
    ∙ ap (λ (b : Bool). if b then suc (counted (n - (i + 1)) (drop (i + 1) ms)) else 0) test

pub counted_past : (n i : ℕ) (ms : List Mark) → length ms ≤ i → counted (n - i) (drop i ms) ≡ 0
counted_past n i ms l = ap (counted (n - i)) (drop_all i ms l) ∙ counted_nil (n - i)

counted_none : (k : ℕ) (m : Mark) (ms : List Mark) → count_of m.kind ≡ 0 → counted k (m ∷ ms) ≡ 0
counted_none zero m ms h = refl
counted_none (suc k) m ms h = rw (h, zero_test k) refl

-- the marks after a level do not belong to a run in it
pub counted_same : (k : ℕ) (r : Nested) (a : Around) → IsNested r → IsAround a → counted k (flat r ++ after a) ≡ counted k (flat r)
counted_same zero r a h g = refl
counted_same (suc k) Nothing Whole h g = refl
counted_same (suc k) Nothing (WithinLevel o us closes r from) h g = counted_none (suc k) closes (flat r ++ after o) (after_count closes.kind g.0)
counted_same (suc k) (Single m r) a h g =
    ap (λ (n : ℕ). if count_of m.kind == suc k then suc n else 0) (counted_same k r a h.1 g)
counted_same (suc k) (Inner opens inside closes r) a h g =
    let none : count_of opens.kind ≡ 0 = before_count opens.kind h.0.0 h.0.1 in
    counted_none (suc k) opens ((flat inside ++ closes ∷ flat r) ++ after a) none ∙ sym (counted_none (suc k) opens (flat inside ++ closes ∷ flat r) none)

pub token_same : (content : List ℕ) (options : Options) (from : ℕ) (m : Mark) (r : Nested) (a : Around) → IsNested r → IsAround a
    → token_of content options from m (flat r ++ after a) ≡ token_of content options from m (flat r)
unfolding token_of
token_same content options from m r a h g =
    ap (λ (n : ℕ). if nat_lt m.part.start from then OtherToken else token_of_kind content options m (1 + n) m.kind)
    (counted_same (count_of m.kind - 1) r a h g)

-- the marks after so many that are no brackets
abbrev pub skipped : ℕ → Nested → Nested
skipped zero r = r
skipped (suc k) Nothing = Nothing
skipped (suc k) (Single m r) = skipped k r
skipped (suc k) (Inner opens inside closes r) = Inner opens inside closes r

pub skipped_parts : (content : List ℕ) (options : Options) (from k : ℕ) (r : Nested)
    → parts content options from k r ≡ parts content options from 0 (skipped k r)
skipped_parts content options from zero r = refl
skipped_parts content options from (suc k) Nothing = refl
skipped_parts content options from (suc k) (Single m r) = skipped_parts content options from k r
skipped_parts content options from (suc k) (Inner opens inside closes r) = refl

pub skipped_nested : (k : ℕ) (r : Nested) → IsNested r → IsNested (skipped k r)
skipped_nested zero r h = h
skipped_nested (suc k) Nothing h = h
skipped_nested (suc k) (Single m r) h = skipped_nested k r h.1
skipped_nested (suc k) (Inner opens inside closes r) h = h

pub skipped_flat : (k : ℕ) (r : Nested) (t : List Mark) → IsNested r
    → drop (counted k (flat r)) (flat r ++ t) ≡ flat (skipped (counted k (flat r)) r) ++ t
skipped_flat zero r t h = refl
skipped_flat (suc k) Nothing t h = refl
skipped_flat (suc k) (Single m r) t h = by_count (count_of m.kind == suc k) refl (skipped_flat k r t h.1)
  where
    by_count : (b : Bool) → (count_of m.kind == suc k) ≡ b → drop (counted k (flat r)) (flat r ++ t) ≡ flat (skipped (counted k (flat r)) r) ++ t
        → drop (if b then suc (counted k (flat r)) else 0) (m ∷ (flat r ++ t))
        ≡ flat (skipped (if b then suc (counted k (flat r)) else 0) (Single m r)) ++ t
    by_count true e further = further
    by_count false e further = refl
skipped_flat (suc k) (Inner opens inside closes r) t h =
    let none : counted (suc k) (opens ∷ (flat inside ++ closes ∷ flat r)) ≡ 0 =
    counted_none (suc k) opens (flat inside ++ closes ∷ flat r) (before_count opens.kind h.0.0 h.0.1) in
    rw none refl
