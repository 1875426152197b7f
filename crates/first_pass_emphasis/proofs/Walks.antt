-- The walk over the marks of a chain, level by level.
use Rattle.std.proofs.Common.{◌≡◌, ◌⊎◌, inl, inr, ℕ, suc, ◌+◌, ◌-◌, List, [], ◌∷◌, ◌++◌, length, take, drop, replicate, refl, sym, ap, ◌∙◌, arith}
use Rattle.std.proofs.Common.{append_assoc, append-nil, length-append, false}
use Rattle.std.proofs.lemmas.List.{length-drop, length-replicate, take_all, take_at, drop_at}
use Rattle.first_pass_items.specs.declared.option_set.Options.{Options}
use Rattle.first_pass_inline.specs.declared.mark.Mark.{Mark}
use Rattle.first_pass_emphasis.specs.declared.levels.Level.{Level}
use Rattle.first_pass_emphasis.specs.declared.levels.Walk.{Walk}
use Rattle.first_pass_emphasis.specs.declared.quotes.PlacedQuote.{PlacedQuote}
use Rattle.first_pass_emphasis.specs.declared.role.Role.{Role}
use Rattle.first_pass_emphasis.specs.declared.role.Role.TheVariants.{Text}
use Rattle.first_pass_emphasis.specs.declared.run.PlacedRun.{PlacedRun}
use Rattle.first_pass_emphasis.specs.declared.token.Side.{Side}
use Rattle.first_pass_emphasis.specs.declared.token.Side.TheVariants.{Before, After, Within}
use Rattle.first_pass_emphasis.specs.declared.token.Token.{Token}
use Rattle.first_pass_emphasis.specs.Levels.{IsNested, IsNestingOf, Nested, Nothing, Single, Inner, chain_roles, flat, level_from, level_roles, part_of, parts}
use Rattle.first_pass_emphasis.specs.Parts.{Part, Delimiters, Quotation, Other, placed_quotes, placed_runs, raw}
use Rattle.first_pass_emphasis.specs.Quotes.{quoted}
use Rattle.first_pass_emphasis.specs.Stacks.{IsLevel, IsQuotedLevel}
use Rattle.first_pass_emphasis.specs.Tokens.{HasMarks, count_of, counted, more_of, side_of, token_of}
use Rattle.first_pass_emphasis.specs.Walks.{Around, Whole, Within as WithinLevel, Holds, IsAround, IsReadLevel, IsSettled, IsWalkBefore, after, inner}
use Rattle.first_pass_emphasis.specs.Walks.{level_in, levels_around, outside, quotes_before, runs_before, whole}
use Rattle.first_pass_emphasis.proofs.Marks.{counted_same, skipped, skipped_flat, skipped_nested, skipped_parts, token_same}
use Rattle.first_pass_emphasis.proofs.Pairs.{same_runs}

-- parts after others

raw_more : (ts us : List Part) → raw (ts ++ us) ≡ raw ts ++ raw us
raw_more [] us = refl
raw_more (Delimiters r ∷ ts) us = ap (λ l. replicate r.size Text ++ l) (raw_more ts us) ∙ sym (append_assoc (replicate r.size Text) (raw ts) (raw us))
raw_more (Quotation q ∷ ts) us = ap (λ l. Text ∷ l) (raw_more ts us)
raw_more (Other rs ∷ ts) us = ap (λ l. rs ++ l) (raw_more ts us) ∙ sym (append_assoc rs (raw ts) (raw us))

runs_more : (n : ℕ) (ts us : List Part) → placed_runs n (ts ++ us) ≡ placed_runs n ts ++ placed_runs (n + length (raw ts)) us
runs_more n [] us = let e : n ≡ n + 0 = omega arith in ap (λ m. placed_runs m us) e
runs_more n (Delimiters r ∷ ts) us =
    let e : (n + r.size) + length (raw ts) ≡ n + length (replicate r.size Text ++ raw ts) = simp (length-append, length-replicate) (omega arith) in
    ap (λ l. record { run = r; at = n } ∷ l) (runs_more (n + r.size) ts us ∙ ap (λ m. placed_runs (n + r.size) ts ++ placed_runs m us) e)
runs_more n (Quotation q ∷ ts) us =
    let e : (n + 1) + length (raw ts) ≡ n + suc (length (raw ts)) = omega arith in
    runs_more (n + 1) ts us ∙ ap (λ m. placed_runs (n + 1) ts ++ placed_runs m us) e
runs_more n (Other rs ∷ ts) us =
    let e : (n + length rs) + length (raw ts) ≡ n + length (rs ++ raw ts) = simp length-append (omega arith) in
    runs_more (n + length rs) ts us ∙ ap (λ m. placed_runs (n + length rs) ts ++ placed_runs m us) e

quotes_more : (n : ℕ) (ts us : List Part) → placed_quotes n (ts ++ us) ≡ placed_quotes n ts ++ placed_quotes (n + length (raw ts)) us
quotes_more n [] us = let e : n ≡ n + 0 = omega arith in ap (λ m. placed_quotes m us) e
quotes_more n (Delimiters r ∷ ts) us =
    let e : (n + r.size) + length (raw ts) ≡ n + length (replicate r.size Text ++ raw ts) = simp (length-append, length-replicate) (omega arith) in
    quotes_more (n + r.size) ts us ∙ ap (λ m. placed_quotes (n + r.size) ts ++ placed_quotes m us) e
quotes_more n (Quotation q ∷ ts) us =
    let e : (n + 1) + length (raw ts) ≡ n + suc (length (raw ts)) = omega arith in
    ap (λ l. record { quote = q; at = n } ∷ l) (quotes_more (n + 1) ts us ∙ ap (λ m. placed_quotes (n + 1) ts ++ placed_quotes m us) e)
quotes_more n (Other rs ∷ ts) us =
    let e : (n + length rs) + length (raw ts) ≡ n + length (rs ++ raw ts) = simp length-append (omega arith) in
    quotes_more (n + length rs) ts us ∙ ap (λ m. placed_quotes (n + length rs) ts ++ placed_quotes m us) e

-- one more part of the innermost level
pub one_part : (o : Around) (from : ℕ) (ts : List Part) (s t : Walk) (p : Part) → Holds o from ts s → t.pass.roles.items ≡ s.pass.roles.items ++ raw (p ∷ [])
    → t.runs.items ≡ s.runs.items ++ placed_runs (length s.pass.roles.items) (p ∷ [])
    → t.quotes.items ≡ s.quotes.items ++ placed_quotes (length s.pass.roles.items) (p ∷ []) → t.outer.items ≡ s.outer.items → t.level ≡ s.level
    → Holds o from (ts ++ p ∷ []) t
one_part o from ts s t p h rs us qs os ls =
    let n : length s.pass.roles.items ≡ length (outside o) + length (raw ts) = ap length h.roles ∙ length-append (outside o) (raw ts) in
    record {
      roles =
          rs ∙ ap (λ l. l ++ raw (p ∷ [])) h.roles ∙ append_assoc (outside o) (raw ts) (raw (p ∷ []))
          ∙ ap (λ l. outside o ++ l) (sym (raw_more ts (p ∷ [])));
      keeps = record {
        runs =
            us ∙ ap (λ l. l ++ placed_runs (length s.pass.roles.items) (p ∷ [])) h.keeps.runs
            ∙ append_assoc (runs_before o) (placed_runs (length (outside o)) ts) (placed_runs (length s.pass.roles.items) (p ∷ []))
            ∙ ap (λ m. runs_before o ++ (placed_runs (length (outside o)) ts ++ placed_runs m (p ∷ []))) n
            ∙ ap (λ l. runs_before o ++ l) (sym (runs_more (length (outside o)) ts (p ∷ [])));
        quotes =
            qs ∙ ap (λ l. l ++ placed_quotes (length s.pass.roles.items) (p ∷ [])) h.keeps.quotes
            ∙ append_assoc (quotes_before o) (placed_quotes (length (outside o)) ts) (placed_quotes (length s.pass.roles.items) (p ∷ []))
            ∙ ap (λ m. quotes_before o ++ (placed_quotes (length (outside o)) ts ++ placed_quotes m (p ∷ []))) n
            ∙ ap (λ l. quotes_before o ++ l) (sym (quotes_more (length (outside o)) ts (p ∷ [])));
        outer = os ∙ h.keeps.outer;
        level = ls ∙ h.keeps.level;
      };
    }

-- the quotation marks and the runs of the innermost level

pub level_quotes : (o : Around) (from : ℕ) (ts : List Part) (s : Walk) (qs : List PlacedQuote) → Holds o from ts s
    → qs ≡ drop s.level.quotes s.quotes.items → IsQuotedLevel (outside o) ts s.pass.roles.items qs
level_quotes o from ts s qs h is = record {
  roles = h.roles;
  quotes =
      is ∙ ap (λ (l : List PlacedQuote). drop s.level.quotes l) h.keeps.quotes
      ∙ drop_at (quotes_before o) (placed_quotes (length (outside o)) ts) s.level.quotes (sym (ap (λ (l : Level). l.quotes) h.keeps.level));
}

pub level_runs : (o : Around) (from : ℕ) (ts : List Part) (s : Walk) (ms : List Role) (rs : List PlacedRun) → Holds o from ts s
    → ms ≡ outside o ++ raw (quoted false false ts) → rs ≡ drop s.level.runs s.runs.items → IsLevel (outside o) (quoted false false ts) ms rs
level_runs o from ts s ms rs h m is = record {
  roles = m;
  runs =
      is ∙ ap (λ (l : List PlacedRun). drop s.level.runs l) h.keeps.runs
      ∙ drop_at (runs_before o) (placed_runs (length (outside o)) ts) s.level.runs (sym (ap (λ (l : Level). l.runs) h.keeps.level))
      ∙ sym (same_runs false false (length (outside o)) ts);
}

-- what is settled is read on in the level around it
module _ (o : Around) (us : List Part) (closes : Mark) (r : Nested) (outer from : ℕ) (ts : List Part) (s t : Walk) where
  pub level_ends : IsSettled (WithinLevel o us closes r outer) from ts s → t.pass.roles.items ≡ s.pass.roles.items ++ Text ∷ []
      → t.runs.items ≡ take s.level.runs s.runs.items → t.quotes.items ≡ take s.level.quotes s.quotes.items → t.outer.items ≡ levels_around o
      → t.level ≡ level_in o outer → Holds o outer (us ++ inner ts ∷ []) t
  level_ends h rs runs quotes os ls = record {
    roles =
        rs ∙ ap (λ l. l ++ Text ∷ []) h.roles
        ∙ rw (raw_more us (inner ts ∷ []), append-nil (Text ∷ (level_roles ts ++ Text ∷ []))) (simp append_assoc);
    keeps = record {
      runs =
          runs ∙ ap (λ (l : List PlacedRun). take s.level.runs l) h.keeps.runs
          ∙ take_at (runs_before o ++ placed_runs (length (outside o)) us) (placed_runs (length (outside (WithinLevel o us closes r outer))) ts) s.level.runs
          (sym (ap (λ (l : Level). l.runs) h.keeps.level))
          ∙ ap (λ l. runs_before o ++ l) (sym (runs_more (length (outside o)) us (inner ts ∷ []) ∙ append-nil (placed_runs (length (outside o)) us)));
      quotes =
          quotes ∙ ap (λ (l : List PlacedQuote). take s.level.quotes l) h.keeps.quotes
          ∙ take_at (quotes_before o ++ placed_quotes (length (outside o)) us) (placed_quotes (length (outside (WithinLevel o us closes r outer))) ts)
          s.level.quotes (sym (ap (λ (l : Level). l.quotes) h.keeps.level))
          ∙ ap (λ l. quotes_before o ++ l) (sym (quotes_more (length (outside o)) us (inner ts ∷ []) ∙ append-nil (placed_quotes (length (outside o)) us)));
      outer = os;
      level = ls;
    };
  }

-- the state after a bracket after a level, by what is around that level
pub level_read : (o : Around) (from : ℕ) (ts : List Part) (s u t : Walk) → (Holds o from ts s → IsSettled o from ts u)
    → t.pass.roles.items ≡ u.pass.roles.items ++ Text ∷ [] → t.runs.items ≡ take u.level.runs u.runs.items
    → t.quotes.items ≡ take u.level.quotes u.quotes.items
    → ((around : List Level) (last : Level) → u.outer.items ≡ around ++ last ∷ [] → (t.outer.items ≡ around) × (t.level ≡ last)) → IsReadLevel o from ts s t
level_read Whole from ts s u t settled rs runs quotes left = tt
level_read (WithinLevel o us closes r outer) from ts s u t settled rs runs quotes left = λ h.
    let k = settled h in
    let levels = left (levels_around o) (level_in o outer) k.keeps.outer in
    level_ends o us closes r outer from ts u t k rs runs quotes levels.0 levels.1

rest_taken : {X : Type 0} (xs : List X) (n : ℕ) → take (length xs - n) (drop n xs) ≡ drop n xs
rest_taken xs n = take_all (length xs - n) (drop n xs) (simp length-drop (omega arith))

pub rest_of : {X : Type 0} (xs ys : List X) (n : ℕ) → ys ≡ xs → take (length ys - n) (drop n ys) ≡ drop n xs
rest_of xs ys n e = rest_taken ys n ∙ ap (drop n) e

pub snoc_same : {X : Type 0} (xs ys : List X) (x y : X) → xs ++ x ∷ [] ≡ ys ++ y ∷ [] → (xs ≡ ys) × (x ≡ y)
snoc_same [] [] x y h = (refl, cc)
snoc_same [] (b ∷ ys) x y h = absurd (nothing_after ys y (cc))
  where
    nothing_after : {X : Type 0} (ys : List X) (y : X) → [] ≡ ys ++ y ∷ [] → ⊥
    nothing_after [] y h = cc
    nothing_after (a ∷ ys) y h = cc
snoc_same (a ∷ xs) [] x y h = absurd (nothing_after xs x (cc))
  where
    nothing_after : {X : Type 0} (ys : List X) (y : X) → ys ++ y ∷ [] ≡ [] → ⊥
    nothing_after [] y h = cc
    nothing_after (a ∷ ys) y h = cc
snoc_same (a ∷ xs) (b ∷ ys) x y h =
    let tails : xs ++ x ∷ [] ≡ ys ++ y ∷ [] = cc in
    let same = snoc_same xs ys x y tails in
    let front : xs ≡ ys = same.0 in
    (cc, same.1)

module _ (content : List ℕ) (options : Options) (goal : List Role) (m : Mark) (following : List Mark) (s t : Walk) where
  not_here : (n : Side) (k : Side) → side_of m.kind ≡ n → side_of m.kind ≡ k → n ≡ k
  not_here n k h g = sym h ∙ g

  before_after : (from : ℕ) → side_of m.kind ≡ Before from → side_of m.kind ≡ After → ⊥
  before_after from h g = clash (not_here (Before from) After h g)
    where
      clash : Before from ≡ After → ⊥
      clash e = cc

  before_within : (from : ℕ) → side_of m.kind ≡ Before from → side_of m.kind ≡ Within → ⊥
  before_within from h g = clash (not_here (Before from) Within h g)
    where
      clash : Before from ≡ Within → ⊥
      clash e = cc

  after_within : side_of m.kind ≡ After → side_of m.kind ≡ Within → ⊥
  after_within h g = clash (not_here After Within h g)
    where
      clash : After ≡ Within → ⊥
      clash e = cc

  -- a bracket before a level
  opened : (from : ℕ) → side_of m.kind ≡ Before from
      → ((o : Around) (outer : ℕ) (us : List Part) (closes : Mark) (r : Nested) → Holds o outer us s → Holds (WithinLevel o us closes r outer) from [] t)
      → (o : Around) (outer : ℕ) (ts : List Part) (n : Nested) → Holds o outer ts s → IsAround o → IsNested n → m ∷ following ≡ flat n ++ after o
      → whole content options o (ts ++ parts content options outer 0 n) ≡ goal → IsWalkBefore content options goal following t
  opened from is step Whole outer ts Nothing h a k e l = absurd (cc)
  opened from is step (WithinLevel o us closes r x) outer ts Nothing h a k e l =
      let head : closes ≡ m = cc in
      absurd (before_after from is (ap (λ (y : Mark). side_of y.kind) (sym head) ∙ a.0))
  opened from is step o outer ts (Single x r) h a k e l =
      let head : x ≡ m = cc in
      absurd (before_within from is (ap (λ (y : Mark). side_of y.kind) (sym head) ∙ k.0))
  opened from is step o outer ts (Inner opens inside closes r) h a k e l =
      let head : opens ≡ m = cc in
      let tail : following ≡ (flat inside ++ closes ∷ flat r) ++ after o = cc in
      let begins : level_from (side_of opens.kind) ≡ from = ap (λ (y : Mark). level_from (side_of y.kind)) head ∙ ap level_from is in
      record {
        o = WithinLevel o ts closes r outer;
        from = from;
        ts = [];
        n = inside;
        holds = step o outer ts closes r h;
        around = (k.2, k.3, a);
        nested = k.1;
        rest = tail ∙ append_assoc (flat inside) (closes ∷ flat r) (after o);
        leads =
            ap (λ (f : ℕ). whole content options o (ts ++ inner (parts content options f 0 inside) ∷ parts content options outer 0 r)) (sym begins) ∙ l;
      }

  -- a bracket after a level
  closed : side_of m.kind ≡ After → ((o : Around) (from : ℕ) (ts : List Part) → IsReadLevel o from ts s t)
      → (o : Around) (from : ℕ) (ts : List Part) (n : Nested) → Holds o from ts s → IsAround o → IsNested n → m ∷ following ≡ flat n ++ after o
      → whole content options o (ts ++ parts content options from 0 n) ≡ goal → IsWalkBefore content options goal following t
  closed is step Whole from ts Nothing h a k e l = absurd (cc)
  closed is step (WithinLevel o us closes r outer) from ts Nothing h a k e l =
      let tail : following ≡ flat r ++ after o = cc in
      record {
        o = o;
        from = outer;
        ts = us ++ inner ts ∷ [];
        n = r;
        holds = step (WithinLevel o us closes r outer) from ts h;
        around = a.2;
        nested = a.1;
        rest = tail;
        leads =
            ap (λ (x : List Part). whole content options o x) (append_assoc us (inner ts ∷ []) (parts content options outer 0 r))
            ∙ ap (λ (x : List Part). whole content options o (us ++ inner x ∷ parts content options outer 0 r)) (sym (append-nil ts)) ∙ l;
      }
  closed is step o from ts (Single x r) h a k e l =
      let head : x ≡ m = cc in
      absurd (after_within is (ap (λ (y : Mark). side_of y.kind) (sym head) ∙ k.0))
  closed is step o from ts (Inner opens inside closes r) h a k e l =
      let head : opens ≡ m = cc in
      absurd (before_after k.0.0 (ap (λ (y : Mark). side_of y.kind) (sym head) ∙ k.0.1) is)

  -- any other mark
  module _ (token : Token) (more : ℕ) (is : side_of m.kind ≡ Within) (t_is : token ≡ token_of content options s.level.from m following)
      (has : HasMarks m following token) (more_is : more ≡ more_of token)
      (step : (o : Around) (from : ℕ) (ts : List Part) → Holds o from ts s → Holds o from (ts ++ part_of token ∷ []) t) where
    token_read : (o : Around) (from : ℕ) (ts : List Part) (n : Nested) → Holds o from ts s → IsAround o → IsNested n → m ∷ following ≡ flat n ++ after o
        → whole content options o (ts ++ parts content options from 0 n) ≡ goal → IsWalkBefore content options goal (drop more following) t
    token_read Whole from ts Nothing h a k e l = absurd (cc)
    token_read (WithinLevel o us closes r x) from ts Nothing h a k e l =
        let head : closes ≡ m = cc in
        absurd (after_within (ap (λ (y : Mark). side_of y.kind) (sym head) ∙ a.0) is)
    token_read o from ts (Inner opens inside closes r) h a k e l =
        let head : opens ≡ m = cc in
        absurd (before_within k.0.0 (ap (λ (y : Mark). side_of y.kind) (sym head) ∙ k.0.1) is)
    token_read o from ts (Single x r) h a k e l =
        let head : x ≡ m = cc in
        let tail : following ≡ flat r ++ after o = cc in
        let level : s.level.from ≡ from = ap (λ (y : Level). y.from) h.keeps.level in
        let same : token ≡ token_of content options from x (flat r) =
        t_is ∙ ap (λ (f : ℕ). token_of content options f m following) level ∙ ap (λ (y : List Mark). token_of content options from m y) tail
        ∙ token_same content options from m r o k.1 a ∙ ap (λ (y : Mark). token_of content options from y (flat r)) (sym head) in
        let skips : drop more following ≡ flat (skipped more r) ++ after o = skips_to more r o k.1 a tail (elim has.counts [
          | inl z ↦ inl (more_is ∙ z)
          | inr z ↦ inr (more_is ∙ z)
        ]) in
        record {
          o = o;
          from = from;
          ts = ts ++ part_of token ∷ [];
          n = skipped more r;
          holds = step o from ts h;
          around = a;
          nested = skipped_nested more r k.1;
          rest = skips;
          leads =
              ap (λ (x : List Part). whole content options o x) (append_assoc ts (part_of token ∷ []) (parts content options from 0 (skipped more r)))
              ∙ ap (λ (x : List Part). whole content options o (ts ++ part_of token ∷ x)) (sym (skipped_parts content options from more r))
              ∙ ap (λ (y : ℕ). whole content options o (ts ++ part_of token ∷ parts content options from y r)) more_is
              ∙ ap (λ (y : Token). whole content options o (ts ++ part_of y ∷ parts content options from (more_of y) r)) same ∙ l;
        }
      where
        skips_to : (more : ℕ) (r : Nested) (o : Around) → IsNested r → IsAround o → following ≡ flat r ++ after o
            → (more ≡ 0) ⊎ (more ≡ counted (count_of m.kind - 1) following) → drop more following ≡ flat (skipped more r) ++ after o
        skips_to more r o k a tail (inl z) = rw z tail
        skips_to more r o k a tail (inr z) =
            let c : more ≡ counted (count_of m.kind - 1) (flat r) =
            z ∙ ap (counted (count_of m.kind - 1)) tail ∙ counted_same (count_of m.kind - 1) r o k a in
            ap (drop more) tail ∙ ap (λ (n : ℕ). drop n (flat r ++ after o)) c ∙ skipped_flat (count_of m.kind - 1) r (after o) k
            ∙ ap (λ (n : ℕ). flat (skipped n r) ++ after o) (sym c)

  pub opened_level : (from : ℕ) → side_of m.kind ≡ Before from
      → ((o : Around) (outer : ℕ) (us : List Part) (closes : Mark) (r : Nested) → Holds o outer us s → Holds (WithinLevel o us closes r outer) from [] t)
      → IsWalkBefore content options goal (m ∷ following) s → IsWalkBefore content options goal following t
  opened_level from is step h = opened from is step h.o h.from h.ts h.n h.holds h.around h.nested h.rest h.leads

  pub closed_level : side_of m.kind ≡ After → ((o : Around) (from : ℕ) (ts : List Part) → IsReadLevel o from ts s t)
      → IsWalkBefore content options goal (m ∷ following) s → IsWalkBefore content options goal following t
  closed_level is step h = closed is step h.o h.from h.ts h.n h.holds h.around h.nested h.rest h.leads

  pub read_token : (token : Token) (more : ℕ) → side_of m.kind ≡ Within → token ≡ token_of content options s.level.from m following
      → HasMarks m following token → more ≡ more_of token
      → ((o : Around) (from : ℕ) (ts : List Part) → Holds o from ts s → Holds o from (ts ++ part_of token ∷ []) t)
      → IsWalkBefore content options goal (m ∷ following) s → IsWalkBefore content options goal (drop more following) t
  read_token token more is t_is has more_is step h = token_read token more is t_is has more_is step h.o h.from h.ts h.n h.holds h.around h.nested h.rest h.leads

-- the state at the begin and at the end

pub walk_begins : (content : List ℕ) (options : Options) (ms : List Mark) (n : Nested) (s : Walk) → IsNestingOf ms n → s.pass.roles.items ≡ []
    → s.runs.items ≡ []
    → s.quotes.items ≡ [] → s.outer.items ≡ [] → s.level ≡ record { runs = 0; quotes = 0; from = 0 }
    → IsWalkBefore content options (chain_roles content options n) ms s
walk_begins content options ms n s h rs us qs os ls = record {
  o = Whole;
  from = 0;
  ts = [];
  n = n;
  holds = record { roles = rs; keeps = record { runs = us; quotes = qs; outer = os; level = ls } };
  around = tt;
  nested = h.0;
  rest = h.1 ∙ sym (append-nil (flat n));
  leads = refl;
}

module _ (content : List ℕ) (options : Options) (goal : List Role) (s t : Walk)
    (step : (o : Around) (from : ℕ) (ts : List Part) → Holds o from ts s → IsSettled o from ts t) where
  ended : (o : Around) (from : ℕ) (ts : List Part) (n : Nested)
      → Holds o from ts s → [] ≡ flat n ++ after o → whole content options o (ts ++ parts content options from 0 n) ≡ goal → t.pass.roles.items ≡ goal
  ended Whole from ts Nothing h e l =
      (step Whole from ts h).roles ∙ ap level_roles (sym (append-nil ts)) ∙ l
  ended (WithinLevel o us closes r outer) from ts Nothing h e l = absurd (cc)
  ended o from ts (Single m r) h e l = absurd (cc)
  ended o from ts (Inner opens inside closes r) h e l = absurd (cc)

pub walk_ends : (content : List ℕ) (options : Options) (goal : List Role) (ms : List Mark) (s t : Walk) → IsWalkBefore content options goal ms s → ms ≡ []
    → ((o : Around) (from : ℕ) (ts : List Part) → Holds o from ts s → IsSettled o from ts t) → t.pass.roles.items ≡ goal
walk_ends content options goal ms s t h none step = ended content options goal s t step h.o h.from h.ts h.n h.holds (sym none ∙ h.rest) h.leads
