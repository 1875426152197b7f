-- Successive runs of the pass, their number and their least time.
use Rattle.std.proofs.Common.{inl, inr, zero, ◌≡◌, ℕ, ◌+◌, ◌-◌, ◌<◌, ◌≤◌, suc, min, true, false, Option, None, Some, List, [], ◌∷◌, ◌++◌, length}
use Rattle.std.proofs.Common.{length-append, map, take, refl, sym, ap, ◌∙◌, subst, arith, leb-false, leb-true, All, Contains}
use Rattle.std.proofs.Math.Nat.{min-eq_left}
use Rattle.std.proofs.Math.Seq.{take-append_seam}
use Rattle.std.proofs.lemmas.Bool.Decides.{leb_tells}
use Rattle.std.proofs.lemmas.List.{map-append, take-append-le, flat_map_more}
use Rattle.std.proofs.lemmas.List.Elements.{All-append, Contains-append_left, Contains-append_right}
use Rattle.std.proofs.KnownBytes.{Consumes-trans}
use Rattle.std.specs.Io.KnownBytes.{Consumes}
use Rattle.first_pass_host.specs.Timing.{AreEnough, AreTimed, IsLeast, IsTimed, elapsed, enough, end_of_runs, time_of}

-- the end of the last run
last_end-append : (time : ℕ) (runs : List (ℕ × ℕ)) (run : ℕ × ℕ) → end_of_runs time (runs ++ run ∷ []) ≡ run.1
unfolding end_of_runs
last_end-append time [] run = refl
last_end-append time (first ∷ runs) run = last_end-append first.1 runs run

-- a number is the least of itself
least_one : (n : ℕ) → IsLeast n (n ∷ [])
least_one n = record { among = (0, omega arith, refl); below = below } where
  below : All (λ m. n ≤ m) (n ∷ [])
  below zero d h = omega arith
  below (suc k) d h = omega arith

-- the least of some numbers and one more
least_more : (l n : ℕ) (ns : List ℕ) → IsLeast l ns → IsLeast (min l n) (ns ++ n ∷ [])
least_more l n ns least = record {
  among = elim (leb_tells l n) [
    | inl h ↦ subst (Contains (ns ++ n ∷ [])) (sym (min-eq_left h.1)) (Contains-append_left ns (n ∷ []) l least.among)
    | inr h ↦ subst (Contains (ns ++ n ∷ [])) (sym (let e : min l n ≡ n = omega arith in e)) (Contains-append_right ns (n ∷ []) n (least_one n).among)
  ];
  below = All-append (λ m. min l n ≤ m) ns (n ∷ []) (λ k d h. omega (arith, least.below k d h)) (λ k d h. omega (arith, (least_one n).below k d h));
}

-- the runs so far, with the first run and the end of the last; without the last they were not enough
pub record SoFar (asked : Option ℕ) (old new : Option (List ℕ)) (first : ℕ × ℕ) (ended count least : ℕ) : Type 0 where
  pub more : List (ℕ × ℕ)
  pub timed : AreTimed old new (first ∷ more) count least
  pub last : end_of_runs first.1 more ≡ ended
  pub fewer : (k : ℕ) → 0 < k → k < suc (length more) → enough asked k (elapsed (take k (first ∷ more))) ≡ false

-- one run
pub first_run : (asked : Option ℕ) (old new : Option (List ℕ)) (began ended least : ℕ)
    → least ≡ ended - began → Consumes old new (began ∷ ended ∷ []) → SoFar asked old new (began, ended) ended 1 least
unfolding end_of_runs
first_run asked old new began ended least is read = record {
  more = [];
  timed = record { read = read; counted = refl; shortest = subst (λ n. IsLeast n ((ended - began) ∷ [])) (sym is) (least_one (ended - began)) };
  last = refl;
  fewer = λ k some bound. absurd (omega arith);
}

-- one more run is timed too
more_timed : (old mid new : Option (List ℕ)) (runs : List (ℕ × ℕ)) (run : ℕ × ℕ) (count least : ℕ)
    → AreTimed old mid runs count least → Consumes mid new (run.0 ∷ run.1 ∷ [])
    → AreTimed old new (runs ++ run ∷ []) (count + 1) (min least (time_of run))
more_timed old mid new runs run count least timed read = record {
  read = subst (Consumes old new) (flat_map_more (λ r. r.0 ∷ r.1 ∷ []) [] runs run) (Consumes-trans old mid new _ _ timed.read read);
  counted = rw (length-append runs (run ∷ [])) (omega (arith, timed.counted));
  shortest = rw (map-append time_of runs (run ∷ [])) (least_more least (time_of run) (map time_of runs) timed.shortest);
}

-- the runs before the last one were not enough
few_at_last : (asked : Option ℕ) (first run : ℕ × ℕ) (more : List (ℕ × ℕ)) (ended count k : ℕ) → end_of_runs first.1 more ≡ ended → count ≡ suc (length more)
    → enough asked count (ended - first.0) ≡ false → k ≡ suc (length more) → enough asked k (elapsed (take k (first ∷ (more ++ run ∷ [])))) ≡ false
unfolding elapsed
few_at_last asked first run more ended count k last counted bound whole =
    let cut : take k (first ∷ (more ++ run ∷ [])) ≡ first ∷ more =
    ap (λ n. take n (first ∷ (more ++ run ∷ []))) whole ∙ take-append_seam (first ∷ more) (run ∷ []) in
    ap (λ rs. enough asked k (elapsed rs)) cut ∙ ap (λ e. enough asked k (e - first.0)) last ∙ ap (λ n. enough asked n (ended - first.0)) (whole ∙ sym counted)
    ∙ bound

-- one more run is read, after runs that are not enough
pub record OneMore (asked : Option ℕ) (old new : Option (List ℕ)) (first run : ℕ × ℕ) (count least : ℕ) : Type 0 where
  pub before : Option (List ℕ)
  pub ended : ℕ
  pub so_far : SoFar asked old before first ended count least
  pub few : enough asked count (ended - first.0) ≡ false
  pub read : Consumes before new (run.0 ∷ run.1 ∷ [])

-- the runs with that one
pub next_run : (asked : Option ℕ) (old new : Option (List ℕ)) (first run : ℕ × ℕ) (count least counted next : ℕ)
    → OneMore asked old new first run count least → counted ≡ count + 1 → next ≡ min least (time_of run) → SoFar asked old new first run.1 counted next
next_run asked old new first run count least counted next one more is =
    let so_far = one.so_far in
    let runs = first ∷ so_far.more in
    record {
      more = so_far.more ++ run ∷ [];
      timed = rw (more, is) (more_timed old one.before new runs run count least so_far.timed one.read);
      last = last_end-append first.1 so_far.more run;
      fewer = λ k some within. elim (leb_tells (suc k) (suc (length so_far.more))) [
        | inl h ↦ rw (take-append-le k runs (run ∷ []) (omega (arith, h.1))) (so_far.fewer k some h.1)
        | inr h ↦ few_at_last asked first run so_far.more one.ended count k so_far.last so_far.timed.counted one.few
            (let all : length (so_far.more ++ run ∷ []) ≡ length so_far.more + 1 = length-append so_far.more (run ∷ []) in omega (arith, h.1))
      ];
    }

-- the time of all runs together
lasts : (asked : Option ℕ) (first : ℕ × ℕ) (more : List (ℕ × ℕ)) (ended count : ℕ)
    → end_of_runs first.1 more ≡ ended → count ≡ suc (length more) → enough asked count (ended - first.0) ≡ true
    → enough asked (length (first ∷ more)) (elapsed (first ∷ more)) ≡ true
unfolding elapsed
lasts asked first more ended count last counted many =
    ap (λ e. enough asked (suc (length more)) (e - first.0)) last ∙ ap (λ n. enough asked n (ended - first.0)) (sym counted) ∙ many

-- runs that are enough, and were not before the last
just_enough : (asked : Option ℕ) (runs : List (ℕ × ℕ)) → 0 < length runs → enough asked (length runs) (elapsed runs) ≡ true
    → ((k : ℕ) → 0 < k → k < length runs → enough asked k (elapsed (take k runs)) ≡ false) → AreEnough asked runs
just_enough None runs some many fewer = (many, fewer)
just_enough (Some asked) runs some many fewer =
    let reached : asked ≤ length runs = leb-true asked (length runs) many in
    elim (leb_tells 2 (length runs)) [
      | inl h ↦ (
          let below : length runs - 1 < asked = leb-false asked (length runs - 1) (fewer (length runs - 1) (omega (arith, h.1)) (omega (arith, h.1))) in
          omega (arith, h.1))
      | inr h ↦ omega (arith, h.1)
    ]

-- the runs so far, if they are enough
pub all_runs : (asked : Option ℕ) (old new : Option (List ℕ)) (first : ℕ × ℕ) (ended count least took : ℕ)
    → SoFar asked old new first ended count least → enough asked count (ended - first.0) ≡ true → took ≡ time_of first
    → IsTimed asked old new count least took
all_runs asked old new first ended count least took so_far many first_is =
    let runs = first ∷ so_far.more in
    record {
      runs = runs;
      timed = so_far.timed;
      first_is = first_is;
      some = omega (arith, so_far.timed.counted);
      enough = just_enough asked runs (omega arith) (lasts asked first so_far.more ended count so_far.last so_far.timed.counted many) so_far.fewer;
    }
