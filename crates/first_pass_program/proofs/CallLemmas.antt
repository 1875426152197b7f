-- The matches of a call.
use Rattle.std.proofs.Common.{◌≡◌, ◌∙◌, ℕ, List, [], ◌++◌, if◌then◌else◌, Bor, Option, Some, None, Result, Ok, Err, OnOk, is_ok, ap, codes, false, map}
use Rattle.std.proofs.Common.{option_map, refl, subst, true, unwrap_or}
use Rattle.std.proofs.lemmas.List.{map-append}
use Rattle.std.specs.Option.{option_map_or}
use Rattle.std.specs.Str.{bytes_eq}
use Rattle.clap.proofs.OnLiterals.{clap_on_literals}
use Rattle.clap.proofs.WalkLemmas.{first_value-rows, raw_values-rows}
use Rattle.clap.specs.Matches.{first_value, matched_of, raw_values}
use Rattle.clap.specs.Words.{first_of, is_simple, rows_of}
use Rattle.clap.specs.declared.parser.matches.Found.{Found}
use Rattle.first_pass_program.specs.Apps.{first_pass_app}
use Rattle.first_pass_program.specs.Calls.{AsksRuns, GivesRuns, is_on, values_in}

-- clap's reading of the words of the program is exact
pub simple : is_simple first_pass_app ≡ true
unfolding clap_on_literals
simple = refl

-- the values of an argument that has some
pub values_given : (found : Found) (id : List ℕ) (values : List (List ℕ)) → Some values ≡ option_map raw_values (matched_of found id)
    → values ≡ values_in id (rows_of found)
values_given found id values held = ap (λ o. unwrap_or o []) (held ∙ raw_values-rows found id)

-- the values of an argument that has none
pub values_left : (found : Found) (id : List ℕ) → None ≡ option_map raw_values (matched_of found id) → [] ≡ values_in id (rows_of found)
values_left found id none = ap (λ o. unwrap_or o []) (none ∙ raw_values-rows found id)

-- the values of an argument are appended to texts
pub values_appended : {E : Type 0} (result : Result (Unit {0}) E) (old new more : List (Bor (List ℕ))) (values : List (List ℕ))
    → new ≡ (if is_ok result then old ++ more else old) → map (λ v. v.now) more ≡ values
    → OnOk result (map (λ v. v.now) new ≡ map (λ v. v.now) old ++ values)
values_appended (Ok x) old new more values appended are =
    ap (map (λ v. v.now)) appended ∙ map-append (λ (v : Bor (List ℕ)). v.now) old more ∙ ap (λ l. map (λ v. v.now) old ++ l) are
values_appended (Err e) old new more values appended are = tt

-- a flag that has a value
pub flag_on : (found : Found) (id value : List ℕ) → Some value ≡ first_value found id → bytes_eq value (codes "true") ≡ is_on id (rows_of found)
flag_on found id value held = ap (λ o. option_map_or (λ v. bytes_eq v (codes "true")) o false) (held ∙ first_value-rows found id)

-- a flag without a value
pub flag_off : (found : Found) (id : List ℕ) → None ≡ first_value found id → false ≡ is_on id (rows_of found)
flag_off found id none = ap (λ o. option_map_or (λ v. bytes_eq v (codes "true")) o false) (none ∙ first_value-rows found id)

-- a number of runs
pub runs_given : (found : Found) (word : List ℕ) (runs : ℕ) → Some word ≡ first_value found (codes "runs") → GivesRuns word runs
    → AsksRuns (first_of (codes "runs") (rows_of found)) (Some runs)
runs_given found word runs held gives = subst (λ o. AsksRuns o (Some runs)) (held ∙ first_value-rows found (codes "runs")) gives

-- no number of runs
pub runs_left : (found : Found) → None ≡ first_value found (codes "runs") → AsksRuns (first_of (codes "runs") (rows_of found)) None
runs_left found none = subst (λ o. AsksRuns o None) (none ∙ first_value-rows found (codes "runs")) refl

-- the name and the rows of a subcommand
pub both_parts : {A B C : Type 0} (f : A → B) (g : A → C) (s : Option A) (b : B) (c : C) → Some b ≡ option_map f s
    → Some c ≡ option_map (λ (p : B × C). p.1) (option_map {U = B × C} (λ a. (f a, g a)) s) → option_map {U = B × C} (λ a. (f a, g a)) s ≡ Some (b, c)
both_parts f g None b c named rows = cc
both_parts f g (Some a) b c named rows = cc
