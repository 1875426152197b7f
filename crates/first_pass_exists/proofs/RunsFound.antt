-- From each place on there is a run of link reference definitions, which may be empty.
use Rattle.std.proofs.Common.{◌≡◌, inl, inr, ℕ, zero, suc, ◌≤◌, Bool, true, false, List, [], ◌∷◌, length, Option, Some, None, refl, ap, ◌∙◌, arith}
use Rattle.std.proofs.Common.{true≢false}
use Rattle.first_pass_grammar.proofs.Common.{Place, Context, at_rest, front, unindented, LinkEntry, link_definition_at, lines_beyond, ends_run, Beyond, Ended}
use Rattle.first_pass_grammar.proofs.Common.{FlowsOn, IsRun}
use Rattle.first_pass_grammar.proofs.Sequences.LinesLeft.{beyond_left}

pub beyond_shorter : (e : ℕ) (lines : List Place) → length (lines_beyond e lines) ≤ length lines
beyond_shorter e lines = beyond_left (λ left. length left ≤ length lines) (λ line left h. omega arith) e lines (omega arith)

pub record RunFound (around : Context) (p : Place) (lines : List Place) : Type 0 where
  pub definitions : List LinkEntry
  pub beyond : Beyond
  pub run : IsRun around p lines definitions beyond

further_by : (around : Context) (p : Place) (lines rest : List Place) (x : LinkEntry) (t : Bool)
    → link_definition_at around p ≡ Some x → lines_beyond x.«end» lines ≡ rest → ends_run around rest ≡ t → length rest ≤ length lines
    → ((q : Place) (left : List Place) → suc (length left) ≤ length lines → RunFound around q left) → RunFound around p lines
unfolding IsRun
further_by around p lines rest x true here is ends less further =
    record {
      definitions = x ∷ [];
      beyond = Ended p (lines_beyond x.«end» lines);
      run = (here, inl (ap (ends_run around) is ∙ ends, refl, refl));
    }
further_by around p lines [] x false here is ends less further = absurd (true≢false ends)
further_by around p lines (line ∷ left) x false here is ends less further =
    let r = further (unindented (at_rest line (front around.path line.rest))) left less in
    record { definitions = x ∷ r.definitions; beyond = r.beyond; run = (here, inr (line, left, is, ends, r.run)) }

found_by : (around : Context) (p : Place) (lines : List Place) (o : Option LinkEntry) → link_definition_at around p ≡ o
    → ((q : Place) (left : List Place) → suc (length left) ≤ length lines → RunFound around q left) → RunFound around p lines
unfolding IsRun
found_by around p lines None is further = record { definitions = []; beyond = FlowsOn p lines; run = (is, refl) }
found_by around p lines (Some x) is further =
    further_by around p lines (lines_beyond x.«end» lines) x (ends_run around (lines_beyond x.«end» lines)) is refl refl (beyond_shorter x.«end» lines) further

run_within : (fuel : ℕ) (around : Context) (p : Place) (lines : List Place) → length lines ≤ fuel → RunFound around p lines
run_within zero around p lines bound = found_by around p lines (link_definition_at around p) refl (λ q left less. absurd (omega arith))
run_within (suc fuel) around p lines bound =
    found_by around p lines (link_definition_at around p) refl (λ q left less. run_within fuel around q left (omega arith))

pub run_found : (around : Context) (p : Place) (lines : List Place) → RunFound around p lines
run_found around p lines = run_within (length lines) around p lines (omega arith)
