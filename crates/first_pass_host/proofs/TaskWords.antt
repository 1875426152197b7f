-- Words that give no task.
use Rattle.std.proofs.Common.{◌≢◌, ℕ, List, [], ◌∷◌, String, length, take, refl}
use Rattle.first_pass_host.specs.OptionWord.{WordsMean}
use Rattle.first_pass_host.specs.declared.task.Task.{Task}
use Rattle.first_pass_host.specs.Task.{AskFor}

-- words that denote no options, and are not two
pub refused_whole : {A : Type 0} (words : List (String A)) → length words ≢ 2 → ((bits : ℕ) → WordsMean words bits → ⊥) → (task : Task) → AskFor words task → ⊥
refused_whole [] other refused task asked = refused task.options.0 asked.1
refused_whole (bits ∷ []) other refused task asked = refused task.options.0 asked.1
refused_whole (bits ∷ runs ∷ []) other refused task asked = absurd (other refl)
refused_whole (bits ∷ runs ∷ third ∷ more) other refused task asked = asked

-- two words, of which the first denotes no options
pub refused_first : {A : Type 0} (words : List (String A)) → ((bits : ℕ) → WordsMean (take 1 words) bits → ⊥) → (task : Task) → AskFor words task → ⊥
refused_first [] refused task asked = refused task.options.0 asked.1
refused_first (bits ∷ []) refused task asked = refused task.options.0 asked.1
refused_first (bits ∷ runs ∷ []) refused task asked = refused task.options.0 asked.0
refused_first (bits ∷ runs ∷ third ∷ more) refused task asked = asked
