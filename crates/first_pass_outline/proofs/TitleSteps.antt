-- The title of a node.
use Rattle.std.proofs.Common.{◌≡◌, ℕ, List, [], ◌∷◌, length, refl, ap, arith}
use Rattle.std.specs.List.{cons_option}
use Rattle.first_pass_grammar.proofs.Common.{Item, Names}
use Rattle.first_pass_outline.specs.Titles.{title_of, titles}

-- the headings of nodes, the first node apart
pub titles_first : (text : List ℕ) (names : Names) (node : ℕ × Item) (others nodes : List (ℕ × Item)) → nodes ≡ node ∷ others
    → titles text names nodes ≡ cons_option (title_of text names node others) (titles text names others)
unfolding titles
titles_first text names node others nodes are = ap (titles text names) are

pub no_titles : (text : List ℕ) (names : Names) (nodes : List (ℕ × Item)) → length nodes ≡ 0 → titles text names nodes ≡ []
unfolding titles
no_titles text names [] none = refl
no_titles text names (node ∷ nodes) none = absurd (omega arith)
