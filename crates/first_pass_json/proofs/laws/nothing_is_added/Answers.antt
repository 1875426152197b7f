use Rattle.std.proofs.Common.{◌≡◌, ◌++◌, ◌∙◌, ℕ, None, ap, append-nil, codes, decimal}
use Rattle.first_pass_json.specs.JsonLines.{lines_in, range_members}
use Rattle.first_pass_json.specs.PlacedRanges.{placed_members}
use Rattle.first_pass_json.proofs.laws.nothing_is_added.Goals as goal

bare : (start e : ℕ) → placed_members None None start e ≡ range_members start e
unfolding placed_members range_members
bare start e =
    append-nil _ ∙ append-nil _ ∙ ap (λ l. (l ++ codes ",\"end\":") ++ decimal e) (append-nil (codes ",\"start\":" ++ decimal start))

pub returns : goal.returns
returns c names nodes tables =
    let same : placed_members None None ≡ range_members = λ i start e. bare start e i in
    ap (λ range. lines_in range names nodes tables) same
