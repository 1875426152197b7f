-- The next node in each record that is already written, and the depth of the node at an index (this project).
use Rattle.std.specs.Prelude.{◌≡◌, ℕ, ◌+◌, ◌≤◌, List, drop, slice_get, unwrap_or, Some}
use Rattle.std.specs.Option.{option_map}
use Rattle.first_pass_items.specs.declared.item.Item.{Item}
use Rattle.first_pass_c.specs.FlatNodes.{deeper_before}
use Rattle.first_pass_c.specs.declared.flat.records.FlatNode.{FlatNode}

-- in each record from an index on, the next node is the first later one that is not deeper (this project)
abbrev pub AreLinked : List (ℕ × Item) → List FlatNode → ℕ → Type 0
AreLinked nodes flat from =
    (k : ℕ) (n : ℕ × Item) (r : FlatNode) → from ≤ k → slice_get nodes k ≡ Some n → slice_get flat k ≡ Some r
    → r.next ≡ (k + 1) + deeper_before n.0 (drop (k + 1) nodes)

-- the depth of the node at an index; 0 if there is none (this project)
abbrev pub depth_at : List (ℕ × Item) → ℕ → ℕ
depth_at nodes at = unwrap_or (option_map (λ n. n.0) (slice_get nodes at)) 0
