-- The recorded subtrees of a tree: where each begins, and how far it is known to reach. All terms are this project's.
use Rattle.std.specs.Prelude.{ℕ, ◌+◌, ◌<◌, ◌≤◌, ◌==◌, ◌||◌, nat_lt, Bool, List, [], ◌∷◌, length, Option, Some, None, slice_index, if◌then◌else◌}
use Rattle.first_pass_tree.specs.declared.subtrees.Subtree.{Subtree}
use Rattle.first_pass_tree.specs.Forest.{Forest, IsForest, depths}

-- the nodes after an index, up to another, are descendants of the node at that index
pub record IsSubtree (ds : List ℕ) (place : ℕ) (past : ℕ) : Type 0 where
  pub following : place < past
  pub deeper : (k : ℕ) → place < k → k < past → slice_index ds place < slice_index ds k

-- These records, the last one first, are subtrees of a tree with these depths. Each ends at or before the end of the
-- one recorded next, and the last one at or before n.
abbrev pub AreSubtrees : List ℕ → ℕ → List Subtree → Type 0
AreSubtrees ds n [] = Unit {0}
AreSubtrees ds n (s ∷ ss) = (s.past ≤ n) × IsSubtree ds s.place s.past × AreSubtrees ds s.past ss

-- the invariant of a tree's fields: they form a forest, and the records are subtrees of it
pub record IsTree {T : Type 0} (f : Forest T) (subtrees : List Subtree) : Type 0 where
  pub forest : IsForest f
  pub known : AreSubtrees (depths f.nodes) (length f.nodes) subtrees

-- the record of the subtree that begins with the node at an index, and ends before another index
abbrev pub subtree : ℕ → ℕ → Subtree
subtree place past = record { place = place; past = past }

-- the records, the last one first; the last ones are dropped as long as they end after the first `count` nodes
abbrev pub within_first : ℕ → List Subtree → List Subtree
within_first count [] = []
within_first count (s ∷ ss) = if nat_lt count s.past then within_first count ss else s ∷ ss

-- The records. If the last one is that of the node at `place`, its subtree now ends before an index; but if it is also
-- the only one, it is removed.
abbrev pub ended_last : ℕ → ℕ → List Subtree → List Subtree
ended_last place past [] = []
ended_last place past (s ∷ []) = if s.place == place then [] else s ∷ []
ended_last place past (s ∷ outer ∷ ss) = (if s.place == place then subtree place past else s) ∷ outer ∷ ss

-- The records once the subtree of the node at `place` ends before an index. Records of subtrees inside it are removed.
-- Its own record is removed too if no other remains.
abbrev pub ended : ℕ → ℕ → List Subtree → List Subtree
ended place past ss = ended_last place past (within_first (place + 1) ss)

-- the subtree begins before an index or ends after another
abbrev pub stands_outside : ℕ → ℕ → Subtree → Bool
stands_outside from to s = nat_lt s.place from || nat_lt to s.past

-- the last record, if its subtree is between two indices
abbrev pub last_between : ℕ → ℕ → List Subtree → Option Subtree
last_between from to [] = None
last_between from to (s ∷ ss) = if stands_outside from to s then None else Some s

-- the records without the last one, if its subtree is between two indices
abbrev pub left_between : ℕ → ℕ → List Subtree → List Subtree
left_between from to [] = []
left_between from to (s ∷ ss) = if stands_outside from to s then s ∷ ss else ss
