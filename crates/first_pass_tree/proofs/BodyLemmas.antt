-- The body of a node, after nodes change.
use Rattle.std.proofs.Common.{◌≡◌, ℕ, zero, suc, ◌<◌, List, ◌∷◌, slice_get, Option, Some, refl, ap, arith, option_map, []}
use Rattle.first_pass_tree.proofs.Common.{TreeIndex, Forest, modify, body_at, item_at, Item, ItemBody}

-- a change that keeps the body
pub body-kept : (nodes : List (ℕ × Item)) (place i : ℕ) (g : Item → Item)
    → ((x : Item) → (g x).body ≡ x.body) → body_at (modify nodes place g) i ≡ body_at nodes i
body-kept [] place i g h = refl
body-kept (n ∷ nodes) zero zero g h = ap (λ b. Some b) (h n.1)
body-kept (n ∷ nodes) zero (suc i) g h = refl
body-kept (n ∷ nodes) (suc place) zero g h = refl
body-kept (n ∷ nodes) (suc place) (suc i) g h = body-kept nodes place i g h

-- a change at another index
pub body-other : (nodes : List (ℕ × Item)) (place i : ℕ) (g : Item → Item) → i < place → body_at (modify nodes place g) i ≡ body_at nodes i
body-other [] place i g h = refl
body-other (n ∷ nodes) zero i g h = absurd (omega arith)
body-other (n ∷ nodes) (suc place) zero g h = refl
body-other (n ∷ nodes) (suc place) (suc i) g h = body-other nodes place i g (omega arith)

pub body-later : (nodes : List (ℕ × Item)) (place i : ℕ) (g : Item → Item) → place < i → body_at (modify nodes place g) i ≡ body_at nodes i
body-later [] place i g h = refl
body-later (n ∷ nodes) zero zero g h = absurd (omega arith)
body-later (n ∷ nodes) zero (suc i) g h = refl
body-later (n ∷ nodes) (suc place) zero g h = refl
body-later (n ∷ nodes) (suc place) (suc i) g h = body-later nodes place i g (omega arith)

-- a change at an index
pub body-changed : (nodes : List (ℕ × Item)) (place : ℕ) (g : Item → Item) (b c : ItemBody)
    → body_at nodes place ≡ Some b → ((x : Item) → x.body ≡ b → (g x).body ≡ c) → body_at (modify nodes place g) place ≡ Some c
body-changed [] place g b c h f = cc
body-changed (n ∷ nodes) zero g b c h f = (let e : n.1.body ≡ b = cc in ap (λ z. Some z) (f n.1 e))
body-changed (n ∷ nodes) (suc place) g b c h f = body-changed nodes place g b c h f

-- two changes that agree on the item at an index
pub changed_alike : (nodes : List (ℕ × Item)) (place : ℕ) (g h : Item → Item) (b : ItemBody)
    → body_at nodes place ≡ Some b → ((x : Item) → x.body ≡ b → g x ≡ h x) → modify nodes place g ≡ modify nodes place h
changed_alike [] place g h b is same = refl
changed_alike (n ∷ nodes) zero g h b is same = (let e : n.1.body ≡ b = cc in ap (λ z. (n.0, z) ∷ nodes) (same n.1 e))
changed_alike (n ∷ nodes) (suc place) g h b is same = ap (λ z. n ∷ z) (changed_alike nodes place g h b is same)

-- a change that does nothing to the item at an index
pub not_changed : (nodes : List (ℕ × Item)) (place : ℕ) (g : Item → Item) (b : ItemBody)
    → body_at nodes place ≡ Some b → ((x : Item) → x.body ≡ b → g x ≡ x) → modify nodes place g ≡ nodes
not_changed [] place g b is same = refl
not_changed (n ∷ nodes) zero g b is same = (let e : n.1.body ≡ b = cc in ap (λ z. (n.0, z) ∷ nodes) (same n.1 e))
not_changed (n ∷ nodes) (suc place) g b is same = ap (λ z. n ∷ z) (not_changed nodes place g b is same)

body_by : (o : Option (ℕ × Item)) (x : Item) → option_map (λ n. n.1) o ≡ Some x → option_map (λ n. n.1.body) o ≡ Some x.body
body_by o x h = grind arith

-- the body of a node that is read
pub body_of : (f : Forest Item) (ix : TreeIndex) (x : Item) → item_at f ix ≡ Some x → body_at f.nodes ix.0 ≡ Some x.body
body_of f ix x h = body_by (slice_get f.nodes ix.0) x h
