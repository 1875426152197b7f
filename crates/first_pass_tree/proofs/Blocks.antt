-- Facts for a caller that adds a block: it opens the block, adds its children and closes it.
use Rattle.std.proofs.Common.{◌≡◌, ℕ, ◌+◌, List, ◌∷◌, ◌++◌, length, refl, ◌∙◌, ap, arith, append_assoc, []}
use Rattle.first_pass_tree.proofs.Common.{TreeIndex, Forest, modify, at_depth, added, block_of, appended, pushed, popped, modified}

pub at_depth-append : {T : Type 0} (d : ℕ) (xs ys : List (ℕ × T)) → at_depth d (xs ++ ys) ≡ at_depth d xs ++ at_depth d ys
at_depth-append d [] ys = refl
at_depth-append d (x ∷ xs) ys = ap (λ z. (d + x.0, x.1) ∷ z) (at_depth-append d xs ys)

pub at_depth-at_depth : {T : Type 0} (d e : ℕ) (xs : List (ℕ × T)) → at_depth d (at_depth e xs) ≡ at_depth (d + e) xs
at_depth-at_depth d e [] = refl
at_depth-at_depth {T = T} d e (x ∷ xs) = grind (arith, at_depth-at_depth d e xs)

modify-here : {T : Type 0} (xs ys : List (ℕ × T)) (n : ℕ × T) (g : T → T) → modify (xs ++ n ∷ ys) (length xs) g ≡ xs ++ (n.0, g n.1) ∷ ys
modify-here [] ys n g = refl
modify-here (x ∷ xs) ys n g = ap (λ z. x ∷ z) (modify-here xs ys n g)

-- a write to the node directly after these
pub modify-at : {T : Type 0} (xs ys : List (ℕ × T)) (n : ℕ × T) (i : ℕ) (g : T → T) → i ≡ length xs → modify (xs ++ n ∷ ys) i g ≡ xs ++ (n.0, g n.1) ∷ ys
modify-at xs ys n i g e = ap (λ k. modify (xs ++ n ∷ ys) k g) e ∙ modify-here xs ys n g

pub forest-eq : {T : Type 0} (f g : Forest T) → f.nodes ≡ g.nodes → f.spine ≡ g.spine → f.current ≡ g.current → f ≡ g
forest-eq f g a b c = grind arith

-- An item is added at an index and opened, its children are added, and it is closed: the forests after these calls.
pub record BlockCalls {T : Type 0} (old : Forest T) (x : T) (kids : List (ℕ × T)) (place : TreeIndex) (closed : Forest T) : Type 0 where
  pub opened : Forest T
  pub filled : Forest T
  pub at : place.0 ≡ length old.nodes
  pub opened_is : opened ≡ pushed (appended old x) place
  pub nodes : filled.nodes ≡ opened.nodes ++ at_depth (length opened.spine + 1) kids
  pub spine : filled.spine ≡ opened.spine
  pub around : filled.spine ≡ place ∷ closed.spine
  pub closed_is : closed ≡ popped filled place closed.spine

-- after these calls and a write of the item, the whole block is added
pub block-built : {T : Type 0} (old : Forest T) (x : T) (g : T → T) (kids : List (ℕ × T)) (place : TreeIndex) (closed : Forest T)
    → BlockCalls old x kids place closed → modified closed place g ≡ added old (block_of (g x) kids)
block-built {T = T} old x g kids place closed c = grind (arith, at_depth-at_depth, append_assoc, forest-eq, modify-at)
