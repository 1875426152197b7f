-- Rows with cells that read alike read alike themselves.
use Rattle.std.proofs.Common.{◌≡◌, ℕ, ◌-◌, List, ◌∷◌, length, replicate, refl, ap, arith, []}
use Rattle.first_pass_grammar.proofs.Common.{AllZip, Item, ItemBody, block_of, Names, read, node_of, cell_block, inserted, side_by_side, row_cells, row_block}
use Rattle.std.proofs.lemmas.List.Elements.{length_all_zip}
use Rattle.first_pass_grammar.proofs.Each.EachPair.{first_pairs, pair_copies, both_pairs}
use Rattle.first_pass_grammar.proofs.Uniqueness.Alike.{AlikeNodes, nodes_append, read_at_depth}

-- two lists have as many blocks, and blocks at the same place read alike
abbrev pub AlikeBlocks : Names → Names → List (List (ℕ × Item)) → List (List (ℕ × Item)) → Type 0
AlikeBlocks m n xs ys = AllZip (AlikeNodes m n) xs ys

pub as_many : (m n : Names) (xs ys : List (List (ℕ × Item))) → AlikeBlocks m n xs ys → length xs ≡ length ys
as_many m n xs ys h = length_all_zip (AlikeNodes m n) xs ys h

side_alike : (m n : Names) (xs ys : List (List (ℕ × Item))) → AlikeBlocks m n xs ys → AlikeNodes m n (side_by_side xs) (side_by_side ys)
side_alike m n [] [] h = refl
side_alike m n (x ∷ xs) (y ∷ ys) h = nodes_append m n x y (side_by_side xs) (side_by_side ys) h.0 (side_alike m n xs ys h.1)
side_alike m n xs ys h = absurd h

-- blocks read alike if their items and their children do
pub own_alike : (m n : Names) (x y : Item) (kids kids' : List (ℕ × Item)) → read m x ≡ read n y → AlikeNodes m n kids kids'
    → AlikeNodes m n (block_of x kids) (block_of y kids')
own_alike m n x y kids kids' h k = grind (arith, read_at_depth)

pub row_alike : (m n : Names) (body : ItemBody) (columns start : ℕ) (cells cells' : List (List (ℕ × Item))) (stop : ℕ)
    → read m (node_of start stop body) ≡ read n (node_of start stop body) → AlikeBlocks m n cells cells'
    → AlikeNodes m n (row_block body columns start cells stop) (row_block body columns start cells' stop)
row_alike m n body columns start cells cells' stop own are =
    let empty : List (ℕ × Item) = cell_block stop stop [] in
    let node_bound : inserted columns cells ≡ inserted columns cells' = ap (λ (k : ℕ). columns - k) (as_many m n cells cells' are) in
    let copies : AlikeBlocks m n (replicate (inserted columns cells) empty) (replicate (inserted columns cells') empty) = grind (arith, pair_copies) in
    own_alike m n (node_of start stop body) (node_of start stop body) (row_cells columns cells stop) (row_cells columns cells' stop) own
    (grind (arith, side_alike, both_pairs, first_pairs))
