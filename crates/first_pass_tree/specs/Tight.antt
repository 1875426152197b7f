-- Making the paragraphs of a list tight (CommonMark 5.3).
use Rattle.std.specs.Prelude.{ℕ, ◌+◌, ◌==◌, zero, suc, nat_lt, List, [], ◌∷◌, slice_index, if◌then◌else◌}
use Rattle.first_pass_items.specs.declared.item.Item.{Item}
use Rattle.first_pass_items.specs.declared.item.ItemBody.{ItemBody}
use Rattle.first_pass_items.specs.declared.item.ItemBody.TheVariants.{Paragraph, TightParagraph}
use Rattle.first_pass_tree.specs.declared.tree_index.TreeIndex.{TreeIndex}
use Rattle.first_pass_tree.specs.Forest.{Forest, depths}

-- the body of a node directly in an item of a tight list: a paragraph becomes tight (CommonMark 5.3)
abbrev pub tight_body : ItemBody → ItemBody
tight_body Paragraph = TightParagraph
tight_body body = body

-- a node below a tight list; a paragraph at this depth, that of the blocks in the items, becomes tight
abbrev pub tightened : ℕ → ℕ × Item → ℕ × Item
tightened depth n = (n.0, if n.0 == depth then record { start = n.1.start; «end» = n.1.«end»; body = tight_body n.1.body } else n.1)

-- the nodes after a node of this depth: up to the first that is not below it, paragraphs two levels deeper become tight
unfoldable pub tight_run : ℕ → List (ℕ × Item) → List (ℕ × Item)
tight_run depth [] = []
tight_run depth (n ∷ ns) = if nat_lt depth n.0 then tightened (depth + 2) n ∷ tight_run depth ns else n ∷ ns

-- the same for the nodes from an index on
unfoldable pub tight_at : ℕ → ℕ → List (ℕ × Item) → List (ℕ × Item)
tight_at depth zero ns = tight_run depth ns
tight_at depth (suc i) [] = []
tight_at depth (suc i) (n ∷ ns) = n ∷ tight_at depth i ns

-- the nodes; the one at an index, below a node of this depth, becomes tight if it is a paragraph two levels deeper
unfoldable pub tight_node : ℕ → ℕ → List (ℕ × Item) → List (ℕ × Item)
tight_node depth i [] = []
tight_node depth zero (n ∷ ns) = tightened (depth + 2) n ∷ ns
tight_node depth (suc i) (n ∷ ns) = n ∷ tight_node depth i ns

-- the same for a tree, whose other parts stay the same
abbrev pub with_tight_node : Forest Item → ℕ → TreeIndex → Forest Item
with_tight_node f depth ix = record f { nodes = tight_node depth ix.0 f.nodes }

-- the tree after the paragraphs directly in the items of a list of this depth are made tight, from an index on
abbrev pub tight_from : Forest Item → ℕ → ℕ → Forest Item
tight_from f depth i = record f { nodes = tight_at depth i f.nodes }

-- the tree after the paragraphs directly in the items of a list are made tight (CommonMark 5.3)
abbrev pub tight_items : Forest Item → TreeIndex → Forest Item
tight_items f ix = record f { nodes = tight_at (slice_index (depths f.nodes) ix.0) (ix.0 + 1) f.nodes }
