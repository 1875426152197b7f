-- A chain in order, as the pass leaves it, and the order of the ranges of a content.
use Rattle.std.specs.Prelude.{◌≡◌, ℕ, ◌-◌, ◌<◌, ◌≤◌, Bool, true, false, List, [], ◌∷◌, nat_lt, slice_index, take, IsCharBoundary, if◌then◌else◌}
use Rattle.std.specs.List.{prefix_len}
use Rattle.first_pass_items.specs.Bytes.{backslash}
use Rattle.first_pass_items.specs.declared.item.Item.{Item}
use Rattle.first_pass_items.specs.declared.item.ItemBody.{ItemBody}
use Rattle.first_pass_items.specs.declared.item.ItemBody.TheVariants.{Paragraph, TightParagraph, Heading, TableCell, DefinitionListTitle}
use Rattle.first_pass_reports.specs.Pairs.{is_escaped}
use Rattle.first_pass_content.specs.Content.{ContentByte}

-- if a backslash was dropped before a token, it is directly before the token, and at or after an offset (CommonMark 2.4,
-- 6.1)
abbrev pub FollowsBackslash : List ℕ → ℕ → Item → Type 0
FollowsBackslash text from x = is_escaped x.body ≡ true → (from < x.start) × (slice_index text (x.start - 1) ≡ backslash)

-- The tokens of a chain are in order between two offsets, and each begins and ends on a character boundary. Each
-- backslash that was dropped is directly before its token, and in no other one (CommonMark 2.4, 6.1, and this project).
abbrev pub IsChainIn : List ℕ → ℕ → ℕ → List (ℕ × Item) → Type 0
IsChainIn text from to [] = from ≤ to
IsChainIn text from to (x ∷ xs) =
    (from ≤ x.1.start) × (x.1.start ≤ x.1.«end») × IsCharBoundary text x.1.start × IsCharBoundary text x.1.«end» × FollowsBackslash text from x.1
    × IsChainIn text x.1.«end» to xs

-- the ranges of the bytes of a content are in order between two offsets
abbrev pub AreRangesIn : ℕ → ℕ → List ContentByte → Type 0
AreRangesIn from to [] = from ≤ to
AreRangesIn from to (b ∷ c) = (from ≤ b.start) × (b.start ≤ b.«end») × AreRangesIn b.«end» to c

-- the tokens of a chain are in order (this project)
abbrev pub IsChain : List ℕ → List (ℕ × Item) → Type 0
IsChain text tokens = (from : ℕ) × (to : ℕ) × IsChainIn text from to tokens

-- a block whose nodes are a chain of tokens (CommonMark 4.8, 4.2, 4.3; GFM 4.10; for titles this project)
abbrev pub has_chain : ItemBody → Bool
has_chain Paragraph = true
has_chain TightParagraph = true
has_chain (Heading level index) = true
has_chain TableCell = true
has_chain DefinitionListTitle = true
has_chain _ = false

-- the chain of a node, given the nodes after it: those that are deeper, if it is such a block
abbrev pub chain_after : ℕ × Item → List (ℕ × Item) → List (ℕ × Item)
chain_after n nodes = if has_chain n.1.body then take (prefix_len (λ (m : ℕ × Item). nat_lt n.0 m.0) nodes) nodes else []

-- the chain of each of these nodes, which are in reading order, is in order (this project)
abbrev pub AreChains : List ℕ → List (ℕ × Item) → Type 0
AreChains text [] = Unit {0}
AreChains text (n ∷ nodes) = IsChain text (chain_after n nodes) × AreChains text nodes
