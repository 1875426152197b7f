-- The marks of the chains of a text.
use Rattle.std.specs.Prelude.{◌≡◌, ℕ, ◌+◌, List, [], ◌∷◌, if◌then◌else◌}
use Rattle.std.specs.List.{AllZip}
use Rattle.first_pass_items.specs.declared.item.Item.{Item}
use Rattle.first_pass_content.specs.Chains.{chain_after, has_chain}
use Rattle.first_pass_content.specs.Content.{ContentByte, bytes_of, content}
use Rattle.first_pass_content.specs.Tokens.{placed_tokens}
use Rattle.first_pass_content.specs.declared.tokens.PlacedToken.{PlacedToken}
use Rattle.first_pass_inline.specs.Labels.{TextLabels}
use Rattle.first_pass_inline.specs.Look.{Chain}
use Rattle.first_pass_inline.specs.Marks.{AreMarks}
use Rattle.first_pass_inline.specs.declared.inlines.BlockInlines.{BlockInlines}

-- the chain of these nodes, with this content and these tokens
abbrev pub chain_with : List (ℕ × Item) → List ContentByte → List PlacedToken → TextLabels → Chain
chain_with nodes bytes tokens labels = record {
  nodes = nodes;
  tokens = tokens;
  bytes = bytes_of bytes;
  options = labels.options;
  definitions = labels.definitions;
  footnotes = labels.footnotes;
}

-- the chain with these tokens of a text
abbrev pub chain_of : List ℕ → List (ℕ × Item) → TextLabels → Chain
chain_of text tokens labels = chain_with tokens (content text tokens) (placed_tokens text 0 tokens) labels

-- the blocks that have a chain among these nodes, which are in reading order: the index of each, given that of the first
-- node, and its chain
unfoldable pub chains_from : ℕ → List (ℕ × Item) → List (ℕ × List (ℕ × Item))
chains_from index [] = []
chains_from index (n ∷ nodes) =
    if has_chain n.1.body then (index, chain_after n nodes) ∷ chains_from (index + 1) nodes else chains_from (index + 1) nodes

-- the content and the marks of the chain of a block
pub record IsOfBlock (text : List ℕ) (labels : TextLabels) (block : ℕ × List (ℕ × Item)) (found : BlockInlines) : Type 0 where
  pub block_is : found.block ≡ block.0
  pub content_is : found.inlines.content ≡ content text block.1
  pub are_marks : AreMarks (chain_of text block.1 labels) found.inlines.marks.items

-- the same for each block of a text that has a chain, in reading order
abbrev pub AreInlines : List ℕ → TextLabels → List (ℕ × Item) → List BlockInlines → Type 0
AreInlines text labels nodes found = AllZip (IsOfBlock text labels) (chains_from 0 nodes) found
