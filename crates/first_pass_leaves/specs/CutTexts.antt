-- The chain of a heading's text without its attribute block.
use Rattle.std.specs.Prelude.{◌≡◌, ◌⊎◌, ℕ, ◌+◌, ◌≤◌, Bool, List, length, Option, None, IfSome, IsSomeAnd, IsCharBoundary}
use Rattle.std.specs.Option.{option_map, option_map_or}
use Rattle.first_pass_items.specs.declared.item.HeadingIndex.{HeadingIndex}
use Rattle.first_pass_items.specs.declared.item.HeadingLevel.{HeadingLevel}
use Rattle.first_pass_items.specs.declared.item.Item.{Item}
use Rattle.first_pass_items.specs.declared.item.ItemBody.TheVariants.{Heading}
use Rattle.first_pass_items.specs.declared.option_set.Options.{Options}
use Rattle.first_pass_tree.specs.declared.tree_index.TreeIndex.{TreeIndex}
use Rattle.first_pass_tree.specs.Forest.{Forest, open_place, item_at, with_body_at, cut_siblings}
use Rattle.first_pass_tokens.specs.Chains.{cut}
use Rattle.first_pass_tokens.specs.TreeTokens.{chained}
use Rattle.first_pass_grammar.specs.Headings.{heading_attribute_block, heading_attributes_of, chain_bytes, kept_before}
use Rattle.first_pass_grammar.specs.Leaves.{Document}
use Rattle.first_pass_grammar.specs.Names.{Names, NamesAttributes, NamesEntry, AttributesAt, Extends}

-- the innermost open node is the last node, and has no children
pub record IsLastAndChildless (f : Forest Item) : Type 0 where
  pub last : open_place f.spine + 1 ≡ length f.nodes
  pub none : f.current ≡ None

-- a chain that begins at an offset, without the attribute block at its end; `broken` if a backslash breaks its last
-- line
abbrev pub cut_chain : List ℕ → Options → ℕ → Bool → List Item → List Item
cut_chain text options start broken chain =
    option_map_or (λ block. cut (start + kept_before broken block.opening (chain_bytes text start chain)) chain)
    (heading_attribute_block options (chain_bytes text start chain)) chain

-- The innermost open node has only the chain of a heading's text that begins at an offset. The attribute block is cut
-- off that chain, and the index names the attributes, also if names are added.
abbrev pub CutsBlock : Document → ℕ → Bool → Forest Item → Forest Item → Option HeadingIndex → Type 0
CutsBlock d start broken old new index =
    (f : Forest Item) → (chain : List Item) → IsLastAndChildless f → old ≡ chained f chain
    → (new ≡ chained f (cut_chain d.text d.options start broken chain))
    × ((more : Names) → Extends more d.names → NamesAttributes more index (heading_attributes_of d.options (chain_bytes d.text start chain)))

-- The tree is unchanged, or the children of its innermost open node are cut at a character boundary that is not
-- before an offset.
abbrev pub CutsChildren : List ℕ → ℕ → Forest Item → Forest Item → Type 0
CutsChildren text start old new = (new ≡ old) ⊎ ((e : ℕ) × (start ≤ e) × IsCharBoundary text e × (new ≡ cut_siblings old e))

-- An open block becomes a heading of this level, and the attribute block is cut off the chain in it; `broken` if a
-- backslash breaks the last line of its text. The block's children are unchanged or cut. The heading's index, if it
-- has one, names attributes (CommonMark 4.3, and this project).
pub record BecomesHeading (d : Document) (level : HeadingLevel) (broken : Bool) (block : TreeIndex) (old new : Forest Item) : Type 0 where
  pub index : Option HeadingIndex
  pub cut : Forest Item
  pub cuts : IfSome (item_at old block) (λ x. CutsBlock d x.start broken old cut index)
  pub children : IsSomeAnd (item_at old block) (λ x. CutsChildren d.text x.start old cut)
  pub entry : NamesEntry d.names (option_map AttributesAt index)
  pub tree_is : new ≡ with_body_at cut block (Heading level index)
