-- The contents of an open paragraph, the heading that an underline makes of it, and where reading continues after a
-- row of a table.
use Rattle.std.specs.Prelude.{◌≡◌, ℕ, ◌+◌, ◌-◌, ◌<◌, ◌≤◌, true, Bool, List, [], ◌∷◌, ◌++◌, length, drop, max, slice_get, slice_index, Option, Some, None}
use Rattle.std.specs.Prelude.{MatchOption}
use Rattle.std.specs.Prelude.{IfSome, IsCharBoundary}
use Rattle.std.specs.Option.{option_map}
use Rattle.first_pass_items.specs.Bytes.{backslash}
use Rattle.first_pass_items.specs.declared.item.Item.{Item}
use Rattle.first_pass_items.specs.declared.item.AlignmentIndex.{AlignmentIndex}
use Rattle.first_pass_items.specs.declared.item.ItemBody.TheVariants.{Paragraph, Table}
use Rattle.first_pass_tree.specs.declared.tree_index.TreeIndex.{TreeIndex}
use Rattle.first_pass_tree.specs.Forest.{Forest, appended, is_escaped, item_at}
use Rattle.first_pass_scan.specs.LeafLines.{setext_underline}
use Rattle.first_pass_tokens.specs.Braces.{no_braces}
use Rattle.first_pass_tokens.specs.LineTokens.{is_break, spot}
use Rattle.first_pass_tokens.specs.TreeTokens.{chained}
use Rattle.first_pass_grammar.specs.Completion.{lines_from}
use Rattle.first_pass_grammar.specs.Leaves.{Document, document, TextLines, AreTextLines, marker_items}
use Rattle.first_pass_grammar.specs.OpenOrder.{IsOrderedTo}
use Rattle.first_pass_grammar.specs.Order.{is_text_block}
use Rattle.first_pass_names.specs.TableEntries.{names_of}
use Rattle.first_pass_open.specs.Between.{line_end_at, MarkerBetween}
use Rattle.first_pass_open.specs.OpenBlock.{IsJustPushed, begun_item, with_child}
use Rattle.first_pass_open.specs.Path.{path_of}
use Rattle.first_pass_lists.specs.Closing.{top_body}
use Rattle.first_pass_leaves.specs.CutTexts.{BecomesHeading}
use Rattle.first_pass.specs.declared.state.FirstPass.{FirstPass}
use Rattle.first_pass.specs.Adding.{MayAddAt}
use Rattle.first_pass.specs.Kept.{KeepsNames}
use Rattle.first_pass.specs.Views.{allocs_of, state_of, source_options, source_text, tree_of, with_tree}

-- where reading continues after a row of a table: at its end, or at the given offset if there is no row (this project)
abbrev pub after_row : Option (ℕ × TreeIndex) → ℕ → ℕ
after_row None at = at
after_row (Some row) at = row.0

-- a text marked as escaped is directly after a backslash, and that backslash is at or after an offset (CommonMark 2.4)
abbrev pub StandsAfterBackslash : List ℕ → ℕ → Item → Type 0
StandsAfterBackslash text from x = is_escaped x.body ≡ true → (from < x.start) × (slice_index text (x.start - 1) ≡ backslash)

-- These nodes are tokens at one depth: none has children. No backslash that escapes a text is inside an earlier token
-- or before an offset (CommonMark 2.4, and this project).
abbrev pub AreTokens : List ℕ → ℕ → ℕ → List (ℕ × Item) → Type 0
AreTokens text depth from [] = Unit {0}
AreTokens text depth from (n ∷ nodes) =
    (n.0 ≡ depth) × StandsAfterBackslash text from n.1 × AreTokens text depth (max from n.1.«end») nodes

-- The innermost open node is a paragraph, or another block with text, and its children are tokens (CommonMark 4.8,
-- and this project).
pub record HoldsTokens (text : List ℕ) (f : Forest Item) (block : TreeIndex) : Type 0 where
  pub node : Item
  pub there : item_at f block ≡ Some node
  pub has_text : is_text_block node.body ≡ true
  pub tokens : AreTokens text (length f.spine + 1) node.start (drop (block.0 + 1) f.nodes)

-- These tokens are in order between two offsets. Each escaped text is directly after its backslash, which is in no token
-- (CommonMark 2.4, and this project).
abbrev pub AreTokensIn : List ℕ → ℕ → ℕ → List Item → Type 0
AreTokensIn text from to [] = from ≤ to
AreTokensIn text from to (x ∷ xs) =
    (from ≤ x.start) × (x.start ≤ x.«end») × IsCharBoundary text x.start × IsCharBoundary text x.«end» × StandsAfterBackslash text from x
    × AreTokensIn text x.«end» to xs

-- The innermost open node is a paragraph, or another block with text. It contains a chain of such tokens from its start
-- to an offset, after the marker of its task list item if it has one. `before` is the tree as the block was opened
-- (CommonMark 4.8, GFM 5.3).
pub record HoldsChain (text : List ℕ) (f : Forest Item) (block : TreeIndex) (to : ℕ) : Type 0 where
  pub before : Forest Item
  pub node : Item
  pub marker : Option Item
  pub from : ℕ
  pub chain : List Item
  pub opened : IsJustPushed before block
  pub begun : item_at before block ≡ Some node
  pub innermost : slice_get f.spine 0 ≡ Some block
  pub there : item_at f block ≡ Some node
  pub has_text : is_text_block node.body ≡ true
  pub starts : IsCharBoundary text node.start
  pub stands : MarkerBetween text from node.start marker
  pub tokens : AreTokensIn text node.start to chain
  pub tree_is : f ≡ chained before (marker_items marker ++ chain)

-- A line of a chain was read: the chain is in the tree, also if the break at the end of the line is appended
-- (CommonMark 6.7, 6.8).
pub record ContinuesChain (text : List ℕ) (f : Forest Item) (block : TreeIndex) (answer : ℕ × Option Item) : Type 0 where
  pub chain : HoldsChain text f block answer.0
  pub broken : IfSome answer.1 (λ x. is_break x.body ≡ true → HoldsChain text (appended f x) block answer.0)

-- the innermost open node is a table (GFM 4.10)
abbrev pub IsTableOpen : Forest Item → Type 0
IsTableOpen f = (index : AlignmentIndex) × (top_body f ≡ Some (Table index))

-- An open paragraph contains the chain of a text's lines, after the marker of its task list item if it has one. The
-- tree is in order up to the text (CommonMark 4.8, GFM 5.3).
pub record HoldsText (d : Document) (f : Forest Item) (block : TreeIndex) (l : TextLines) : Type 0 where
  pub before : Forest Item
  pub start : ℕ
  pub marker : Option Item
  pub from : ℕ
  pub opened : IsJustPushed before block
  pub paragraph : item_at before block ≡ Some (begun_item start Paragraph)
  pub boundary : IsCharBoundary d.text start
  pub stands : MarkerBetween d.text from start marker
  pub lines : AreTextLines d (path_of d.options before) (spot start no_braces) [] (lines_from d.text (line_end_at d.text start)) l
  pub tree_is : f ≡ chained before (marker_items marker ++ l.chain)
  pub ordered : IsOrderedTo d.text (with_child before marker) start

-- The innermost block becomes a heading if a setext heading underline begins at an offset; otherwise nothing changes.
-- Reading continues at the end of the underline's line, which is a character boundary if the offset is one. No node is
-- added. If the block contains tokens, a tree in order stays in order; if these are a chain, a block can still be
-- added (CommonMark 4.3, and this project).
pub record MakesHeading (old new : FirstPass) (ix : ℕ) (block : TreeIndex) (broken : Bool) (next : Option ℕ) : Type 0 where
  pub kept : KeepsNames old new
  pub state : state_of new ≡ with_tree (state_of old) (tree_of new)
  pub value : next ≡ option_map (λ underline. ix + underline.0) (setext_underline (drop ix (source_text old)))
  pub heading : MatchOption (setext_underline (drop ix (source_text old))) (tree_of new ≡ tree_of old)
      (λ underline. BecomesHeading (document (source_text old) (source_options old) (names_of (allocs_of new))) underline.1 broken block (tree_of old)
      (tree_of new))
  pub line_end : IfSome next (λ n. n ≡ line_end_at (source_text old) ix)
  pub boundary : IsCharBoundary (source_text old) ix → IfSome next (λ n. IsCharBoundary (source_text old) n)
  pub node_bound : length (tree_of new).nodes ≤ length (tree_of old).nodes
  pub order : (at : ℕ) → HoldsTokens (source_text old) (tree_of old) block → IsOrderedTo (source_text old) (tree_of old) at
      → IsOrderedTo (source_text old) (tree_of new) at
  pub may_add : (at to : ℕ) → HoldsChain (source_text old) (tree_of old) block to → MayAddAt (source_text old) (state_of old) at
      → MayAddAt (source_text old) (state_of new) at
