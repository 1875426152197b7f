-- The places at which a client calls the methods of a pass.
use Rattle.std.specs.Prelude.{ℕ, ◌≤◌, IsCharBoundary}
use Rattle.first_pass_tree.specs.declared.tree_index.TreeIndex.{TreeIndex}
use Rattle.first_pass_open.specs.OpenBlock.{IsJustPushed}
use Rattle.first_pass_tables.specs.Appends.{IsOpenNode}
use Rattle.first_pass_order.specs.Ordered.{IsReadFrom, IsReadTo}
use Rattle.first_pass.specs.declared.state.FirstPass.{FirstPass}
use Rattle.first_pass.specs.Adding.{MayAddAt}
use Rattle.first_pass.specs.Holds.{HoldsChain, IsTableOpen}
use Rattle.first_pass.specs.Views.{source_options, source_text, state_of, tree_of}

-- A place at a character boundary at which a block may be read, as `parse_block` reads one.
pub record MayRead (pass : FirstPass) (at : ℕ) : Type 0 where
  pub order : IsReadFrom (source_options pass) (source_text pass) (state_of pass) at
  pub boundary : IsCharBoundary (source_text pass) at

-- A place at a character boundary at which open nodes may be closed: the nodes are in order up to it or before it.
pub record MayClose (pass : FirstPass) (at : ℕ) : Type 0 where
  pub from : ℕ
  pub low : from ≤ at
  pub order : IsReadTo (source_text pass) (state_of pass) from
  pub boundary : IsCharBoundary (source_text pass) at

-- The same, and a block may be added there to the innermost open node, which is no list.
pub record MayAdd (pass : FirstPass) (at : ℕ) : Type 0 where
  pub from : ℕ
  pub low : from ≤ at
  pub order : MayAddAt (source_text pass) (state_of pass) from
  pub boundary : IsCharBoundary (source_text pass) at

-- A place in a block with text that is open and contains a chain up to there or up to an offset before it.
pub record InText (pass : FirstPass) (block : TreeIndex) (at : ℕ) : Type 0 where
  pub place : MayAdd pass at
  pub to : ℕ
  pub near : to ≤ at
  pub chain : HoldsChain (source_text pass) (tree_of pass) block to

-- A place in a table that is open, after its rows so far.
pub record InTable (pass : FirstPass) (at : ℕ) : Type 0 where
  pub place : MayAdd pass at
  pub table : IsTableOpen (tree_of pass)
  pub node : IsOpenNode (tree_of pass)

-- The same in a table that was just opened and has no row.
pub record InNewTable (pass : FirstPass) (at : ℕ) : Type 0 where
  pub inside : InTable pass at
  pub block : TreeIndex
  pub pushed : IsJustPushed (tree_of pass) block
