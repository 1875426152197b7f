-- A leaf block that is added at a place (only private functions cite this).
use Rattle.std.specs.Prelude.{◌≡◌, ℕ, ◌≤◌, false, None, IsUtf8, IsCharBoundary}
use Rattle.first_pass_lines.specs.Places.{Place, offset, line_end, IsPlaceOf}
use Rattle.first_pass_grammar.specs.Kinds.{Kind}
use Rattle.first_pass_grammar.specs.Leaves.{document}
use Rattle.first_pass_open.specs.Between.{AddsBetween}
use Rattle.first_pass_kinds.specs.BlockStart.{IsFoundAt}
use Rattle.first_pass_kinds.specs.declared.kinds.BlockStart.TheVariants.{Marked}
use Rattle.first_pass_kinds.specs.declared.kinds.MarkedLeaf.{MarkedLeaf}
use Rattle.first_pass_names.specs.TableEntries.{names_of, NamesMore}
use Rattle.first_pass_blocks.specs.declared.state.BlockPass.{BlockPass}
use Rattle.first_pass_blocks.specs.Views.{allocs_of, front_of, state_of, source_of, source_options, source_text, tree_of}
use Rattle.first_pass_order.specs.LeafBlocks.{AddsKind}

-- A pass added a leaf block. It reads the same text, earlier names are kept, neither a table entry nor the front of the
-- next line changed, and no item is still empty. The nodes of the block lie between any offset up to the place and the
-- offset at which reading continues. That offset is a character boundary after the line of the place (CommonMark 4).
pub record AddsLeaf (old new : BlockPass) (p : Place) (kind : Kind) (next : ℕ) : Type 0 where
  pub source : source_of new ≡ source_of old
  pub front : front_of new ≡ front_of old
  pub more : NamesMore (allocs_of old) (allocs_of new)
  pub begin_list_item : (state_of new).begin_list_item ≡ None
  pub block : AddsKind (document (source_text old) (source_options old) (names_of (allocs_of new))) p kind (state_of new).blank (tree_of old)
      (tree_of new) next
  pub later : line_end p ≤ next
  pub boundary : IsCharBoundary (source_text old) next
  pub fits : (from : ℕ) → from ≤ offset p → AddsBetween (source_text old) from next (tree_of old) (tree_of new)

-- A leaf block that is recognised by its mark was found at a place, after these columns, at this offset. No
-- counting blank line is pending and no item is still empty, as before any new block (CommonMark 4, and this project).
pub record IsFoundIn (pass : BlockPass) (p : Place) (leaf : MarkedLeaf) (columns at : ℕ) : Type 0 where
  pub utf8 : IsUtf8 (source_text pass)
  pub place : IsPlaceOf (source_text pass) p
  pub found : IsFoundAt (source_options pass) p (Marked leaf) columns at
  pub not_blank : (state_of pass).blank ≡ false
  pub no_empty : (state_of pass).begin_list_item ≡ None
