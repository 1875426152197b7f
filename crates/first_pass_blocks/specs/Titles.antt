-- A paragraph, heading or table; right after a definition, a paragraph may be the next title of the definition list
-- (only private functions cite this).
use Rattle.std.specs.Prelude.{◌≡◌, ◌⊎◌, ℕ, ◌≤◌, true, false, None}
use Rattle.first_pass_items.specs.declared.item.Item.{Item}
use Rattle.first_pass_tree.specs.Forest.{Forest, IsForest}
use Rattle.first_pass_grammar.specs.Leaves.{document}
use Rattle.first_pass_names.specs.TableEntries.{names_of, NamesMore}
use Rattle.first_pass_lists.specs.Closing.{with_tree, is_after_definition, list_finished}
use Rattle.first_pass_open.specs.Between.{AddsBetween}
use Rattle.first_pass_blocks.specs.declared.state.BlockPass.{BlockPass}
use Rattle.first_pass_containers.specs.TextsAdded.{AddsText}
use Rattle.first_pass_containers.specs.Titles.{current_end, title_read}
use Rattle.first_pass_blocks.specs.Views.{allocs_of, state_of, source_of, source_options, source_text, tree_of}

-- A pass read the paragraph, heading or table whose text begins at an offset right after a definition. The remaining
-- lines begin at another offset (this project).
pub record ReadsTitle (old new : BlockPass) (start next : ℕ) : Type 0 where
  pub read : Forest Item
  pub forest : IsForest read
  pub source : source_of new ≡ source_of old
  pub more : NamesMore (allocs_of old) (allocs_of new)
  pub text : AddsText (document (source_text old) (source_options old) (names_of (allocs_of new))) start None (tree_of old) read next
  pub fits : (from : ℕ) → from ≤ start → AddsBetween (source_text old) from next (tree_of old) read
  pub state_is : state_of new ≡ title_read (current_end (tree_of old)) (with_tree (state_of old) read)

-- A pass read the paragraph, heading or table whose text begins at an offset, not right after a definition. A list that
-- was innermost ends at that offset. The remaining lines begin at another offset (CommonMark 4.3, 4.8, GFM 4.10).
pub record ReadsNewText (old new : BlockPass) (start next : ℕ) : Type 0 where
  pub after : is_after_definition (tree_of old) ≡ false
  pub source : source_of new ≡ source_of old
  pub more : NamesMore (allocs_of old) (allocs_of new)
  pub text : AddsText (document (source_text old) (source_options old) (names_of (allocs_of new))) start None (list_finished start (state_of old)).tree
      (tree_of new) next
  pub fits : (from : ℕ) → from ≤ start → AddsBetween (source_text old) from next (list_finished start (state_of old)).tree (tree_of new)
  pub state_is : state_of new ≡ with_tree (list_finished start (state_of old)) (tree_of new)

-- A pass read the paragraph, heading or table whose text begins at an offset. Right after a definition, a paragraph may
-- be the next title of the definition list, and a heading or a table ends that list. Elsewhere a list that was innermost
-- ends at the offset. The remaining lines begin at another offset (CommonMark 4.3, 4.8, GFM 4.10, and this project).
abbrev pub ReadsTextOrTitle : BlockPass → BlockPass → ℕ → ℕ → Type 0
ReadsTextOrTitle old new start next =
    ((is_after_definition (tree_of old) ≡ true) × ReadsTitle old new start next) ⊎ ReadsNewText old new start next
