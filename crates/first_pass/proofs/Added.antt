-- A leaf block that is added to a pass, and what stays the same.
use Rattle.std.proofs.Common.{◌≡◌, ℕ, ◌≤◌, Bool, List, length, None, IsCharBoundary, ap}
use Rattle.first_pass_grammar.proofs.Common.{Item, added, AreEachNode, AreNamed, ShowsNothing}
use Rattle.first_pass.proofs.Common.{FirstPass, AddsLeafBlock, AddsLineBlock, KeepsNames, braces_of, source_of}
use Rattle.first_pass_blocks.proofs.Common.{names_of, NamesMore, line_end_at, AddsBetween, state_with, PassState, block_added, block_ordered}
use Rattle.first_pass.specs.Views.{allocs_of, state_of, source_text, tree_of}
use Rattle.first_pass.proofs.Adding.{may_add_added}
use Rattle.first_pass.proofs.TablesWhole.{silent_whole}

-- These items were added, which are no part of a table. Otherwise only the tables of entries, the mark of an empty item, and the mark of a counting
-- blank line before may have changed.
module _ {old new : FirstPass} {blank : Bool} (items : List (ℕ × Item))
    (same : (source_of new ≡ source_of old) × (braces_of new ≡ braces_of old) × (state_of new ≡ state_with (tree_of new) None blank))
    (more : NamesMore (allocs_of old) (allocs_of new)) (tree_is : tree_of new ≡ added (tree_of old) items)
    (own : AreNamed (names_of (allocs_of new)) items) (shows : AreEachNode ShowsNothing items) where
  pub adds_kept : KeepsNames old new
  adds_kept = record {
    entries = record {
      source = same.0;
      more = more;
      named = block_added (names_of (allocs_of new)) (names_of (allocs_of old)) (tree_of old) (tree_of new) items more.names tree_is own;
    };
    braces = same.1;
  }

  pub adds_leaf : {start next : ℕ}
      → ((from : ℕ) → from ≤ start → IsCharBoundary (source_text old) start → AddsBetween (source_text old) from next (tree_of old) (tree_of new))
      → next ≤ length (source_text old) → AddsLeafBlock old new start next blank
  adds_leaf {start = start} {next = next} fits within = record {
    kept = adds_kept;
    whole = silent_whole (names_of (allocs_of new)) (names_of (allocs_of old)) (tree_of old) (tree_of new) items more.names tree_is shows;
    state = same.2;
    fits = fits;
    order = λ at low begins o.
        block_ordered (source_text old) (state_of old) (state_of new) at start next o low (λ from before. fits from before begins) within
        (ap (λ (r : PassState). r.begin_list_item) same.2);
    may_add = λ at low begins h.
        may_add_added (source_text old) (state_of old) (state_of new) at next items tree_is h
        (block_ordered (source_text old) (state_of old) (state_of new) at start next h.read.0 low (λ from before. fits from before begins) within
        (ap (λ (r : PassState). r.begin_list_item) same.2));
  }

  pub adds_lines : {start next : ℕ} → ((from : ℕ) → from ≤ start → AddsBetween (source_text old) from next (tree_of old) (tree_of new))
      → (line_end_at (source_text old) start ≤ next) × IsCharBoundary (source_text old) next → AddsLineBlock old new start next blank
  adds_lines fits ends = record {
    leaf = adds_leaf (λ from low begins. fits from low) ends.1.0;
    later = ends.0;
    boundary = ends.1;
  }
