-- Each index in the items of a leaf block names an entry: for a table alignments, for a heading attributes, and for a
-- token or a code block a text.
use Rattle.std.proofs.Common.{◌≡◌, ℕ, ◌||◌, Bool, true, List, Option, IfSome, arith}
use Rattle.first_pass_grammar.proofs.Common.{false≢true, slice_get_within, Item, ItemBody, TableHead, TableRow, TableCell, block_of, Place, leaf_block}
use Rattle.first_pass_grammar.proofs.Common.{is_row, is_cell, Kind, Document, Names, AreNamed, index_of, Line, OpensLeaf, OpensAs, Taken, IsText}
use Rattle.std.proofs.lemmas.Option.{IfSome_then}
use Rattle.first_pass_grammar.specs.declared.kind.Container.{Container}
use Rattle.first_pass_grammar.proofs.Each.EachBlock.{HoldsOfBlocks, HoldsOfLeaves, table_nodes, text_holds, leaf_holds}
use Rattle.first_pass_grammar.proofs.Each.EachCell.{nodes_named, block_nodes}
use Rattle.first_pass_grammar.proofs.Names.NoIndex.{HasNoIndex}
use Rattle.first_pass_grammar.proofs.Names.NamedItems.{HasEntry, free_entry}
pub use Rattle.first_pass_grammar.proofs.Names.NamedItems.{given_entry}
use Rattle.first_pass_grammar.proofs.Sequences.PlacesKept.{Anywhere, anywhere_kept, each_anywhere}

cells_entered : (names : Names) (body : ItemBody) → (is_row body || is_cell body) ≡ true → HasEntry names body
cells_entered names TableHead h = tt
cells_entered names TableRow h = tt
cells_entered names TableCell h = tt
cells_entered names _ h = absurd (false≢true h)

blocks_named : (d : Document) → HoldsOfBlocks d (HasEntry d.names) (AreNamed d.names)
unfolding AreNamed
blocks_named d = record {
  later = λ body is entry. entry;
  block = λ x kids first entry h. nodes_named d.names (block_of x kids) (block_nodes (HasEntry d.names) x kids entry h);
  none = tt;
}

leaves_named : (d : Document) → HoldsOfLeaves d Anywhere (HasEntry d.names) (AreNamed d.names)
leaves_named d = record {
  blocks = blocks_named d;
  kept = anywhere_kept;
  table = λ path p alignments lines t i headed h.
      let kids = table_nodes d (HasEntry d.names) (AreNamed d.names) (blocks_named d) (cells_entered d.names) path p alignments lines t h in
      grind (arith, slice_get_within, nodes_named);
}

pub text_named : (d : Document) (path : List Container) (p : Place) (marker : Option Item) (lines : List Place) (t : Taken) → IfSome marker HasNoIndex
    → IsText d path p marker lines t → AreNamed d.names t.items
text_named d path p marker lines t free is =
    text_holds d Anywhere (HasEntry d.names) (AreNamed d.names) (leaves_named d) path p marker lines t tt
    (IfSome_then marker free (λ x none. free_entry d.names (index_of x.body) none)) is

pub opens_named : (d : Document) (path : List Container) (p : Place) (lines : List Place) (kind : Kind) (items : List (ℕ × Item)) (gap : Bool)
    (left : List Place) → OpensAs d path p lines kind (OpensLeaf (leaf_block kind p items gap) Line left) → AreNamed d.names items
opens_named d path p lines kind items gap left opens =
    leaf_holds d Anywhere (HasEntry d.names) (AreNamed d.names) (leaves_named d) path p lines kind (OpensLeaf (leaf_block kind p items gap) Line left) tt
    (each_anywhere lines) opens
