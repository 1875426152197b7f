-- Each block of a derived tree has whole tables, or no part of a table.
use Rattle.std.proofs.Common.{◌≡◌, ℕ, ◌≤◌, List, ◌∷◌, ◌++◌, length, Option, Some, IfSome, refl, ap, []}
use Rattle.first_pass_grammar.proofs.Common.{or_left, or_right, Alignment, Item, block_of, Place, Skeleton, Kind, Document, around, Names, Continues, Opening}
use Rattle.first_pass_grammar.proofs.Common.{OpensAs, Level, Remaining, IsSequence, headed_table, inserted, Taken, most_inserted, IsTable, IsText, Mark}
use Rattle.first_pass_grammar.proofs.Common.{marks, table_marks, AreFull, AreWholeTables, ShowsNothing}
use Rattle.first_pass_grammar.specs.declared.kind.Container.{Container}
use Rattle.first_pass_grammar.proofs.Each.EachBlock.{is_first, is_later, HoldsOfBlocks, HoldsOfLeaves, text_holds, leaf_holds, openings}
use Rattle.first_pass_grammar.proofs.Each.EachCell.{block_nodes}
use Rattle.first_pass_grammar.proofs.Each.EachOpening.{LeafHolds, HoldsOfEachLeaf, AnyHead, HoldsFrom, HoldsOfLeft, each_opened}
use Rattle.first_pass_grammar.proofs.Sequences.PlacesKept.{IsAt, AreAt, at_kept}
use Rattle.first_pass_grammar.proofs.WholeTables.TableMarks.{none_shown, table_shows, body_shows}

-- nodes that are no part of a table
pub whole_none : (names : Names) (nodes : List (ℕ × Item)) → marks names nodes ≡ [] → AreWholeTables names nodes
unfolding AreWholeTables table_marks AreFull
whole_none names nodes h = ([], h, tt)

-- In each table the header row needs no more inserted cells than allowed.
abbrev pub HeadsAreFull : Document → Type 0
HeadsAreFull d =
    (path : List Container) (p : Place) (alignments : List Alignment) (lines : List Place) (t : Taken) → IsAt d.text p
    → headed_table (around d path) p.rest.left ≡ Some alignments → (h : IsTable d path p alignments lines t)
    → inserted (length alignments) h.cells ≤ most_inserted

-- blocks continue at a place of the text; the marker there, if there is one, is no part of a table
abbrev pub PlainFrom : List ℕ → Continues → Type 0
PlainFrom text from = HoldsFrom (IsAt text) ShowsNothing from

abbrev pub ShownBy : Option Item → Type 0
ShownBy marker = IfSome marker (λ x. ShowsNothing x.body)

module _ (d : Document) (full : HeadsAreFull d) where
  blocks_whole : HoldsOfBlocks d ShowsNothing (AreWholeTables d.names)
  unfolding marks
  blocks_whole = record {
    later = λ body is entry. body_shows body (or_right (is_first body) (is_later body) is);
    block = λ x kids first entry h.
        let own = body_shows x.body (or_left (is_first x.body) (is_later x.body) first) in
        whole_none d.names (block_of x kids) (none_shown d.names (block_of x kids) (block_nodes ShowsNothing x kids own h));
    none = whole_none d.names [] refl;
  }

  leaves_whole : HoldsOfLeaves d (IsAt d.text) ShowsNothing (AreWholeTables d.names)
  leaves_whole = record {
    blocks = blocks_whole;
    kept = at_kept d.text;
    table = λ path p alignments lines t i e h. table_shows d path p alignments lines t h (full path p alignments lines t i e h);
  }

  pub text_whole : (path : List Container) (p : Place) (marker : Option Item) (lines : List Place) (t : Taken) → IsAt d.text p → ShownBy marker
      → IsText d path p marker lines t → AreWholeTables d.names t.items
  text_whole = text_holds d (IsAt d.text) ShowsNothing (AreWholeTables d.names) leaves_whole

  pub opens_as : (path : List Container) (p : Place) (lines : List Place) (kind : Kind) (o : Opening) → IsAt d.text p → AreAt d.text lines
      → OpensAs d path p lines kind o → LeafHolds (AreWholeTables d.names) o
  opens_as = leaf_holds d (IsAt d.text) ShowsNothing (AreWholeTables d.names) leaves_whole

  -- each block of a sequence has whole tables, or no part of a table
  pub sequence_whole : (s : Skeleton) (l : Level) (from : Continues) (lines : List Place) (left : Remaining) → PlainFrom d.text from → AreAt d.text lines
      → IsSequence d s l from lines left → HoldsOfEachLeaf (AreWholeTables d.names) s × HoldsOfLeft (IsAt d.text) ShowsNothing left
  unfolding marks
  sequence_whole s l from lines left plain h sequence =
      let mark = λ (marker : Item) (shows : ShowsNothing marker.body).
      whole_none d.names ((0, marker) ∷ []) (ap (λ (z : List Mark). z ++ []) (shows d.names 0 marker.start marker.«end»)) in
      let begun = openings d (IsAt d.text) ShowsNothing (AreWholeTables d.names) leaves_whole ShowsNothing (λ checked names depth start end. refl)
      (λ body shows. shows) mark in
      let all = each_opened d (IsAt d.text) ShowsNothing (AreWholeTables d.names) AnyHead begun s l from lines left plain h sequence in
      (all.0, all.2)
