-- The cells of a row, and the row itself, are in order between the start and the end of the row.
use Rattle.std.proofs.Common.{◌≡◌, inl, ℕ, zero, suc, ◌+◌, ◌-◌, ◌*◌, ◌<◌, ◌≤◌, ◌==◌, Bool, true, false, List, [], ◌∷◌, ◌++◌, length, take, drop, replicate}
use Rattle.std.proofs.Common.{slice_index, None, IsUtf8, IsCharBoundary, refl, sym, ap, subst, ◌∙◌, arith, eqb-true, append-nil}
use Rattle.first_pass_grammar.proofs.Common.{IsCharBoundary-after_ascii, pipe, Item, ItemBody, TableCell, at_depth, block_of}
use Rattle.first_pass_grammar.proofs.Common.{at_line_end, line_place, line_is_place, MathBraces, Spot, IsCell, leaves, cell_ends, order_from}
use Rattle.first_pass_grammar.proofs.Common.{cell_end_place, counted_nodes, Document, Ranged, extent_of, extents, Siblings, Empty, laid, IsBetween, Elsewhere}
use Rattle.first_pass_grammar.proofs.Common.{below, Fits, cell_start, cell_text, cell_block, AreCells, inserted, side_by_side, row_block, Within, FitsBetween}
use Rattle.first_pass_lines.proofs.PlaceFacts.{white_boundary}
use Rattle.first_pass_tokens.proofs.BytesLemmas.{few_in_cell}
use Rattle.first_pass_tokens.proofs.OrderLemmas.{cell_in_order}
use Rattle.first_pass_grammar.specs.Order.{Node}
use Rattle.first_pass_grammar.proofs.Order.Orders.{between-any, block_fits, beside, extents-append, extents-at_depth, laid-beside, laid-at_depth, fits-order}
use Rattle.first_pass_grammar.proofs.Order.Orders.{fits-later, fits-any, fits-beside, length-block}
use Rattle.first_pass_grammar.proofs.Count.CountedNodes.{own_at_most, own_join, own_at_depth, AreCellsAt, own_inserted}
use Rattle.first_pass_grammar.proofs.Order.RowEnds.{row_ends_its_line, begun_there, cell_takes_a_byte, pipe_inside}
use Rattle.first_pass_grammar.proofs.Order.TableEnds.{cells_end, text_within}
use Rattle.first_pass_open.proofs.PlaceLemmas.{place_end, line_start_end}
use Rattle.first_pass_tables.proofs.RowCells.{side_more}

-- Blocks side by side lie in order between two offsets, in no list item. At most `most` of their nodes count (this
-- project).
pub record FewBetween (text : List ℕ) (from to most : ℕ) (items : List (ℕ × Item)) : Type 0 where
  pub row : Siblings
  pub laid_is : extents items ≡ laid 0 row
  pub fits : Fits text Elsewhere from to row
  pub node_bound : counted_nodes items ≤ most

-- no nodes
pub few-none : {text : List ℕ} {from to : ℕ} (most : ℕ) → from ≤ to → FewBetween text from to most []
unfolding laid Fits
few-none most h = (let none = own_at_most None [] in record { row = Empty; laid_is = refl; fits = h; node_bound = omega arith })

-- the first offset is not after the second
pub few-order : {text : List ℕ} {from to most : ℕ} {items : List (ℕ × Item)} → FewBetween text from to most items → from ≤ to
few-order {text} {from} {to} f = fits-order text Elsewhere from to f.row f.fits

-- nodes after others
pub few-join : {text : List ℕ} {from mid to few more most : ℕ} {xs ys : List (ℕ × Item)} → FewBetween text from mid few xs → FewBetween text mid to more ys
    → few + more ≤ most → FewBetween text from to most (xs ++ ys)
few-join {text} {from} {mid} {to} {xs = xs} {ys = ys} f g bound =
    let own = own_join None xs ys in
    let first = f.node_bound in
    let others = g.node_bound in
    record {
      row = beside f.row g.row;
      laid_is = extents-append xs ys ∙ ap (λ (z : List (ℕ × Ranged)). z ++ extents ys) f.laid_is
          ∙ ap (λ (z : List (ℕ × Ranged)). laid 0 f.row ++ z) g.laid_is ∙ sym (laid-beside 0 f.row g.row);
      fits = fits-beside text Elsewhere from mid to f.row g.row f.fits g.fits;
      node_bound = omega arith;
    }

-- nodes in more room
pub few-wider : {text : List ℕ} {low from to high most : ℕ} {items : List (ℕ × Item)} → FewBetween text from to most items → low ≤ from → to ≤ high
    → FewBetween text low high most items
unfolding Fits
few-wider {text} {low} {from} {to} {high} f before after = record {
  row = f.row;
  laid_is = f.laid_is;
  fits = fits-beside text Elsewhere low from high Empty f.row before (fits-later text Elsewhere from to high f.row after f.fits);
  node_bound = f.node_bound;
}

-- an item with nodes below it, which counts at most once
pub few-block : {text : List ℕ} {from to most : ℕ} {kids : List (ℕ × Item)} (x : Item) → IsBetween text from to (extent_of x)
    → FewBetween text x.start x.«end» most kids → FewBetween text from to (suc most) (block_of x kids)
unfolding laid Fits
few-block {text} {from} {kids = kids} x between f =
    let first = own_join None ((0, x) ∷ []) (at_depth 1 kids) in
    let one = own_at_most None ((0, x) ∷ []) in
    let same = own_at_depth None 1 kids in
    let below_it = f.node_bound in
    record {
      row = Node (extent_of x) f.row Empty;
      laid_is = ap (λ (ns : List (ℕ × Ranged)). (0, extent_of x) ∷ ns)
          (extents-at_depth 1 kids ∙ ap (λ (z : List (ℕ × Ranged)). at_depth 1 z) f.laid_is ∙ laid-at_depth 1 0 f.row ∙ sym (append-nil (laid 1 f.row)));
      fits = inl (between, fits-any text (below Elsewhere from (extent_of x)) x.start x.«end» f.row f.fits, between.before);
      node_bound = omega arith;
    }

-- Such blocks fit anywhere after an offset if at most four of their nodes count for each byte.
pub few-fits : {text : List ℕ} {low from to most : ℕ} {items : List (ℕ × Item)} (w : Within) → FewBetween text from to most items → low ≤ from
    → (low < to → most ≤ 4 * (to - low)) → FitsBetween text w low to items
few-fits {text} {low} {to = to} {items = items} w f before bound =
    let wide : FewBetween text low to _ items = few-wider f before (omega arith) in
    between-any text w low to items (wide.row, wide.laid_is, wide.fits, λ room. (let most = bound room in let few = f.node_bound in omega arith))

-- A cell begins at a character boundary, and so does its content.
pub start_boundary : (text : List ℕ) (at : ℕ) (t : Bool) → (slice_index text at == pipe) ≡ t → IsUtf8 text → IsCharBoundary text at
    → IsCharBoundary text (cell_start text at)
start_boundary text at true here utf8 boundary =
    let byte : slice_index text at ≡ pipe = eqb-true (slice_index text at) pipe here in
    rw here (IsCharBoundary-after_ascii text at utf8 (pipe_inside text at here) (omega arith))
start_boundary text at false here utf8 boundary = rw here boundary

start_after : (text : List ℕ) (at : ℕ) (t : Bool) → (slice_index text at == pipe) ≡ t → at ≤ cell_start text at
start_after text at t here = grind arith

-- A cell, from the offset at which the search for it begins, lies between that and its end, and has at most two nodes
-- for each byte there.
record OneCell (d : Document) (at stop : ℕ) (cell : List (ℕ × Item)) : Type 0 where
  later : at < stop
  ends : IsCharBoundary d.text stop
  few : FewBetween d.text at stop (2 * (stop - at)) cell

one_cell : {after : MathBraces} (d : Document) (p : Spot) (tokens : List Item) (stop : ℕ) → IsUtf8 d.text → IsCharBoundary d.text p.at
    → at_line_end (drop (cell_text d.text p.at) d.text) ≡ false → IsCell d.names.texts (begun_there d p) tokens stop after
    → OneCell d p.at stop (cell_block (cell_start d.text p.at) stop tokens)
one_cell d p tokens stop utf8 boundary on cell =
    let at : ℕ = p.at in
    let text = text_within d.text at boundary.0 in
    let starts = start_boundary d.text at (slice_index d.text at == pipe) refl utf8 boundary in
    let begins = white_boundary d.text (cell_start d.text at) utf8 starts in
    let following = start_after d.text at (slice_index d.text at == pipe) refl in
    let from : cell_text d.text at ≤ stop = (cell_ends text.1 cell).from in
    let ends = cell_end_place text.1 cell in
    let later = cell_takes_a_byte d p tokens stop boundary.0 on cell in
    let order = order_from d.text (cell_start d.text at) (cell_text d.text at) stop tokens (cell_in_order utf8 begins text.1 cell) (omega arith) in
    let x : Item = record { start = cell_start d.text at; «end» = stop; body = TableCell } in
    let size = length-block x tokens in
    let own = own_at_most None (block_of x (leaves tokens)) in
    let some = few_in_cell cell in
    let block = block_fits d.text Elsewhere at stop x tokens
    (record { following = following; order = omega arith; before = omega arith; starts = starts; ends = ends }) order (λ room. omega arith) in
    record { later = later; ends = ends; few = record { row = block.0; laid_is = block.1; fits = block.2; node_bound = omega arith } }

-- The cells of a row in the table, up to a number, are in order between the start and the end of the row, with at most
-- two nodes for each byte there.
kept_cells : (d : Document) (columns : ℕ) (p : Spot) (cells : List (List (ℕ × Item))) (to : Spot) → IsUtf8 d.text → IsCharBoundary d.text p.at
    → AreCells d p cells to → FewBetween d.text p.at to.at (2 * (to.at - p.at)) (side_by_side (take columns cells))
unfolding AreCells
kept_cells d zero p cells to utf8 boundary are = few-none _ (cells_end d p cells to boundary.0 are).0
kept_cells d (suc columns) p [] to utf8 boundary are = few-none _ (cells_end d p [] to boundary.0 are).0
kept_cells d (suc columns) p (cell ∷ cells) to utf8 boundary (on, tokens, next, is, same, more) =
    let one = one_cell d p tokens next.at utf8 boundary on is in
    let later = one.later in
    let following = (cells_end d next cells to one.ends.0 more).0 in
    subst (λ (c : List (ℕ × Item)). FewBetween d.text p.at to.at (2 * (to.at - p.at)) (c ++ side_by_side (take columns cells))) (sym same)
    (few-join one.few (kept_cells d columns next cells to utf8 one.ends more) (omega arith))

-- a row that has a cell has a byte
pub some_cells : (d : Document) (p : Spot) (cells : List (List (ℕ × Item))) (to : Spot) → IsUtf8 d.text → IsCharBoundary d.text p.at
    → AreCells d p cells to → 0 < length cells → p.at < to.at
unfolding AreCells
some_cells d p [] to utf8 boundary are some = absurd (omega arith)
some_cells d p (cell ∷ cells) to utf8 boundary (on, tokens, next, is, same, more) some =
    let one = one_cell d p tokens next.at utf8 boundary on is in
    let later = one.later in
    omega (arith, (cells_end d next cells to one.ends.0 more).0)

-- A row ends at a character boundary.
pub row_boundary : (d : Document) (p : Spot) (cells : List (List (ℕ × Item))) (to : Spot) → IsUtf8 d.text → IsCharBoundary d.text p.at
    → AreCells d p cells to → IsCharBoundary d.text to.at
row_boundary d p cells to utf8 boundary are =
    subst (IsCharBoundary d.text) (line_start_end d.text p.at ∙ sym (row_ends_its_line d p cells to boundary.0 are))
    (place_end d.text (line_place p.at (drop p.at d.text)) utf8 (line_is_place d.text p.at boundary))

-- the empty cells at a row's end
empty_few : (text : List ℕ) (at n : ℕ) → IsCharBoundary text at → FewBetween text at at n (side_by_side (replicate n (cell_block at at [])))
empty_few text at zero boundary = few-none 0 (omega arith)
empty_few text at (suc n) boundary =
    let between : IsBetween text at at (extent_of (record { start = at; «end» = at; body = TableCell })) =
    record { following = omega arith; order = omega arith; before = omega arith; starts = boundary; ends = boundary } in
    few-join (few-block (record { start = at; «end» = at; body = TableCell }) between (few-none 0 (omega arith))) (empty_few text at n boundary)
    (omega arith)

empty_at : (at n : ℕ) → AreCellsAt at (side_by_side (replicate n (cell_block at at [])))
unfolding AreCellsAt
empty_at at zero = tt
empty_at at (suc n) = (refl, refl, empty_at at n)

-- A row is in order between its start and its end. It has at most two counted nodes, and two for each byte.
pub row_fits : (d : Document) (body : ItemBody) (columns : ℕ) (p : Spot) (cells : List (List (ℕ × Item))) (to : Spot) → IsUtf8 d.text
    → IsCharBoundary d.text p.at → AreCells d p cells to
    → FewBetween d.text p.at to.at (suc (suc (2 * (to.at - p.at)))) (row_block body columns p.at cells to.at)
row_fits d body columns p cells to utf8 boundary are =
    let kept = kept_cells d columns p cells to utf8 boundary are in
    let ends = row_boundary d p cells to utf8 boundary are in
    let missing : List (List (ℕ × Item)) = replicate (inserted columns cells) (cell_block to.at to.at []) in
    let empty = empty_few d.text to.at (inserted columns cells) ends in
    let last : FewBetween d.text to.at to.at 1 (side_by_side missing) = record {
      row = empty.row;
      laid_is = empty.laid_is;
      fits = empty.fits;
      node_bound = own_inserted None to.at (side_by_side missing) (empty_at to.at (inserted columns cells));
    } in
    few-block (record { start = p.at; «end» = to.at; body = body })
    (record { following = omega arith; order = few-order kept; before = omega arith; starts = boundary; ends = ends })
    (subst (FewBetween d.text p.at to.at (suc (2 * (to.at - p.at)))) (sym (side_more (take columns cells) missing))
    (few-join kept last (omega arith)))
