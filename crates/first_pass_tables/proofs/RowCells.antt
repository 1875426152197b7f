-- The cells of a row, read one after the other.
use Rattle.std.proofs.Common.{◌≡◌, ℕ, ◌+◌, ◌≤◌, ◌<◌, false, List, [], ◌∷◌, ◌++◌, length, drop, Option, Some, None, is_some, refl, sym, ap, subst, ◌∙◌, arith}
use Rattle.std.proofs.Common.{append_assoc, append-nil, length-append}
use Rattle.first_pass_grammar.proofs.Common.{none-some, Item, Forest, at_depth, added, begins, eol_len, at_line_end, Spot, spot, IsCell, cell_ends, Names}
use Rattle.first_pass_grammar.proofs.Common.{Extends, Document, document, cell_content, cell_start, cell_text, cell_block, AreCells, side_by_side}
use Rattle.first_pass_tree.proofs.Callers.{more-added}
use Rattle.first_pass_grammar.proofs.Names.MoreNames.{extends_none, extends_both}
use Rattle.first_pass_grammar.proofs.Order.RowEnds.{begun_there, cell_takes_a_byte}
use Rattle.first_pass_grammar.proofs.Order.TableEnds.{cells_end, text_within}
use Rattle.first_pass_grammar.proofs.Names.TextsMore.{cell_later}
use Rattle.first_pass_tables.specs.declared.cells.CellStart.{CellStart}
use Rattle.first_pass_tables.specs.Appends.{AddsCell}
use Rattle.first_pass_tables.specs.Reading.{GoOn, AreAppended, AreAllAppended}

-- the items of blocks and of more blocks
pub side_more : (blocks more : List (List (ℕ × Item))) → side_by_side (blocks ++ more) ≡ side_by_side blocks ++ side_by_side more
side_more [] more = refl
side_more (block ∷ blocks) more =
    ap (λ (items : List (ℕ × Item)). block ++ items) (side_more blocks more) ∙ sym (append_assoc block (side_by_side blocks) (side_by_side more))

-- The next cell of a row, searched for from an offset on, as the scanner finds it.
pub record CellPlace (text : List ℕ) (at : ℕ) : Type 0 where
  pub found : CellStart
  pub cell_is : found.at ≡ cell_start text at
  pub text_is : found.content ≡ cell_text text at
  pub eol_is : found.eol ≡ eol_len (drop found.content text)

-- a cell that was found is at this place
abbrev pub place_found : {text bytes : List ℕ} {at : ℕ} (found : CellStart) → bytes ≡ text → found.at ≡ cell_start bytes at
    → found.content ≡ cell_text bytes at → found.eol ≡ eol_len (drop found.content bytes) → CellPlace text at
place_found {text} {bytes} {at} found same begins content ends = record {
  found = found;
  cell_is = begins ∙ ap (λ (bs : List ℕ). cell_start bs at) same;
  text_is = content ∙ ap (λ (bs : List ℕ). cell_text bs at) same;
  eol_is = ends ∙ ap (λ (bs : List ℕ). eol_len (drop found.content bs)) same;
}

-- no cell is read yet
pub none_read : {d : Document} {start : Spot} {f : Forest Item} → start.at ≤ length d.text → AreAppended d start f f start 0
none_read {f = f} within =
    record {
      cells = [];
      count_is = refl;
      go_on = λ later e more to h. h;
      nodes = sym (append-nil f.nodes);
      spine = refl;
      none = λ h. refl;
      later = omega arith;
      within = within;
    }

-- The cells of a row before a place are appended, with names that were extended since then.
pub record AppendedBefore (d : Document) (start : Spot) (old tree : Forest Item) (at : Spot) (count : ℕ) : Type 0 where
  pub before : Names
  pub grown : Extends d.names before
  pub far : AreAppended (document d.text d.options before) start old tree at count

-- the cells extended by one that is not at the end of the line
one_more : (d : Document) (before : Names) (start at stop : Spot) (cells : List (List (ℕ × Item))) (tokens : List Item) → Extends d.names before
    → GoOn (document d.text d.options before) start cells at
    → at_line_end (drop (cell_text d.text at.at) d.text) ≡ false → IsCell d.names.texts (begun_there d at) tokens stop.at stop.braces
    → GoOn d start (cells ++ cell_block (cell_start d.text at.at) stop.at tokens ∷ []) stop
unfolding AreCells
one_more d before start at stop cells tokens grown go_on on is later e more to h =
    let cell = cell_block (cell_start d.text at.at) stop.at tokens in
    let still = cell_later later d.names (begun_there d at) tokens stop.at e is in
    subst (λ (all : List (List (ℕ × Item))). AreCells (document d.text d.options later) start all to) (sym (append_assoc cells (cell ∷ []) more))
    (go_on later (extends_both later d.names before e grown) (cell ∷ more) to (on, tokens, stop, still, refl, h))

-- one more cell is appended, and ends further on
pub cell_read : {d : Document} {start at stop : Spot} {count : ℕ} {old tree new : Forest Item} (p : CellPlace d.text at.at)
    → AppendedBefore d start old tree at count → p.found.eol ≡ None → AddsCell d p.found.at (spot p.found.content at.braces) tree new stop
    → AreAppended d start old new stop (count + 1) × (at.at < stop.at)
cell_read {d} {start} {at} {stop} {count} {old} {tree} {new} p b none adds =
    let far = b.far in
    let is : IsCell d.names.texts (begun_there d at) adds.tokens stop.at stop.braces =
    subst (λ (k : ℕ). IsCell d.names.texts (cell_content d (spot k at.braces)) adds.tokens stop.at stop.braces) p.text_is adds.cell in
    let here : eol_len (drop (cell_text d.text at.at) d.text) ≡ None = ap (λ (k : ℕ). eol_len (drop k d.text)) (sym p.text_is) ∙ sym p.eol_is ∙ none in
    let on : at_line_end (drop (cell_text d.text at.at) d.text) ≡ false = ap (λ (n : Option ℕ). is_some n) here in
    let block = cell_block (cell_start d.text at.at) stop.at adds.tokens in
    let tree_is : new ≡ added tree block = adds.tree_is ∙ ap (λ (k : ℕ). added tree (cell_block k stop.at adds.tokens)) p.cell_is in
    let count_is = far.count_is in
    let later = far.later in
    let further : at.at < stop.at = cell_takes_a_byte d at adds.tokens stop.at far.within on is in (
      record {
        cells = far.cells ++ block ∷ [];
        count_is = omega (arith, length-append far.cells (block ∷ []));
        go_on = one_more d b.before start at stop far.cells adds.tokens b.grown far.go_on on is;
        nodes = more-added old tree new (side_by_side far.cells) block far.nodes far.spine tree_is
            ∙ ap (λ (items : List (ℕ × Item)). old.nodes ++ at_depth (length old.spine + 1) items)
            (ap (λ (items : List (ℕ × Item)). side_by_side far.cells ++ items) (sym (append-nil block)) ∙ sym (side_more far.cells (block ∷ [])));
        spine = ap (λ (f : Forest Item). f.spine) adds.tree_is ∙ far.spine;
        none = λ h. absurd (none-some _ (sym h ∙ ap (λ (f : Forest Item). f.current) adds.tree_is));
        later = omega arith;
        within = (cell_ends (text_within d.text at.at far.within).1 is).within;
      },
      further,
    )

-- all cells are appended
pub all_read : {d : Document} {start at : Spot} {count : ℕ} {old tree : Forest Item} (p : CellPlace d.text at.at) (n : ℕ)
    → AreAppended d start old tree at count → p.found.eol ≡ Some n → AreAllAppended d start old tree (spot (p.found.content + n) at.braces) count
unfolding AreCells
all_read {d} {start} {at} {count} {old} {tree} p n far some =
    let to : Spot = spot (p.found.content + n) at.braces in
    let here : eol_len (drop (cell_text d.text at.at) d.text) ≡ Some n = ap (λ (k : ℕ). eol_len (drop k d.text)) (sym p.text_is) ∙ sym p.eol_is ∙ some in
    let over : AreCells d at [] to = (n, here, ap (λ (k : ℕ). spot (k + n) at.braces) p.text_is) in
    let later = far.later in
    let ends = cells_end d at [] to far.within over in
    record {
      cells = far.cells;
      count_is = far.count_is;
      are_cells = subst (λ (all : List (List (ℕ × Item))). AreCells d start all to) (append-nil far.cells)
          (far.go_on d.names (extends_none d.names) [] to over);
      nodes = far.nodes;
      spine = far.spine;
      later = omega (arith, ends.0);
      within = ends.1;
    }
