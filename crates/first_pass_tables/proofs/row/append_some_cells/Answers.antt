use Rattle.std.proofs.Common.{◌≤◌, ◌<◌, ◌+◌, rules, length, refl, ◌∙◌, arith}
use Rattle.first_pass_grammar.proofs.Common.{spot, document}
use Rattle.first_pass_names.specs.TableEntries.{names_of}
use Rattle.first_pass_tables.specs.Reading.{AreAppended}
use Rattle.first_pass_names.proofs.NameLemmas.{extends_texts, texts_none, texts_both}
use Rattle.first_pass_tables.proofs.RowCells.{none_read, place_found, cell_read, all_read}
use Rattle.first_pass_tables.proofs.row.append_some_cells.Goals as goal

pub cells-init : goal.cells-init
cells-init c = record {
  read = none_read c.requires.within;
  node_bound = omega arith;
  grown = texts_none (names_of c.args.allocs.now);
  entries = refl;
}

pub returns-in-Some-clause-cells : goal.returns-in-Some-clause-cells
returns-in-Some-clause-cells c =
    let place = c.cell_at-start.ensures in
    record {
      node_bound = c.cells.invariant.node_bound;
      all = λ ended. all_read (place_found c.cell_at-start.result c.as_bytes-bytes.ensures.value place.begins place.content place.eol)
          c.in-Some.eol c.cells.invariant.read c.in-Some.is;
      first = λ ended. cc;
    }

-- one more cell is appended, and ends further on
one_read : (c : goal.In_ok-at)
    → AreAppended (document c.args.source.now.text.now c.args.source.now.options (names_of c.append_table_cell.new.allocs))
    (spot c.args.wanted.start c.args.braces.now) c.args.tree.now c.append_table_cell.new.tree (spot c.in_ok-at.at c.append_table_cell.new.braces)
    (c.cells.count + 1) × (c.cells.at < c.in_ok-at.at)
one_read c =
    let place = c.cell_at-start.ensures in
    cell_read (place_found c.cell_at-start.result c.as_bytes-bytes.ensures.value place.begins place.content place.eol)
    (record { before = names_of c.cells.allocs; grown = c.in_ok-at.ensures.more.names; far = c.cells.invariant.read }) c.in_default.is
    c.in_ok-at.ensures.cell

pub cells-smaller : goal.cells-smaller
cells-smaller c =
    let read = one_read c in
    let within : c.in_ok-at.at ≤ length c.args.source.now.text.now = read.0.within in
    let later : c.cells.at < c.in_ok-at.at = read.1 in
    omega arith

pub cells-preserved : goal.cells-preserved
cells-preserved c = record {
  read = (one_read c).0;
  node_bound = omega arith;
  grown = texts_both _ _ _ c.in_ok-at.ensures.texts c.cells.invariant.grown;
  entries = c.in_ok-at.ensures.more.entries ∙ c.cells.invariant.entries;
}

pub returns-in-Some-clause-more : goal.returns-in-Some-clause-more
returns-in-Some-clause-more c = search (rules, extends_texts)

pub returns-then-count-wanted-clause-more : goal.returns-then-count-wanted-clause-more
returns-then-count-wanted-clause-more c = grind (arith, extends_texts)
