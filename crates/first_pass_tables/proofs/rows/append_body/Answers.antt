use Rattle.std.proofs.Common.{◌<◌, ◌≤◌, length, refl, ◌∙◌, arith}
use Rattle.first_pass_grammar.proofs.Common.{document}
use Rattle.first_pass_names.specs.TableEntries.{names_of}
use Rattle.first_pass_open.proofs.PathLemmas.{open_are_in}
use Rattle.first_pass_tables.specs.Appends.{open_table}
use Rattle.first_pass_tables.proofs.BodySoFar.{BodySoFar}
use Rattle.first_pass_names.proofs.NameLemmas.{extends_texts, texts_none, texts_both}
use Rattle.first_pass_tables.proofs.BodyLemmas.{body_none, body_more, body_over}
use Rattle.first_pass_tables.proofs.rows.append_body.Goals as goal

pub rows-init : goal.rows-init
rows-init c = record { read = body_none c.requires.some c.requires.boundary; grown = texts_none (names_of c.args.allocs.now); entries = refl }

-- one more row is read, and ends further on
one_read : (c : goal.In-Some)
    → BodySoFar (document c.args.source.now.text.now c.args.source.now.options (names_of c.parse_table_row.new.allocs)) c.args.wanted.most c.args.wanted.start
    (open_table c.args.tree.now c.args.table.now.missing_empty_cells c.args.table.now.braces)
    (open_table c.parse_table_row.new.tree c.parse_table_row.new.table.missing_empty_cells c.parse_table_row.new.table.braces) c.in-Some.next
    × (c.rows.ix < c.in-Some.next)
one_read c =
    body_more _ c.in_ok-next.ensures.utf8 (open_are_in c.args.tree.now.nodes c.args.tree.now.spine c.recall_forest.ensures.opened)
    c.in_ok-next.ensures.more.names c.rows.invariant.read c.in-Some.next c.in-Some.field-0-1 (rw c.in-Some.is at c.in_ok-next.ensures.row)

pub rows-smaller : goal.rows-smaller
rows-smaller c =
    let read = one_read c in
    let within : c.in-Some.next ≤ length c.args.source.now.text.now = read.0.boundary.0 in
    let later : c.rows.ix < c.in-Some.next = read.1 in
    omega arith

pub rows-preserved : goal.rows-preserved
rows-preserved c = record {
  read = (one_read c).0;
  grown = texts_both _ _ _ c.in_ok-next.ensures.texts c.rows.invariant.grown;
  entries = c.in_ok-next.ensures.more.entries ∙ c.rows.invariant.entries;
}

pub returns-in-None-clause-body : goal.returns-in-None-clause-body
returns-in-None-clause-body c =
    body_over _ c.in_ok-next.ensures.utf8 (open_are_in c.args.tree.now.nodes c.args.tree.now.spine c.recall_forest.ensures.opened)
    c.in_ok-next.ensures.more.names c.rows.invariant.read
    (open_table c.parse_table_row.new.tree c.parse_table_row.new.table.missing_empty_cells c.parse_table_row.new.table.braces)
    (rw c.in-None.is at c.in_ok-next.ensures.row)

pub returns-in-None-clause-texts : goal.returns-in-None-clause-texts
returns-in-None-clause-texts c = texts_both _ _ _ c.in_ok-next.ensures.texts c.rows.invariant.grown

pub returns-in-None-clause-more : goal.returns-in-None-clause-more
returns-in-None-clause-more c = record {
  names = extends_texts _ _ (returns-in-None-clause-texts c);
  entries = c.in_ok-next.ensures.more.entries ∙ c.rows.invariant.entries;
}
