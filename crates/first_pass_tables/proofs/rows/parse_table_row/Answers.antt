use Rattle.std.proofs.Common.{sym, ◌∙◌, arith, refl}
use Rattle.first_pass_names.specs.TableEntries.{names_of}
use Rattle.first_pass_names.proofs.NameLemmas.{extends_none}
use Rattle.first_pass_open.specs.Path.{context_of}
use Rattle.first_pass_tables.proofs.RowPlaces.{begins_row}
use Rattle.first_pass_tables.proofs.rows.parse_table_row.Goals as goal

pub returns-clause-fits : goal.returns-clause-fits
returns-clause-fits c = λ from low.
    let place = begins_row c.args.source.now.text.now (context_of c.args.source.now.options c.args.tree.now) c.args.wanted.start c.in-Some.at
    c.scan_row_text.ensures.utf8 c.requires.boundary (sym c.scan_row_text.ensures.value ∙ c.in-Some.is) in
    let following = place.following in
    c.in_ok-row.ensures.fits (rw c.in-Some.is at c.scan_row_text.ensures.place) from (omega arith)

pub returns-in_default-clause-more : goal.returns-in_default-clause-more
returns-in_default-clause-more c = record { names = extends_none (names_of c.args.allocs.now); entries = refl }
