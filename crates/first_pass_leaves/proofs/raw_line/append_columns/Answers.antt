use Rattle.std.proofs.Common.{◌∷◌, [], refl, ◌∙◌}
use Rattle.first_pass_grammar.proofs.Common.{Borrowed}
use Rattle.first_pass_leaves.proofs.Common.{names_of}
use Rattle.first_pass_names.proofs.NameLemmas.{extends_none, extends_named, text_last}
use Rattle.first_pass_leaves.proofs.RawLineLemmas.{spaces_taken, columns_item, some_columns}
use Rattle.first_pass_leaves.proofs.raw_line.append_columns.Goals as goal

pub returns-clause-items : goal.returns-clause-items
returns-clause-items c =
    let ix = c.in_ok-ix.ix in
    record {
      items = columns_item c.args.at ix ∷ [];
      tree_is = c.in_ok-append.ensures.ok;
      are = λ more h. some_columns more c.args.columns c.args.at ix c.if-columns-eq0.false (
        Borrowed c.range.result,
        text_last (names_of c.args.allocs.now) (names_of c.allocate_cow.new.self) more ix (Borrowed c.range.result) c.in_ok-ix.ensures.index
            c.in_ok-ix.ensures.names h,
        c.range.ensures.value ∙ spaces_taken c.args.columns c.requires,
      );
    }

pub returns-then-columns-eq0-clause-more : goal.returns-then-columns-eq0-clause-more
returns-then-columns-eq0-clause-more c = record { names = extends_none (names_of c.args.allocs.now); entries = refl }

pub returns-clause-more : goal.returns-clause-more
returns-clause-more c = record {
  names = extends_named (names_of c.args.allocs.now) (names_of c.allocate_cow.new.self) (Borrowed c.range.result) c.in_ok-ix.ensures.names;
  entries = c.in_ok-ix.ensures.entries;
}
