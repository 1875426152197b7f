use Rattle.std.proofs.Common.{ap, ◌∙◌, sym, List, [], ℕ, false, arith}
use Rattle.first_pass_grammar.proofs.Common.{Item, TableCell, added, block_of, add_text}
use Rattle.first_pass_names.specs.TableEntries.{names_of}
use Rattle.first_pass_tokens.proofs.ChainLemmas.{leaves_text}
use Rattle.first_pass_names.proofs.NameLemmas.{extends_texts, texts_none}
use Rattle.first_pass_tables.proofs.cells.append_table_cell.Goals as goal

pub returns-in-Some-clause-cell : goal.returns-in-Some-clause-cell
returns-in-Some-clause-cell c =
    let from = c.args.cell.now.content in
    let to = c.in-Some.plain.token_end in
    let item : Item = record { start = c.args.cell.now.at; «end» = c.in-Some.plain.«end»; body = TableCell } in
    record {
      tokens = add_text from to false [];
      cell = c.in-Some.ensures.cell (names_of c.args.allocs.now).texts c.args.braces.now;
      tree_is = c.in_ok-append_with_text.ensures.ok ∙ ap (λ (kids : List (ℕ × Item)). added c.args.tree.now (block_of item kids)) (sym (leaves_text from to));
    }

pub returns-in-Some-clause-texts : goal.returns-in-Some-clause-texts
returns-in-Some-clause-texts c = texts_none (names_of c.args.allocs.now)

pub returns-in-Some-clause-more : goal.returns-in-Some-clause-more
returns-in-Some-clause-more c = grind (arith, extends_texts, texts_none)
