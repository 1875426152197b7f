use Rattle.std.proofs.Common.{refl, subst, sym, ◌∙◌, arith}
use Rattle.first_pass_grammar.proofs.Common.{Forest, Item}
use Rattle.first_pass_names.specs.TableEntries.{names_of}
use Rattle.first_pass_names.proofs.NameLemmas.{extends_both, texts_both}
use Rattle.first_pass_tables.proofs.RowDrops.{HaveSame, dropped, still_open_node, none_more, has_more, first_kept, ended_within}
use Rattle.first_pass_tables.proofs.row.append_cells.Goals as goal
use Rattle.first_pass_tables.proofs.row.append_cells.Goals.{then-excess-gt0, else-excess-gt0}

pub drop_beyond-requires : goal.drop_beyond-requires
drop_beyond-requires c =
    let short = c.recall_length.ensures in
    let some = c.if-excess-gt0.true in
    let far = c.in_ok-kept.ensures.cells.first c.if-kept.false in
    let all = ended_within c.in_ok-excess.ensures.cells (omega arith) in
    (dropped _ c.cur-last.ensures c.recall_forest.ensures (still_open_node c.requires.fresh.1 far.0) (has_more all (omega arith))).0

pub returns-clause-cells : goal.returns-clause-cells
returns-clause-cells c =
    let tree : Forest Item = c.append_some_cells.new.tree in
    let short = c.recall_length.ensures in
    let far = c.in_ok-kept.ensures.cells.first c.if-kept.false in
    let all = ended_within c.in_ok-excess.ensures.cells (omega arith) in
    let same : HaveSame c.if-excess-gt0.tree tree =
    elim c.if-excess-gt0.branch [
      | then-excess-gt0 w ↦
          let some = w.if-excess-gt0.true in
          let node = still_open_node c.requires.fresh.1 far.0 in
          let back = dropped _ c.cur-last.ensures c.recall_forest.ensures node (has_more all (omega arith)) in
          subst (λ (f : Forest Item). HaveSame f tree) (sym (w.tree-is ∙ w.drop_beyond.ensures ∙ back.1)) (refl, refl)
      | else-excess-gt0 w ↦
          let none = w.if-excess-gt0.false in
          subst (λ (f : Forest Item). HaveSame f tree) (sym w.tree-is) (none_more all (omega arith))
    ] in
    first_kept all (record { before = names_of c.append_some_cells.new.allocs; grown = c.in_ok-excess.ensures.more.names; far = far.0 }) far.1 same

pub returns-clause-more : goal.returns-clause-more
returns-clause-more c =
    let dropped = c.in_ok-excess.ensures.more in
    let kept = c.in_ok-kept.ensures.more in
    record { names = extends_both _ _ _ dropped.names kept.names; entries = dropped.entries ∙ kept.entries }

pub returns-clause-texts : goal.returns-clause-texts
returns-clause-texts c = texts_both _ _ _ c.in_ok-excess.ensures.texts c.in_ok-kept.ensures.texts
