use Rattle.std.proofs.Common.{length, sym, ap, subst, ◌∙◌}
use Rattle.first_pass_grammar.proofs.Common.{document}
use Rattle.first_pass_names.specs.TableEntries.{names_of, tables_of}
use Rattle.first_pass_outline.specs.Outline.{outline_of}
use Rattle.first_pass_outline.specs.TextOutline.{LieBetween}
use Rattle.first_pass_outline.proofs.OrderedEntries.{derived_between}
use Rattle.first_pass_outline.proofs.outline.outline_text.Goals as goal

pub returns-clause-only : goal.returns-clause-only
returns-clause-only c n forest t derives = c.in_ok-entries.ensures ∙ ap outline_of (sym (c.in_ok-tree.ensures.only.nodes_are n forest t derives))

pub returns-clause-order : goal.returns-clause-order
returns-clause-order c =
    let text = c.args.text.now in
    let allocs = c.in_ok-tree.allocs in
    subst (LieBetween text 0 (length text)) (sym c.in_ok-entries.ensures)
    (derived_between (document text c.args.options (names_of allocs)) c.in_ok-tree.tree.nodes (tables_of allocs) c.in_ok-tree.ensures.derived
    c.in_ok-tree.ensures.order)
