use Rattle.std.proofs.Common.{refl, sym, subst, ◌∙◌, arith, IsCharBoundary}
use Rattle.first_pass_grammar.proofs.Common.{all_taken}
use Rattle.first_pass_containers.proofs.Common.{all_keep, read_to}
use Rattle.first_pass_containers.proofs.footnote_place.footnote_mark.Goals as goal

pub offset-requires : goal.offset-requires
offset-requires c =
    let p = c.args.place.now in
    let i = all_keep c.args.source.now.text.now p.line p.rest c.requires.utf8 c.requires.place in
    let e = read_to all_taken _ p _ c.scan_indentation.new.line_start refl c.scan_indentation.ensures.rest (c.next.view_is ∙ c.copy-next.ensures) in
    let short = c.recall_length.ensures in
    omega (arith, i.within, e)

pub returns-clause-boundary : goal.returns-clause-boundary
returns-clause-boundary c =
    let p = c.args.place.now in
    let text = c.args.source.now.text.now in
    let i = all_keep text p.line p.rest c.requires.utf8 c.requires.place in
    let e = read_to all_taken _ p _ _ c.offset.ensures c.scan_indentation.ensures.rest (c.next.view_is ∙ c.copy-next.ensures) in
    subst (IsCharBoundary text) (sym e) i.boundary
