use Rattle.std.proofs.Common.{Some, sym, ap, ◌∙◌}
use Rattle.first_pass_grammar.proofs.Common.{DefinitionList, with_body_at, body_of}
use Rattle.first_pass_items.specs.declared.item.ItemBody.TheVariants.{List as ListBody}
use Rattle.first_pass_lists.specs.Closing.{loosened_by}
use Rattle.first_pass_lists.proofs.list.loosen.Goals as goal

pub returns-in-List : goal.returns-in-List
returns-in-List c =
    let f = c.args.tree.now in
    let ix = c.args.ix in
    c.set_body.ensures ∙ ap (λ n. with_body_at f ix (ListBody (record { 0 = n }) c.in-List.byte c.in-List.number)) (c.empty.ensures tt)
    ∙ sym (ap (loosened_by f ix) (body_of f ix c.index.result.now c.index.ensures ∙ ap (λ b. Some b) c.in-List.is))

pub returns-in-DefinitionList : goal.returns-in-DefinitionList
returns-in-DefinitionList c =
    let f = c.args.tree.now in
    let ix = c.args.ix in
    c.set_body-in-DefinitionList.ensures ∙ ap (λ n. with_body_at f ix (DefinitionList (record { 0 = n }))) (c.empty-in-DefinitionList.ensures tt)
    ∙ sym (ap (loosened_by f ix) (body_of f ix c.index.result.now c.index.ensures ∙ ap (λ b. Some b) c.in-DefinitionList.is))
