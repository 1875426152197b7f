use Rattle.std.proofs.Common.{not, sym, ap, ◌∙◌, arith}
use Rattle.first_pass_lists.proofs.BlankLemmas.{kept_none, kept_closed, kept_item, kept_definition, kept_other, top_is}
use Rattle.first_pass_lists.proofs.state.PassState.is_unchanged_by_blank_line.Goals as goal

pub returns-then-is_none : goal.returns-then-is_none
returns-then-is_none c h = kept_none c.args.self.now (c.is_none.ensures ∙ ap not c.if-is_none.true) c.if-not-self.false

pub returns-in_default : goal.returns-in_default
returns-in_default c h = kept_closed c.args.self.now (sym c.peek_up.ensures ∙ c.in_default.is) c.if-not-self.false

pub returns-in-ListItem : goal.returns-in-ListItem
returns-in-ListItem c h = grind (arith, kept_item, top_is)

pub returns-in-DefinitionListDefinition : goal.returns-in-DefinitionListDefinition
returns-in-DefinitionListDefinition c h = grind (arith, kept_definition, top_is)

pub returns-in_default-body : goal.returns-in_default-body
returns-in_default-body c h =
    kept_other c.args.self.now c.index.result.now.body
    (top_is c.args.self.now.tree c.in-Some.ix c.index.result.now (sym c.peek_up.ensures ∙ c.in-Some.is) c.index.ensures)
    c.in_default-body.not-ListItem c.in_default-body.not-DefinitionListDefinition c.if-not-self.false
