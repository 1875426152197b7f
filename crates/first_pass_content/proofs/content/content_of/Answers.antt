use Rattle.std.proofs.Common.{◌≡◌, ◌++◌, IfOk, ap, subst}
use Rattle.first_pass_content.specs.Building.{built}
use Rattle.first_pass_content.specs.Content.{content}
use Rattle.first_pass_content.proofs.ContentSteps.{goes_on, is_whole}
use Rattle.first_pass_content.proofs.content.content_of.Goals as goal

pub loop-node-init : goal.loop-node-init
loop-node-init c =
    let text = c.args.text.now in
    (c.begin_content-builder.ensures.sound text, ap (λ l. l ++ content text c.args.tokens.now) (c.begin_content-builder.ensures.value text))

pub loop-node-preserved : goal.loop-node-preserved
loop-node-preserved c =
    let text = c.args.text.now in (
      c.in_ok-add_token.ensures.sound,
      goes_on text c.loop-node.rest.now (built text c.loop-node.builder) _ c.loop-node.invariant.1 c.in-Some.node.now c.in-Some.following.now _
          c.in-Some.ensures.cases.0 c.in_ok-add_token.ensures.value,
    )

pub returns : goal.returns
returns c =
    let text = c.args.text.now in
    let whole = is_whole text c.loop-node.rest.now (built text c.loop-node.builder) _ c.loop-node.invariant.1 c.in_default.ensures.cases in
    subst (λ l. IfOk c.finish.result (λ made. made ≡ l)) whole c.finish.ensures
