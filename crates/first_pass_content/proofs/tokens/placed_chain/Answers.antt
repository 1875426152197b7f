use Rattle.std.proofs.Common.{◌≡◌, ℕ, List, [], ◌∷◌, ◌++◌, length, IfOk, rules, ap, refl, subst, ◌∙◌}
use Rattle.first_pass_content.specs.Building.{built}
use Rattle.first_pass_content.specs.Content.{ContentByte, content}
use Rattle.first_pass_content.specs.Tokens.{placed_tokens}
use Rattle.first_pass_content.proofs.ContentSteps.{both_added, goes_on, is_whole, placed_on, placed_whole}
use Rattle.first_pass_content.proofs.tokens.placed_chain.Goals as goal

pub loop-node-init : goal.loop-node-init
loop-node-init c =
    let text = c.args.text.now in
    let none = c.begin_content-builder.ensures.value text in
    let empty : c.new-placed.result.items ≡ [] = search rules in
    record {
      built_is = c.begin_content-builder.ensures.sound text;
      content_is = ap (λ l. l ++ content text c.args.tokens.now) none;
      placed_is = ap (λ l. l ++ placed_tokens text (length (built text c.begin_content-builder.result)) c.args.tokens.now) empty
          ∙ ap (λ l. placed_tokens text (length l) c.args.tokens.now) none;
    }

pub loop-node-preserved : goal.loop-node-preserved
loop-node-preserved c =
    let text = c.args.text.now in
    let there = c.in-Some.ensures.cases.0 in
    let old : List ContentByte = built text c.loop-node.builder in
    let own : List ContentByte = built text c.add_own.new.self in
    let new : List ContentByte = built text c.add_gap.new.self in
    let node = c.in-Some.node.now in
    let others = c.in-Some.following.now in
    let own_is = c.in_ok-add_own.ensures.value in
    let new_is = c.in_ok-add_gap.ensures.value in
    let whole : c.len-whole.result ≡ length old = c.len-whole.ensures text c.loop-node.invariant.built_is in
    let past : c.len.result ≡ length own = c.len.ensures text c.in_ok-add_own.ensures.sound in
    record {
      built_is = c.in_ok-add_gap.ensures.sound;
      content_is = goes_on text c.loop-node.rest.now old _ c.loop-node.invariant.content_is node others _ there
          (both_added text node.1 others old own new own_is new_is);
      placed_is = placed_on text c.loop-node.rest.now old c.loop-node.placed.items _ c.loop-node.invariant.placed_is node others own new _ there own_is new_is
          (c.in_ok-push.ensures.items ∙ ap (λ t. c.loop-node.placed.items ++ t ∷ []) (c.token_between.ensures ∙ (rw (whole, past) refl)));
    }

pub returns-clause-content : goal.returns-clause-content
returns-clause-content c =
    let text = c.args.text.now in
    let whole = is_whole text c.loop-node.rest.now (built text c.loop-node.builder) _ c.loop-node.invariant.content_is c.in_default.ensures.cases in
    c.in_ok-finish.ensures ∙ whole

pub returns-clause-tokens : goal.returns-clause-tokens
returns-clause-tokens c =
    placed_whole c.args.text.now c.loop-node.rest.now (built c.args.text.now c.loop-node.builder) c.loop-node.placed.items _ c.loop-node.invariant.placed_is
    c.in_default.ensures.cases
