use Rattle.std.proofs.Common.{sym, ◌∙◌}
use Rattle.std.proofs.lemmas.Result.{on_ok_weaker}
use Rattle.first_pass_content.specs.Content.{content}
use Rattle.first_pass_inline.proofs.Blocks.{chain_is}
use Rattle.first_pass_linked.specs.LinkLines.{links_of, source_of}
use Rattle.first_pass_linked.proofs.BlockLines.{chain_ready, marks_ready, none_added, same_added, with_chain, without_chain}
use Rattle.first_pass_linked.proofs.report.append_block.Goals as goal

pub returns-in_default : goal.returns-in_default
returns-in_default g c = none_added (source_of (g.F.LineForm.forms c.args.form.now) c.args.source.now) c.args.nodes.now _ c.in_default.ensures.cases

pub returns-then-not-has_chain : goal.returns-then-not-has_chain
returns-then-not-has_chain g c =
    without_chain (source_of (g.F.LineForm.forms c.args.form.now) c.args.source.now) c.in-Some.node.now c.in-Some.following.now c.args.nodes.now c.in-Some.ensures.cases.0 _ _
    (sym c.has_chain.ensures ∙ c.if-not-has_chain.true) c.in_ok-append_note.ensures

pub inline_marks-requires : goal.inline_marks-requires
inline_marks-requires g c =
    chain_ready c.args.source.now.text.now c.in-Some.node.now c.in-Some.following.now c.args.nodes.now c.tokens_below-tokens.result.now
    c.in-Some.ensures.cases.0 (sym c.has_chain.ensures ∙ c.if-not-has_chain.false) c.requires.chains c.tokens_below-tokens.ensures

pub append_marks-requires : goal.append_marks-requires
append_marks-requires g c =
    marks_ready c.args.source.now.text.now c.tokens_below-tokens.result.now c.args.source.now.labels.now _ _ _ c.requires.utf8
    (chain_ready c.args.source.now.text.now c.in-Some.node.now c.in-Some.following.now c.args.nodes.now c.tokens_below-tokens.result.now
    c.in-Some.ensures.cases.0 (sym c.has_chain.ensures ∙ c.if-not-has_chain.false) c.requires.chains c.tokens_below-tokens.ensures)
    c.in_ok-content.ensures.content c.as_slice.ensures.value c.in_ok-content.ensures.marks

pub returns : goal.returns
returns g c =
    let tokens = c.tokens_below-tokens.result.now in
    let text = c.args.source.now.text.now in
    on_ok_weaker c.append_marks.result
    (λ e. with_chain (source_of (g.F.LineForm.forms c.args.form.now) c.args.source.now) c.in-Some.node.now c.in-Some.following.now c.args.nodes.now c.in-Some.ensures.cases.0 tokens _ _ _ _
    (c.tokens_below-tokens.ensures ∙ sym (chain_is c.in-Some.node.now c.in-Some.following.now (sym c.has_chain.ensures ∙ c.if-not-has_chain.false)))
    c.in_ok-content.ensures.marks c.in_ok-append_note.ensures
    (same_added _ _ _ _ (content text tokens) _ (links_of c.args.source.now.labels.now) _ _ e c.in_ok-content.ensures.content c.requires.links
    c.as_slice.ensures.value))
    c.append_marks.ensures
