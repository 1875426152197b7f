use Rattle.std.proofs.Common.{drop, refl, sym, ◌∙◌}
use Rattle.first_pass_grammar.proofs.Common.{left_bracket, begins, in_table}
use Rattle.first_pass_links.proofs.Parts.{of_text}
use Rattle.first_pass_open.specs.Path.{context_of}
use Rattle.first_pass_definitions.proofs.Targets.{no_bracket}
use Rattle.first_pass_definitions.proofs.reference.parse_refdef_total.Goals as goal

pub returns-then-not-begins-clause-value : goal.returns-then-not-begins-clause-value
returns-then-not-begins-clause-value c =
    let h = sym (of_text (begins left_bracket) _ c.begins.ensures.value c.rest_of.ensures.value c.as_bytes.ensures.value) ∙ c.if-not-begins.true in
    rw (no_bracket (in_table c.args.tree.now.nodes c.args.tree.now.spine) (context_of c.args.source.now.options c.args.tree.now)
    (drop c.args.start c.args.source.now.text.now) h) refl
