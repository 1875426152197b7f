use Rattle.std.proofs.Common.{length, ap, ◌∙◌}
use Rattle.first_pass_c.specs.Parsed.{form_of}
use Rattle.first_pass_c.proofs.Counts.{counted, tree_counted}
use Rattle.first_pass_c.proofs.reading.Parsed.counts.Goals as goal

pub returns : goal.returns
returns c =
    let parsed = c.args.self.now in
    counted (form_of parsed) _ _ _ _ _ (tree_counted parsed _ c.nodes.ensures)
    (c.len.ensures ∙ parsed.side.attributes.ok.0 ∙ ap length c.requires.attributes)
    (c.len-2.ensures ∙ parsed.side.definitions.ok.0 ∙ ap length c.requires.definitions) c.requires.links
    (c.len-3.ensures ∙ parsed.side.names.ok.0 ∙ ap length c.requires.names_are)
