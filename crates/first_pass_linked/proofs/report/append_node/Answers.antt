use Rattle.std.proofs.Common.{sym, subst}
use Rattle.std.proofs.lemmas.Result.{on_ok_weaker}
use Rattle.first_pass_content.specs.Chains.{AreChains}
use Rattle.first_pass_linked.specs.LinkLines.{source_of}
use Rattle.first_pass_linked.proofs.BlockLines.{adds_same, chains_from}
use Rattle.first_pass_linked.proofs.report.append_node.Goals as goal

pub append_block-requires-clause-chains : goal.append_block-requires-clause-chains
append_block-requires-clause-chains g c =
    subst (AreChains c.args.source.now.text.now) (sym c.nodes_from.ensures)
    (chains_from c.args.source.now.text.now c.args.index c.args.nodes.now c.requires.chains)

pub returns : goal.returns
returns g c = on_ok_weaker c.append_block.result (adds_same (source_of (g.F.LineForm.forms c.args.form.now) c.args.source.now) _ _ _ _ c.nodes_from.ensures) c.append_block.ensures
