use Rattle.std.proofs.lemmas.Result.{IfOk-weaker}
use Rattle.first_pass_program.proofs.Apps.{adds_command}
use Rattle.first_pass_program.proofs.words.command.command.Goals as goal

pub returns : goal.returns
returns c =
    let first = adds_command _ _ _ _ _ c.whole.ensures c.in_ok-blocks.ensures c.in_ok-subcommand.ensures in
    let second = adds_command _ _ _ _ _ first (c.in_ok-with_json.ensures _ c.named.ensures) c.in_ok-subcommand-2.ensures in
    let third = adds_command _ _ _ _ _ second (c.in_ok-with_json-2.ensures _ c.named-2.ensures) c.in_ok-subcommand-3.ensures in
    let fourth = adds_command _ _ _ _ _ third c.in_ok-tree.ensures c.in_ok-subcommand-4.ensures in
    let fifth = adds_command _ _ _ _ _ fourth (c.in_ok-with_json-3.ensures _ c.named-3.ensures) c.in_ok-subcommand-5.ensures in
    let sixth = adds_command _ _ _ _ _ fifth c.in_ok-view.ensures c.in_ok-subcommand-6.ensures in
    IfOk-weaker c.subcommand-7.result _ _ (λ r adds. (adds_command _ r _ _ _ sixth c.in_ok-bench.ensures adds).same) c.subcommand-7.ensures
